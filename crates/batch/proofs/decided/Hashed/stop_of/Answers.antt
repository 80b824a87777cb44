-- `batch::decided::Hashed::stop_of` meets its contract. The loop's invariant: the probe goes on after so many steps.
-- Assumes nothing.
use Prim.Native.Nat.{ℕ, ◌+◌, ◌%◌}
use mathlib.Core.Path.{◌≡◌, ◌∙◌, sym, subst}
use native.Mathlib.Nat.{mod-lt}
use native.Mathlib.Omega.{arith}
use lib.ListN.{get_or}
use Rattle.probing.proofs.Report.{OnWay, starts, runs_out}
use Rattle.batch.specs.Batch.{record_key}
use Rattle.batch.specs.Index.{index_buckets, record_table}
use Rattle.batch.proofs.Indexing.{probe_on, probe_ends, probe_unbroken}
use Rattle.batch.proofs.decided.Hashed.stop_of.Goals as goal

pub loop-step-init : goal.loop-step-init
unfolding record_table
loop-step-init c =
    let a = c.args in
    let b = a.self.now.batch in
    let t = record_table b.layout b.bytes.now a.index.now in
    let key = record_key b.layout b.bytes.now a.i in
    let home : t.hash key % index_buckets ≡ (get_or a.self.now.hashes.now a.i 0 % index_buckets + 0) % index_buckets =
    omega (arith, a.self.now.noted.each a.i c.requires.i_bound) in
    (index_buckets, subst (λ (h : ℕ). OnWay t key h 0 index_buckets) home (starts t key))

pub returns-then-stops_at : goal.returns-then-stops_at
returns-then-stops_at c =
    let a = c.args in
    let b = a.self.now.batch in
    sym
    (probe_ends b.layout b.bytes.now a.self.now.noted.fits a.index.now a.i c.requires.i_bound c.requires.indexed (mod-lt _ (omega arith)) (omega arith) c.loop-step.invariant.1
    (sym c.stops_at.ensures ∙ c.if-stops_at.true))

pub loop-step-preserved : goal.loop-step-preserved
loop-step-preserved c =
    let a = c.args in
    let b = a.self.now.batch in
    let l = c.loop-step in
    let way = probe_on b.layout b.bytes.now a.self.now.noted.fits a.index.now a.i c.requires.i_bound c.requires.indexed (mod-lt _ (omega arith)) (omega arith) l.invariant.1
    (sym c.stops_at.ensures ∙ c.if-stops_at.false) in
    let home = get_or a.self.now.hashes.now a.i 0 % index_buckets in
    let on : ((home + l.step) % index_buckets + 1) % index_buckets ≡ (home + (l.step + 1)) % index_buckets = omega arith in
    (_, rw on at way)

pub returns : goal.returns
unfolding record_table
returns c =
    let a = c.args in
    let b = a.self.now.batch in
    absurd
    (probe_unbroken b.layout b.bytes.now a.self.now.noted.fits a.index.now a.i c.requires.i_bound c.requires.indexed
    (runs_out (record_table b.layout b.bytes.now a.index.now) (record_key b.layout b.bytes.now a.i) c.loop-step.invariant.1 (omega arith)))
