-- `batch::decided::Hashed::enter` meets its contract: the bucket where the probe stops is EMPTY just where the record decides.
-- Assumes nothing.
use Prim.Native.Nat.{ℕ, ◌+◌, ◌-◌, ◌<◌}
use mathlib.Core.Path.{◌≡◌, ap, ◌∙◌, sym, subst}
use native.Mathlib.Omega.{arith}
use lib.ListN.{get_or, set}
use Rattle.probing.specs.Report.{report}
use Rattle.batch.specs.Batch.{record_count, record_key}
use Rattle.batch.specs.Index.{index_buckets, record_table, Indexed}
use Rattle.batch.proofs.Indexing.{at_below, vacant_decides, taken_decides, index_stays, index_grows}
use Rattle.batch.proofs.decided.Hashed.enter.Goals as goal
use Rattle.batch.proofs.decided.Hashed.enter.Goals.{Start}

-- the bucket where the probe stops
abbrev at : Start → ℕ
at c =
    let a = c.args in
    let b = a.self.now.batch in
    (report (record_table b.layout b.bytes.now a.index.now) (record_key b.layout b.bytes.now a.i)).bucket

below : (c : Start) (r : ℕ) → r ≡ at c → r < index_buckets
below c r e =
    let a = c.args in
    let b = a.self.now.batch in
    rw e (at_below b.layout b.bytes.now a.self.now.noted.fits a.index.now a.i c.requires.i_bound c.requires.indexed)

pub offset_bounds-index-b : goal.offset_bounds-index-b
offset_bounds-index-b c = omega (arith, below (goal.at.offset_bounds-index-b c).Start c.stop_of-b.result c.stop_of-b.ensures)

pub bounds-index-b : goal.bounds-index-b
bounds-index-b c =
    omega (arith, below (goal.at.bounds-index-b c).Start c.stop_of-b.result c.stop_of-b.ensures, c.requires.indexed.entries.size)

pub returns-then-index-b-ne0 : goal.returns-then-index-b-ne0
returns-then-index-b-ne0 c =
    let a = c.args in
    let b = a.self.now.batch in
    let few = a.self.now.noted.fits in
    let e = c.stop_of-b.ensures in
    let not_first = taken_decides b.layout b.bytes.now few a.index.now a.i c.requires.i_bound c.requires.indexed (λ z. c.if-index-b-ne0.true (ap (λ (x : ℕ). get_or a.index.now x 0) e ∙ z)) in
    (sym not_first, index_stays b.layout b.bytes.now few a.index.now a.i c.requires.i_bound c.requires.indexed not_first)

pub overflow_cast-index : goal.overflow_cast-index
overflow_cast-index c = omega (arith, c.args.self.now.noted.fits)

pub offset_bounds-index-b-2 : goal.offset_bounds-index-b-2
offset_bounds-index-b-2 c = omega (arith, below (goal.at.offset_bounds-index-b-2 c).Start c.stop_of-b.result c.stop_of-b.ensures)

pub bounds-index-b-2 : goal.bounds-index-b-2
bounds-index-b-2 c =
    omega (arith, below (goal.at.bounds-index-b-2 c).Start c.stop_of-b.result c.stop_of-b.ensures, c.requires.indexed.entries.size)

pub returns : goal.returns
returns c =
    let a = c.args in
    let b = a.self.now.batch in
    let few = a.self.now.noted.fits in
    let e = c.stop_of-b.ensures in
    let first = vacant_decides b.layout b.bytes.now few a.index.now a.i c.requires.i_bound c.requires.indexed (sym (ap (λ (x : ℕ). get_or a.index.now x 0) e) ∙ c.if-index-b-ne0.false) in (
      sym first.1,
      subst (λ (x : ℕ). Indexed b.layout b.bytes.now (set a.index.now x (a.i + 1)) (record_count b.layout b.bytes.now - a.i)) (sym e)
          (index_grows b.layout b.bytes.now few a.index.now a.i c.requires.i_bound c.requires.indexed first.0 first.1),
    )
