-- `batch::decided::Hashed::stops_at` meets its contract.
-- Assumes nothing.
use Prim.Native.Nat.{ℕ, ◌-◌, ◌<◌}
use mathlib.Core.Path.{◌≡◌, ap, ap₂, ◌∙◌, sym}
use mathlib.Core.Bool.{Bool, ◌&&◌}
use mathlib.Core.List.{List}
use native.Mathlib.Omega.{arith}
use lib.Dec.{eqb}
use lib.ListN.{get_or}
use borrow.Author.Tests.{eq-eqb, ne_eqb}
use Rattle.numbers.specs.Bytes.{same}
use Rattle.batch.specs.Batch.{record_count, record_key}
use Rattle.batch.specs.Index.{record_table, stops_at}
use Rattle.batch.proofs.Indexing.{entry_stops, entry_compares}
use Rattle.batch.proofs.decided.Hashed.stops_at.Goals as goal
use Rattle.batch.proofs.decided.Hashed.stops_at.Goals.{Start}

-- where an entry is of a record, what a probe makes of it
module _ (b : Start) (plus1 : ℕ) (read : plus1 ≡ get_or b.args.index.now b.args.b 0) (other : plus1 ≡ 0 → ⊥) where
  abbrev key : ℕ → List ℕ
  key = record_key b.args.self.now.batch.layout b.args.self.now.batch.bytes.now

  abbrev alike : Bool
  alike = same (key (plus1 - 1)) (key b.args.i)

  compared :
      let hashes = b.args.self.now.hashes.now in
      let t = record_table b.args.self.now.batch.layout b.args.self.now.batch.bytes.now b.args.index.now in
      stops_at t (key b.args.i) (t.bucket b.args.b) ≡ eqb (get_or hashes (plus1 - 1) 0) (get_or hashes b.args.i 0) && alike
  compared =
      let a = b.args in
      let batch = a.self.now.batch in
      let few = b.requires.entries.inside a.b in
      let inside : plus1 - 1 < record_count batch.layout batch.bytes.now = omega arith in
      let hashed = a.self.now.noted in
      rw (hashed.each (plus1 - 1) inside, hashed.each a.i b.requires.i_bound.0)
      (entry_compares batch.layout batch.bytes.now a.index.now a.b (key a.i) (plus1 - 1) inside (omega arith))

pub returns-then-plus1-eq0 : goal.returns-then-plus1-eq0
returns-then-plus1-eq0 c =
    let a = c.args in
    let b = a.self.now.batch in
    sym (entry_stops b.layout b.bytes.now a.index.now a.b (record_key b.layout b.bytes.now a.i) (sym c.from-plus1.ensures ∙ c.if-plus1-eq0.true))

pub returns-then-self-j : goal.returns-then-self-j
returns-then-self-j c =
    let s = (goal.at.returns-then-self-j c).Start in
    let told = compared s c.from-plus1.result c.from-plus1.ensures c.if-plus1-eq0.false in
    c.same_bytes.ensures ∙ ap₂ same c.record_key.ensures c.record_key-then-self-j.ensures
    ∙ sym (told ∙ ap (λ (e : Bool). e && alike s c.from-plus1.result c.from-plus1.ensures c.if-plus1-eq0.false) (eq-eqb _ _ c.if-self-j.true))

pub returns-else-self-j : goal.returns-else-self-j
returns-else-self-j c =
    let s = (goal.at.returns-else-self-j c).Start in
    let told = compared s c.from-plus1.result c.from-plus1.ensures c.if-plus1-eq0.false in
    let differ = ne_eqb _ _ c.if-self-j.false in
    differ ∙ sym (told ∙ ap (λ (e : Bool). e && alike s c.from-plus1.result c.from-plus1.ensures c.if-plus1-eq0.false) differ)
