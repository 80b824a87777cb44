-- `batch::batch::Batch::is_wrong` meets its contract.
-- Assumes nothing.
use native.Mathlib.Omega.{arith}
use borrow.Author.Rules.{rules}
use borrow.Author.Tests.{tests, eq-eqb, ne_eqb, lt-ltb, le-ltb, ltb-false}
use mathlib.Core.Path.{◌≡◌, sym, ◌∙◌}
use mathlib.Core.Bool.{true}
use mathlib.Core.List.{List}
use Prim.Native.Nat.{ℕ, ◌%◌, ◌<◌}
use lib.ListN.{length}
use Rattle.header.specs.declared.shape.Layout.{Layout}
use Rattle.batch.proofs.Records.{sizes}
use Rattle.batch.specs.Batch.{most_records, record_count, batch_wrong}
use Rattle.batch.proofs.batch.Batch.is_wrong.Goals.{then-self-ne0, else-self-ne0}
use Rattle.batch.proofs.batch.Batch.is_wrong.Goals as goal

pub nonzero_rem-self : goal.nonzero_rem-self
nonzero_rem-self c = let b = c.args.self.now in omega (arith, sizes b.layout b.sized)

-- a batch that is no multiple of the slot size is wrong, and so is one with too many records
uneven : (l : Layout) (batch : List ℕ) → (length batch % l.slot_size ≡ 0 → ⊥) → true ≡ batch_wrong l batch
unfolding batch_wrong
uneven l batch d = rw (ne_eqb _ 0 d)

many : (l : Layout) (batch : List ℕ) → length batch % l.slot_size ≡ 0 → most_records < record_count l batch → true ≡ batch_wrong l batch
unfolding batch_wrong
many l batch e h = rw (eq-eqb _ 0 e, lt-ltb most_records (record_count l batch) h)

pub returns-then-record_count-gt-MOST_RECORDS : goal.returns-then-record_count-gt-MOST_RECORDS
returns-then-record_count-gt-MOST_RECORDS c =
    let b = c.args.self.now in
    let yes = c.if-record_count-gt-MOST_RECORDS.true in
    elim c.if-self-ne0.branch [
      | then-self-ne0 w ↦ yes ∙ uneven b.layout b.bytes.now w.if-self-ne0.true
      | else-self-ne0 w ↦
          yes ∙ many b.layout b.bytes.now w.if-self-ne0.false (search (rules, tests))
    ]

pub returns-else-record_count-gt-MOST_RECORDS : goal.returns-else-record_count-gt-MOST_RECORDS
unfolding batch_wrong
returns-else-record_count-gt-MOST_RECORDS c =
    let b = c.args.self.now in
    elim c.if-self-ne0.branch [
      | then-self-ne0 w ↦ search (rules, tests)
      | else-self-ne0 w ↦
          let few = ltb-false _ _ (sym w.value-is ∙ c.if-record_count-gt-MOST_RECORDS.false) in
          rw (eq-eqb _ 0 w.if-self-ne0.false, le-ltb most_records (record_count b.layout b.bytes.now) (omega (arith, few, w.record_count.ensures))) c.some_malformed.ensures
    ]
