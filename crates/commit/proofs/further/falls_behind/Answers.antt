-- `commit::further::falls_behind` meets its contract: the first new key in order says it for all.
-- Assumes nothing.
use Prim.Native.Nat.{ℕ, ◌<◌}
use borrow.Author.Rules.{rules}
use borrow.Author.Tests.{not-true, not-false}
use lib.ListN.{length}
use mathlib.Core.Path.{◌≡◌, sym, ap₂, ◌∙◌}
use native.Mathlib.Omega.{arith}
use Rattle.header.specs.declared.shape.Layout.{Layout}
use Rattle.batch.specs.Batch.{record_key}
use Rattle.batch.specs.NewKeys.{new_at}
use Rattle.commit.proofs.Behind.{behind_unordered, behind_none, behind_no_new, behind_by_first}
use Rattle.image.specs.Lookup.{is_live}
use Rattle.numbers.specs.Bytes.{below}
use Rattle.commit.proofs.further.falls_behind.Goals as goal
use Rattle.commit.proofs.further.falls_behind.Goals.{then-not-s-via-then-not-s, then-not-s-via-else-not-s+then-s-eq0, then-not-s-via-else-not-s+else-s-eq0+then-is_empty}

pub returns-then-not-s : goal.returns-then-not-s
returns-then-not-s c =
    let a = c.args in
    sym
    elim c.then-not-s.branch [
      | then-not-s-via-then-not-s w ↦ behind_unordered a.image.now.shape a.image.now.bytes.now a.new.now.batch.bytes.now (not-true _ w.if-not-s.true)
      | then-not-s-via-else-not-s+then-s-eq0 w ↦ behind_none a.image.now.shape a.image.now.bytes.now a.new.now.batch.bytes.now (not-false _ w.if-not-s.false) w.if-s-eq0.true
      | then-not-s-via-else-not-s+else-s-eq0+then-is_empty w ↦ behind_no_new a.image.now.shape a.image.now.bytes.now a.new.now.batch.bytes.now (sym c.requires.ordered.counted ∙ (search rules))
    ]

pub returns : goal.returns
returns c =
    let a = c.args in
    let s = a.image.now.shape in
    let batch = a.new.now.batch.bytes.now in
    let ordered = c.requires.ordered in
    let some : 0 < length a.new.now.records.now = search rules in
    let first : c.key.result.now ≡ record_key s.layout batch (new_at s.layout (is_live s a.image.now.bytes.now) batch 0) =
    c.key.ensures ∙ ap₂ (λ (l : Layout) (i : ℕ). record_key l batch i) c.requires.layout (ordered.each 0 some) in
    c.comes_before.ensures ∙ ap₂ below first c.key_of.ensures
    ∙ behind_by_first s a.image.now.bytes.now batch (not-false _ c.if-not-s.false) c.if-s-eq0.false (omega (arith, some, ordered.counted))
