-- Whether a new key falls behind the last slot given out.
-- Assumes nothing.
use Prim.Native.Nat.{ℕ, ◌-◌, ◌<◌}
use mathlib.Core.Path.{◌≡◌, sym, ap, ap₂, ◌∙◌}
use mathlib.Core.Logic.{◌⊎◌, inl, inr}
use mathlib.Core.Bool.{Bool, true, false, not, ◌&&◌, and-false, not-not}
use mathlib.Core.List.{List}
use lib.Dec.{ltb}
use borrow.Author.Tests.{lt-ltb, le-ltb}
use native.Mathlib.Omega.{arith}
use Rattle.numbers.specs.Bytes.{below}
use Rattle.probing.specs.Counting.{all_to}
use Rattle.probing.proofs.Counting.{all_of, count_positive}
use Rattle.probing.proofs.Keys.{either, both_and, not_true_false}
use Rattle.probing.proofs.Order.{below_back}
use Rattle.header.specs.declared.shape.Shape.{Shape}
use Rattle.image.specs.Lookup.{is_live}
use Rattle.image.specs.Table.{key_of}
use Rattle.batch.specs.Batch.{record_count, record_key}
use Rattle.batch.specs.NewKeys.{is_new, new_count, new_at}
use Rattle.batch.proofs.Every.{every_fails}
use Rattle.batch.proofs.NewRanks.{Ranked, new_at_lem, rank_rises}
use Rattle.soundness.specs.Commit.{falls_behind}

-- record i has no new key, or one that does not come before that of the last slot
abbrev keeps : Shape → List ℕ → List ℕ → ℕ → Bool
keeps s image batch i = not (is_new s.layout (is_live s image) batch i && below (record_key s.layout batch i) (key_of s.layout image (s.slot_highwater - 1)))

module _ (s : Shape) (image batch : List ℕ) where
  abbrev new : ℕ → Bool
  new = is_new s.layout (is_live s image) batch

  abbrev key : ℕ → List ℕ
  key = record_key s.layout batch

  abbrev tail : List ℕ
  tail = key_of s.layout image (s.slot_highwater - 1)

  abbrev first : ℕ
  first = new_at s.layout (is_live s image) batch 0

  abbrev all_keep : Bool
  all_keep = all_to (record_count s.layout batch) (keeps s image batch)

  pub behind_unordered : s.layout.ordered ≡ false → falls_behind s image batch ≡ false
  unfolding falls_behind
  behind_unordered e = ap (λ (b : Bool). b && ltb 0 s.slot_highwater && not all_keep) e

  pub behind_none : s.layout.ordered ≡ true → s.slot_highwater ≡ 0 → falls_behind s image batch ≡ false
  unfolding falls_behind
  behind_none o e =
      ap (λ (b : Bool). b && ltb 0 s.slot_highwater && not all_keep) o
      ∙ ap (λ (b : Bool). true && b && not all_keep) (le-ltb 0 s.slot_highwater (omega arith))

  -- no new key
  pub behind_no_new : new_count s.layout (is_live s image) batch ≡ 0 → falls_behind s image batch ≡ false
  unfolding falls_behind new_count
  behind_no_new e =
      let keep : all_keep ≡ true =
      all_of (record_count s.layout batch) (keeps s image batch)
      (λ i l. ap (λ (b : Bool). not (b && below (key i) tail)) (not_true_false (new i) (λ n. omega (arith, count_positive (record_count s.layout batch) new i l n, e)))) in
      ap (λ (b : Bool). s.layout.ordered && ltb 0 s.slot_highwater && not b) keep ∙ and-false (s.layout.ordered && ltb 0 s.slot_highwater)

  -- else the first in order says it for all
  first_keeps : s.layout.ordered ≡ true → 0 < new_count s.layout (is_live s image) batch
      → all_keep ≡ not (below (key first) tail)
  first_keeps o some = go (either (below (key first) tail))
    where
      at : Ranked s.layout (is_live s image) batch 0 first
      at = new_at_lem s.layout (is_live s image) batch 0 some

      -- no new key comes before the first
      lowest : (i : ℕ) → i < record_count s.layout batch → new i ≡ true → below (key i) (key first) ≡ false
      lowest i l n = not_true_false _ (λ b. omega (arith, rank_rises s.layout (is_live s image) batch o i first l n b, at.rank))

      go : (below (key first) tail ≡ true) ⊎ (below (key first) tail ≡ false) → all_keep ≡ not (below (key first) tail)
      go (inl e) = every_fails (keeps s image batch) (record_count s.layout batch) first at.inside (ap not (both_and at.new e)) ∙ ap not (sym e)
      go (inr e) =
          all_of (record_count s.layout batch) (keeps s image batch) (λ i l. each i l (either (new i))) ∙ ap not (sym e)
        where
          each : (i : ℕ) → i < record_count s.layout batch → (new i ≡ true) ⊎ (new i ≡ false) → keeps s image batch i ≡ true
          each i l (inl n) = ap₂ (λ (a b : Bool). not (a && b)) n (below_back (key i) (key first) tail (lowest i l n) e)
          each i l (inr n) = ap (λ (b : Bool). not (b && below (key i) tail)) n

  pub behind_by_first :
      s.layout.ordered ≡ true → (s.slot_highwater ≡ 0 → ⊥) → 0 < new_count s.layout (is_live s image) batch
      → below (key first) tail ≡ falls_behind s image batch
  unfolding falls_behind
  behind_by_first o e some =
      sym
      (ap (λ (b : Bool). b && ltb 0 s.slot_highwater && not all_keep) o
      ∙ ap (λ (b : Bool). true && b && not all_keep) (lt-ltb 0 s.slot_highwater (omega arith))
      ∙ ap not (first_keeps o some) ∙ not-not (below (key first) tail))
