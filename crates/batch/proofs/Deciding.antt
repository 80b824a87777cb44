-- "Only the last record for a key counts": for each record's key there is one record that decides.
-- Assumes nothing.
use Prim.Native.Nat.{ℕ, zero, suc, ◌+◌, ◌≤◌, ◌<◌}
use mathlib.Core.Bool.{Bool, true, not, ◌&&◌}
use mathlib.Core.Path.{◌≡◌, refl, sym, ap, ◌∙◌}
use mathlib.Core.Logic.{◌⊎◌, inl, inr}
use mathlib.Core.List.{List}
use native.Mathlib.Nat.{le_refl}
use native.Mathlib.Decide.{dec_lt}
use native.Mathlib.Omega.{arith}
use lib.Dec.{ltb}
use borrow.Author.Tests.{ltb-true, lt-ltb, not-true}
use Rattle.numbers.specs.Bytes.{same}
use Rattle.probing.proofs.Counting.{all_at, all_of, Some, None, some_or_none}
use Rattle.probing.proofs.Keys.{not_both, and_both, both_and, same_eq, eq_same}
use Rattle.header.specs.declared.shape.Layout.{Layout}
use Rattle.batch.specs.Batch.{record_count, record_key, decides}

module _ (layout : Layout) (batch : List ℕ) where
  -- whether record j comes after record i and has its key
  abbrev again : ℕ → ℕ → Bool
  again i j = ltb i j && same (record_key layout batch j) (record_key layout batch i)

  -- no record after one that decides has its key
  pub decides_last : (i j : ℕ) → decides layout batch i ≡ true → j < record_count layout batch → i < j → record_key layout batch j ≡ record_key layout batch i → ⊥
  unfolding decides
  decides_last i j d l later e =
      not_both (both_and (lt-ltb i j later) (eq_same (record_key layout batch j) (record_key layout batch i) e))
      (not-true (again i j) (all_at (record_count layout batch) (λ j. not (again i j)) d j l))

  -- a record that none follows with its key decides
  pub last_decides : (i : ℕ) → None (record_count layout batch) (again i) → decides layout batch i ≡ true
  unfolding decides
  last_decides i none = all_of (record_count layout batch) (λ j. not (again i j)) (λ j l. ap not (none j l))

  -- two records that decide and have one key are one
  pub one_decides : (i j : ℕ) → i < record_count layout batch → j < record_count layout batch → decides layout batch i ≡ true
      → decides layout batch j ≡ true → record_key layout batch i ≡ record_key layout batch j → i ≡ j
  one_decides i j li lj di dj e = go (dec_lt i j) (dec_lt j i)
    where
      go : Dec (i < j) → Dec (j < i) → i ≡ j
      go (yes l) r = absurd (decides_last i j di lj l (sym e))
      go (no h) (yes l) = absurd (decides_last j i dj li l e)
      go (no h) (no l) = omega arith

  -- Record j decides for the key of record i.
  pub record DecidesFor (i j : ℕ) : Type 0 where
    pub from : i ≤ j
    pub inside : j < record_count layout batch
    pub decides : decides layout batch j ≡ true
    pub key : record_key layout batch j ≡ record_key layout batch i

  search_on : (fuel i : ℕ) → record_count layout batch ≤ i + fuel → i < record_count layout batch → (j : ℕ) × DecidesFor i j
  search_on zero i enough l = absurd (omega arith)
  search_on (suc fuel) i enough l = go (some_or_none (record_count layout batch) (again i)) (λ j. search_on fuel j)
    where
      go : Some (record_count layout batch) (again i) ⊎ None (record_count layout batch) (again i)
          → ((j : ℕ) → record_count layout batch ≤ j + fuel → j < record_count layout batch → (k : ℕ) × DecidesFor j k) → (j : ℕ) × DecidesFor i j
      go (inl w) on =
          let j = w.0 in
          let both = and_both (ltb i j) (same (record_key layout batch j) (record_key layout batch i)) w.2 in
          let later = ltb-true i j both.0 in
          let r = on j (omega arith) w.1 in (
            r.0,
            record {
              from = omega (arith, r.1.from);
              inside = r.1.inside;
              decides = r.1.decides;
              key = r.1.key ∙ same_eq (record_key layout batch j) (record_key layout batch i) both.1;
            },
          )
      go (inr none) on = (i, record { from = le_refl i; inside = l; decides = last_decides i none; key = refl })

  -- for each record there is one, not before it
  pub deciding : (i : ℕ) → i < record_count layout batch → (j : ℕ) × DecidesFor i j
  deciding i l = search_on (record_count layout batch) i (omega arith) l
