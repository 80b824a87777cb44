-- A batch on a map, by itself: the last record for a key decides what the key has, and a key without a record keeps what
-- it had.
-- Assumes nothing.
use Prim.Native.Nat.{ℕ, zero, suc, ◌<◌}
use mathlib.Core.Bool.{true, cond}
use mathlib.Core.Path.{◌≡◌, refl, sym, ap, ◌∙◌}
use mathlib.Core.Logic.{◌⊎◌, inl, inr}
use mathlib.Core.List.{List}
use mathlib.Core.Option.{Option, some, none}
use native.Mathlib.Nat.{eq-or-lt_of_le}
use native.Mathlib.Omega.{arith}
use lib.Dec.{eqb}
use Rattle.numbers.specs.Bytes.{same}
use Rattle.probing.proofs.Keys.{not_both, not_true_false, same_eq, eq_same}
use Rattle.probing.proofs.Counting.{Some, None, some_or_none}
use Rattle.header.specs.declared.shape.Shape.{Shape}
use Rattle.batch.specs.Batch.{record_count, record_at, meta_in, key_in, record_key, decides}
use Rattle.maps.specs.Map.{Entry, Map, entry_in, acts_on, applied_to, applied}
use Rattle.batch.proofs.Deciding.{decides_last, one_decides, deciding}

-- what a record gives its key: a put its revision and index, a delete nothing
abbrev pub said : Shape → List ℕ → Option Entry
said s r = cond (eqb (meta_in r) 1) (some (entry_in s r)) none

module _ (s : Shape) (batch : List ℕ) where
  -- Record i is the one that decides on key k.
  pub record Deciding (k : List ℕ) (i : ℕ) : Type 0 where
    pub below : i < record_count s.layout batch
    pub key : record_key s.layout batch i ≡ k
    pub deciding : decides s.layout batch i ≡ true

  -- no record has key k
  abbrev pub Unnamed : List ℕ → Type 0
  Unnamed k = (i : ℕ) → i < record_count s.layout batch → record_key s.layout batch i ≡ k → ⊥

  -- one record at most decides on a key
  pub deciding_one : (k : List ℕ) (i j : ℕ) → Deciding k i → Deciding k j → i ≡ j
  deciding_one k i j p q = one_decides s.layout batch i j p.below q.below p.deciding q.deciding (p.key ∙ sym q.key)

  -- every key of the batch has a record that decides on it
  pub deciding_or_unnamed : (k : List ℕ) → ((i : ℕ) × Deciding k i) ⊎ Unnamed k
  deciding_or_unnamed k = go (some_or_none (record_count s.layout batch) (λ i. same (record_key s.layout batch i) k))
    where
      go : Some (record_count s.layout batch) (λ i. same (record_key s.layout batch i) k) ⊎ None (record_count s.layout batch) (λ i. same (record_key s.layout batch i) k)
          → ((i : ℕ) × Deciding k i) ⊎ Unnamed k
      go (inl w) =
          let r = deciding s.layout batch w.0 w.1 in
          inl (r.0, record { below = r.1.inside; key = r.1.key ∙ same_eq _ _ w.2; deciding = r.1.decides })
      go (inr h) = inr (λ i l e. not_both (eq_same _ _ e) (h i l))

  module _ (m : Map) (k : List ℕ) where
    -- one record more
    more_same : (n : ℕ) → record_key s.layout batch n ≡ k → applied_to s batch (suc n) m k ≡ said s (record_at s.layout batch n)
    unfolding applied_to acts_on record_key
    more_same n e = ap (λ b. cond b (said s (record_at s.layout batch n)) (applied_to s batch n m k)) (eq_same k (key_in s.layout (record_at s.layout batch n)) (sym e))

    more_other : (n : ℕ) → (record_key s.layout batch n ≡ k → ⊥) → applied_to s batch (suc n) m k ≡ applied_to s batch n m k
    unfolding applied_to acts_on record_key
    more_other n h = rw (not_true_false (same k (key_in s.layout (record_at s.layout batch n))) (λ e. h (sym (same_eq _ _ e))))

    -- a key that no record has keeps what it had
    pub applied_unnamed : Unnamed k → applied s batch m k ≡ m k
    unfolding applied applied_to
    applied_unnamed h = go (record_count s.layout batch) h
      where
        go : (n : ℕ) → ((i : ℕ) → i < n → record_key s.layout batch i ≡ k → ⊥) → applied_to s batch n m k ≡ m k
        go zero h = refl
        go (suc n) h = more_other n (h n (omega arith)) ∙ go n (λ i l. h i (omega arith))

    -- the record that decides says what the key has
    pub applied_deciding : (i : ℕ) → Deciding k i → applied s batch m k ≡ said s (record_at s.layout batch i)
    unfolding applied
    applied_deciding i d = go (record_count s.layout batch) d.below (λ j l m e. decides_last s.layout batch i j d.deciding l m (e ∙ sym d.key))
      where
        go : (n : ℕ) → i < n → ((j : ℕ) → j < n → i < j → record_key s.layout batch j ≡ k → ⊥) → applied_to s batch n m k ≡ said s (record_at s.layout batch i)
        go zero l h = absurd (omega arith)
        go (suc n) l h = by (eq-or-lt_of_le {n = i} {m = n} (omega arith)) (λ below. go n below (λ j l. h j (omega arith)))
          where
            by : (i ≡ n) ⊎ (i < n) → (i < n → applied_to s batch n m k ≡ said s (record_at s.layout batch i)) → applied_to s batch (suc n) m k ≡ said s (record_at s.layout batch i)
            by (inl e) rest = rw e (more_same n (rw e at d.key))
            by (inr below) rest = more_other n (h n (omega arith) below) ∙ rest below
