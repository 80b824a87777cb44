-- Laws of a function with one value changed: its values, tests of all of them, and counts.
-- Assumes nothing.
use Prim.Native.Nat.{ℕ, ◌+◌, ◌<◌}
use mathlib.Core.Bool.{Bool, true}
use mathlib.Core.Path.{◌≡◌, refl, ap, ◌∙◌}
use native.Mathlib.Numerals.{add-one}
use native.Mathlib.Decide.{ℕ_discrete}
use borrow.Author.Tests.{eq-eqb, ne_eqb}
use Rattle.probing.specs.Counting.{sum_to, one, count_to, all_to}
use Rattle.probing.specs.Change.{update}
use Rattle.probing.proofs.Counting.{all_of, count_change}

module _ {A : Type 0} (f : ℕ → A) (i : ℕ) (x : A) (j : ℕ) where
  -- at the index stands the new value
  pub update_same : j ≡ i → update f i x j ≡ x
  unfolding update
  update_same e = rw (eq-eqb j i e)

  -- elsewhere the value stays
  pub update_other : (j ≡ i → ⊥) → update f i x j ≡ f j
  unfolding update
  update_other h = rw (ne_eqb j i h)

  -- what follows in both cases follows
  pub by_update : {P : Type 0} → (j ≡ i → update f i x j ≡ x → P) → ((j ≡ i → ⊥) → update f i x j ≡ f j → P) → P
  by_update {P} there elsewhere = go (ℕ_discrete j i)
    where
      go : Dec (j ≡ i) → P
      go (yes e) = there e (update_same e)
      go (no h) = elsewhere h (update_other h)

-- every value passes after one is changed, where the new one passes and the others did
pub all_update : {A : Type 0} (p : A → Bool) (n : ℕ) (f : ℕ → A) (i : ℕ) (x : A) → p x ≡ true
    → ((j : ℕ) → j < n → (j ≡ i → ⊥) → p (f j) ≡ true) → all_to n (λ j. p (update f i x j)) ≡ true
all_update p n f i x there elsewhere =
    all_of n (λ j. p (update f i x j)) (λ j l. by_update f i x j (λ e v. ap p v ∙ there) (λ h v. ap p v ∙ elsewhere j l h))

-- a count after one value is changed
pub count_update : {A : Type 0} (p : A → Bool) (n : ℕ) (f : ℕ → A) (i : ℕ) (x : A) → i < n
    → count_to n (λ j. p (update f i x j)) + one (p (f i)) ≡ count_to n (λ j. p (f j)) + one (p x)
count_update {A} p n f i x l =
    count_change n (λ j. p (update f i x j)) (λ j. p (f j)) i l (λ j m other. ap p (update_other f i x j other))
    ∙ ap (λ (y : A). count_to n (λ j. p (f j)) + one (p y)) (update_same f i x i refl)

-- a count with one number more
pub count_more : (n : ℕ) (p : ℕ → Bool) → count_to (n + 1) p ≡ count_to n p + one (p n)
unfolding count_to sum_to
count_more n p = ap (λ (m : ℕ). count_to m p) (add-one n)
