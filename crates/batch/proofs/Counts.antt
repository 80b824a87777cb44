-- Counts that grow.
-- Assumes nothing.
use Prim.Native.Nat.{ℕ, zero, suc, ◌+◌, ◌≤◌, ◌<◌}
use mathlib.Core.Bool.{Bool, true, false, not, ◌&&◌}
use mathlib.Core.Path.{◌≡◌, refl, ap, ap₂, ◌∙◌}
use mathlib.Core.Logic.{◌⊎◌, inl, inr}
use native.Mathlib.Nat.{eq-or-lt_of_le}
use native.Mathlib.Omega.{arith}
use lib.Dec.{eqb}
use borrow.Author.Tests.{eq-eqb, ne_eqb}
use Rattle.probing.specs.Counting.{sum_to, one, count_to}
use Rattle.probing.proofs.Counting.{sum_le, sum_ones, count_change}
use Rattle.probing.proofs.Keys.{not_both}

-- all numbers below n pass a test that always passes
pub count_all : (n : ℕ) → count_to n (λ i. true) ≡ n
unfolding count_to
count_all n = sum_ones n

module _ (p : ℕ → Bool) where
  -- a count up to a higher bound is no less
  count_further : (a b : ℕ) → a ≤ b → count_to a p ≤ count_to b p
  unfolding count_to sum_to
  count_further a zero l = let e : a ≡ 0 = omega arith in rw e (omega arith)
  count_further a (suc b) l = go (eq-or-lt_of_le l) (λ m. count_further a b m)
    where
      go : (a ≡ suc b) ⊎ (a < suc b) → (a ≤ b → sum_to a (λ i. one (p i)) ≤ sum_to b (λ i. one (p i)))
          → sum_to a (λ i. one (p i)) ≤ sum_to b (λ i. one (p i)) + one (p b)
      go (inl e) on = rw e (omega arith)
      go (inr m) on = omega (arith, on (omega arith))

  -- and counts what passes before it
  count_one : (a : ℕ) → p a ≡ true → count_to (suc a) p ≡ count_to a p + 1
  unfolding count_to sum_to
  count_one a e = ap (λ (r : Bool). count_to a p + one r) e

  pub count_past : (a b : ℕ) → a < b → p a ≡ true → count_to a p < count_to b p
  count_past a b l e = omega (arith, count_one a e, count_further (suc a) b l)

-- what passes one test passes another that one number more passes
module _ (n : ℕ) (p q : ℕ → Bool) (i : ℕ) where
  abbrev rest : ℕ → Bool
  rest j = q j && not (eqb j i)

  one_le : (a b : Bool) → (a ≡ true → b ≡ true) → one a ≤ one b
  one_le true true h = omega arith
  one_le true false h = absurd (not_both (h refl) refl)
  one_le false true h = omega arith
  one_le false false h = omega arith

  pub count_less : ((j : ℕ) → j < n → p j ≡ true → q j ≡ true) → i < n → p i ≡ false → q i ≡ true → count_to n p < count_to n q
  unfolding count_to
  count_less h l out here =
      let few = sum_le n {f = λ j. one (p j)} {g = λ j. one (rest j)} (λ j m. one_le (p j) (rest j) (kept j m)) in
      let change = count_change n rest q i l (λ j m other. (rw (ne_eqb j i other) (right j))) in
      let gone : one (rest i) ≡ 0 = ap one (ap₂ (λ (a b : Bool). a && not b) here (eq-eqb i i refl)) in
      let there : one (q i) ≡ 1 = ap one here in
      omega arith
    where
      right : (j : ℕ) → q j && true ≡ q j
      right j = go (q j)
        where
          go : (b : Bool) → b && true ≡ b
          go true = refl
          go false = refl

      kept : (j : ℕ) → j < n → p j ≡ true → rest j ≡ true
      kept j m e = ap₂ (λ (a b : Bool). a && not b) (h j m e) (ne_eqb j i (λ same. not_both e (ap p same ∙ out)))
