-- The first number below a bound that passes a test.
-- Assumes nothing.
use Prim.Native.Nat.{ℕ, zero, suc, ◌<◌}
use mathlib.Core.Path.{◌≡◌, refl, ap}
use mathlib.Core.Bool.{Bool, true, false, cond}
use native.Mathlib.Omega.{arith}
use Rattle.probing.proofs.Keys.{not_both}
use Rattle.batch.specs.NewKeys.{first_to}

-- it is the one that passes where all before it fail
pub first_here : (n : ℕ) (p : ℕ → Bool) (i : ℕ) → i < n → ((j : ℕ) → j < i → p j ≡ false) → p i ≡ true → first_to n p ≡ i
unfolding first_to
first_here zero p i l fail e = absurd (omega arith)
first_here (suc n) p zero l fail e = rw e
first_here (suc n) p (suc i) l fail e =
    rw (fail 0 (omega arith)) (ap suc (first_here n (λ j. p (suc j)) i (omega arith) (λ j h. fail (suc j) (omega arith)) e))

-- or the bound where all fail
pub first_none : (n : ℕ) (p : ℕ → Bool) → ((j : ℕ) → j < n → p j ≡ false) → first_to n p ≡ n
unfolding first_to
first_none zero p fail = refl
first_none (suc n) p fail =
    rw (fail 0 (omega arith)) (ap suc (first_none n (λ j. p (suc j)) (λ j h. fail (suc j) (omega arith))))

-- tests that are equal below the bound have one first
pub first_same : (n : ℕ) (p q : ℕ → Bool) → ((j : ℕ) → j < n → p j ≡ q j) → first_to n p ≡ first_to n q
unfolding first_to
first_same zero p q e = refl
first_same (suc n) p q e =
    rw (e 0 (omega arith), first_same n (λ j. p (suc j)) (λ j. q (suc j)) (λ j h. e (suc j) (omega arith)))

-- the first number that passes is one that passes, where there is one
pub first_passes : (n : ℕ) (p : ℕ → Bool) (i : ℕ) → i < n → p i ≡ true → (first_to n p < n) × (p (first_to n p) ≡ true)
unfolding first_to
first_passes zero p i l e = absurd (omega arith)
first_passes (suc n) p i l e = go (λ i. first_passes n (λ j. p (suc j)) i) (p zero) refl i l e
  where
    go : ((i : ℕ) → i < n → p (suc i) ≡ true → (first_to n (λ j. p (suc j)) < n) × (p (suc (first_to n (λ j. p (suc j)))) ≡ true))
        → (b : Bool) → p zero ≡ b → (i : ℕ) → i < suc n → p i ≡ true
        → (cond b zero (suc (first_to n (λ j. p (suc j)))) < suc n) × (p (cond b zero (suc (first_to n (λ j. p (suc j))))) ≡ true)
    go on true z i l e = (omega arith, z)
    go on false z zero l e = absurd (not_both e z)
    go on false z (suc i) l e = let r = on i (omega arith) e in (omega (arith, r.0), r.1)
