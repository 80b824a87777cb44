-- The order of byte lists: lexicographic, and total.
-- Assumes nothing.
use Prim.Native.Nat.{ℕ, ◌≤◌, ◌<◌}
use mathlib.Core.Path.{◌≡◌, refl, ap₂}
use mathlib.Core.Bool.{true, false, ◌&&◌, ◌||◌}
use mathlib.Core.Logic.{◌⊎◌, inl, inr}
use mathlib.Core.List.{List, [], ◌∷◌}
use native.Mathlib.Omega.{arith}
use lib.Dec.{eqb, ltb}
use borrow.Author.Tests.{ltb-true, ltb-false, eqb-true, lt-ltb, le-ltb, eq-eqb}
use Rattle.numbers.specs.Bytes.{below}
use Rattle.probing.proofs.Keys.{either, or_either, and_both, left_or, right_or, both_and, not_both, not_true_false}

-- of two numbers the first is below the second, or not
pub lower_or_not : (a b : ℕ) → (a < b) ⊎ (b ≤ a)
lower_or_not a b = go (either (ltb a b))
  where
    go : (ltb a b ≡ true) ⊎ (ltb a b ≡ false) → (a < b) ⊎ (b ≤ a)
    go (inl e) = inl (ltb-true a b e)
    go (inr e) = inr (ltb-false a b e)

-- no list comes before itself
pub below_self : (xs : List ℕ) → below xs xs ≡ false
unfolding below
below_self [] = refl
below_self (x ∷ xs) = rw (le-ltb x x (omega arith), eq-eqb x x refl) (below_self xs)

-- what comes before what comes before comes before
pub below_trans : (xs ys zs : List ℕ) → below xs ys ≡ true → below ys zs ≡ true → below xs zs ≡ true
unfolding below
below_trans xs ys [] a b = b
below_trans [] ys (z ∷ zs) a b = refl
below_trans (x ∷ xs) [] (z ∷ zs) a b = absurd (not_both a refl)
below_trans (x ∷ xs) (y ∷ ys) (z ∷ zs) a b = go (or_either (ltb x y) (eqb x y && below xs ys) a) (or_either (ltb y z) (eqb y z && below ys zs) b) (below_trans xs ys zs)
  where
    go :
        (ltb x y ≡ true) ⊎ (eqb x y && below xs ys ≡ true) → (ltb y z ≡ true) ⊎ (eqb y z && below ys zs ≡ true)
        → (below xs ys ≡ true → below ys zs ≡ true → below xs zs ≡ true) → ltb x z || (eqb x z && below xs zs) ≡ true
    go (inl p) (inl q) rest = left_or (eqb x z && below xs zs) (lt-ltb x z (omega (arith, ltb-true x y p, ltb-true y z q)))
    go (inl p) (inr q) rest =
        let e = eqb-true y z (and_both (eqb y z) (below ys zs) q).0 in
        left_or (eqb x z && below xs zs) (lt-ltb x z (omega (arith, ltb-true x y p)))
    go (inr p) (inl q) rest =
        let e = eqb-true x y (and_both (eqb x y) (below xs ys) p).0 in
        left_or (eqb x z && below xs zs) (lt-ltb x z (omega (arith, ltb-true y z q)))
    go (inr p) (inr q) rest =
        let e = eqb-true x y (and_both (eqb x y) (below xs ys) p).0 in
        let f = eqb-true y z (and_both (eqb y z) (below ys zs) q).0 in
        right_or (ltb x z) (both_and (eq-eqb x z (omega arith)) (rest (and_both (eqb x y) (below xs ys) p).1 (and_both (eqb y z) (below ys zs) q).1))

-- of two lists one comes first, or they are one
pub below_or : (xs ys : List ℕ) → (below xs ys ≡ true) ⊎ (below ys xs ≡ true) ⊎ (xs ≡ ys)
unfolding below
below_or [] [] = inr (inr refl)
below_or [] (y ∷ ys) = inl refl
below_or (x ∷ xs) [] = inr (inl refl)
below_or (x ∷ xs) (y ∷ ys) = go (lower_or_not x y) (lower_or_not y x) (below_or xs ys)
  where
    go :
        (x < y) ⊎ (y ≤ x) → (y < x) ⊎ (x ≤ y) → (below xs ys ≡ true) ⊎ (below ys xs ≡ true) ⊎ (xs ≡ ys)
        → (ltb x y || (eqb x y && below xs ys) ≡ true) ⊎ (ltb y x || (eqb y x && below ys xs) ≡ true) ⊎ (x ∷ xs ≡ y ∷ ys)
    go (inl l) q rest = inl (left_or (eqb x y && below xs ys) (lt-ltb x y l))
    go (inr l) (inl q) rest = inr (inl (left_or (eqb y x && below ys xs) (lt-ltb y x q)))
    go (inr l) (inr q) (inl b) = inl (right_or (ltb x y) (both_and (eq-eqb x y (omega arith)) b))
    go (inr l) (inr q) (inr (inl b)) = inr (inl (right_or (ltb y x) (both_and (eq-eqb y x (omega arith)) b)))
    go (inr l) (inr q) (inr (inr e)) = inr (inr (ap₂ ◌∷◌ (omega arith) e))

-- of two different lists one comes before the other
pub below_either : (xs ys : List ℕ) → (xs ≡ ys → ⊥) → (below xs ys ≡ true) ⊎ (below ys xs ≡ true)
below_either xs ys ne = go (below_or xs ys)
  where
    go : (below xs ys ≡ true) ⊎ (below ys xs ≡ true) ⊎ (xs ≡ ys) → (below xs ys ≡ true) ⊎ (below ys xs ≡ true)
    go (inl e) = inl e
    go (inr (inl e)) = inr e
    go (inr (inr e)) = absurd (ne e)

-- what does not come before what does not come before does not come before
pub below_back : (xs ys zs : List ℕ) → below xs ys ≡ false → below ys zs ≡ false → below xs zs ≡ false
below_back xs ys zs a b = not_true_false _ (λ e. go e (below_or ys zs))
  where
    go : below xs zs ≡ true → (below ys zs ≡ true) ⊎ (below zs ys ≡ true) ⊎ (ys ≡ zs) → ⊥
    go e (inl p) = not_both p b
    go e (inr (inl p)) = not_both (below_trans xs zs ys e p) a
    go e (inr (inr p)) = not_both (rw p e) a
