-- Keys compared, and tests joined: what a passed test says, and the other way.
-- Assumes nothing.
use Prim.Native.Nat.{ℕ}
use mathlib.Core.Path.{◌≡◌, refl, sym, ap₂, ◌∙◌}
use mathlib.Core.Bool.{Bool, true, false, not, ◌&&◌, ◌||◌, true≢false, false≢true}
use mathlib.Core.Logic.{◌⊎◌, inl, inr}
use mathlib.Core.List.{List, [], ◌∷◌}
use native.Mathlib.Omega.{arith}
use lib.Dec.{eqb}
use borrow.Author.Tests.{eqb-true, eq-eqb}
use Rattle.numbers.specs.Bytes.{same}

-- what `cc` makes of two constructors that are said to be equal
pub clash : {A : Type 0} → ◌≡◌ {A = ℕ} 0 1 → A
clash z = absurd (omega arith)

-- a test is true or false
pub either : (b : Bool) → (b ≡ true) ⊎ (b ≡ false)
either true = inl refl
either false = inr refl

-- no test is both
pub not_both : {b : Bool} → b ≡ true → b ≡ false → ⊥
not_both t f = true≢false (sym t ∙ f)

-- a test that is not true is false
pub not_true_false : (b : Bool) → (b ≡ true → ⊥) → b ≡ false
not_true_false true h = absurd (h refl)
not_true_false false h = refl

-- both pass
pub and_both : (a b : Bool) → a && b ≡ true → (a ≡ true) × (b ≡ true)
and_both true b e = (refl, e)
and_both false b e = absurd (false≢true e)

pub both_and : {a b : Bool} → a ≡ true → b ≡ true → a && b ≡ true
both_and p q = ap₂ ◌&&◌ p q

-- one passes
pub or_either : (a b : Bool) → a || b ≡ true → (a ≡ true) ⊎ (b ≡ true)
or_either true b e = inl refl
or_either false b e = inr e

pub left_or : {a : Bool} (b : Bool) → a ≡ true → a || b ≡ true
left_or b p = ap₂ ◌||◌ p refl

pub right_or : (a : Bool) {b : Bool} → b ≡ true → a || b ≡ true
right_or true p = refl
right_or false p = p

-- "not a, or b" says that a gives b
pub implied : (a b : Bool) → not a || b ≡ true → a ≡ true → b ≡ true
implied true b e p = e
implied false b e p = absurd (false≢true p)

pub imply : (a b : Bool) → (a ≡ true → b ≡ true) → not a || b ≡ true
imply true b h = h refl
imply false b h = refl

-- the same bytes are equal keys
pub same_eq : (xs ys : List ℕ) → same xs ys ≡ true → xs ≡ ys
unfolding same
same_eq [] [] e = refl
same_eq [] (y ∷ ys) e = absurd (false≢true e)
same_eq (x ∷ xs) [] e = absurd (false≢true e)
same_eq (x ∷ xs) (y ∷ ys) e =
    let both = and_both (eqb x y) (same xs ys) e in
    ap₂ ◌∷◌ (eqb-true x y both.0) (same_eq xs ys both.1)

-- a key is the same as itself
pub same_self : (xs : List ℕ) → same xs xs ≡ true
unfolding same
same_self [] = refl
same_self (x ∷ xs) = both_and (eq-eqb x x refl) (same_self xs)

pub eq_same : (xs ys : List ℕ) → xs ≡ ys → same xs ys ≡ true
eq_same xs ys e = rw (← e) (same_self xs)
