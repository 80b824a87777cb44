-- Laws of `first_of`: lists of tests one behind the other.
-- Assumes nothing.
use Prim.Native.Nat.{ℕ, zero, suc}
use mathlib.Core.Bool.{Bool, true, false, ◌||◌}
use mathlib.Core.Path.{◌≡◌, refl, sym, ap, ◌∙◌}
use mathlib.Core.List.{List, [], ◌∷◌, ◌++◌}
use native.Mathlib.Omega.{arith}
use lib.Dec.{T}
use Rattle.std.specs.Prelude.{Result, Ok, Err, IsErrAnd}
use Rattle.header.specs.declared.refusal.Refusal.{Refusal}
use Rattle.header.specs.declared.refusal.Refusal.TheVariants.{NeedsRebuild, Incompatible, Invalidated, Busy, Full, OutOfOrder, InvalidInput, NotPresent, CreateIt, TooShort}
use Rattle.header.specs.Answer.{done, number, answer}
use Rattle.header.specs.FirstOf.{first_of}

-- whether no test of a list gives 0
abbrev pub named : List (Bool × ℕ) → Bool
named [] = true
named ((t, zero) ∷ ts) = false
named ((t, suc n) ∷ ts) = named ts

-- a list that gives a number gives it with any tests behind it
pub first_stops : (xs ys : List (Bool × ℕ)) {n : ℕ} → n ≡ first_of xs → (n ≡ 0 → ⊥) → n ≡ first_of (xs ++ ys)
unfolding first_of
first_stops [] ys e h = absurd (h e)
first_stops ((true, m) ∷ xs) ys e h = e
first_stops ((false, m) ∷ xs) ys e h = first_stops xs ys e h

-- a list that gives none leaves the number to the tests behind it
pub first_after : (xs ys : List (Bool × ℕ)) → T (named xs) → {m n : ℕ} → m ≡ first_of xs → m ≡ 0 → n ≡ first_of ys → n ≡ first_of (xs ++ ys)
unfolding first_of
first_after [] ys t e z h = h
first_after ((true, zero) ∷ xs) ys t e z h = absurd t
first_after ((true, suc k) ∷ xs) ys t e z h = absurd (omega arith)
first_after ((false, zero) ∷ xs) ys t e z h = absurd t
first_after ((false, suc k) ∷ xs) ys t e z h = first_after xs ys t e z h

-- where two lists give none, neither does
pub first_none : (xs ys : List (Bool × ℕ)) → T (named xs) → first_of (xs ++ ys) ≡ 0 → (first_of xs ≡ 0) × (first_of ys ≡ 0)
unfolding first_of
first_none [] ys t e = (refl, e)
first_none ((true, zero) ∷ xs) ys t e = absurd t
first_none ((true, suc k) ∷ xs) ys t e = absurd (omega arith)
first_none ((false, zero) ∷ xs) ys t e = absurd t
first_none ((false, suc k) ∷ xs) ys t e = first_none xs ys t e

-- a test that gives no number does not hold
pub fails : (t : Bool) (k : ℕ) → first_of ((t, suc k) ∷ []) ≡ 0 → t ≡ false
unfolding first_of
fails true k e = absurd (omega arith)
fails false k e = refl

pub neither : (a b : Bool) → a || b ≡ false → (a ≡ false) × (b ≡ false)
neither true b e = (e, absurd (let z : ◌≡◌ {A = ℕ} 0 1 = cc in omega arith))
neither false b e = (refl, e)

-- the number of a refusal is not that of a call that is done
pub number_not_done : (r : Refusal) → number r ≡ done → ⊥
number_not_done NeedsRebuild e = omega arith
number_not_done Incompatible e = omega arith
number_not_done Invalidated e = omega arith
number_not_done Busy e = omega arith
number_not_done Full e = omega arith
number_not_done OutOfOrder e = omega arith
number_not_done InvalidInput e = omega arith
number_not_done NotPresent e = omega arith
number_not_done CreateIt e = omega arith
number_not_done TooShort e = omega arith

-- the exit of a `?` gives the number of its refusal
pub exit_number : {A : Type 0} (r : Result A Refusal) (e : Refusal) → IsErrAnd r (λ y. y ≡ e) → answer r ≡ number e
exit_number (Ok a) e is = absurd is
exit_number (Err y) e is = ap number is

-- tests in two stages, as by `?`: a refusal of the first is that of both
pub stage_refuses : {A : Type 0} (xs ys : List (Bool × ℕ)) (r : Result A Refusal) (e : Refusal)
    → IsErrAnd r (λ y. y ≡ e) → number e ≡ first_of xs → answer r ≡ first_of (xs ++ ys)
stage_refuses xs ys r e is n = exit_number r e is ∙ first_stops xs ys n (number_not_done e)

-- and where the first refuses nothing, the second decides
pub stage_passes : (xs ys : List (Bool × ℕ)) → T (named xs) → done ≡ first_of xs → first_of (xs ++ ys) ≡ first_of ys
stage_passes xs ys t e = sym (first_after xs ys t e refl refl)
