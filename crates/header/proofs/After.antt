-- What a call that makes tests first goes on to, by their number.
-- Assumes nothing.
use Prim.Native.Nat.{ℕ, zero, suc}
use mathlib.Core.Path.{◌≡◌, refl}
use Rattle.header.specs.declared.refusal.Refusal.{Refusal}
use Rattle.header.specs.declared.refusal.Refusal.TheVariants.{NeedsRebuild, Incompatible, Invalidated, Busy, Full, OutOfOrder, InvalidInput, NotPresent, CreateIt, TooShort}
use Rattle.header.specs.Answer.{done, number}
use Rattle.header.specs.HeaderTest.{after_test}

module _ {A : Type 0} (n : ℕ) (go : A) (refuse : ℕ → A) where
  -- where they pass
  pub after_done : done ≡ n → go ≡ after_test n go refuse
  after_done e = rw (← e) refl

  -- and where they refuse
  pub after_refusal : (r : Refusal) → number r ≡ n → refuse (number r) ≡ after_test n go refuse
  after_refusal r e = rw (← e) (by_number r)
    where
      by_number : (r : Refusal) → refuse (number r) ≡ after_test (number r) go refuse
      by_number NeedsRebuild = refl
      by_number Incompatible = refl
      by_number Invalidated = refl
      by_number Busy = refl
      by_number Full = refl
      by_number OutOfOrder = refl
      by_number InvalidInput = refl
      by_number NotPresent = refl
      by_number CreateIt = refl
      by_number TooShort = refl

-- by a number other than 0
pub after_failed : {A : Type 0} (go : A) (refuse : ℕ → A) (n : ℕ) → (n ≡ 0 → ⊥) → after_test n go refuse ≡ refuse n
after_failed go refuse zero h = absurd (h refl)
after_failed go refuse (suc n) h = refl
