-- What a call that writes answers, and what it leaves, by the number of its tests.
-- Assumes nothing.
use Prim.Native.Nat.{ℕ, zero, suc}
use mathlib.Core.Path.{◌≡◌, refl}
use mathlib.Core.List.{List}
use native.Mathlib.Omega.{arith}
use Rattle.std.specs.Prelude.{Result, Ok, Err, IsErrAnd}
use Rattle.header.specs.declared.refusal.Refusal.{Refusal}
use Rattle.header.specs.Answer.{number, answer}
use Rattle.header.proofs.Firsts.{number_not_done}
use Rattle.writing.specs.Write.{Leaves, unless}

module _ (image changed : List ℕ) where
  pub answers : (n : ℕ) → (unless n image changed).answer ≡ n
  answers zero = refl
  answers (suc n) = refl

  -- answered 0, the call leaves what it changed
  pub accepted : (n : ℕ) → n ≡ 0 → (unless n image changed).image ≡ changed
  accepted n e = rw e refl

  -- "Any number but 0 leaves every lent byte alone"
  pub refused : (n : ℕ) → ((unless n image changed).answer ≡ 0 → ⊥) → (unless n image changed).image ≡ image
  refused zero h = absurd (h refl)
  refused (suc n) h = refl

  -- what code says that is refused, as by `?`, and leaves every byte alone, and that is done and changes them
  pub says_refused : {A : Type 0} (n : ℕ) (r : Result A Refusal) (e : Refusal) → IsErrAnd r (λ y. y ≡ e) → number e ≡ n
      → Leaves (unless n image changed) (answer r) image
  says_refused n (Ok a) e is h = absurd is
  says_refused zero (Err y) e is h = absurd (number_not_done e h)
  says_refused (suc n) (Err y) e is h = rw is (h, refl)

  pub says_accepted : (n : ℕ) {left : List ℕ} → 0 ≡ n → left ≡ changed → Leaves (unless n image changed) 0 left
  says_accepted zero z e = (refl, e)
  says_accepted (suc n) z e = absurd (omega arith)
