-- Places in an image under given options: where a slot that there can be begins, and where its parts do.
-- Assumes nothing.
use Prim.Native.Nat.{ℕ, zero, suc, ◌*◌, ◌+◌, ◌^◌, ◌≤◌, ◌<◌}
use mathlib.Core.Bool.{Bool, true, false}
use mathlib.Core.Path.{◌≡◌, refl, sym, ap}
use native.Mathlib.Nat.{mul-le-mul}
use native.Mathlib.Omega.{arith}
use borrow.Author.Tests.{ne_eqb}
use Rattle.std.specs.Prelude.{cond, ltb, Some, None}
use Rattle.std.proofs.lemmas.Bool.{ltb-true}
use Rattle.std.proofs.lemmas.Option.{none-some}
use Rattle.std.specs.Option.{unwrap_or}
use Rattle.header.specs.declared.options.Options.{Options}
use Rattle.header.specs.FirstOf.{first_of}
use Rattle.header.specs.HeaderTest.{test1, after_test}
use Rattle.header.specs.Sizes.{most_slot_capacity, slot_size}
use Rattle.header.proofs.Allowed.{Allowed, allowed}
use Rattle.header.proofs.PassedTests.{allowed_passed}
use Rattle.header.proofs.SizeLaws.{slot_size_limit, capacity_limit}
use Rattle.host.specs.Places.{slots_for, slot_place, place_of, place_in}

-- as many slots as there can be are no more than any image may have
slots_limit : (option : ℕ) → option ≤ most_slot_capacity → slots_for option ≤ most_slot_capacity
unfolding slots_for
slots_limit zero h = omega arith
slots_limit (suc n) h = rw (ne_eqb (suc n) 0 (λ e. omega arith)) h

-- by the first test's number, and whether there can be such a slot
at_none : (n : ℕ) (there : Bool) (at place : ℕ) → None ≡ after_test n (cond there (Some at) None) (λ n. None) → 0 ≡ after_test n (cond there place 0) (λ n. 0)
at_none zero true at place e = absurd (none-some at e)
at_none zero false at place e = refl
at_none (suc n) there at place e = refl

at_some : (n : ℕ) (there : Bool) (at : ℕ) {start : ℕ} → Some start ≡ after_test n (cond there (Some at) None) (λ n. None) → (start ≡ at) × (n ≡ 0) × (there ≡ true)
at_some zero true at e = (ap (λ x. unwrap_or x 0) e, refl, refl)
at_some zero false at e = absurd (none-some _ (sym e))
at_some (suc n) there at e = absurd (none-some _ (sym e))

module _ (o : Options) (slot : ℕ) where
  module _ (passed : first_of (test1 o) ≡ 0) where
    pub sizes : Allowed o
    sizes = allowed o (allowed_passed o passed)

    -- where a slot begins is far below 64 bits
    pub slot_fits : slot < slots_for o.slot_capacity → {size : ℕ} → size ≡ slot_size o.key_size o.index_size → slot * size ≤ 2 ^ 48
    slot_fits inside {size} is =
        let below : slot ≤ 2 ^ 32 = omega (arith, slots_limit o.slot_capacity sizes.capacity_high, capacity_limit) in
        let limit : size ≤ 2 ^ 16 = rw is (slot_size_limit o.key_size o.index_size sizes.key_high sizes.index_high) in
        let product : slot * size ≤ 2 ^ 32 * 2 ^ 16 = mul-le-mul below limit in
        omega arith

  pub none_in : None ≡ place_of o slot → (place : ℕ) → 0 ≡ place_in o slot place
  unfolding place_of place_in
  none_in e place = at_none (first_of (test1 o)) (ltb slot (slots_for o.slot_capacity)) _ place e

  module _ {start : ℕ} (e : Some start ≡ place_of o slot) where
    given : (start ≡ slot_place o slot) × (first_of (test1 o) ≡ 0) × (ltb slot (slots_for o.slot_capacity) ≡ true)
    unfolding place_of
    given = at_some (first_of (test1 o)) (ltb slot (slots_for o.slot_capacity)) _ e

    pub start_sizes : Allowed o
    start_sizes = sizes given.1

    pub start_fits : start ≤ 256 + 2 ^ 48
    start_fits = omega (arith, given.0, slot_fits given.1 (ltb-true slot (slots_for o.slot_capacity) given.2) refl)

    pub start_in : (part : ℕ → ℕ) → part start ≡ place_in o slot (part (slot_place o slot))
    unfolding place_in
    start_in part = rw (given.0, given.1, given.2) refl
