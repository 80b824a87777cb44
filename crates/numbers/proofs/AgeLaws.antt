-- The age of a revision: what the order of two numbers says of their difference.
-- Assumes nothing.
use Prim.Native.Nat.{ℕ, zero, suc}
use mathlib.Core.Path.{◌≡◌, refl}
use native.Mathlib.Omega.{arith}
use lib.IntN.{ℤ, pos, negsuc, nat_abs, ◌-ℤ◌}
use lib.Signed.{◌<ℤ◌}
use mir.Facts.{to_z-of_z}
use mir.Syntax.{w64}
use mir.Val.{SFits}
use Rattle.std.proofs.lemmas.Int.{ints}
use Rattle.std.specs.Cmp.{int_ranked}
use Rattle.std.specs.Ordering.{int_cmp}
use Rattle.std.specs.declared.cmp.Ordering.TheVariants.{Less, Equal, Greater}
use Rattle.numbers.specs.Age.{by_difference, age_of}
use Rattle.numbers.specs.declared.age.Order.{Order}
use Rattle.numbers.specs.declared.age.Order.TheVariants.{Older, Same, Newer}
use Rattle.numbers.proofs.Signed.{read}

below_zero : (d : ℤ) → d <ℤ pos 0 → record { order = Older; distance = nat_abs d } ≡ by_difference d
below_zero (pos n) l =
    let no : ⊥ = omega (arith, ints) in
    absurd no
below_zero (negsuc n) l = refl

above_zero : (d : ℤ) → pos 0 <ℤ d → record { order = Newer; distance = nat_abs d } ≡ by_difference d
above_zero (pos zero) l =
    let no : ⊥ = omega (arith, ints) in
    absurd no
above_zero (pos (suc n)) l = refl
above_zero (negsuc n) l = absurd l.lt

-- two numbers of 64 bits, and how far the second is from the first
pub record Apart (first second : ℤ) (distance : ℕ) : Type 0 where
  pub first_fits : SFits w64 first
  pub second_fits : SFits w64 second
  pub apart : distance ≡ nat_abs (read second -ℤ read first)

module _ {first second : ℤ} {distance : ℕ} (both : Apart first second distance) {order : Order} where
  pub older : order ≡ Older → Less ≡ int_cmp (read second) (read first) → record { order = order; distance = distance } ≡ age_of first second
  unfolding age_of
  older is e =
      let l : read second <ℤ read first = int_ranked (read second) (read first) Less e in
      rw (is, both.apart, to_z-of_z both.first_fits, to_z-of_z both.second_fits) (below_zero (second -ℤ first) (omega (arith, ints)))

  pub equal : order ≡ Same → Equal ≡ int_cmp (read second) (read first) → record { order = order; distance = distance } ≡ age_of first second
  unfolding age_of
  equal is e =
      let same : read second ≡ read first = int_ranked (read second) (read first) Equal e in
      let none : second -ℤ first ≡ pos 0 = omega (arith, ints) in
      rw (is, both.apart, to_z-of_z both.first_fits, to_z-of_z both.second_fits, none) refl

  pub newer : order ≡ Newer → Greater ≡ int_cmp (read second) (read first) → record { order = order; distance = distance } ≡ age_of first second
  unfolding age_of
  newer is e =
      let l : read first <ℤ read second = int_ranked (read second) (read first) Greater e in
      rw (is, both.apart, to_z-of_z both.first_fits, to_z-of_z both.second_fits) (above_zero (second -ℤ first) (omega (arith, ints)))
