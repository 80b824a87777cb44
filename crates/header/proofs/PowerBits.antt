-- Powers of two by their bits.
-- Assumes nothing.
use Prim.Native.Nat.{ℕ, suc, ◌-◌, ◌/◌, ◌%◌, ◌^◌, ◌<◌}
use mathlib.Core.Bool.{Bool, true, false, true≢false}
use mathlib.Core.Path.{◌≡◌, refl, sym, ◌∙◌}
use native.Mathlib.Nat.{one-mul, add-zero, two-pow-succ}
use native.Mathlib.Decide.{dec_le}
use native.Mathlib.Omega.{arith}
use borrow.Author.Tests.{eq-eqb, ne_eqb}
use lib.Arith.{bin_ind}
use lib.Bits.{bit_and, and_step, and_self, and_shifted, and_mask}
use lib.Count.{ones, ones_step}
use lib.Dec.{eqb}
use lib.Pow.{pow_pos, ones_lt}
use Rattle.std.specs.Int.{is_power_of_two}
use Rattle.std.specs.Prelude.{count_ones}
use Rattle.std.proofs.lemmas.Nat.{ones_cat, ones_le_self, zero_from_ones}
use Rattle.header.specs.HeaderTest.{power_of_two}
use Rattle.header.proofs.Power.{power_true, true_power}

-- a power of two has one bit
power_alone : (k : ℕ) → count_ones (2 ^ k) ≡ 1
unfolding ones
power_alone k = rw (one-mul, add-zero) at (ones_cat k 1 0 (pow_pos k))

-- and no other number has: an even one has as many as its half, an odd one its lowest besides
alone_power : (n : ℕ) → count_ones n ≡ 1 → (k : ℕ) × (n ≡ 2 ^ k)
alone_power = bin_ind Alone (λ e. absurd (omega (arith, ones_le_self 0))) step
  where
    Alone : ℕ → Type 0
    Alone n = count_ones n ≡ 1 → (k : ℕ) × (n ≡ 2 ^ k)

    step : (n : ℕ) → Alone (n / 2) → Alone n
    step n half e =
        elim (dec_le (n % 2) 0) [
          | yes even ↦ let p = half (omega (arith, ones_step n)) in (suc p.0, rw two-pow-succ (omega (arith, p.1)))
          | no odd ↦ (0, omega (arith, zero_from_ones (n / 2) (omega (arith, ones_step n))))
        ]

-- so the test of the bits is the test of the power
pub power_by_bits : (n : ℕ) → n < 2 ^ 64 → is_power_of_two n ≡ power_of_two n
power_by_bits n bits = go (power_of_two n) refl
  where
    go : (t : Bool) → power_of_two n ≡ t → is_power_of_two n ≡ t
    go true e = let p = power_true n e in rw p.1 (eq-eqb _ _ (power_alone p.0))
    go false e = ne_eqb _ _ (λ z. let p = alone_power n z in true≢false (sym (true_power n p.0 p.1 bits) ∙ e))

-- a power of two has no bit in common with the number before
power_shares_none : (k : ℕ) → bit_and (2 ^ k) (2 ^ k - 1) ≡ 0
power_shares_none k = rw one-mul at (and_shifted 1 k (2 ^ k - 1) (ones_lt k))

-- and no other number but 0: an even one has as many as its half, an odd one all but its lowest
shares_none_power : (n : ℕ) → 0 < n → bit_and n (n - 1) ≡ 0 → (k : ℕ) × (n ≡ 2 ^ k)
shares_none_power = bin_ind Sharing (λ h z. absurd (omega arith)) step
  where
    Sharing : ℕ → Type 0
    Sharing n = 0 < n → bit_and n (n - 1) ≡ 0 → (k : ℕ) × (n ≡ 2 ^ k)

    step : (n : ℕ) → Sharing (n / 2) → Sharing n
    step n half h z =
        elim (dec_le (n % 2) 0) [
          | yes even ↦
              let below : (n - 1) / 2 ≡ n / 2 - 1 = omega arith in
              let p = half (omega arith) (omega (arith, rw below at (and_step n (n - 1)))) in
              (suc p.0, rw two-pow-succ (omega (arith, p.1)))
          | no odd ↦
              let below : (n - 1) / 2 ≡ n / 2 = omega arith in
              (0, omega (arith, rw (below, and_self) at (and_step n (n - 1))))
        ]

-- so the test of the bits shared with the number before is that test too
pub power_by_shared_bits : (n : ℕ) → 0 < n → n < 2 ^ 64 → eqb (bit_and n (n - 1)) 0 ≡ power_of_two n
power_by_shared_bits n h bits = go (power_of_two n) refl
  where
    go : (t : Bool) → power_of_two n ≡ t → eqb (bit_and n (n - 1)) 0 ≡ t
    go true e = let p = power_true n e in rw p.1 (eq-eqb _ _ (power_shares_none p.0))
    go false e =
        ne_eqb _ _ (λ z. let p = shares_none_power n h z in true≢false (sym (true_power n p.0 p.1 bits) ∙ e))

-- 0 is no power of two
pub power_positive : (n : ℕ) → power_of_two n ≡ true → 0 < n
power_positive n t = let p = power_true n t in omega (arith, pow_pos p.0, p.1)

-- the remainder by a power of two is a mask
pub power_mask : (m n : ℕ) → power_of_two n ≡ true → bit_and m (n - 1) ≡ m % n
power_mask m n t = let p = power_true n t in rw p.1 (and_mask m p.0)
