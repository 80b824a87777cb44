-- Laws of `power_from`.
-- Assumes nothing.
use Prim.Native.Nat.{ℕ, zero, suc, ◌+◌, ◌*◌, ◌/◌, ◌^◌, ◌≤◌, ◌<◌}
use mathlib.Core.Bool.{Bool, true, false, cond}
use mathlib.Core.Path.{◌≡◌, refl, sym, ap, ◌∙◌}
use native.Mathlib.Nat.{zero-add, add-suc, suc-add, two-pow-succ}
use native.Mathlib.Decide.{dec_le}
use native.Mathlib.Omega.{arith}
use borrow.Author.Tests.{leb-true, leb-false, le-leb, lt-leb, eqb-true, eq-eqb}
use lib.Dec.{leb, lit<}
use lib.Pow.{pow_pos, pow_mono, pow-lt}
use Rattle.std.specs.Prelude.{max}
use Rattle.std.specs.Int.{IsPowerOfTwo}
use Rattle.header.specs.Sizes.{power_from}
use Rattle.header.specs.HeaderTest.{power_of_two}

-- what holds of either branch holds of the choice
at_cond : (P : ℕ → Type 0) (t : Bool) {x y : ℕ} → (t ≡ true → P x) → (t ≡ false → P y) → P (cond t x y)
at_cond P true p q = p refl
at_cond P false p q = q refl

-- it is a power of two, of an exponent from k on
pub power_two : (more k n : ℕ) → (j : ℕ) × (power_from more k n ≡ 2 ^ j) × (k ≤ j) × (j ≤ more + k)
unfolding power_from
power_two zero k n = (k, refl, omega arith, omega arith)
power_two (suc more) k n =
    let rest = power_two more (suc k) n in
    at_cond (λ (r : ℕ). (j : ℕ) × (r ≡ 2 ^ j) × (k ≤ j) × (j ≤ suc more + k)) (leb n (2 ^ k)) (λ e. (k, refl, omega arith, omega arith))
    (λ e. (rest.0, rest.1, omega (arith, rest.2), omega (arith, rest.3)))

-- it is not below n
pub power_low : (more k n : ℕ) → n ≤ 2 ^ (more + k) → n ≤ power_from more k n
unfolding power_from
power_low zero k n h = rw zero-add at h
power_low (suc more) k n h =
    at_cond (λ (r : ℕ). n ≤ r) (leb n (2 ^ k)) (leb-true n (2 ^ k)) (λ e. power_low more (suc k) n (rw (add-suc, ← suc-add) h))

-- it is below twice n
pub power_high : (more k n : ℕ) → 2 ^ k < 2 * n → power_from more k n < 2 * n
unfolding power_from
power_high zero k n h = h
power_high (suc more) k n h =
    at_cond (λ (r : ℕ). r < 2 * n) (leb n (2 ^ k)) (λ e. h)
    (λ e. power_high more (suc k) n (rw two-pow-succ (omega (arith, leb-false n (2 ^ k) e))))

-- two powers of two that are not below n, and whose halves are, are one
power_once : (n j k : ℕ) → n ≤ 2 ^ j → 2 ^ k / 2 < max 1 n → k ≤ j
power_once n j k low high =
    elim (dec_le k j) [
      | yes h ↦ h
      | no h ↦ absurd (let more : 2 ^ suc j ≤ 2 ^ k = pow_mono {i = suc j} {j = k} (omega arith) in omega (arith, rw two-pow-succ at more, pow_pos j))
    ]

-- half of it is below n, or it is 1
power_half : (n : ℕ) → power_from 64 0 n / 2 < max 1 n
unfolding power_from
power_half zero = lit< tt
power_half (suc n) = omega (arith, power_high 64 0 (suc n) (omega arith))

-- so what std's search gives is the power
pub next_power : (n r : ℕ) → n ≤ 2 ^ 63 → IsPowerOfTwo r → n ≤ r → r / 2 < max 1 n → r ≡ power_from 64 0 n
next_power n r most is low high =
    let p = power_two 64 0 n in
    let above : n ≤ 2 ^ p.0 = rw p.1 at (power_low 64 0 n (omega arith)) in
    let half : 2 ^ p.0 / 2 < max 1 n = rw p.1 at (power_half n) in
    let one : is.0 ≡ p.0 = omega (arith, power_once n p.0 is.0 above (rw is.1 at high), power_once n is.0 p.0 (rw is.1 at low) half) in
    is.1 ∙ ap (◌^◌ 2) one ∙ sym p.1

-- the smallest power of two that is at least a power of two is that one
power_itself : (more k j : ℕ) → k ≤ j → j ≤ more + k → power_from more k (2 ^ j) ≡ 2 ^ j
unfolding power_from
power_itself zero k j low high = ap (◌^◌ 2) (omega arith)
power_itself (suc more) k j low high =
    elim (dec_le j k) [
      | yes h ↦ rw (le-leb (2 ^ j) (2 ^ k) (pow_mono {i = j} {j = k} h)) (ap (◌^◌ 2) (omega arith))
      | no h ↦ rw (lt-leb (2 ^ j) (2 ^ k) (pow-lt {i = k} {j = j} (omega arith))) (power_itself more (suc k) j (omega arith) (omega arith))
    ]

-- what passes for a power of two is one, and each of 64 bits passes
pub power_true : (n : ℕ) → power_of_two n ≡ true → (k : ℕ) × (n ≡ 2 ^ k)
unfolding power_of_two
power_true n t = let p = power_two 64 0 n in (p.0, sym (eqb-true (power_from 64 0 n) n t) ∙ p.1)

pub true_power : (n k : ℕ) → n ≡ 2 ^ k → n < 2 ^ 64 → power_of_two n ≡ true
unfolding power_of_two
true_power n k e bits =
    elim (dec_le k 64) [
      | yes h ↦ rw e (eq-eqb (power_from 64 0 (2 ^ k)) (2 ^ k) (power_itself 64 0 k (omega arith) h))
      | no h ↦ absurd (let big : 2 ^ 64 ≤ 2 ^ k = pow_mono {i = 64} {j = k} (omega arith) in omega arith)
    ]

pub power_of_power : (n : ℕ) → power_of_two (power_from 64 0 n) ≡ true
unfolding power_of_two
power_of_power n =
    let p = power_two 64 0 n in
    rw p.1 (eq-eqb (power_from 64 0 (2 ^ p.0)) (2 ^ p.0) (power_itself 64 0 p.0 p.2 p.3))
