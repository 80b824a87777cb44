-- The bits of CRC32-C: what they do is linear over exclusive or, and goes on from bits to bits. And a product modulo a number, as a sum.
-- Assumes nothing.
use Rattle.std.proofs.Common.{◌≡◌, ℕ, zero, suc, ◌+◌, ◌*◌, ◌/◌, ◌%◌, ◌^◌, ◌<◌, ◌≤◌, cond, eqb, sym, refl, ap, ◌∙◌, mod-eq_of_lt, suc-add, zero-add, mul-one, add-one, add_assoc, mul_assoc, add-mul, mul-add, div-add-mod', arith, pow_pos, pow_mono}
use native.Mathlib.Nat.{add-mod, mod-add-mod, add-mul-mod_self_right, two-pow-succ}
use lib.Bits.{bit_xor, xor_comm, xor_zero_r, xor_self, xor_lt, shifted_half, shifted_even}
use Rattle.digests.specs.Crc.{crc_bit, crc_bits}
use Rattle.digests.proofs.Xor.{xor_digit, xor_half, xor_pairs, xor_split}

-- p where the digit is 1
abbrev pick : ℕ → ℕ → ℕ
pick p zero = zero
pick p (suc d) = p

-- what holds of both digits holds of a digit
pub digit : (P : ℕ → Type 0) → P 0 → P 1 → (d : ℕ) → d < 2 → P d
digit P z o zero h = z
digit P z o (suc zero) h = o
digit P z o (suc (suc d)) h = absurd (omega arith)

-- the digit of a sum picks the exclusive or of what the digits pick
pick_xor : (p c d : ℕ) → pick p ((c + d) % 2) ≡ bit_xor (pick p (c % 2)) (pick p (d % 2))
pick_xor p c d =
    rw (add-mod c d 2)
    (digit (λ (x : ℕ). pick p ((x + d % 2) % 2) ≡ bit_xor (pick p x) (pick p (d % 2)))
    (digit (λ (y : ℕ). pick p ((0 + y) % 2) ≡ pick p y) refl refl (d % 2) (omega arith))
    (digit (λ (y : ℕ). pick p ((1 + y) % 2) ≡ bit_xor p (pick p y)) (sym (xor_zero_r p)) (sym (xor_self p)) (d % 2) (omega arith))
    (c % 2) (omega arith))

-- one bit, with no test
bit_pick : (c : ℕ) → crc_bit c ≡ bit_xor (c / 2) (pick 0x82F63B78 (c % 2))
unfolding crc_bit
bit_pick c =
    digit (λ (d : ℕ). cond (eqb d 1) (bit_xor (c / 2) 0x82F63B78) (c / 2) ≡ bit_xor (c / 2) (pick 0x82F63B78 d))
    (sym (xor_zero_r (c / 2))) refl (c % 2) (omega arith)

-- one bit is linear
bit_xor_lem : (c d : ℕ) → crc_bit (bit_xor c d) ≡ bit_xor (crc_bit c) (crc_bit d)
bit_xor_lem c d = rw (bit_pick, bit_pick, bit_pick, xor_half, xor_digit, pick_xor) (xor_pairs (c / 2) (d / 2) (pick 0x82F63B78 (c % 2)) (pick 0x82F63B78 (d % 2)))

-- n bits are linear
pub bits_xor : (n c d : ℕ) → crc_bits n (bit_xor c d) ≡ bit_xor (crc_bits n c) (crc_bits n d)
unfolding crc_bits
bits_xor zero c d = refl
bits_xor (suc n) c d = ap (crc_bits n) (bit_xor_lem c d) ∙ bits_xor n (crc_bit c) (crc_bit d)

-- m bits and n more
pub bits_add : (m n c : ℕ) → crc_bits (m + n) c ≡ crc_bits n (crc_bits m c)
unfolding crc_bits
bits_add zero n c = rw zero-add refl
bits_add (suc m) n c = rw suc-add (bits_add m n (crc_bit c))

-- one bit more, as the last
pub bits_last : (n c : ℕ) → crc_bits (suc n) c ≡ crc_bit (crc_bits n c)
unfolding crc_bits
bits_last n c = ap (λ (k : ℕ). crc_bits k c) (sym (add-one n)) ∙ bits_add n 1 c

-- nothing comes of 0
pub bits_zero : (n : ℕ) → crc_bits n 0 ≡ 0
unfolding crc_bits crc_bit
bits_zero zero = refl
bits_zero (suc n) = bits_zero n

-- bits that are 0 are shifted out
pub bits_shift : (n y : ℕ) → crc_bits n (y * 2 ^ n) ≡ y
unfolding crc_bits crc_bit
bits_shift zero y = mul-one y
bits_shift (suc n) y = rw (shifted_even, shifted_half) (bits_shift n y)

-- what is shifted up by n comes down by the first n bits
pub bits_down : (n m y : ℕ) → crc_bits (n + m) (y * 2 ^ n) ≡ crc_bits m y
bits_down n m y = bits_add n m (y * 2 ^ n) ∙ ap (crc_bits m) (bits_shift n y)

-- the bits of a number are those of its n lowest digits, and those of the rest, brought down
pub bits_split : (n m x : ℕ) → crc_bits (n + m) x ≡ bit_xor (crc_bits (n + m) (x % 2 ^ n)) (crc_bits m (x / 2 ^ n))
bits_split n m x =
    ap (crc_bits (n + m)) (sym (xor_split x n)) ∙ bits_xor (n + m) (x / 2 ^ n * 2 ^ n) (x % 2 ^ n)
    ∙ ap (λ (y : ℕ). bit_xor y (crc_bits (n + m) (x % 2 ^ n))) (bits_down n m (x / 2 ^ n))
    ∙ xor_comm (crc_bits m (x / 2 ^ n)) (crc_bits (n + m) (x % 2 ^ n))

-- what is picked of the polynomial has at most 32 bits
pick_lt : (k d : ℕ) → pick 0x82F63B78 d < 2 ^ (k + 32)
pick_lt k zero = pow_pos (k + 32)
pick_lt k (suc d) = let wide : 2 ^ 32 ≤ 2 ^ (k + 32) = pow_mono {i = 32} {j = k + 32} (omega arith) in omega arith

-- of a number of k + 32 bits at most 32 are left after k bits
pub bits_below : (k n c : ℕ) → c < 2 ^ (k + 32) → k ≤ n → crc_bits n c < 2 ^ 32
unfolding crc_bits
bits_below zero zero c h l = h
bits_below (suc k) zero c h l = absurd (omega arith)
bits_below zero (suc n) c h l =
    bits_below zero n (crc_bit c) (rw (bit_pick c) (xor_lt 32 (c / 2) (pick 0x82F63B78 (c % 2)) (omega arith) (pick_lt 0 (c % 2)))) (omega arith)
bits_below (suc k) (suc n) c h l =
    let half : c / 2 < 2 ^ (k + 32) = omega (arith, rw (suc-add, two-pow-succ) at h) in
    bits_below k n (crc_bit c) (rw (bit_pick c) (xor_lt (k + 32) (c / 2) (pick 0x82F63B78 (c % 2)) half (pick_lt k (c % 2)))) (omega arith)

-- a number by its low digits and the rest
pub in_parts : (n m x : ℕ) {p q : ℕ} → p ≡ crc_bits (n + m) (x % 2 ^ n) → q ≡ crc_bits m (x / 2 ^ n) → bit_xor p q ≡ crc_bits (n + m) x
in_parts n m x e f = rw (e, f) (sym (bits_split n m x))

-- by its low digits, where it has no others
pub low_alone : (n m x : ℕ) {p : ℕ} → x < 2 ^ n → p ≡ crc_bits m (x % 2 ^ n) → p ≡ crc_bits m x
low_alone n m x h e = e ∙ ap (crc_bits m) (mod-eq_of_lt h)

-- a product modulo a number: p copies of x, and k of x modulo m, are p + k copies modulo m times k
pub copies_add : (x p m k : ℕ) {a r : ℕ} → a ≡ x * p % (m * k) → r ≡ (a + x % m * k) % (m * k) → r ≡ x * (p + k) % (m * k)
copies_add x p m k ea er =
    let whole : x * k ≡ x % m * k + x / m * (m * k) =
    ap (λ (n : ℕ). n * k) (sym (div-add-mod' x m)) ∙ add-mul (x / m * m) (x % m) k ∙ rw (mul_assoc (x / m) m k) (omega arith) in
    rw (er, ea, mod-add-mod, mul-add x p k, whole, ← add_assoc (x * p), add-mul-mod_self_right) refl
