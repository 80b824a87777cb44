-- What 1,088 bits of CRC32-C make of 1, and 64 more, up to 1,920: from there the images in a header's front are reached in few bits.
-- Assumes nothing.
use Rattle.std.proofs.Common.{◌≡◌, ℕ, zero, suc, ◌+◌, ◌*◌, ◌<◌, Bool, true, ◌&&◌, T, eqb, List, [], ◌∷◌, length, get_or, sym, refl, ap, ◌∙◌, le_of_suc-le-suc, not-suc-le-zero, arith, eqb→eq}
use Rattle.digests.specs.Crc.{crc_bit, crc_bits}
use Rattle.digests.proofs.Images.{and_left, and_right}
use Rattle.digests.proofs.Linear.{bits_add}

abbrev pub powers : List ℕ
powers =
    0xC96CFDC0 ∷ 0x7E908048 ∷ 0x878A92A7 ∷ 0x1B3D8F29 ∷ 0xDAECE73E ∷ 0xF1D0F55E ∷ 0xAB7AFF2A ∷ 0xA87AB8A8 ∷ 0x2162D385 ∷ 0x8462D800 ∷ 0x83348832 ∷ 0x71D111A8 ∷ 0x299847D5 ∷ 0xFFD852C6 ∷ []

-- whether each number is 64 bits further than the one before it, the first than a
unfoldable climbs : ℕ → List ℕ → Bool
unfolding crc_bits crc_bit
climbs a [] = true
climbs a (b ∷ bs) = eqb b (crc_bits 64 a) && climbs b bs

climbing : (n a : ℕ) (bs : List ℕ) → a ≡ crc_bits n 1 → T (climbs a bs) → (k : ℕ) → k < length bs → get_or bs k 0 ≡ crc_bits (n + 64 * suc k) 1
unfolding climbs
climbing n a [] e t k h = absurd (not-suc-le-zero h)
climbing n a (b ∷ bs) e t k h =
    let one : b ≡ crc_bits (n + 64) 1 = eqb→eq b (crc_bits 64 a) (and_left (eqb b (crc_bits 64 a)) (climbs b bs) t) ∙ ap (crc_bits 64) e ∙ sym (bits_add n 64 1) in
    go k h one (climbing (n + 64) b bs one (and_right (eqb b (crc_bits 64 a)) (climbs b bs) t))
  where
    go : (k : ℕ) → k < length (b ∷ bs) → b ≡ crc_bits (n + 64) 1 → ((k : ℕ) → k < length bs → get_or bs k 0 ≡ crc_bits (n + 64 + 64 * suc k) 1)
        → get_or (b ∷ bs) k 0 ≡ crc_bits (n + 64 * suc k) 1
    go zero h one more = one
    go (suc k) h one more =
        let same : n + 64 + 64 * suc k ≡ n + 64 * suc (suc k) = omega arith in
        more k (le_of_suc-le-suc h) ∙ ap (λ (m : ℕ). crc_bits m 1) same

pub power : (k : ℕ) → k < 14 → get_or powers k 0 ≡ crc_bits (1024 + 64 * suc k) 1
unfolding climbs
power k h = climbing 1024 (crc_bits 1024 1) powers refl tt k h
