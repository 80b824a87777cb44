-- A CRC and a hash go on from piece to piece; a CRC is what bits make of the bytes as one number.
-- Assumes nothing.
use Rattle.std.proofs.Common.{◌≡◌, ℕ, zero, suc, ◌+◌, ◌*◌, ◌/◌, ◌%◌, ◌^◌, ◌<◌, ◌≤◌, Bool, true, false, ◌&&◌, eqb, List, [], ◌∷◌, ◌++◌, length, get_or, drop, replicate, sym, refl, ap, ◌∙◌, true≢false, mul_comm, add_comm, add-one, arith, take-append-drop, drop_of_length-le, drop-cons, drop-drop, pow-add, eqb-true}
use native.Mathlib.Nat.{div-eq_of_lt, pow-succ'}
use lib.Bits.{bit_xor, xor_comm, xor_zero_r, xor_shr, xor_shifted}
use Rattle.std.specs.Int.Bits.{xor_assoc}
use Rattle.numbers.specs.Bytes.{Bytes, part, word, all_zero}
use Rattle.numbers.proofs.Bytes.{part_bytes, word_bound}
use Rattle.numbers.proofs.Put.{length_part, part_add}
use Rattle.numbers.proofs.Word.{word_append}
use Rattle.numbers.proofs.Zeros.{word_zeros}
use Rattle.digests.specs.Crc.{crc_bits, crc_from}
use Rattle.digests.specs.Fnv.{fnv_from}
use Rattle.digests.proofs.Linear.{bits_xor, bits_add, bits_zero, bits_shift, bits_down, in_parts}

-- a CRC in two pieces
pub crc_append : (c : ℕ) (a b : List ℕ) → crc_from c (a ++ b) ≡ crc_from (crc_from c a) b
unfolding crc_from
crc_append c [] b = refl
crc_append c (x ∷ a) b = crc_append (crc_bits 8 (bit_xor c x)) a b

-- eight more bits for each byte
eight_more : (n c : ℕ) → crc_bits (8 * suc n) c ≡ crc_bits (8 * n) (crc_bits 8 c)
eight_more n c =
    let more : 8 * suc n ≡ 8 + 8 * n = omega arith in
    ap (λ (k : ℕ). crc_bits k c) more ∙ bits_add 8 (8 * n) c

-- one byte: eight bits of its low eight, and the others
pub crc_byte : (c b : ℕ) {r : ℕ} → b < 256 → r ≡ crc_bits 8 (bit_xor c b % 256) → bit_xor r (c / 256) ≡ crc_from c (b ∷ [])
unfolding crc_from crc_bits
crc_byte c b h e =
    let high : bit_xor c b / 256 ≡ c / 256 = xor_shr c b 8 ∙ ap (bit_xor (c / 256)) (div-eq_of_lt h) ∙ xor_zero_r (c / 256) in
    in_parts 8 0 (bit_xor c b) e (sym high)

bits_none : (c : ℕ) → crc_bits (8 * 0) c ≡ c
unfolding crc_bits
bits_none c = refl

-- what a state makes of bytes is what it makes of as many zeros, and what state 0 makes of the bytes
pub crc_from_lem : (c : ℕ) (s : List ℕ) → crc_from c s ≡ bit_xor (crc_bits (8 * length s) c) (crc_from 0 s)
unfolding crc_from
crc_from_lem c [] = sym (xor_zero_r (crc_bits 0 c) ∙ bits_none c)
crc_from_lem c (b ∷ s) =
    let n : ℕ = 8 * length s in
    let apart : crc_bits n (crc_bits 8 (bit_xor c b)) ≡ bit_xor (crc_bits n (crc_bits 8 c)) (crc_bits n (crc_bits 8 b)) =
    ap (crc_bits n) (bits_xor 8 c b) ∙ bits_xor n (crc_bits 8 c) (crc_bits 8 b) in
    rw (eight_more (length s) c, crc_from_lem (crc_bits 8 (bit_xor c b)) s, crc_from_lem (crc_bits 8 b) s, apart)
    (xor_assoc (crc_bits n (crc_bits 8 c)) (crc_bits n (crc_bits 8 b)) (crc_from 0 s))

-- zeros
pub crc_zeros : (c : ℕ) (s : List ℕ) → all_zero s ≡ true → crc_from c s ≡ crc_bits (8 * length s) c
unfolding crc_from all_zero
crc_zeros c [] e = sym (bits_none c)
crc_zeros c (b ∷ s) e = go (eqb b 0) refl e (crc_zeros (crc_bits 8 c) s)
  where
    go : (t : Bool) → eqb b 0 ≡ t → t && all_zero s ≡ true → (all_zero s ≡ true → crc_from (crc_bits 8 c) s ≡ crc_bits (8 * length s) (crc_bits 8 c))
        → crc_from (crc_bits 8 (bit_xor c b)) s ≡ crc_bits (8 * suc (length s)) c
    go true q r rest = rw (eqb-true b 0 q, xor_zero_r c, eight_more (length s) c) (rest r)
    go false q r rest = absurd (true≢false (sym r))

-- a number that stands above the bits of another is added to it by exclusive or
above : (n c x w : ℕ) → x < 2 ^ n → bit_xor c (x + w * 2 ^ n) ≡ bit_xor (bit_xor c x) (w * 2 ^ n)
above n c x w h =
    let together : x + w * 2 ^ n ≡ bit_xor x (w * 2 ^ n) = add_comm x (w * 2 ^ n) ∙ sym (xor_shifted w n x h) ∙ xor_comm (w * 2 ^ n) x in
    ap (bit_xor c) together ∙ sym (xor_assoc c x (w * 2 ^ n))

-- eight bits of a number whose lowest byte is b, under the state
one_byte : (c b w : ℕ) → b < 256 → crc_bits 8 (bit_xor c (b + 256 * w)) ≡ bit_xor (crc_bits 8 (bit_xor c b)) w
one_byte c b w h =
    ap (λ (x : ℕ). crc_bits 8 (bit_xor c (b + x))) (mul_comm 256 w) ∙ ap (crc_bits 8) (above 8 c b w h)
    ∙ bits_xor 8 (bit_xor c b) (w * 256) ∙ ap (bit_xor (crc_bits 8 (bit_xor c b))) (bits_shift 8 w)

-- the bytes as one number, the state added to its lowest bits
pub crc_number : (c : ℕ) (s : List ℕ) → Bytes s → crc_from c s ≡ crc_bits (8 * length s) (bit_xor c (word s))
unfolding crc_from word
crc_number c [] h = sym (ap (crc_bits 0) (xor_zero_r c) ∙ bits_none c)
crc_number c (b ∷ s) h =
    rw (crc_number (crc_bits 8 (bit_xor c b)) s (λ i. h (suc i)), eight_more (length s) (bit_xor c (b + 256 * word s)))
    (ap (crc_bits (8 * length s)) (sym (one_byte c b (word s) (h 0))))

bytes_bits : (n : ℕ) → 256 ^ n ≡ 2 ^ (8 * n)
bytes_bits zero = refl
bytes_bits (suc n) =
    let more : 8 * suc n ≡ 8 + 8 * n = omega arith in
    pow-succ' 256 n ∙ ap (λ (x : ℕ). 256 * x) (bytes_bits n) ∙ sym (ap (◌^◌ 2) more ∙ pow-add 2 8 (8 * n))

-- n bytes and others behind them: what the first make under a state, and what the others make by themselves
pub behind : (c : ℕ) (xs ys : List ℕ) (n m : ℕ) {p q : ℕ} → Bytes xs → length xs ≡ n → p ≡ crc_bits (8 * n + m) (bit_xor c (word xs)) → q ≡ crc_bits m (word ys)
    → bit_xor p q ≡ crc_bits (8 * n + m) (bit_xor c (word (xs ++ ys)))
behind c xs ys n m {p} {q} h l e f =
    let low : word xs < 2 ^ (8 * n) = rw (l, bytes_bits n) at (word_bound xs h) in
    let whole : word (xs ++ ys) ≡ word xs + word ys * 2 ^ (8 * n) =
    word_append xs ys ∙ ap (λ (x : ℕ). word xs + x) (mul_comm (256 ^ length xs) (word ys) ∙ ap (λ (k : ℕ). word ys * 256 ^ k) l ∙ ap (λ (x : ℕ). word ys * x) (bytes_bits n)) in
    rw (whole, above (8 * n) c (word xs) (word ys) low, bits_xor (8 * n + m) (bit_xor c (word xs)) (word ys * 2 ^ (8 * n)), bits_down (8 * n) m (word ys), e, f) refl

-- zeros behind others change nothing
pub zeros_behind : (c : ℕ) (xs : List ℕ) (k n m : ℕ) {p : ℕ} → Bytes xs → length xs ≡ n → p ≡ crc_bits (8 * n + m) (bit_xor c (word xs))
    → p ≡ crc_bits (8 * n + m) (bit_xor c (word (xs ++ replicate k 0)))
zeros_behind c xs k n m {p} h l e = sym (xor_zero_r p) ∙ behind c xs (replicate k 0) n m h l e (rw (word_zeros k) (sym (bits_zero m)))

-- a part in two pieces
pub part_behind : (c : ℕ) (s : List ℕ) (at n k m : ℕ) {p q : ℕ} → Bytes s → at + n ≤ length s
    → p ≡ crc_bits (8 * n + m) (bit_xor c (word (part s at n))) → q ≡ crc_bits m (word (part s (at + n) k)) → bit_xor p q ≡ crc_bits (8 * n + m) (bit_xor c (word (part s at (n + k))))
part_behind c s at n k m h l e f =
    behind c (part s at n) (part s (at + n) k) n m (part_bytes s at n h) (length_part s at n l) e f
    ∙ ap (λ (xs : List ℕ). crc_bits (8 * n + m) (bit_xor c (word xs))) (sym (part_add s at n k))

-- the next byte
pub crc_next : (c : ℕ) (s : List ℕ) (i : ℕ) → i < length s → {next : ℕ} → next ≡ crc_from c (get_or s i 0 ∷ []) → crc_from c (drop i s) ≡ crc_from next (drop (i + 1) s)
unfolding crc_from
crc_next c s i h e = rw (add-one, drop-cons s i 0, e) refl

-- the next eight bytes, as a word
pub crc_word : (c : ℕ) (s : List ℕ) (i : ℕ) → Bytes s → i + 8 ≤ length s → {next : ℕ} → next ≡ crc_bits 64 (bit_xor c (word (part s i 8)))
    → crc_from c (drop i s) ≡ crc_from next (drop (i + 8) s)
unfolding part
crc_word c s i h l e =
    ap (crc_from c) (sym (take-append-drop 8 (drop i s))) ∙ crc_append c (part s i 8) (drop 8 (drop i s))
    ∙ rw (crc_number c (part s i 8) (part_bytes s i 8 h), length_part s i 8 l, ← e, drop-drop 8 i s) refl

-- with no byte left
pub crc_end : (c : ℕ) (s : List ℕ) (i : ℕ) → length s ≤ i → crc_from c (drop i s) ≡ c
unfolding crc_from
crc_end c s i l = rw (drop_of_length-le s l) refl

-- the hash goes on with the byte at i
pub fnv_next : (h : ℕ) (s : List ℕ) (i : ℕ) → i < length s → {b next : ℕ}
    → b ≡ get_or s i 0 → next ≡ bit_xor h b * 1099511628211 % 2 ^ 64 → fnv_from h (drop i s) ≡ fnv_from next (drop (i + 1) s)
unfolding fnv_from
fnv_next h s i l e f = rw (add-one, drop-cons s i 0, f, e) refl

-- with no byte left the hash is h
pub fnv_end : (h : ℕ) (s : List ℕ) (i : ℕ) → length s ≤ i → fnv_from h (drop i s) ≡ h
unfolding fnv_from
fnv_end h s i l = rw (drop_of_length-le s l) refl
