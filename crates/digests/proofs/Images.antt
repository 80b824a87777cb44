-- What bits of CRC32-C make of a number, looked up: from what they make of its single bits, by one computed test of these.
-- Assumes nothing.
use Rattle.std.proofs.Common.{◌≡◌, ℕ, zero, suc, ◌+◌, ◌*◌, ◌/◌, ◌%◌, ◌^◌, ◌<◌, Bool, true, false, cond, ◌&&◌, T, eqb, List, [], ◌∷◌, ◌++◌, length, slice_index_or, suc-add, sym, refl, ap, ◌∙◌, add-zero, zero-add, one-add, zero-mul, one-mul, mul-one, mul_assoc, mul_comm, add-mul, div-add-mod', mod-lt, pow_pos, arith, eqb→eq}
use native.Mathlib.Nat.{two-pow-succ, pow-succ'}
use lib.Bits.{bit_xor, xor_comm, xor_shifted}
use Rattle.std.specs.List.{concat}
use Rattle.digests.specs.Columns.{columns, columns_from, digits_from}
use Rattle.digests.specs.Crc.{crc_bit, crc_bits}
use Rattle.digests.specs.Mixed.{mixed}
use Rattle.digests.proofs.Linear.{digit, bits_xor, bits_add, bits_down, bits_last, bits_zero}
use Rattle.digests.proofs.Mixed.{Fives, mixed_from, mixed_low}

-- a number's lowest bit and the rest, each at its place
lowest : (n i x : ℕ) → crc_bits n (x * 2 ^ i) ≡ bit_xor (crc_bits n (x % 2 * 2 ^ i)) (crc_bits n (x / 2 * 2 ^ suc i))
lowest n i x =
    let whole : x * 2 ^ i ≡ x / 2 * 2 ^ suc i + x % 2 * 2 ^ i =
    ap (λ (y : ℕ). y * 2 ^ i) (sym (div-add-mod' x 2)) ∙ add-mul (x / 2 * 2) (x % 2) (2 ^ i) ∙ rw (mul_assoc (x / 2) 2 (2 ^ i), pow-succ' 2 i) refl in
    let low : x % 2 * 2 ^ i < 2 ^ suc i =
    digit (λ (d : ℕ). d * 2 ^ i < 2 ^ suc i) (rw zero-mul (pow_pos (suc i))) (rw (one-mul, two-pow-succ) (omega (arith, pow_pos i))) (x % 2) (omega arith) in
    ap (crc_bits n) (whole ∙ sym (xor_shifted (x / 2) (suc i) (x % 2 * 2 ^ i) low) ∙ xor_comm (x / 2 * 2 ^ suc i) (x % 2 * 2 ^ i))
    ∙ bits_xor n (x % 2 * 2 ^ i) (x / 2 * 2 ^ suc i)

length_columns : (n i w : ℕ) → length (columns_from n i w) ≡ w
unfolding columns_from
length_columns n i zero = refl
length_columns n i (suc w) = ap suc (length_columns n (suc i) w)

-- mixed by a number of w bits they are what the bits make of it
pub columns_mix : (n i w x : ℕ) → x < 2 ^ w → mixed 0 (columns_from n i w) x ≡ crc_bits n (x * 2 ^ i)
unfolding mixed columns_from
columns_mix n i zero x h =
    let e : x ≡ 0 = omega arith in
    sym (bits_zero n) ∙ ap (crc_bits n) (rw (e, zero-mul) refl)
columns_mix n i (suc w) x h =
    let b : ℕ = crc_bits n (2 ^ i) in
    let bs : List ℕ = columns_from n (suc i) w in
    let rest : mixed 0 bs (x / 2) ≡ crc_bits n (x / 2 * 2 ^ suc i) = columns_mix n (suc i) w (x / 2) (omega (arith, rw two-pow-succ at h)) in
    rw (lowest n i x)
    (digit (λ (d : ℕ). mixed (cond (eqb d 1) (bit_xor 0 b) 0) bs (x / 2) ≡ bit_xor (crc_bits n (d * 2 ^ i)) (crc_bits n (x / 2 * 2 ^ suc i)))
    (rw (zero-mul, bits_zero n) rest)
    (mixed_from b bs (x / 2) ∙ rw (one-mul, rest) refl)
    (x % 2) (omega arith))

-- one bit is one bit further than the next
one_further : (n i : ℕ) → crc_bits n (2 ^ i) ≡ crc_bit (crc_bits n (2 ^ suc i))
one_further n i =
    let up : 2 ^ i * 2 ≡ 2 ^ suc i = mul_comm (2 ^ i) 2 ∙ sym (pow-succ' 2 i) in
    sym (bits_down 1 n (2 ^ i)) ∙ ap (λ (m : ℕ). crc_bits m (2 ^ i * 2 ^ 1)) (one-add n) ∙ ap (crc_bits (suc n)) up ∙ bits_last n (2 ^ suc i)

-- the first number, or v where there is none
abbrev first_of : ℕ → List ℕ → ℕ
first_of v [] = v
first_of v (b ∷ bs) = b

-- whether each number is one bit further than the one behind it, and the last one bit further than v
unfoldable pub descend : ℕ → List ℕ → Bool
unfolding crc_bit
descend v [] = true
descend v (b ∷ bs) = eqb b (crc_bit (first_of v bs)) && descend v bs

pub and_left : (a b : Bool) → T (a && b) → T a
and_left true b t = tt
and_left false b t = t

pub and_right : (a b : Bool) → T (a && b) → T b
and_right true b t = t
and_right false b t = absurd t

-- numbers that pass the test are what the bits make of single bits
pub passes : (n i v : ℕ) (bs : List ℕ) → v ≡ crc_bits n (2 ^ (i + length bs)) → T (descend v bs) → bs ≡ columns_from n i (length bs)
unfolding descend columns_from
passes n i v [] e t = refl
passes n i v (b ∷ bs) e t =
    let f : v ≡ crc_bits n (2 ^ (suc i + length bs)) = e ∙ ap (λ (k : ℕ). crc_bits n (2 ^ k)) (omega arith) in
    let rest : bs ≡ columns_from n (suc i) (length bs) = passes n (suc i) v bs f (and_right (eqb b (crc_bit (first_of v bs))) (descend v bs) t) in
    let one : b ≡ crc_bit (first_of v bs) = eqb→eq b (crc_bit (first_of v bs)) (and_left (eqb b (crc_bit (first_of v bs))) (descend v bs) t) in
    ap (λ (y : ℕ). y ∷ bs) (one ∙ ap crc_bit (next bs rest f) ∙ sym (one_further n i)) ∙ ap (λ (ys : List ℕ). crc_bits n (2 ^ i) ∷ ys) rest
  where
    next : (bs : List ℕ) → bs ≡ columns_from n (suc i) (length bs) → v ≡ crc_bits n (2 ^ (suc i + length bs)) → first_of v bs ≡ crc_bits n (2 ^ suc i)
    next [] r f = f ∙ ap (λ (k : ℕ). crc_bits n (2 ^ k)) (add-zero (suc i))
    next (c ∷ cs) r f = ap (first_of v) r

-- two parts of them
columns_append : (n i a b : ℕ) → columns_from n i a ++ columns_from n (i + a) b ≡ columns_from n i (a + b)
unfolding columns_from
columns_append n i zero b = rw (add-zero, zero-add) refl
columns_append n i (suc a) b =
    let same : i + suc a ≡ suc i + a = omega arith in
    rw (suc-add a b, same) (ap (λ (ys : List ℕ). crc_bits n (2 ^ i) ∷ ys) (columns_append n (suc i) a b))

-- digit by digit they are the same
concat_digits : (n i d : ℕ) → concat (digits_from n i d) ≡ columns_from n i (5 * d)
unfolding digits_from columns_from
concat_digits n i zero = refl
concat_digits n i (suc d) =
    let more : 5 + 5 * d ≡ 5 * suc d = omega arith in
    ap (λ (ys : List ℕ). columns_from n i 5 ++ ys) (concat_digits n (i + 5) d) ∙ columns_append n i 5 (5 * d) ∙ ap (columns_from n i) more

fives_columns : (n i d k : ℕ) → k < d → length (slice_index_or (digits_from n i d) k []) ≡ 5
unfolding digits_from
fives_columns n i zero k l = absurd (omega (arith, l))
fives_columns n i (suc d) zero l = length_columns n i 5
fives_columns n i (suc d) (suc k) l = fives_columns n (i + 5) d k (omega (arith, l))

length_digits : (n i d : ℕ) → length (digits_from n i d) ≡ d
unfolding digits_from
length_digits n i zero = refl
length_digits n i (suc d) = ap suc (length_digits n (i + 5) d)

pub fives : (n d : ℕ) (ds : List (List ℕ)) → ds ≡ columns n d → Fives ds
fives n d ds e k l =
    ap (λ (ys : List (List ℕ)). length (slice_index_or ys k [])) e ∙ fives_columns n 0 d k (rw (ap length e ∙ length_digits n 0 d) at l)

-- a list by fives
unfoldable pub by_fives : List ℕ → List (List ℕ)
by_fives (a ∷ b ∷ c ∷ d ∷ e ∷ xs) = (a ∷ b ∷ c ∷ d ∷ e ∷ []) ∷ by_fives xs
by_fives xs = []

fives_digits : (n i d : ℕ) → by_fives (columns_from n i (5 * d)) ≡ digits_from n i d
unfolding digits_from columns_from by_fives
fives_digits n i zero = refl
fives_digits n i (suc d) =
    let more : 5 * suc d ≡ suc (suc (suc (suc (suc (5 * d))))) = omega arith in
    let up : suc (suc (suc (suc (suc i)))) ≡ i + 5 = omega arith in
    ap (λ (w : ℕ). by_fives (columns_from n i w)) more ∙ ap (λ (j : ℕ). columns_from n i 5 ∷ by_fives (columns_from n j (5 * d))) up
    ∙ ap (λ (ys : List (List ℕ)). columns_from n i 5 ∷ ys) (fives_digits n (i + 5) d)

-- d digits that pass the test, where v is what the bits make of the bit behind them
pub images : (n d : ℕ) (ds : List (List ℕ)) {v : ℕ} → v ≡ crc_bits n (2 ^ (5 * d)) → length (concat ds) ≡ 5 * d → ds ≡ by_fives (concat ds) → T (descend v (concat ds)) → ds ≡ columns n d
images n d ds {v} e l f t =
    let flat : concat ds ≡ columns_from n 0 (5 * d) =
    passes n 0 v (concat ds) (e ∙ ap (λ (k : ℕ). crc_bits n (2 ^ k)) (sym l ∙ sym (zero-add (length (concat ds))))) t ∙ ap (columns_from n 0) l in
    f ∙ ap by_fives flat ∙ fives_digits n 0 d

-- which k bits more make of what m bits make of 1
pub reached : (w m k : ℕ) {a : ℕ} → a ≡ crc_bits m 1 → crc_bits k a ≡ crc_bits (w + (m + k)) (2 ^ w)
reached w m k e = ap (crc_bits k) e ∙ sym (bits_add m k 1) ∙ sym (bits_down w (m + k) 1) ∙ ap (crc_bits (w + (m + k))) (one-mul (2 ^ w))

-- what a number mixes of them is what the bits make of its d lowest digits
pub looked_up : (n d : ℕ) (ds : List (List ℕ)) (x : ℕ) {r : ℕ} → ds ≡ columns n d → r ≡ mixed 0 (concat ds) x → r ≡ crc_bits n (x % 2 ^ (5 * d))
looked_up n d ds x e f =
    let w : ℕ = 5 * d in
    let flat : concat ds ≡ columns_from n 0 w = ap concat e ∙ concat_digits n 0 d in
    let low : x % 2 ^ w < 2 ^ w = mod-lt x (pow_pos w) in
    f ∙ ap (λ (ys : List ℕ). mixed 0 ys x) flat ∙ sym (mixed_low 0 (columns_from n 0 w) x)
    ∙ ap (λ (k : ℕ). mixed 0 (columns_from n 0 w) (x % 2 ^ k)) (length_columns n 0 w) ∙ columns_mix n 0 w (x % 2 ^ w) low ∙ ap (crc_bits n) (mul-one (x % 2 ^ w))
