-- Laws of `word` and `bytes_of`, and the bytes that std reads and writes.
-- Assumes nothing.
use Prim.Native.Nat.{ℕ, zero, suc, ◌+◌, ◌*◌, ◌^◌, ◌/◌, ◌≤◌, ◌<◌, ◌%◌, ◌-◌}
use mathlib.Core.Path.{◌≡◌, refl, sym, ap, ap₂, ◌∙◌}
use mathlib.Core.List.{List, [], ◌∷◌, ◌++◌}
use native.Mathlib.Nat.{add-zero, zero-add, suc-add, mul_assoc, mul_comm, one-mul, div-one, pow-suc, pow-succ', mod-lt, div-div-eq-div-mul}
use native.Mathlib.Omega.{arith}
use lib.Arith.{digits_div, digits_mod, mod-mul}
use lib.Dec.{lit<}
use lib.ListN.{length, get_or, take, drop}
use lib.Seq.{take-suc, length-take-le, take_all}
use Rattle.std.specs.Int.{byte_at, byte_worth, bytes_low_first, sum_through}
use Rattle.std.specs.Array.{IsWholeChunk}
use Rattle.numbers.specs.Bytes.{put, part, word, bytes_of}
use Rattle.numbers.proofs.Put.{range_part, length_part, put_put}

-- a word in two pieces
pub word_append : (xs ys : List ℕ) → word (xs ++ ys) ≡ word xs + 256 ^ length xs * word ys
unfolding word
word_append [] ys = rw one-mul (omega arith)
word_append (x ∷ xs) ys = rw (word_append xs ys, pow-succ', mul_assoc 256) (omega arith)

-- the bytes of a number in two pieces
pub bytes_add : (n m x : ℕ) → bytes_of (n + m) x ≡ bytes_of n x ++ bytes_of m (x / 256 ^ n)
unfolding bytes_of
bytes_add zero m x = rw (zero-add, div-one) refl
bytes_add (suc n) m x = rw (suc-add, pow-succ', ← div-div-eq-div-mul x 256) (ap (λ (l : List ℕ). x % 256 ∷ l) (bytes_add n m (x / 256)))

-- powers of 256 are positive
pub pow_pos : (n : ℕ) → zero < 256 ^ n
pow_pos zero = lit< tt
pow_pos (suc n) = rw pow-suc (omega (arith, pow_pos n))

-- only the lowest n bytes of a number are among them
pub bytes_mod : (n x : ℕ) → bytes_of n (x % 256 ^ n) ≡ bytes_of n x
unfolding bytes_of
bytes_mod zero x = refl
bytes_mod (suc n) x =
    let low : x % 256 < 256 = mod-lt x (lit< tt) in
    rw (pow-suc, mod-mul x (pow_pos n) (lit< tt), digits_mod (x / 256 % 256 ^ n) low, digits_div (x / 256 % 256 ^ n) low)
    (ap (λ (l : List ℕ). x % 256 ∷ l) (bytes_mod n (x / 256)))

-- the two halves of a number, put one behind the other
pub two_words : (s : List ℕ) (at x : ℕ) {s₁ s₂ : List ℕ} → at + 8 ≤ length s → s₁ ≡ put s at (bytes_of 4 (x % 4294967296))
    → s₂ ≡ put s₁ (at + 4) (bytes_of 4 (x / 4294967296)) → s₂ ≡ put s at (bytes_of 8 x)
unfolding bytes_of
two_words s at x h first second =
    second ∙ ap (λ (l : List ℕ). put l (at + 4) (bytes_of 4 (x / 4294967296))) first
    ∙ rw (bytes_mod 4 x, bytes_add 4 4 x) (put_put s at (bytes_of 4 x) (bytes_of 4 (x / 4294967296)) (omega arith))

-- what the bytes up to one are worth is their word
worth : (bs : List ℕ) (k : ℕ) → k < length bs → sum_through (λ (i : ℕ). byte_worth i (get_or bs i 0)) k ≡ word (take (suc k) bs)
unfolding word
worth bs zero l = rw (take-suc bs zero 0 l) (omega arith)
worth bs (suc k) l =
    rw (take-suc bs (suc k) 0 l, word_append (take (suc k) bs) (get_or bs (suc k) 0 ∷ []), length-take-le (suc k) bs (omega arith), worth bs k (omega arith), mul_comm (256 ^ suc k), add-zero) refl

-- the number that std reads from n + 1 bytes
pub read_bytes : (n : ℕ) (bs : List ℕ) → length bs ≡ suc n → sum_through (λ (i : ℕ). byte_worth i (get_or bs i 0)) n ≡ word bs
read_bytes n bs size = worth bs n (omega arith) ∙ ap word (take_all (suc n) bs (omega arith))

-- and from those of a part
pub from_part : (s : List ℕ) (at n x : ℕ) (bs : List ℕ) → at + suc n ≤ length s → IsWholeChunk (take (at + suc n - at) (drop at s)) bs (suc n)
    → x ≡ sum_through (λ (i : ℕ). byte_worth i (get_or bs i 0)) n → x ≡ word (part s at (suc n))
from_part s at n x bs fits whole read =
    let same : bs ≡ part s at (suc n) = whole.same ∙ range_part s at (at + suc n) (suc n) refl in
    read ∙ read_bytes n bs (ap length same ∙ length_part s at (suc n) fits) ∙ ap word same

byte : (i x : ℕ) → byte_at i x ≡ x / 256 ^ i % 256
byte zero x = ap (λ (y : ℕ). y % 256) (sym (div-one x))
byte (suc i) x = refl

upward : (i n x : ℕ) → bytes_low_first i n x ≡ bytes_of n (x / 256 ^ i)
unfolding bytes_of
upward i zero x = refl
upward i (suc n) x =
    ap₂ ◌∷◌ (byte i x) (upward (suc i) n x ∙ ap (bytes_of n) (rw pow-suc (sym (div-div-eq-div-mul x (256 ^ i) 256))))

-- the n bytes that std makes of a number
pub to_bytes : (n x : ℕ) → bytes_low_first 0 n x ≡ bytes_of n x
to_bytes n x = upward 0 n x ∙ ap (bytes_of n) (div-one x)
