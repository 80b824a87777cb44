-- Bytes that are written into slots and buckets, and what is read back.
-- Assumes nothing.
use Prim.Native.Nat.{ℕ, ◌+◌, ◌*◌, ◌%◌, ◌^◌, ◌≤◌, ◌<◌}
use mathlib.Core.Path.{◌≡◌, sym, ap, ◌∙◌}
use mathlib.Core.List.{List, [], ◌∷◌}
use native.Mathlib.Nat.{add-zero, add_assoc, mod-lt, mod-eq_of_lt}
use native.Mathlib.Omega.{arith}
use lib.Bits.{bit_xor}
use lib.Dec.{lit<}
use lib.ListN.{length, get_or, replicate}
use lib.Seq.{ext_get_or, take_all}
use Rattle.numbers.specs.Bytes.{part, word, bytes_of, put}
use Rattle.numbers.proofs.Put.{length_part}
use Rattle.numbers.proofs.PutPart.{get_d_part, part_put_in, length_bytes, word_bytes}
use Rattle.digests.specs.Fnv.{fnv_from, fnv1a64}
use Rattle.numbers.proofs.Zeros.{part_zeros}

-- a part of a part is a part
pub part_part : (s : List ℕ) (a n j m : ℕ) → a + n ≤ length s → j + m ≤ n → part (part s a n) j m ≡ part s (a + j) m
part_part s a n j m fits l =
    let whole : length (part s a n) ≡ n = length_part s a n fits in
    let inner : length (part (part s a n) j m) ≡ m = length_part (part s a n) j m (omega arith) in
    let outer : length (part s (a + j) m) ≡ m = length_part s (a + j) m (omega arith) in
    ext_get_or 0 (part (part s a n) j m) (part s (a + j) m) (inner ∙ sym outer) (λ i h. each i (omega arith))
  where
    each : (i : ℕ) → i < m → get_or (part (part s a n) j m) i 0 ≡ get_or (part s (a + j) m) i 0
    each i h =
        get_d_part (part s a n) j m i h ∙ get_d_part s a n (j + i) (omega arith) ∙ ap (λ (x : ℕ). get_or s x 0) (sym (add_assoc a j i)) ∙ sym (get_d_part s (a + j) m i h)

-- a word of zeros is 0
pub word_zeros : (n j : ℕ) → j + 8 ≤ n → word (part (replicate n 0) j 8) ≡ 0
unfolding word
word_zeros n j l = ap word (part_zeros n j 8 l)

-- a number of 64 bits, put and read back
pub word_put : (s : List ℕ) (at x : ℕ) → at + 8 ≤ length s → x < 2 ^ 64 → word (part (put s at (bytes_of 8 x)) at 8) ≡ x
unfolding part
word_put s at x fits l =
    let size = length_bytes 8 x in
    let back = part_put_in s at (bytes_of 8 x) (omega arith) 0 8 (omega arith) in
    ap word (simp add-zero at back) ∙ ap word (take_all 8 (bytes_of 8 x) (omega arith)) ∙ word_bytes 8 x ∙ mod-eq_of_lt l

-- a hash is a number of 64 bits
hash_from_fits : (h : ℕ) (s : List ℕ) → h < 2 ^ 64 → fnv_from h s < 2 ^ 64
unfolding fnv_from
hash_from_fits h [] l = l
hash_from_fits h (b ∷ bs) l = hash_from_fits (bit_xor h b * 1099511628211 % 2 ^ 64) bs (mod-lt _ (lit< tt))

pub hash_fits : (s : List ℕ) → fnv1a64 s < 2 ^ 64
unfolding fnv1a64
hash_fits s = hash_from_fits 14695981039346656037 s (lit< tt)
