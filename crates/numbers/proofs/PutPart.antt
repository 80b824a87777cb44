-- What a put leaves where: bytes and parts of a list after a put, and a word read back.
-- Assumes nothing.
use Prim.Native.Nat.{ℕ, zero, suc, ◌+◌, ◌-◌, ◌%◌, ◌/◌, ◌^◌, ◌≤◌, ◌<◌, min}
use mathlib.Core.Path.{◌≡◌, refl, sym, ap, ◌∙◌}
use mathlib.Core.List.{List, ◌++◌, append_assoc}
use native.Mathlib.Nat.{add_assoc, pow-suc, mod-one}
use native.Mathlib.Omega.{arith}
use lib.Arith.{mod-mul}
use lib.Dec.{lit<}
use lib.ListN.{length, get_or, take, drop, length-append, length-take, length-drop, get_or-append}
use lib.Seq.{get_or-take, get_or-drop, get_or-append-add, length-take-le, ext_get_or}
use Rattle.numbers.specs.Bytes.{part, word, bytes_of, put}
use Rattle.numbers.proofs.Put.{length_put, length_part}
use Rattle.numbers.proofs.Word.{pow_pos}

-- a byte of a part is a byte of the list
pub get_d_part : (s : List ℕ) (a n i : ℕ) → i < n → get_or (part s a n) i 0 ≡ get_or s (a + i) 0
unfolding part
get_d_part s a n i h = rw (get_or-take n (drop a s) i 0 h) (get_or-drop a s i 0)

length_of_part : (s : List ℕ) (a n : ℕ) → length (part s a n) ≡ min n (length s - a)
unfolding part
length_of_part s a n = rw (length-take, length-drop) refl

-- lists of one length that agree on a part have that part in common
pub part_same : (s t : List ℕ) (a n : ℕ) → length s ≡ length t → ((i : ℕ) → i < n → get_or s (a + i) 0 ≡ get_or t (a + i) 0)
    → part s a n ≡ part t a n
part_same s t a n e h = ext_get_or 0 (part s a n) (part t a n) (length_of_part s a n ∙ ap (λ (m : ℕ). min n (m - a)) e ∙ sym (length_of_part t a n)) each
  where
    inside : (i : ℕ) → i < length (part s a n) → i < n
    inside i l = omega (arith, length_of_part s a n)

    each : (i : ℕ) → i < length (part s a n) → get_or (part s a n) i 0 ≡ get_or (part t a n) i 0
    each i l = get_d_part s a n i (inside i l) ∙ h i (inside i l) ∙ sym (get_d_part t a n i (inside i l))

module _ (s : List ℕ) (at : ℕ) (bs : List ℕ) (fits : at + length bs ≤ length s) where
  head : length (take at s) ≡ at
  head = length-take-le at s (omega arith)

  pub get_d_put_before : (i : ℕ) → i < at → get_or (put s at bs) i 0 ≡ get_or s i 0
  unfolding put
  get_d_put_before i l =
      rw (append_assoc (take at s) bs (drop (at + length bs) s), get_or-append (take at s) (bs ++ drop (at + length bs) s) 0 i (omega (arith, head)))
      (get_or-take at s i 0 l)

  pub get_d_put_at : (j : ℕ) → j < length bs → get_or (put s at bs) (at + j) 0 ≡ get_or bs j 0
  unfolding put
  get_d_put_at j l =
      let e : at + j ≡ length (take at s) + j = omega (arith, head) in
      rw (append_assoc (take at s) bs (drop (at + length bs) s), e, get_or-append-add (take at s) (bs ++ drop (at + length bs) s) j 0)
      (get_or-append bs (drop (at + length bs) s) 0 j l)

  pub get_d_put_after : (i : ℕ) → at + length bs ≤ i → get_or (put s at bs) i 0 ≡ get_or s i 0
  unfolding put
  get_d_put_after i l =
      let p : List ℕ = take at s ++ bs in
      let n : length p ≡ at + length bs = length-append (take at s) bs ∙ ap (λ (m : ℕ). m + length bs) head in
      let j : ℕ = i - (at + length bs) in
      let e : i ≡ length p + j = omega arith in
      let e' : at + length bs + j ≡ i = omega arith in
      rw (ap (λ (m : ℕ). get_or (p ++ drop (at + length bs) s) m 0) e, get_or-append-add p (drop (at + length bs) s) j 0, get_or-drop (at + length bs) s j 0, e') refl

  -- a part that what was put does not reach
  pub part_put_before : (a n : ℕ) → a + n ≤ at → part (put s at bs) a n ≡ part s a n
  part_put_before a n l = part_same (put s at bs) s a n (length_put s at bs fits) (λ i h. get_d_put_before (a + i) (omega arith))

  pub part_put_after : (a n : ℕ) → at + length bs ≤ a → part (put s at bs) a n ≡ part s a n
  part_put_after a n l = part_same (put s at bs) s a n (length_put s at bs fits) (λ i h. get_d_put_after (a + i) (omega arith))

  -- a part of what was put
  pub part_put_in : (j n : ℕ) → j + n ≤ length bs → part (put s at bs) (at + j) n ≡ part bs j n
  part_put_in j n l =
      let e : length (part (put s at bs) (at + j) n) ≡ n = length_part (put s at bs) (at + j) n (rw (length_put s at bs fits) (omega arith)) in
      ext_get_or 0 (part (put s at bs) (at + j) n) (part bs j n) (e ∙ sym (length_part bs j n l)) (λ i h. each i (omega arith))
    where
      each : (i : ℕ) → i < n → get_or (part (put s at bs) (at + j) n) i 0 ≡ get_or (part bs j n) i 0
      each i h =
          get_d_part (put s at bs) (at + j) n i h
          ∙ ap (λ (m : ℕ). get_or (put s at bs) m 0) (add_assoc at j i)
          ∙ get_d_put_at (j + i) (omega arith)
          ∙ sym (get_d_part bs j n i h)

pub length_bytes : (n x : ℕ) → length (bytes_of n x) ≡ n
unfolding bytes_of
length_bytes zero x = refl
length_bytes (suc n) x = ap suc (length_bytes n (x / 256))

-- the bytes of a number are read back as the number
pub word_bytes : (n x : ℕ) → word (bytes_of n x) ≡ x % 256 ^ n
unfolding word bytes_of
word_bytes zero x = sym (mod-one x)
word_bytes (suc n) x = rw (word_bytes n (x / 256), pow-suc, mod-mul x (pow_pos n) (lit< tt)) (omega arith)
