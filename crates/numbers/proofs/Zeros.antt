-- Zeros: as a word, as bytes that are all zero, and their parts.
-- Assumes nothing.
use Prim.Native.Nat.{ℕ, zero, suc, ◌+◌, ◌*◌, ◌-◌, ◌/◌, ◌≤◌, ◌<◌}
use mathlib.Core.Bool.{Bool, true, ◌&&◌, and_assoc}
use mathlib.Core.Path.{◌≡◌, refl, sym, ap, ◌∙◌}
use mathlib.Core.List.{List, [], ◌∷◌, ◌++◌}
use native.Mathlib.Nat.{mul-add}
use native.Mathlib.Omega.{arith}
use borrow.Author.Tests.{ne_eqb}
use lib.Dec.{eqb, eqb-suc-zero}
use mir.Syntax.{w64}
use lib.ListN.{length, get_or, take, drop, take-append-drop, replicate, length-replicate, get_or-replicate, length-drop}
use lib.Seq.{ext_get_or, drop-drop, length-take-le}
use Rattle.std.proofs.Common.{◌==◌}
use Rattle.std.specs.Int.{from_le_bytes}
use Rattle.std.specs.List.{list_all}
use Rattle.std.specs.Simd.{first_chunks}
use Rattle.numbers.specs.Bytes.{part, word, all_zero}
use Rattle.numbers.proofs.Put.{length_part, part_add}
use Rattle.numbers.proofs.PutPart.{get_d_part}
use Rattle.numbers.proofs.Word.{read_bytes}

pub word_zeros : (n : ℕ) → word (replicate n 0) ≡ 0
unfolding word
word_zeros zero = refl
word_zeros (suc n) = rw (word_zeros n) refl

pub all_zeros : (n : ℕ) → all_zero (replicate n 0) ≡ true
unfolding all_zero
all_zeros zero = refl
all_zeros (suc n) = all_zeros n

pub part_zeros : (total at n : ℕ) → at + n ≤ total → part (replicate total 0) at n ≡ replicate n 0
part_zeros total at n h =
    let size : length (part (replicate total 0) at n) ≡ n = length_part (replicate total 0) at n (rw length-replicate h) in
    ext_get_or 0 (part (replicate total 0) at n) (replicate n 0) (size ∙ sym (length-replicate n 0)) (λ i l. each i (omega arith))
  where
    each : (i : ℕ) → i < n → get_or (part (replicate total 0) at n) i 0 ≡ get_or (replicate n 0) i 0
    each i l = get_d_part (replicate total 0) at n i l ∙ get_or-replicate total (at + i) 0 0 (omega arith) ∙ sym (get_or-replicate n i 0 0 l)

-- bytes are all zero where those of both pieces are
pub zeros_append : (xs ys : List ℕ) → all_zero (xs ++ ys) ≡ (all_zero xs && all_zero ys)
unfolding all_zero
zeros_append [] ys = refl
zeros_append (x ∷ xs) ys = rw (zeros_append xs ys) (sym (and_assoc (eqb x 0) (all_zero xs) (all_zero ys)))

-- a word is zero where its first byte is, and the rest
first_and_rest : (x w : ℕ) → (eqb x 0 && eqb w 0) ≡ eqb (x + 256 * w) 0
first_and_rest zero zero = refl
first_and_rest zero (suc w) = rw (eqb-suc-zero w, ne_eqb (zero + 256 * suc w) 0 (λ e. omega arith)) refl
first_and_rest (suc x) w = rw (eqb-suc-zero x, ne_eqb (suc x + 256 * w) 0 (λ e. omega arith)) refl

-- bytes are all zero where their word is
zeros_word : (s : List ℕ) → all_zero s ≡ eqb (word s) 0
unfolding all_zero word
zeros_word [] = refl
zeros_word (x ∷ s) = rw (zeros_word s) (first_and_rest x (word s))

-- the next of so many words, and those left behind it
pub zeros_next : (s : List ℕ) (words n : ℕ) → n < words → {next : Bool} → eqb (word (part s (8 * n) 8)) 0 ≡ next
    → all_zero (part s (8 * n) (8 * (words - n))) ≡ (next && all_zero (part s (8 * (n + 1)) (8 * (words - (n + 1)))))
zeros_next s words n h e =
    let size : 8 * (words - n) ≡ 8 + 8 * (words - (n + 1)) = omega arith in
    rw (size, part_add s (8 * n) 8, zeros_append, zeros_word (part s (8 * n) 8), mul-add 8 n 1, e) refl

zeros_all : (s : List ℕ) → all_zero s ≡ list_all (λ (x : ℕ). x == 0) s
unfolding all_zero
zeros_all [] = refl
zeros_all (x ∷ s) = rw (zeros_all s) refl

-- whether a word of eight bytes is zero, as the code reads it
abbrev zero_word : List ℕ → Bool
zero_word w = from_le_bytes w64 w == 0

-- k words of eight bytes, and what is left behind them
zeros_chunks : (k : ℕ) (s : List ℕ) → k * 8 ≤ length s → all_zero s ≡ (list_all zero_word (first_chunks 8 k s) && all_zero (drop (k * 8) s))
zeros_chunks zero s h = refl
zeros_chunks (suc k) s h =
    let first : all_zero (take 8 s) ≡ zero_word (take 8 s) =
    zeros_word (take 8 s) ∙ ap (λ (w : ℕ). eqb w 0) (sym (read_bytes 7 (take 8 s) (length-take-le 8 s (omega arith)))) in
    let rest = zeros_chunks k (drop 8 s) (rw length-drop (omega arith)) in
    let back : drop (k * 8) (drop 8 s) ≡ drop (suc k * 8) s = drop-drop (k * 8) 8 s ∙ ap (λ (n : ℕ). drop n s) (omega arith) in
    ap all_zero (sym (take-append-drop 8 s)) ∙ zeros_append (take 8 s) (drop 8 s) ∙ rw (first, rest, back) (sym (and_assoc (zero_word (take 8 s)) _ _))

-- bytes are all zero where the words are with which they begin, and what is left behind them
pub by_words : (s : List ℕ) (words : List (List ℕ)) (tail : List ℕ) (first : Bool) → words ≡ first_chunks 8 (length s / 8) s → tail ≡ drop (length s / 8 * 8) s
    → first ≡ list_all zero_word words → all_zero s ≡ (first && list_all (λ (x : ℕ). x == 0) tail)
by_words s words tail first front back e =
    zeros_chunks (length s / 8) s (omega arith) ∙ rw (e, front, back) (ap (λ (b : Bool). list_all zero_word (first_chunks 8 (length s / 8) s) && b) (zeros_all (drop (length s / 8 * 8) s)))
