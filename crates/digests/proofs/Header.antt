-- The header's CRC from what its front and its rest leave, and the front's from its words, generation and CRC as zero.
-- Assumes nothing.
use Rattle.std.proofs.Common.{◌≡◌, ℕ, ◌+◌, ◌*◌, ◌≤◌, true, List, ◌++◌, length, take, drop, replicate, sym, refl, ap, ◌∙◌, append_assoc, add_assoc, arith, length-append, length-take-le, take-take, drop-drop, take-add, drop_at}
use lib.Bits.{bit_xor}
use lib.Seq.{take-append-add, drop-append-add}
use Rattle.numbers.specs.Bytes.{Bytes, part, word, put, all_zero}
use Rattle.numbers.proofs.Bytes.{append_bytes, part_bytes, replicate_bytes}
use Rattle.numbers.proofs.Put.{length_part, part_add}
use Rattle.digests.specs.Crc.{crc_bits, crc_from, crc32c, header_crc}
use Rattle.digests.specs.Front.{front_leaves}
use Rattle.digests.proofs.Linear.{bits_add, bits_zero}
use Rattle.digests.proofs.Pieces.{crc_append, crc_from_lem, crc_number, crc_zeros, behind, zeros_behind, part_behind}

-- what is put at two places, with g bytes between them, is five pieces
put_apart : (s : List ℕ) (at : ℕ) (xs : List ℕ) (g : ℕ) (ys : List ℕ) → at ≤ length s
    → put (put s at xs) (at + length xs + g) ys ≡ take at s ++ xs ++ take g (drop (at + length xs) s) ++ ys ++ drop (at + length xs + (g + length ys)) s
unfolding put
put_apart s at xs g ys h =
    let p : List ℕ = take at s ++ xs in
    let r : List ℕ = drop (at + length xs) s in
    let n : at + length xs ≡ length p = rw (length-append, length-take-le at s h) refl in
    let low : take (at + length xs + g) (p ++ r) ≡ p ++ take g r = ap (λ (k : ℕ). take (k + g) (p ++ r)) n ∙ take-append-add p r g in
    let high : drop (at + length xs + g + length ys) (p ++ r) ≡ drop (at + length xs + (g + length ys)) s =
    rw (add_assoc (at + length xs) g) (ap (λ (k : ℕ). drop (k + (g + length ys)) (p ++ r)) n ∙ drop-append-add p r (g + length ys) ∙ drop-drop (g + length ys) (at + length xs) s) in
    rw (low, high) refl

-- what is left of the first bytes of a list behind the first of them
drop_take : (n m : ℕ) (s : List ℕ) → n ≤ length s → drop n (take (n + m) s) ≡ take m (drop n s)
drop_take n m s h = ap (drop n) (take-add n m s) ∙ drop_at (take n s) (take m (drop n s)) n (length-take-le n s h)

-- so many bytes
record Piece (xs : List ℕ) (n : ℕ) : Type 0 where
  bytes : Bytes xs
  size : length xs ≡ n

piece : (xs : List ℕ) {n : ℕ} → Bytes xs → length xs ≡ n → Piece xs n
piece xs h l = record { bytes = h; size = l }

-- and others behind them
more : {xs : List ℕ} {n k : ℕ} → Piece xs n → (ys : List ℕ) → Bytes ys → length ys ≡ k → Piece (xs ++ ys) (n + k)
more {xs} p ys h l = record { bytes = append_bytes xs ys p.bytes h; size = rw (length-append, p.size, l) refl }

-- the first n bytes with generation and CRC as zero
zeroed : ℕ → List ℕ → List ℕ
zeroed n s = put (put (take n s) 0x40 (replicate 8 0)) 0x70 (replicate 4 0)

module _ (s : List ℕ) (long : 256 ≤ length s) where
  -- of the header, those up to the state
  abbrev early : List ℕ
  early = part s 0 0x40 ++ replicate 8 0 ++ part s 0x48 0x28 ++ replicate 4 0

  -- and so many behind them
  zeroed_pieces : (m : ℕ) → 0x74 + m ≤ length s → zeroed (0x74 + m) s ≡ early ++ part s 0x74 m
  unfolding part zeroed
  zeroed_pieces m h =
      let n : ℕ = 0x74 + m in
      let size : n ≡ 0x48 + (0x2C + m) = omega arith in
      let low : take 0x40 (take n s) ≡ part s 0 0x40 = take-take 0x40 n s (omega arith) in
      let middle : take 0x28 (drop 0x48 (take n s)) ≡ part s 0x48 0x28 =
      rw size (rw (drop_take 0x48 (0x2C + m) s (omega arith)) (take-take 0x28 (0x2C + m) (drop 0x48 s) (omega arith))) in
      put_apart (take n s) 0x40 (replicate 8 0) 0x28 (replicate 4 0) (rw (length-take-le n s h) (omega arith))
      ∙ rw (low, middle, drop_take 0x74 m s (omega arith)) refl

  -- the header's CRC by its pieces
  pub header_pieces : header_crc s ≡ crc32c (part s 0 0x40 ++ replicate 8 0 ++ part s 0x48 0x28 ++ replicate 4 0 ++ part s 0x74 0x8C)
  unfolding header_crc zeroed
  header_pieces = ap crc32c (zeroed_pieces 0x8C long)

  -- the header is the front and the rest
  header_zeroed : zeroed 256 s ≡ zeroed 0x78 s ++ part s 0x78 136
  header_zeroed = zeroed_pieces 0x8C long ∙ rw (part_add s 0x74 4 136, zeroed_pieces 4 (omega arith)) (sym (append_assoc early (part s 0x74 4) (part s 0x78 136)))

  -- its CRC from what they leave
  pub header_joined : {f r : ℕ} → f ≡ front_leaves s → r ≡ crc_from 0 (part s 0x78 136) → bit_xor (bit_xor f r) 0xFFFFFFFF ≡ header_crc s
  unfolding header_crc crc32c front_leaves zeroed
  header_joined e g =
      let rest : List ℕ = part s 0x78 136 in
      rw (header_zeroed, crc_append, crc_from_lem (crc_from 0xFFFFFFFF (zeroed 0x78 s)) rest, length_part s 0x78 136 (omega arith), e, g) refl

  -- what the front leaves, from its words
  pub front_joined : Bytes s → {o n b t : ℕ} → o ≡ crc_bits 2048 (bit_xor 0xFFFFFFFF (word (part s 0 0x20))) → n ≡ crc_bits 1792 (word (part s 0x20 0x20))
      → b ≡ crc_bits 1472 (word (part s 0x48 0x28)) → t ≡ crc_bits 1120 (word (part s 0x74 4)) → bit_xor (bit_xor (bit_xor o n) b) t ≡ front_leaves s
  unfolding front_leaves zeroed
  front_joined h e f g i =
      let low = piece (part s 0 0x40) (part_bytes s 0 0x40 h) (length_part s 0 0x40 (omega arith)) in
      let generation = more low (replicate 8 0) (replicate_bytes 8) refl in
      let middle = more generation (part s 0x48 0x28) (part_bytes s 0x48 0x28 h) (length_part s 0x48 0x28 (omega arith)) in
      let crc = more middle (replicate 4 0) (replicate_bytes 4) refl in
      let front = more crc (part s 0x74 4) (part_bytes s 0x74 4 h) (length_part s 0x74 4 (omega arith)) in
      let one = part_behind 0xFFFFFFFF s 0 0x20 0x20 1792 h (omega arith) e f in
      let two = zeros_behind 0xFFFFFFFF _ 8 0x40 1536 low.bytes low.size one in
      let three = behind 0xFFFFFFFF _ (part s 0x48 0x28) 0x48 1472 generation.bytes generation.size two g in
      let four = zeros_behind 0xFFFFFFFF _ 4 0x70 1152 middle.bytes middle.size three in
      let five = behind 0xFFFFFFFF _ (part s 0x74 4) 0x74 1120 crc.bytes crc.size four i in
      let whole : List ℕ = early ++ part s 0x74 4 in
      let state : crc_from 0xFFFFFFFF (zeroed 0x78 s) ≡ crc_bits 960 (bit_xor 0xFFFFFFFF (word whole)) =
      ap (crc_from 0xFFFFFFFF) (zeroed_pieces 4 (omega arith)) ∙ crc_number 0xFFFFFFFF whole front.bytes
      ∙ ap (λ (k : ℕ). crc_bits (8 * k) (bit_xor 0xFFFFFFFF (word whole))) front.size in
      five ∙ bits_add 960 1088 (bit_xor 0xFFFFFFFF (word whole)) ∙ ap (crc_bits 1088) (sym state)

  -- nothing but zeros leave nothing
  pub rest_zero : all_zero (part s 0x78 136) ≡ true → 0 ≡ crc_from 0 (part s 0x78 136)
  rest_zero e = sym (crc_zeros 0 (part s 0x78 136) e ∙ bits_zero (8 * length (part s 0x78 136)))

  -- the user fields, and what follows them
  pub rest_on : {c : ℕ} → c ≡ crc_from 0 (part s 0x78 72) → crc_from c (part s 0xC0 64) ≡ crc_from 0 (part s 0x78 136)
  rest_on e = rw (e, part_add s 0x78 72 64) (sym (crc_append 0 (part s 0x78 72) (part s 0xC0 64)))

  -- zeros behind them
  pub rest_user : {c r : ℕ} → c ≡ crc_from 0 (part s 0x78 72) → all_zero (part s 0xC0 64) ≡ true → r ≡ crc_bits 512 c → r ≡ crc_from 0 (part s 0x78 136)
  rest_user {c} e z f =
      f ∙ ap (λ (k : ℕ). crc_bits (8 * k) c) (sym (length_part s 0xC0 64 (omega arith))) ∙ sym (crc_zeros c (part s 0xC0 64) z) ∙ rest_on e
