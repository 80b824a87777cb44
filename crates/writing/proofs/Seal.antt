-- What a renewed CRC leaves: it is the CRC of the header as it then stands, and every other field is as before.
-- Assumes nothing.
use Prim.Native.Nat.{ℕ, ◌≤◌}
use mathlib.Core.Path.{◌≡◌, sym, ◌∙◌}
use mathlib.Core.List.{List, ◌++◌}
use lib.Dec.{T, lit≤}
use lib.ListN.{length}
use lib.Seq.{take-append-le}
use Rattle.numbers.specs.Bytes.{Bytes, part}
use Rattle.digests.specs.Crc.{header_crc}
use Rattle.digests.proofs.Header.{header_pieces}
use Rattle.header.specs.Fields as F
use Rattle.header.specs.Fields.{bytes_in, value}
use Rattle.writing.specs.Write.{with_field, sealed}
use Rattle.writing.proofs.CrcBound.{header_crc_bound}
use Rattle.writing.proofs.OneField.{apart, field_length, field_before, field_after, field_behind, field_bytes, field_other, field_same, field_append}

-- headers that differ in the generation and the CRC alone have the same CRC
crc_same : (s t : List ℕ) → 256 ≤ length s → 256 ≤ length t → part s 0 0x40 ≡ part t 0 0x40 → part s 0x48 0x28 ≡ part t 0x48 0x28
    → part s 0x74 0x8C ≡ part t 0x74 0x8C → header_crc s ≡ header_crc t
crc_same s t hs ht a b c = header_pieces s hs ∙ rw (a, b, c) (sym (header_pieces t ht))

module _ (image : List ℕ) (long : 256 ≤ length image) (x : ℕ) where
  pub crc_of_crc : header_crc (with_field image F.header_crc32c x) ≡ header_crc image
  crc_of_crc =
      crc_same (with_field image F.header_crc32c x) image (rw (field_length image long F.header_crc32c x) long) long
      (field_before image long F.header_crc32c x 0 0x40 (lit≤ tt))
      (field_before image long F.header_crc32c x 0x48 0x28 (lit≤ tt))
      (field_after image long F.header_crc32c x 0x74 0x8C (lit≤ tt))

module _ (image : List ℕ) (long : 256 ≤ length image) where
  pub seal_length : length (sealed image) ≡ length image
  unfolding sealed
  seal_length = field_length image long F.header_crc32c (header_crc image)

  pub seal_behind : (a n : ℕ) → 256 ≤ a → part (sealed image) a n ≡ part image a n
  unfolding sealed
  seal_behind = field_behind image long F.header_crc32c (header_crc image)

  pub seal_bytes : (m : ℕ) → T (apart m F.header_crc32c) → bytes_in (sealed image) m ≡ bytes_in image m
  unfolding sealed
  seal_bytes = field_bytes image long F.header_crc32c (header_crc image)

  pub seal_other : (m : ℕ) → T (apart m F.header_crc32c) → value (sealed image) m ≡ value image m
  unfolding sealed
  seal_other = field_other image long F.header_crc32c (header_crc image)

  -- "CRC differs": it does not
  pub seal_crc : Bytes image → value (sealed image) F.header_crc32c ≡ header_crc (sealed image)
  unfolding sealed
  seal_crc h =
      field_same image long F.header_crc32c (header_crc image) (header_crc_bound image h)
      ∙ sym (crc_of_crc image long (header_crc image))

  -- a list with other bytes behind it
  pub seal_append : (b : List ℕ) → sealed (image ++ b) ≡ sealed image ++ b
  unfolding sealed header_crc
  seal_append b = rw (take-append-le 256 image b long) (field_append image long F.header_crc32c (header_crc image) b)
