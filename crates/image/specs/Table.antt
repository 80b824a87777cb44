-- The table that an image holds: its slots and buckets as functions of numbers, read off the bytes.
-- Assumes nothing.
use Rattle.std.specs.Prelude.{ℕ, ◌+◌, ◌*◌, ◌-◌, cond, List, eqb, ℤ}
use Rattle.numbers.specs.Bytes.{part, word}
use Rattle.numbers.specs.Signed.{signed}
use Rattle.digests.specs.Fnv.{fnv1a64}
use Rattle.probing.specs.Table.{Bucket, EMPTY, TOMBSTONE, FULL, Table}
use Rattle.header.specs.declared.shape.Layout.{Layout}
use Rattle.header.specs.declared.shape.Shape.{Shape}
use Rattle.image.specs.Places.{slot_start, key_start, revision_start, index_start}

-- where slot n begins, and its parts
unfoldable pub slot_at : Layout → ℕ → ℕ
slot_at l n = slot_start l.slot_size n

unfoldable pub key_at : Layout → ℕ → ℕ
key_at l n = key_start (slot_at l n)

unfoldable pub revision_at : Layout → ℕ → ℕ
revision_at l n = revision_start l.key_size (slot_at l n)

unfoldable pub index_at : Layout → ℕ → ℕ
index_at l n = index_start l.key_size (slot_at l n)

-- where bucket b begins: "hash64, then slot_plus1"
unfoldable pub bucket_at : Layout → ℕ → ℕ
bucket_at l b = l.buckets_offset + 16 * b

unfoldable pub meta_of : Layout → List ℕ → ℕ → ℕ
meta_of l image n = word (part image (slot_at l n) 8)

unfoldable pub key_of : Layout → List ℕ → ℕ → List ℕ
key_of l image n = part image (key_at l n) l.key_size

unfoldable pub revision_of : Layout → List ℕ → ℕ → ℤ
revision_of l image n = signed (word (part image (revision_at l n) 8))

unfoldable pub index_of : Layout → List ℕ → ℕ → List ℕ
index_of l image n = part image (index_at l n) l.index_size

-- "0 EMPTY, all ones TOMBSTONE, else slot number plus 1"
abbrev pub all_ones : ℕ
all_ones = 18446744073709551615

unfoldable pub bucket_from : ℕ → ℕ → Bucket
bucket_from h plus1 = cond (eqb plus1 0) EMPTY (cond (eqb plus1 all_ones) TOMBSTONE (FULL h (plus1 - 1)))

unfoldable pub bucket_of : Layout → List ℕ → ℕ → Bucket
bucket_of l image b = bucket_from (word (part image (bucket_at l b) 8)) (word (part image (bucket_at l b + 8) 8))

unfoldable pub table_of : Shape → List ℕ → Table
table_of s image =
    record {
      B = s.layout.bucket_count;
      highwater = s.slot_highwater;
      bucket = bucket_of s.layout image;
      meta = meta_of s.layout image;
      key = key_of s.layout image;
      hash = fnv1a64;
    }
