-- Images and records written out, for the stories.
-- Assumes nothing.
use Rattle.std.specs.Prelude.{ℕ, List, [], ◌∷◌, ◌++◌, replicate}
use Rattle.numbers.specs.Bytes.{bytes_of}

-- numbers as words of so many bytes, one behind the other
abbrev pub words : ℕ → List ℕ → List ℕ
words width [] = []
words width (x ∷ xs) = bytes_of width x ++ words width xs

abbrev pub zeros : ℕ → List ℕ
zeros n = words 8 (replicate n 0)

-- what all headers of a story have in common
pub record Layout : Type 0 where
  pub key_size : ℕ
  pub index_size : ℕ
  pub slot_size : ℕ
  pub flags : ℕ
  pub slot_capacity : ℕ
  pub bucket_count : ℕ
  pub buckets_offset : ℕ

-- a header with user_version 7, field after field: live_count is bucket_used, and `user` is user_flags and user_data in words
abbrev pub header : Layout → (highwater live tombstones generation crc state : ℕ) (user : List ℕ) → List ℕ
header l highwater live tombstones generation crc state user =
    words 4 (0x31434C53 ∷ 1 ∷ 256 ∷ l.key_size ∷ l.index_size ∷ l.slot_size ∷ 1 ∷ l.flags ∷ [])
    ++ words 8 (l.slot_capacity ∷ highwater ∷ live ∷ 7 ∷ generation ∷ [])
    ++ words 8 (l.bucket_count ∷ live ∷ tombstones ∷ 256 ∷ l.buckets_offset ∷ [])
    ++ words 4 (crc ∷ state ∷ [])
    ++ words 8 user
    ++ zeros 8

-- user fields that are all zero
abbrev pub no_user : List ℕ
no_user = replicate 9 0

-- a slot or a record whose key, with the zeros behind it, is a word, and whose index is one
abbrev pub slot : (meta key revision index : ℕ) → List ℕ
slot meta key revision index = words 8 (meta ∷ key ∷ revision ∷ index ∷ [])

-- a bucket, and one that is EMPTY
abbrev pub bucket : (hash64 slot-plus1 : ℕ) → List ℕ
bucket hash64 slot-plus1 = words 8 (hash64 ∷ slot-plus1 ∷ [])

abbrev pub tombstone : ℕ
tombstone = 0xFFFFFFFFFFFFFFFF
