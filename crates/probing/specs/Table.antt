-- The table: slots and the hash index over them, as functions of numbers.
-- Assumes nothing.
use Rattle.std.specs.Prelude.{ℕ, Bool, true, false, List, eqb}
use Rattle.probing.specs.Counting.{count_to}

-- "A bucket: hash64, then slot_plus1 (0 EMPTY, all ones TOMBSTONE, else slot number plus 1)."
-- A FULL bucket holds a hash and a slot number.
pub data Bucket : Type 0 where
  EMPTY : Bucket
  TOMBSTONE : Bucket
  FULL : ℕ → ℕ → Bucket

-- B buckets, numbered from 0, and highwater slots, each with a meta and a key. The hash of a key may be any function.
pub record Table : Type 0 where
  pub B : ℕ
  pub highwater : ℕ
  pub bucket : ℕ → Bucket
  pub meta : ℕ → ℕ
  pub key : ℕ → List ℕ
  pub hash : List ℕ → ℕ

-- "meta u64 (1 live, 0 deleted)"
abbrev pub live : Table → ℕ → Bool
live t s = eqb (t.meta s) 1

abbrev pub is_empty : Bucket → Bool
is_empty EMPTY = true
is_empty TOMBSTONE = false
is_empty (FULL h s) = false

abbrev pub is_tombstone : Bucket → Bool
is_tombstone EMPTY = false
is_tombstone TOMBSTONE = true
is_tombstone (FULL h s) = false

abbrev pub is_full : Bucket → Bool
is_full EMPTY = false
is_full TOMBSTONE = false
is_full (FULL h s) = true

-- how many slots are live, how many buckets are FULL, how many are TOMBSTONE
unfoldable pub live_count : Table → ℕ
live_count t = count_to t.highwater (live t)

unfoldable pub full_count : Table → ℕ
full_count t = count_to t.B (λ b. is_full (t.bucket b))

unfoldable pub tombstone_count : Table → ℕ
tombstone_count t = count_to t.B (λ b. is_tombstone (t.bucket b))
