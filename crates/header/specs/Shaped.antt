-- What is known of an image that passed the header test, by its shape: all that later code relies on.
-- Assumes nothing.
use Rattle.std.specs.Prelude.{ℕ, ◌+◌, ◌*◌, ◌^◌, ◌≤◌, ◌<◌, true, ◌≡◌, List, length}
use Rattle.header.specs.declared.shape.Layout.{Layout}
use Rattle.header.specs.declared.shape.Shape.{Shape}
use Rattle.header.specs.Sizes.{most_key_size, slot_size, buckets_offset}
use Rattle.header.specs.HeaderTest.{power_of_two}

-- by its layout
pub record LaidOut (l : Layout) (image : List ℕ) : Type 0 where
  -- keys are short, so that even their bits are few
  pub keys : l.key_size ≤ most_key_size
  pub slot : l.slot_size ≡ slot_size l.key_size l.index_size
  -- the buckets follow the slots, and the image ends with them
  pub offset : l.buckets_offset ≡ buckets_offset l.slot_capacity l.slot_size
  pub size : length image ≡ l.buckets_offset + 16 * l.bucket_count
  -- a mask finds a hash's home bucket
  pub power : power_of_two l.bucket_count ≡ true
  -- an EMPTY bucket is certain
  pub room : l.slot_capacity < l.bucket_count
  -- slot numbers, and sums of so many lookup counts, stay small
  pub small : l.bucket_count < 2 ^ 32

-- and by its counters
pub record Shaped (s : Shape) (image : List ℕ) : Type 0 where
  pub laid : LaidOut s.layout image
  pub counters : s.live_count + s.bucket_tombstones ≤ s.slot_highwater
  pub highwater : s.slot_highwater ≤ s.layout.slot_capacity
