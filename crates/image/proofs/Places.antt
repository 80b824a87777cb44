-- Where slots, their parts and buckets lie in an image that passed the header test.
-- Assumes nothing.
use Prim.Native.Nat.{ℕ, ◌+◌, ◌≤◌, ◌<◌}
use mathlib.Core.Path.{◌≡◌}
use mathlib.Core.List.{List}
use native.Mathlib.Nat.{mul-le-mul_right, suc-mul}
use native.Mathlib.Omega.{arith}
use lib.ListN.{length}
use Rattle.numbers.proofs.Put.{length_part}
use Rattle.header.specs.declared.shape.Layout.{Layout}
use Rattle.header.specs.Shaped.{LaidOut}
use Rattle.header.specs.Sizes.{slot_size, buckets_offset}
use Rattle.header.proofs.SizeLaws.{align8_low}
use Rattle.image.specs.Table.{slot_at, key_at, revision_at, index_at, bucket_at, key_of}

-- in a slot the key follows the meta and ends before the revision, and the index follows that and ends with the slot
pub key_in_slot : (l : Layout) (n : ℕ) → key_at l n + l.key_size ≤ revision_at l n
unfolding key_at revision_at
key_in_slot l n = omega (arith, align8_low l.key_size)

pub revision_in_slot : (l : Layout) (n : ℕ) → revision_at l n + 8 ≡ index_at l n
unfolding revision_at index_at
revision_in_slot l n = omega arith

module _ (l : Layout) (image : List ℕ) (fit : LaidOut l image) where
  -- a slot ends at or before the buckets
  pub slot_ends : (n : ℕ) → n < l.slot_capacity → slot_at l n + l.slot_size ≤ l.buckets_offset
  unfolding slot_at buckets_offset
  slot_ends n h = omega (arith, fit.offset, rw suc-mul at (mul-le-mul_right l.slot_size h))

  pub index_in_slot : (n : ℕ) → index_at l n + l.index_size ≤ slot_at l n + l.slot_size
  unfolding index_at slot_size
  index_in_slot n = omega (arith, fit.slot, align8_low l.index_size)

  -- a bucket ends inside the image
  pub bucket_inside : (b : ℕ) → b < l.bucket_count → bucket_at l b + 16 ≤ length image
  unfolding bucket_at
  bucket_inside b h = omega (arith, fit.size)

  module _ (n : ℕ) (h : n < l.slot_capacity) where
    -- a slot and each of its parts end inside the image
    pub slot_inside : slot_at l n + l.slot_size ≤ length image
    slot_inside = omega (arith, slot_ends n h, fit.size)

    pub index_inside : index_at l n + l.index_size ≤ length image
    index_inside = omega (arith, index_in_slot n, slot_inside)

    pub revision_inside : revision_at l n + 8 ≤ length image
    revision_inside = omega (arith, revision_in_slot l n, index_inside)

    pub key_inside : key_at l n + l.key_size ≤ length image
    key_inside = omega (arith, key_in_slot l n, revision_inside)

    pub meta_inside : slot_at l n + 8 ≤ length image
    unfolding key_at
    meta_inside = omega (arith, key_inside)

    -- a slot's key has key_size bytes, and its index index_size
    pub key_length : length (key_of l image n) ≡ l.key_size
    unfolding key_of
    key_length = length_part image (key_at l n) l.key_size key_inside
