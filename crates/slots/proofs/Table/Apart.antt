-- Slots and buckets lie apart: a put into one leaves the others as they were.
-- Assumes nothing.
use Prim.Native.Nat.{ℕ, ◌+◌, ◌*◌, ◌≤◌, ◌<◌}
use mathlib.Core.Path.{◌≡◌}
use mathlib.Core.List.{List}
use native.Mathlib.Nat.{mul-le-mul_right, suc-mul}
use native.Mathlib.Decide.{dec_lt}
use native.Mathlib.Omega.{arith}
use lib.ListN.{length}
use Rattle.numbers.specs.Bytes.{put}
use Rattle.header.specs.declared.shape.Layout.{Layout}
use Rattle.header.specs.Shaped.{LaidOut}
use Rattle.header.specs.Sizes.{buckets_offset}
use Rattle.image.specs.Table.{slot_at, bucket_at, bucket_of}
use Rattle.image.proofs.Places.{slot_ends}
use Rattle.slots.proofs.Table.Around.{SameFrom, put_before, put_behind, SameSlot, same_slot, same_bucket, Around, put_around}

-- slots and buckets come one after the other
slots_apart : (layout : Layout) (m n : ℕ) → m < n → slot_at layout m + layout.slot_size ≤ slot_at layout n
unfolding slot_at
slots_apart layout m n l = omega (arith, rw suc-mul at (mul-le-mul_right layout.slot_size l))

buckets_apart : (layout : Layout) (b c : ℕ) → b < c → bucket_at layout b + 16 ≤ bucket_at layout c
unfolding bucket_at
buckets_apart layout b c l = omega arith

module _ (image : List ℕ) (at : ℕ) (bs : List ℕ) (fits : at + length bs ≤ length image) where
  -- a put that lies within one stretch changes nothing in another, where the stretches lie apart by their numbers
  elsewhere : (place : ℕ → ℕ) (size m n : ℕ) → ((i j : ℕ) → i < j → place i + size ≤ place j) → (m ≡ n → ⊥)
      → place n ≤ at → at + length bs ≤ place n + size → SameFrom image (put image at bs) (place m) (place m + size)
  elsewhere place size m n apart other low high = go (dec_lt m n)
    where
      go : Dec (m < n) → SameFrom image (put image at bs) (place m) (place m + size)
      go (yes l) = put_before image at bs fits _ _ (omega (arith, apart m n l))
      go (no l) = put_behind image at bs fits _ _ (omega (arith, apart n m (omega arith)))

module _ (layout : Layout) (image : List ℕ) (fit : LaidOut layout image) (at : ℕ) (bs : List ℕ) where
  -- a put into slot n
  module _ (n : ℕ) (inside : n < layout.slot_capacity) (low : slot_at layout n ≤ at) (high : at + length bs ≤ slot_at layout n + layout.slot_size) where
    in_slots : at + length bs ≤ layout.buckets_offset
    in_slots = omega (arith, slot_ends layout image fit n inside)

    pub fits_slots : at + length bs ≤ length image
    fits_slots = omega (arith, in_slots, fit.size)

    pub slot_put_around : Around image (put image at bs)
    unfolding slot_at
    slot_put_around = put_around image at bs (omega arith) fits_slots

    pub slot_put_slot : (m : ℕ) → (m ≡ n → ⊥) → SameSlot layout image (put image at bs) m
    slot_put_slot m other =
        same_slot layout image (put image at bs) fit m (elsewhere image at bs fits_slots (slot_at layout) layout.slot_size m n (slots_apart layout) other low high)

    pub slot_put_bucket : (b : ℕ) → bucket_of layout (put image at bs) b ≡ bucket_of layout image b
    unfolding bucket_at
    slot_put_bucket b = same_bucket layout image (put image at bs) b (put_behind image at bs fits_slots _ _ (omega (arith, in_slots)))

  -- a put into bucket b
  module _ (b : ℕ) (inside : b < layout.bucket_count) (low : bucket_at layout b ≤ at) (high : at + length bs ≤ bucket_at layout b + 16) where
    in_buckets : (layout.buckets_offset ≤ at) × (at + length bs ≤ layout.buckets_offset + 16 * layout.bucket_count)
    unfolding bucket_at
    in_buckets = omega arith

    fits_buckets : at + length bs ≤ length image
    fits_buckets = omega (arith, in_buckets.1, fit.size)

    pub bucket_put_around : Around image (put image at bs)
    unfolding buckets_offset
    bucket_put_around = put_around image at bs (omega (arith, in_buckets.0, fit.offset)) fits_buckets

    pub bucket_put_slot : (n : ℕ) → n < layout.slot_capacity → SameSlot layout image (put image at bs) n
    bucket_put_slot n l =
        same_slot layout image (put image at bs) fit n (put_before image at bs fits_buckets _ _ (omega (arith, in_buckets.0, slot_ends layout image fit n l)))

    pub bucket_put_bucket : (c : ℕ) → (c ≡ b → ⊥) → bucket_of layout (put image at bs) c ≡ bucket_of layout image c
    bucket_put_bucket c other =
        same_bucket layout image (put image at bs) c (elsewhere image at bs fits_buckets (bucket_at layout) 16 c b (buckets_apart layout) other low high)
