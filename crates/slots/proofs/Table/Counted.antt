-- The counters of a shape published: the header says them, the generation has moved on by 2, and nothing behind the header changes.
-- Assumes nothing.
use Prim.Native.Nat.{ℕ, ◌+◌, ◌^◌, ◌≤◌, ◌<◌}
use mathlib.Core.Path.{◌≡◌, refl, fun_ext, ◌∙◌}
use mathlib.Core.List.{List, [], ◌∷◌}
use native.Mathlib.Omega.{arith}
use lib.Dec.{T}
use lib.ListN.{length}
use Rattle.numbers.specs.Bytes.{Bytes, part}
use Rattle.digests.specs.Crc.{header_crc}
use Rattle.header.specs.declared.shape.Shape.{Shape}
use Rattle.header.specs.Fields as F
use Rattle.header.specs.Fields.{bytes_in, value}
use Rattle.header.specs.HeaderTest.{layout_of, shape_of}
use Rattle.header.specs.Shaped.{Shaped}
use Rattle.header.specs.Sizes.{buckets_offset}
use Rattle.image.specs.Table.{slot_at, bucket_at, bucket_of, table_of}
use Rattle.writing.specs.Write.{with_fields}
use Rattle.writing.specs.State.{published}
use Rattle.slots.specs.Slots.{counted}
use Rattle.writing.proofs.OneField.{apart}
use Rattle.writing.proofs.FieldList.{Fitting, after, misses, fields_length, fields_value, fields_behind, fields_bytes}
use Rattle.writing.proofs.Seal.{seal_length, seal_behind, seal_bytes, seal_other, seal_crc}
use Rattle.slots.proofs.Table.Lent.{fields_lent}
use Rattle.slots.proofs.Table.Around.{SameSlot, same_slot, same_bucket}

-- a shape with the counters of another, and the generation moved on
abbrev pub counted_shape : Shape → Shape → Shape
counted_shape old s =
    record {
      layout = old.layout;
      slot_highwater = s.slot_highwater;
      live_count = s.live_count;
      bucket_tombstones = s.bucket_tombstones;
      state = old.state;
      generation = old.generation + 2;
    }

module _ (s : Shape) (image : List ℕ) (fit : Shaped s image) where
  -- what is written
  abbrev pub counters : List (ℕ × ℕ)
  counters =
      (F.generation, value image F.generation + 2)
      ∷ (F.slot_highwater, s.slot_highwater)
      ∷ (F.live_count_field, s.live_count)
      ∷ (F.bucket_used, s.live_count)
      ∷ (F.bucket_tombstones, s.bucket_tombstones)
      ∷ []

  -- the buckets begin behind the header, which the image holds
  buckets_behind : 256 ≤ s.layout.buckets_offset
  unfolding buckets_offset
  buckets_behind = omega (arith, fit.laid.offset)

  pub long : 256 ≤ length image
  long = omega (arith, buckets_behind, fit.laid.size)

  size : length (with_fields image counters) ≡ length image
  size = fields_length counters image long

  long' : 256 ≤ length (with_fields image counters)
  long' = omega (arith, long, size)

  pub counted_length : length (counted s image) ≡ length image
  unfolding counted published
  counted_length = seal_length (with_fields image counters) long' ∙ size

  -- all bytes behind the header stay
  counted_behind : (a n : ℕ) → 256 ≤ a → part (counted s image) a n ≡ part image a n
  unfolding counted published
  counted_behind a n l = seal_behind (with_fields image counters) long' a n l ∙ fields_behind counters image long a n l

  -- all other fields stay
  pub counted_other : (m : ℕ) → T (misses counters m) → T (apart m F.header_crc32c) → bytes_in (counted s image) m ≡ bytes_in image m
  unfolding counted published
  counted_other m other crc = seal_bytes (with_fields image counters) long' m crc ∙ fields_bytes counters image long m other

  module _ (more : value image F.generation + 2 < 2 ^ 64) where
    fitting : Fitting counters
    fitting =
        let highwater : s.slot_highwater < 2 ^ 64 = omega (arith, fit.highwater, fit.laid.room, fit.laid.small) in
        let live : s.live_count < 2 ^ 64 = omega (arith, fit.counters) in
        (more, (highwater, (live, (live, (omega (arith, fit.counters), tt)))))

    -- the fields as they then are: the counters, the generation, and the others as they were
    pub counted_value : (m : ℕ) → T (apart m F.header_crc32c) → value (counted s image) m ≡ after counters m (value image m)
    unfolding counted published
    counted_value m crc = seal_other (with_fields image counters) long' m crc ∙ fields_value counters image long fitting m

    pub counted_shape_lem : shape_of (counted s image) ≡ counted_shape (shape_of image) s
    unfolding shape_of layout_of
    counted_shape_lem =
        let v = counted_value in
        rw (v F.key_size_field tt, v F.index_size_field tt, v F.slot_size_field tt, v F.slot_capacity_field tt, v F.slot_highwater tt, v F.live_count_field tt, v F.bucket_count_field tt, v F.bucket_tombstones tt, v F.buckets_offset_field tt, v F.flags tt, v F.state tt, v F.generation tt) refl

  -- "CRC differs": it does not
  pub counted_crc : Bytes image → value (counted s image) F.header_crc32c ≡ header_crc (counted s image)
  unfolding counted published
  counted_crc h = seal_crc (with_fields image counters) long' (fields_lent counters image h)

  -- the slots and the table stay
  pub counted_slot : (n : ℕ) → SameSlot s.layout image (counted s image) n
  unfolding slot_at
  counted_slot n = same_slot s.layout image (counted s image) fit.laid n (record { parts = λ a m from to. counted_behind a m (omega arith) })

  counted_bucket : (b : ℕ) → bucket_of s.layout (counted s image) b ≡ bucket_of s.layout image b
  unfolding bucket_at
  counted_bucket b =
      same_bucket s.layout image (counted s image) b (record { parts = λ a m from to. counted_behind a m (omega (arith, from, buckets_behind)) })

  pub counted_table : table_of s (counted s image) ≡ table_of s image
  unfolding table_of
  counted_table = rw (fun_ext counted_bucket, fun_ext (λ n. (counted_slot n).meta), fun_ext (λ n. (counted_slot n).key)) refl
