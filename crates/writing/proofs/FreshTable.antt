-- The shape and the table of a fresh image: no slot is taken, every bucket is EMPTY, and the full check passes.
-- Assumes nothing.
use Prim.Native.Nat.{ℕ, ◌+◌, ◌*◌, ◌≤◌, ◌<◌}
use mathlib.Core.Bool.{Bool, true, false, not, ◌||◌}
use mathlib.Core.Path.{◌≡◌, refl}
use native.Mathlib.Omega.{arith}
use lib.Dec.{T, eqb}
use Rattle.probing.specs.Counting.{sum_to, count_to, all_to}
use Rattle.probing.specs.Table.{Table, EMPTY, live_count, full_count, tombstone_count, is_full, is_tombstone}
use Rattle.probing.specs.Check.{bucket_right, buckets_right, metas_right, each_found, counts_equal, never_fall, checks}
use Rattle.probing.proofs.Counting.{all_of, count_none}
use Rattle.header.specs.declared.options.Options.{Options}
use Rattle.header.specs.declared.shape.Shape.{Shape}
use Rattle.header.specs.Fields as F
use Rattle.header.specs.Fields.{value}
use Rattle.header.specs.FirstOf.{first_of}
use Rattle.header.specs.State.{CLEAN}
use Rattle.header.specs.HeaderTest.{create_test1, layout_of, shape_of}
use Rattle.header.specs.Sizes.{slot_size, bucket_count, buckets_offset, total, total_size}
use Rattle.image.specs.Check.{passes}
use Rattle.image.specs.Table.{bucket_at, bucket_from, bucket_of, table_of}
use Rattle.writing.specs.Create.{fresh_fields, fresh}
use Rattle.writing.proofs.OneField.{Fits, apart}
use Rattle.writing.proofs.FieldList.{after}
use Rattle.numbers.proofs.Zeros.{word_zeros}
use Rattle.writing.proofs.Fresh.{fresh_value, fresh_behind}

-- "header CLEAN, generation and counters 0", and the sizes as the options say
abbrev pub fresh_shape : Options → Shape
fresh_shape o =
    record {
      layout =
          record {
            key_size = o.key_size;
            index_size = o.index_size;
            slot_size = slot_size o.key_size o.index_size;
            slot_capacity = o.slot_capacity;
            bucket_count = bucket_count o.slot_capacity;
            buckets_offset = buckets_offset o.slot_capacity (slot_size o.key_size o.index_size);
            ordered = eqb o.ordered 1;
          };
      slot_highwater = 0;
      live_count = 0;
      bucket_tombstones = 0;
      state = CLEAN;
      generation = 0;
    }

or_true : (ordered : Bool) → not ordered || true ≡ true
or_true true = refl
or_true false = refl

buckets_low : (o : Options) → 256 ≤ buckets_offset o.slot_capacity (slot_size o.key_size o.index_size)
unfolding buckets_offset
buckets_low o = omega arith

-- the buckets end where the image does
extent : (o : Options) → buckets_offset o.slot_capacity (slot_size o.key_size o.index_size) + 16 * bucket_count o.slot_capacity ≡ total_size o
unfolding total total_size
extent o = refl

-- a table without slots whose buckets are all EMPTY passes the full check
empty_checks : (t : Table) (ordered : Bool) → t.highwater ≡ 0 → ((b : ℕ) → b < t.B → t.bucket b ≡ EMPTY) → checks t ordered 0 0 0 ≡ true
unfolding checks buckets_right metas_right each_found counts_equal never_fall live_count full_count tombstone_count all_to count_to sum_to
empty_checks t ordered h e =
    let right : all_to t.B (λ b. bucket_right t (t.bucket b)) ≡ true = all_of t.B (λ b. bucket_right t (t.bucket b)) (λ b l. rw (e b l) refl) in
    let full : count_to t.B (λ b. is_full (t.bucket b)) ≡ 0 = count_none t.B {p = λ b. is_full (t.bucket b)} (λ b l. rw (e b l) refl) in
    let tombstones : count_to t.B (λ b. is_tombstone (t.bucket b)) ≡ 0 = count_none t.B {p = λ b. is_tombstone (t.bucket b)} (λ b l. rw (e b l) refl) in
    rw (right, full, tombstones, h) (or_true ordered)

module _ (o : Options) (first : first_of (create_test1 o) ≡ 0) (version : Fits F.user_version o.user_version) where
  v : (m : ℕ) → T (apart m F.header_crc32c) → value (fresh o) m ≡ after (fresh_fields o) m 0
  v = fresh_value o first version

  pub fresh_shape_lem : shape_of (fresh o) ≡ fresh_shape o
  unfolding shape_of layout_of fresh_fields
  fresh_shape_lem =
      rw (v F.key_size_field tt, v F.index_size_field tt, v F.slot_size_field tt, v F.slot_capacity_field tt, v F.slot_highwater tt, v F.live_count_field tt, v F.bucket_count_field tt, v F.bucket_tombstones tt, v F.buckets_offset_field tt, v F.flags tt, v F.state tt, v F.generation tt) refl

  pub fresh_bucket : (b : ℕ) → b < bucket_count o.slot_capacity → bucket_of (fresh_shape o).layout (fresh o) b ≡ EMPTY
  unfolding bucket_of bucket_at bucket_from
  fresh_bucket b h =
      let at : ℕ = buckets_offset o.slot_capacity (slot_size o.key_size o.index_size) + 16 * b + 8 in
      rw (fresh_behind o at 8 (omega (arith, buckets_low o)) (omega (arith, extent o)), word_zeros 8) refl

  pub fresh_passes : passes (shape_of (fresh o)) (fresh o) ≡ true
  unfolding passes table_of
  fresh_passes = rw fresh_shape_lem (empty_checks (table_of (fresh_shape o) (fresh o)) (eqb o.ordered 1) refl fresh_bucket)
