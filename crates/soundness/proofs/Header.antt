-- The header that a commit leaves passes the header test, for the caller who holds the lock and beside it, and has the same
-- user fields.
-- Assumes nothing.
use Prim.Native.Nat.{ℕ, ◌+◌, ◌%◌, ◌^◌, ◌≤◌, ◌<◌}
use mathlib.Core.Path.{◌≡◌, refl, ap, ◌∙◌}
use mathlib.Core.List.{List}
use native.Mathlib.Omega.{arith}
use lib.Dec.{T}
use lib.ListN.{length}
use borrow.Author.Tests.{eq-eqb, ne_eqb, le-leb}
use Rattle.numbers.specs.Bytes.{Bytes, word}
use Rattle.header.specs.declared.options.Options.{Options}
use Rattle.header.specs.declared.shape.Shape.{Shape}
use Rattle.header.specs.Fields as F
use Rattle.header.specs.Fields.{bytes_in, value}
use Rattle.header.specs.FirstOf.{first_of}
use Rattle.header.specs.State.{DIRTY, with_role}
use Rattle.header.specs.HeaderTest.{test2, test3, test4, test5, test6, test8, test9, image_total, test10, test11, header_test, layout_of, shape_of}
use Rattle.header.specs.Open.{user_fields}
use Rattle.header.specs.Shaped.{Shaped}
use Rattle.image.specs.Table.{table_of}
use Rattle.writing.proofs.OneField.{apart}
use Rattle.writing.proofs.FieldList.{misses}
use Rattle.writing.proofs.Tests.{Holds, even_passed, header_by_state}
use Rattle.writing.proofs.Lasting.{any_role}
use Rattle.writing.proofs.UserLaws.{same_user}
use Rattle.slots.proofs.Table.Around.{Around, around_bytes}
use Rattle.slots.proofs.Table.Counted as write
use Rattle.header.specs.Counters.{with_counters, with_slots}
use Rattle.soundness.specs.Apply.{tidied, recounted, settled}
use Rattle.soundness.proofs.Formed.{Formed}
use Rattle.soundness.proofs.Settled.{is_tidy, recounted_fit, settled_length}

-- The image began as another, whose header it still has, and n slots are given out.
module _ (o : Options) (start : List ℕ) (holds : Holds o start) (n : ℕ) (image : List ℕ) (around : Around start image)
    (head : shape_of image ≡ shape_of start) (fit : Shaped (with_slots (shape_of start) n) image)
    (formed : Formed (shape_of start).layout.ordered (table_of (with_slots (shape_of start) n) image)) where
  abbrev s : Shape
  s = shape_of start

  abbrev tidy : List ℕ
  tidy = tidied (with_slots s n) image

  abbrev new : Shape
  new = recounted (with_slots s n) tidy

  abbrev after : List ℕ
  after = settled (with_slots s n) image

  is_fit : Shaped new tidy
  is_fit = recounted_fit s n image head fit formed

  begun : (m : ℕ) → bytes_in tidy m ≡ bytes_in start m
  begun m = around_bytes (is_tidy s n image head fit formed).around m ∙ around_bytes around m

  begun_value : (m : ℕ) → value tidy m ≡ value start m
  unfolding value
  begun_value m = ap word (begun m)

  -- fields that are not written are as they were
  b : (m : ℕ) → T (misses (write.counters new tidy is_fit) m) → T (apart m F.header_crc32c) → bytes_in after m ≡ bytes_in start m
  unfolding settled
  b m other crc = write.counted_other new tidy is_fit m other crc ∙ begun m

  v : (m : ℕ) → T (misses (write.counters new tidy is_fit) m) → T (apart m F.header_crc32c) → value after m ≡ value start m
  unfolding value
  v m other crc = ap word (b m other crc)

  -- the user fields are none of those that a commit writes
  pub user_kept : user_fields after ≡ user_fields start
  user_kept = same_user start after (b F.user_flags tt tt) (b F.user_data tt tt)

  same_length : length after ≡ length start
  same_length = settled_length s n image head fit formed ∙ around.size

  second' : first_of (test2 after) ≡ 0
  unfolding test2
  second' = rw same_length holds.second

  third' : first_of (test3 after) ≡ 0
  unfolding test3
  third' = rw (v F.magic tt tt, v F.version tt tt, v F.header_size tt tt, v F.hash_alg tt tt) holds.third

  sixth' : first_of (test6 after) ≡ 0
  unfolding test6
  sixth' = rw (v F.flags tt tt, b F.reserved tt tt, v F.state tt tt) holds.sixth

  eighth' : (role : ℕ) → first_of (test8 (with_role o role) after) ≡ 0
  unfolding test8
  eighth' role =
      rw (v F.key_size_field tt tt, v F.index_size_field tt tt, v F.slot_size_field tt tt, v F.slot_capacity_field tt tt, v F.user_version tt tt, v F.flags tt tt) holds.eighth

  ninth' : first_of (test9 after) ≡ 0
  unfolding test9
  ninth' = rw (v F.bucket_count_field tt tt, v F.slot_capacity_field tt tt) holds.ninth

  tenth' : first_of (test10 after) ≡ 0
  unfolding test10 image_total
  tenth' =
      rw (v F.slots_offset tt tt, v F.buckets_offset_field tt tt, v F.slot_capacity_field tt tt, v F.slot_size_field tt tt, v F.bucket_count_field tt tt, same_length) holds.tenth

  module _ (more : value start F.generation + 2 < 2 ^ 64) (bytes : Bytes tidy) where
    more' : value tidy F.generation + 2 < 2 ^ 64
    more' = rw (begun_value F.generation) more

    -- "adds 2 to the generation"
    pub generation_on : value after F.generation ≡ value start F.generation + 2
    unfolding settled
    generation_on = write.counted_value new tidy is_fit more' F.generation tt ∙ ap (λ (x : ℕ). x + 2) (begun_value F.generation)

    fourth' : (role : ℕ) → first_of (test4 (with_role o role) after) ≡ 0
    unfolding test4 first_of
    fourth' role =
        let even : value after F.generation % 2 ≡ 0 = omega (arith, generation_on, even_passed o start holds.fourth) in
        rw even refl

    fifth' : first_of (test5 after) ≡ 0
    unfolding test5 first_of settled
    fifth' = rw (eq-eqb _ _ (write.counted_crc new tidy is_fit bytes)) refl

    capacity : new.slot_highwater ≤ value start F.slot_capacity_field
    unfolding recounted with_slots with_counters shape_of layout_of
    capacity = is_fit.highwater

    eleventh' : first_of (test11 after) ≡ 0
    unfolding test11 first_of settled
    eleventh' =
        let w = write.counted_value new tidy is_fit more' in
        let equal = eq-eqb new.live_count new.live_count refl in
        let few = le-leb (new.live_count + new.bucket_tombstones) new.slot_highwater is_fit.counters in
        let room = le-leb new.slot_highwater (value start F.slot_capacity_field) capacity in
        rw (w F.live_count_field tt, w F.bucket_used tt, w F.bucket_tombstones tt, w F.slot_highwater tt, equal, few, v F.slot_capacity_field tt tt, room) refl

    -- the header test passes for either role
    pub header_passes : value start F.state ≡ DIRTY → (role : ℕ) → role ≤ 2 → (role ≡ 0 → ⊥) → header_test (with_role o role) after ≡ 0
    unfolding first_of
    header_passes dirty role low some =
        header_by_state (with_role o role) after
        (record {
          first = any_role o role low holds.first;
          second = second';
          third = third';
          fourth = fourth' role;
          fifth = fifth';
          sixth = sixth';
          eighth = eighth' role;
          ninth = ninth';
          tenth = tenth';
          eleventh = eleventh';
        })
        ∙ rw (v F.state tt tt, dirty, ne_eqb role 0 some) refl
