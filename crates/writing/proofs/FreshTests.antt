-- An image whose header says what a fresh one says passes every test of the header test but those of the state.
-- Assumes nothing.
use Prim.Native.Nat.{ℕ, ◌≤◌}
use mathlib.Core.Bool.{true}
use mathlib.Core.Path.{◌≡◌, refl}
use mathlib.Core.List.{List}
use native.Mathlib.Omega.{arith}
use borrow.Author.Tests.{eq-eqb, ne_eqb, le-ltb, lt-ltb, le-leb}
use lib.Dec.{T}
use lib.ListN.{length, replicate}
use Rattle.digests.specs.Crc.{header_crc}
use Rattle.header.specs.declared.options.Options.{Options}
use Rattle.header.specs.Fields as F
use Rattle.header.specs.Fields.{bytes_in, value}
use Rattle.header.specs.FirstOf.{first_of}
use Rattle.header.specs.State.{with_role}
use Rattle.header.specs.HeaderTest.{create_test1, test2, test3, test4, test5, test6, test8, test9, image_total, test10, test11}
use Rattle.header.specs.Sizes.{most_bucket_count, capacity_fits, slot_size, bucket_count, buckets_offset, total_size}
use Rattle.header.proofs.PassedTests.{create_sized, create_ordered, create_opens}
use Rattle.header.proofs.SizeLaws.{bucket_count_is_power, bucket_count_high, bucket_count_room}
use Rattle.writing.specs.Create.{fresh_fields}
use Rattle.writing.proofs.OneField.{apart}
use Rattle.writing.proofs.FieldList.{after}
use Rattle.writing.proofs.Tests.{Holds}
use Rattle.numbers.proofs.Zeros.{all_zeros}
use Rattle.writing.proofs.Making.{total_low}

abbrev offset : Options → ℕ
offset o = buckets_offset o.slot_capacity (slot_size o.key_size o.index_size)

-- a capacity that an image may have fits an option that gives it
own_capacity : (capacity : ℕ) → 1 ≤ capacity → capacity_fits capacity capacity ≡ true
unfolding capacity_fits
own_capacity capacity low = rw (ne_eqb capacity 0 (λ e. omega arith), eq-eqb capacity capacity refl) refl

module _ (o : Options) (image : List ℕ) (first : first_of (create_test1 o) ≡ 0) (v : (m : ℕ) → T (apart m F.header_crc32c) → value image m ≡ after (fresh_fields o) m 0) (size : length image ≡ total_size o) where
  second : first_of (test2 image) ≡ 0
  unfolding test2 first_of
  second =
      let l : 256 ≤ length image = omega (arith, total_low o) in
      rw (ne_eqb (length image) 0 (λ e. omega arith), le-ltb (length image) 256 l) refl

  third : first_of (test3 image) ≡ 0
  unfolding test3 first_of fresh_fields
  third = rw (v F.magic tt, v F.version tt, v F.header_size tt, v F.hash_alg tt) refl

  fourth : (role : ℕ) → first_of (test4 (with_role o role) image) ≡ 0
  unfolding test4 first_of fresh_fields
  fourth role = rw (v F.generation tt) refl

  fifth : value image F.header_crc32c ≡ header_crc image → first_of (test5 image) ≡ 0
  unfolding test5 first_of
  fifth e = rw (eq-eqb (value image F.header_crc32c) (header_crc image) e) refl

  sixth : bytes_in image F.reserved ≡ replicate 64 0 → first_of (test6 image) ≡ 0
  unfolding test6 first_of fresh_fields
  sixth e = rw (v F.flags tt, le-ltb 1 o.ordered (create_ordered o first), e, all_zeros 64, v F.state tt) refl

  eighth : (role : ℕ) → first_of (test8 (with_role o role) image) ≡ 0
  unfolding test8 first_of fresh_fields
  eighth role =
      rw (v F.key_size_field tt, v F.index_size_field tt, v F.slot_size_field tt, v F.slot_capacity_field tt, v F.user_version tt, v F.flags tt, eq-eqb o.key_size o.key_size refl, eq-eqb o.index_size o.index_size refl, eq-eqb (slot_size o.key_size o.index_size) (slot_size o.key_size o.index_size) refl, own_capacity o.slot_capacity (create_sized o first).capacity_low, eq-eqb o.user_version o.user_version refl, eq-eqb o.ordered o.ordered refl) refl

  ninth : first_of (test9 image) ≡ 0
  unfolding test9 first_of fresh_fields
  ninth =
      let h = create_sized o first in
      let c : ℕ = o.slot_capacity in
      let most : bucket_count c ≤ most_bucket_count = omega (arith, bucket_count_high c h.capacity_low, h.sizes.capacity_high) in
      rw (v F.bucket_count_field tt, v F.slot_capacity_field tt, bucket_count_is_power c, le-ltb most_bucket_count (bucket_count c) most, lt-ltb c (bucket_count c) (bucket_count_room c h.capacity_low h.sizes.capacity_high)) refl

  tenth : first_of (test10 image) ≡ 0
  unfolding test10 image_total first_of fresh_fields total_size
  tenth = rw (v F.slots_offset tt, v F.buckets_offset_field tt, v F.slot_capacity_field tt, v F.slot_size_field tt, v F.bucket_count_field tt, eq-eqb (offset o) (offset o) refl, eq-eqb (length image) (total_size o) size) refl

  eleventh : first_of (test11 image) ≡ 0
  unfolding test11 first_of fresh_fields
  eleventh =
      rw (v F.live_count_field tt, v F.bucket_used tt, v F.bucket_tombstones tt, v F.slot_highwater tt, v F.slot_capacity_field tt, le-leb 0 o.slot_capacity (omega arith)) refl

  pub fresh_holds : value image F.header_crc32c ≡ header_crc image → bytes_in image F.reserved ≡ replicate 64 0 → (role : ℕ) → role ≤ 2 → Holds (with_role o role) image
  fresh_holds crc reserved role low =
      record {
        first = create_opens o first role low;
        second = second;
        third = third;
        fourth = fourth role;
        fifth = fifth crc;
        sixth = sixth reserved;
        eighth = eighth role;
        ninth = ninth;
        tenth = tenth;
        eleventh = eleventh;
      }
