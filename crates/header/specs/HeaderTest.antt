-- "The header test, in this order".
-- Assumes nothing.
use Rattle.std.specs.Prelude.{ℕ, zero, suc, ◌+◌, ◌%◌, Bool, not, ◌&&◌, ◌||◌, List, [], ◌∷◌, ◌++◌, eqb, leb, ltb, length}
use Rattle.numbers.specs.Bytes.{all_zero}
use Rattle.digests.specs.Crc.{header_crc}
use Rattle.header.specs.declared.options.Options.{Options}
use Rattle.header.specs.declared.shape.Layout.{Layout}
use Rattle.header.specs.declared.shape.Shape.{Shape}
use Rattle.header.specs.Answer.{needs_rebuild, incompatible, invalidated, busy, invalid_input, create_it}
use Rattle.header.specs.Fields as F
use Rattle.header.specs.Fields.{value, bytes_in, SLC1}
use Rattle.header.specs.FirstOf.{first_of}
use Rattle.header.specs.State.{INVALIDATED, DIRTY, no_writer_known, another_writer, holds_the_lock}
use Rattle.header.specs.Sizes.{most_bucket_count, sizes_to_open, sizes_to_create, capacity_fits, slot_size, power_from, buckets_offset, total}

-- whether a number of 64 bits is a power of two
unfoldable pub power_of_two : ℕ → Bool
power_of_two n = eqb (power_from 64 0 n) n

-- the test of options that are inside the sizes, or not
abbrev pub options_test : Bool → Options → List (Bool × ℕ)
options_test inside o = (not inside || ltb 1 o.ordered || ltb holds_the_lock o.role, invalid_input) ∷ []

-- "1. Options outside the sizes, ordered above 1, or role above 2: 7.": of a call that opens an image
unfoldable pub test1 : Options → List (Bool × ℕ)
test1 o = options_test (sizes_to_open o) o

-- and of create, which has no header to say the capacity
unfoldable pub create_test1 : Options → List (Bool × ℕ)
create_test1 o = options_test (sizes_to_create o) o

-- "2. Length 0: 10. Length 1 to 255: 1."
unfoldable pub test2 : List ℕ → List (Bool × ℕ)
test2 image = (eqb (length image) 0, create_it) ∷ (ltb (length image) 256, needs_rebuild) ∷ []

-- "3. Magic, version, header_size or hash_alg wrong: 2."
unfoldable pub test3 : List ℕ → List (Bool × ℕ)
test3 image = (
  not
      (eqb (value image F.magic) SLC1 && eqb (value image F.version) 1 && eqb (value image F.header_size) 256
      && eqb (value image F.hash_alg) 1),
  incompatible,
)
    ∷ []

-- "4. Generation odd: role 1 gives 4, else 1."
unfoldable pub test4 : Options → List ℕ → List (Bool × ℕ)
test4 o image =
    (eqb (value image F.generation % 2) 1 && eqb o.role another_writer, busy)
    ∷ (eqb (value image F.generation % 2) 1, needs_rebuild)
    ∷ []

-- "5. CRC differs: 1."
unfoldable pub test5 : List ℕ → List (Bool × ℕ)
test5 image = (not (eqb (value image F.header_crc32c) (header_crc image)), needs_rebuild) ∷ []

-- "6. Unknown flag, non-zero reserved byte, unknown state: 2."
unfoldable pub test6 : List ℕ → List (Bool × ℕ)
test6 image =
    (ltb 1 (value image F.flags) || not (all_zero (bytes_in image F.reserved)) || ltb DIRTY (value image F.state), incompatible)
    ∷ []

-- "7. INVALIDATED: 3."
unfoldable pub test7 : List ℕ → List (Bool × ℕ)
test7 image = (eqb (value image F.state) INVALIDATED, invalidated) ∷ []

-- "8. key_size, index_size, slot_size, slot_capacity, user_version or ordered flag not as the options say: 2."; capacity 0 says
-- "as the header says ..., else 2" (CR 10)
unfoldable pub test8 : Options → List ℕ → List (Bool × ℕ)
test8 o image = (
  not
      (eqb (value image F.key_size_field) o.key_size && eqb (value image F.index_size_field) o.index_size
      && eqb (value image F.slot_size_field) (slot_size o.key_size o.index_size)
      && capacity_fits o.slot_capacity (value image F.slot_capacity_field) && eqb (value image F.user_version) o.user_version
      && eqb (value image F.flags) o.ordered),
  incompatible,
)
    ∷ []

-- 9. "B may be any power of two above slot_capacity, up to 4,194,304; a larger power of two is 2, any other B 1." (CR 10)
unfoldable pub test9 : List ℕ → List (Bool × ℕ)
test9 image =
    (power_of_two (value image F.bucket_count_field) && ltb most_bucket_count (value image F.bucket_count_field), incompatible)
    ∷ (
      not (power_of_two (value image F.bucket_count_field) && ltb (value image F.slot_capacity_field) (value image F.bucket_count_field)),
      needs_rebuild,
    )
    ∷ []

-- the total of an image, by its own header
unfoldable pub image_total : List ℕ → ℕ
image_total image = total (value image F.slot_capacity_field) (value image F.slot_size_field) (value image F.bucket_count_field)

-- "10. An offset wrong, or a length other than the total: 1." (CR 8)
unfoldable pub test10 : List ℕ → List (Bool × ℕ)
test10 image = (
  not
      (eqb (value image F.slots_offset) 256
      && eqb (value image F.buckets_offset_field) (buckets_offset (value image F.slot_capacity_field) (value image F.slot_size_field)))
      || not (eqb (length image) (image_total image)),
  needs_rebuild,
)
    ∷ []

-- "11. live_count = bucket_used, and bucket_used + bucket_tombstones <= slot_highwater <= slot_capacity, else 1."
unfoldable pub test11 : List ℕ → List (Bool × ℕ)
test11 image = (
  not
      (eqb (value image F.live_count_field) (value image F.bucket_used)
      && leb (value image F.bucket_used + value image F.bucket_tombstones) (value image F.slot_highwater)
      && leb (value image F.slot_highwater) (value image F.slot_capacity_field)),
  needs_rebuild,
)
    ∷ []

-- "12. DIRTY with role 0: 1."
unfoldable pub test12 : Options → List ℕ → List (Bool × ℕ)
test12 o image = (eqb (value image F.state) DIRTY && eqb o.role no_writer_known, needs_rebuild) ∷ []

unfoldable pub header_tests : Options → List ℕ → List (Bool × ℕ)
header_tests o image =
    test1 o ++ test2 image ++ test3 image ++ test4 o image ++ test5 image ++ test6 image ++ test7 image ++ test8 o image
    ++ test9 image ++ test10 image ++ test11 image ++ test12 o image

-- the header test's number: 0 where the image passes
unfoldable pub header_test : Options → List ℕ → ℕ
header_test o image = first_of (header_tests o image)

-- what the header says, for later calls: where slots and buckets lie, and what calls change
unfoldable pub layout_of : List ℕ → Layout
layout_of image =
    record {
      key_size = value image F.key_size_field;
      index_size = value image F.index_size_field;
      slot_size = value image F.slot_size_field;
      slot_capacity = value image F.slot_capacity_field;
      bucket_count = value image F.bucket_count_field;
      buckets_offset = value image F.buckets_offset_field;
      ordered = eqb (value image F.flags) 1;
    }

unfoldable pub shape_of : List ℕ → Shape
shape_of image =
    record {
      layout = layout_of image;
      slot_highwater = value image F.slot_highwater;
      live_count = value image F.live_count_field;
      bucket_tombstones = value image F.bucket_tombstones;
      state = value image F.state;
      generation = value image F.generation;
    }

-- "Every call but create and revision age makes this test first": by its number, what the call goes on to, or a refusal
abbrev pub after_test : {A : Type 0} → ℕ → A → (ℕ → A) → A
after_test zero go refuse = go
after_test (suc n) go refuse = refuse (suc n)
