-- Each sentence that refuses, on options, an image or a batch that are wrong in that alone. The image is the story's last, which
-- a reader's header test passes, or the one before it, which the writer may change.
-- Assumes nothing.
use Rattle.std.specs.Prelude.{ℕ, ◌≡◌, true, false, List, [], ◌∷◌, ◌++◌, take}
use Rattle.numbers.specs.Bytes.{put}
use Rattle.header.specs.declared.shape.Shape.{Shape}
use Rattle.header.specs.FirstOf.{first_of}
use Rattle.header.specs.State.{with_role}
use Rattle.header.specs.HeaderTest.{test1, create_test1, test2, test3, test4, test5, test6, test7, test8, test9, test10, test11, test12, shape_of}
use Rattle.image.specs.Check.{passes}
use Rattle.image.specs.Lookup.{lookup_in}
use Rattle.writing.specs.State.{clean_test, generation_test}
use Rattle.batch.specs.Batch.{batch_wrong}
use Rattle.host.specs.Options.{options_of}
use Rattle.pins.specs.Literal.{words, zeros, slot, tombstone}
use Rattle.pins.specs.Story.{options, reader, image5, image6}
use Rattle.pins.specs.OrderedStory as O

abbrev pub s : Shape
s = shape_of image5

-- the image with other bytes at an offset
abbrev pub with : ℕ → List ℕ → List ℕ
with at bytes = put image6 at bytes

-- The header test, test by test: the number that each gives, where it is wrong in one thing; the story's images pass them all.
pub record HeaderRefusals : Type 0 where
  -- "1. Options outside the sizes, ordered above 1, or role above 2: 7."; "Option capacity 0 now means 'as the header says'", but
  -- "create ... answers 7 to capacity 0" (CR 10)
  pub key_0 : first_of (test1 (options_of 0 1 3 7 0 0)) ≡ 7
  pub key_65 : first_of (test1 (options_of 65 1 3 7 0 0)) ≡ 7
  pub index_257 : first_of (test1 (options_of 1 257 3 7 0 0)) ≡ 7
  pub capacity_0 : first_of (test1 (options_of 1 1 0 7 0 0)) ≡ 0
  pub create_capacity_0 : first_of (create_test1 (options_of 1 1 0 7 0 0)) ≡ 7
  pub create_capacity_1 : first_of (create_test1 (options_of 1 1 1 7 0 0)) ≡ 0
  pub capacity_1048577 : first_of (test1 (options_of 1 1 1048577 7 0 0)) ≡ 7
  pub ordered_2 : first_of (test1 (options_of 1 1 3 7 2 0)) ≡ 7
  pub role_3 : first_of (test1 (options_of 1 1 3 7 0 3)) ≡ 7
  pub largest : first_of (test1 (options_of 64 256 1048576 7 1 2)) ≡ 0
  -- "2. Length 0: 10. Length 1 to 255: 1."
  pub length_0 : first_of (test2 []) ≡ 10
  pub length_1 : first_of (test2 (take 1 image6)) ≡ 1
  pub length_255 : first_of (test2 (take 255 image6)) ≡ 1
  pub length_256 : first_of (test2 (take 256 image6)) ≡ 0
  -- "3. Magic, version, header_size or hash_alg wrong: 2."
  pub magic : first_of (test3 (with 0x00 (0x73 ∷ []))) ≡ 2
  pub version : first_of (test3 (with 0x04 (2 ∷ []))) ≡ 2
  pub header_size : first_of (test3 (with 0x08 (1 ∷ []))) ≡ 2
  pub hash_alg : first_of (test3 (with 0x18 (2 ∷ []))) ≡ 2
  -- "4. Generation odd: role 1 gives 4, else 1."
  pub odd_0 : first_of (test4 reader (with 0x40 (9 ∷ []))) ≡ 1
  pub odd_1 : first_of (test4 (with_role options 1) (with 0x40 (9 ∷ []))) ≡ 4
  pub odd_2 : first_of (test4 options (with 0x40 (9 ∷ []))) ≡ 1
  -- "5. CRC differs: 1."
  pub crc : first_of (test5 (with 0x80 (0 ∷ []))) ≡ 1
  -- "6. Unknown flag, non-zero reserved byte, unknown state: 2."
  pub flag : first_of (test6 (with 0x1C (2 ∷ []))) ≡ 2
  pub reserved_first : first_of (test6 (with 0xC0 (1 ∷ []))) ≡ 2
  pub reserved_last : first_of (test6 (with 0xFF (1 ∷ []))) ≡ 2
  pub state : first_of (test6 (with 0x74 (3 ∷ []))) ≡ 2
  -- "7. INVALIDATED: 3."
  pub given_up : first_of (test7 (with 0x74 (1 ∷ []))) ≡ 3
  -- "8. key_size, index_size, slot_size, slot_capacity, user_version or ordered flag not as the options say: 2."
  pub another_key : first_of (test8 (options_of 2 1 3 7 0 0) image6) ≡ 2
  pub another_index : first_of (test8 (options_of 1 2 3 7 0 0) image6) ≡ 2
  pub another_slot : first_of (test8 reader (with 0x14 (40 ∷ []))) ≡ 2
  pub another_capacity : first_of (test8 (options_of 1 1 4 7 0 0) image6) ≡ 2
  -- and with capacity 0 what the header says, "within 1 to 1,048,576, else 2" (CR 10)
  pub as_it_says : first_of (test8 (options_of 1 1 0 7 0 0) image6) ≡ 0
  pub says_0 : first_of (test8 (options_of 1 1 0 7 0 0) (with 0x20 (0 ∷ []))) ≡ 2
  pub says_1048576 : first_of (test8 (options_of 1 1 0 7 0 0) (with 0x20 (0 ∷ 0 ∷ 16 ∷ []))) ≡ 0
  pub says_1048577 : first_of (test8 (options_of 1 1 0 7 0 0) (with 0x20 (1 ∷ 0 ∷ 16 ∷ []))) ≡ 2
  pub another_version : first_of (test8 (options_of 1 1 3 8 0 0) image6) ≡ 2
  pub another_order : first_of (test8 (options_of 1 1 3 7 1 0) image6) ≡ 2
  -- 9. "B may be any power of two above slot_capacity, up to 4,194,304; a larger power of two is 2, any other B 1." (CR 10)
  pub buckets_0 : first_of (test9 (with 0x48 (0 ∷ []))) ≡ 1
  pub buckets_1 : first_of (test9 (with 0x48 (1 ∷ []))) ≡ 1
  pub buckets_2 : first_of (test9 (with 0x48 (2 ∷ []))) ≡ 1
  pub buckets_4 : first_of (test9 (with 0x48 (4 ∷ []))) ≡ 0
  pub buckets_6 : first_of (test9 (with 0x48 (6 ∷ []))) ≡ 1
  pub buckets_16 : first_of (test9 (with 0x48 (16 ∷ []))) ≡ 0
  pub buckets_4194304 : first_of (test9 (with 0x48 (0 ∷ 0 ∷ 64 ∷ []))) ≡ 0
  pub buckets_4194305 : first_of (test9 (with 0x48 (1 ∷ 0 ∷ 64 ∷ []))) ≡ 1
  pub buckets_8388608 : first_of (test9 (with 0x48 (0 ∷ 0 ∷ 128 ∷ []))) ≡ 2
  pub buckets_most : first_of (test9 (with 0x48 (0 ∷ 0 ∷ 0 ∷ 0 ∷ 0 ∷ 0 ∷ 0 ∷ 128 ∷ []))) ≡ 2
  -- whatever the capacity: a larger power of two that is not above it
  pub buckets_below : first_of (test9 (put (with 0x48 (0 ∷ 0 ∷ 128 ∷ [])) 0x20 (0 ∷ 0 ∷ 0 ∷ 1 ∷ []))) ≡ 2
  -- "10. An offset wrong, or a length other than the total: 1." (CR 8)
  pub slots_offset : first_of (test10 (with 0x60 (8 ∷ []))) ≡ 1
  pub buckets_offset_field : first_of (test10 (with 0x68 (0x68 ∷ []))) ≡ 1
  pub shorter : first_of (test10 (take 479 image6)) ≡ 1
  pub longer : first_of (test10 (image6 ++ 0 ∷ [])) ≡ 1
  pub half_of_another : first_of (test10 (image6 ++ take 240 image5)) ≡ 1
  pub exact : first_of (test10 image6) ≡ 0
  -- "11. live_count = bucket_used, and bucket_used + bucket_tombstones <= slot_highwater <= slot_capacity, else 1."
  pub live : first_of (test11 (with 0x30 (1 ∷ []))) ≡ 1
  pub tombstones : first_of (test11 (with 0x58 (2 ∷ []))) ≡ 1
  pub highwater : first_of (test11 (with 0x28 (4 ∷ []))) ≡ 1
  -- "12. DIRTY with role 0: 1."
  pub dirty_0 : first_of (test12 reader image5) ≡ 1
  pub dirty_1 : first_of (test12 (with_role options 1) image5) ≡ 0
  pub dirty_2 : first_of (test12 options image5) ≡ 0

-- What is left after the header test, each test by itself: of the story's image that the writer may change, and of batches.
pub record FurtherRefusals : Type 0 where
  -- "Next, commit and set user fields on CLEAN: 7. Then ... at generation 2^64 - 2: 1."
  pub clean : first_of (clean_test image6) ≡ 7
  pub not_clean : first_of (clean_test image5) ≡ 0
  pub last_generation : first_of (generation_test (put image5 0x40 (words 8 (0xFFFFFFFFFFFFFFFE ∷ [])))) ≡ 1
  pub one_before : first_of (generation_test (put image5 0x40 (words 8 (0xFFFFFFFFFFFFFFFC ∷ [])))) ≡ 0
  -- "batch length no multiple of slot_size, over 1,024 records, or a malformed record" (CR 5): meta neither 0 nor 1, padding that
  -- is not zero, a delete with a revision or an index
  pub empty : batch_wrong s.layout [] ≡ false
  pub a_put : batch_wrong s.layout (slot 1 64 1 1) ≡ false
  pub a_delete : batch_wrong s.layout (slot 0 64 0 0) ≡ false
  pub cut : batch_wrong s.layout (take 31 (slot 1 64 1 1)) ≡ true
  pub records_1024 : batch_wrong s.layout (zeros 4096) ≡ false
  pub records_1025 : batch_wrong s.layout (zeros 4100) ≡ true
  pub meta_2 : batch_wrong s.layout (slot 2 64 1 1) ≡ true
  pub key_padding_stands : batch_wrong s.layout (slot 1 0x0140 1 1) ≡ true
  pub index_padding_stands : batch_wrong s.layout (slot 1 64 1 0x0101) ≡ true
  pub delete_revision : batch_wrong s.layout (slot 0 64 1 0) ≡ true
  pub delete_index : batch_wrong s.layout (slot 0 64 0 1) ≡ true
  -- the second of two records counts as much as the first
  pub second_record : batch_wrong s.layout (slot 1 64 1 1 ++ slot 2 64 1 1) ≡ true

-- The full check's sentences, and what lookup says of such an image.
pub record CheckRefusals : Type 0 where
  pub right : passes s image5 ≡ true
  -- "Every FULL bucket points below highwater at a slot with meta 1 and carries its key's hash": buckets 0 and 7 are FULL
  pub past_highwater : passes s (put image5 0x168 (4 ∷ [])) ≡ false
  pub deleted_slot : passes s (put image5 0x168 (1 ∷ [])) ≡ false
  pub another_hash : passes s (put image5 0x160 (0 ∷ [])) ≡ false
  -- "every slot below highwater has meta 0 or 1": slot 0 is deleted
  pub meta_2 : passes s (put image5 0x100 (2 ∷ [])) ≡ false
  -- "probing each live slot's key finds that slot": slot 0 is made live, whose key is that of slot 2
  pub twin : passes s (put image5 0x100 (1 ∷ [])) ≡ false
  -- "live, FULL and TOMBSTONE counts equal the header's": bucket 3 is made a TOMBSTONE
  pub tombstone_more : passes s (put image5 0x198 (words 8 (tombstone ∷ []))) ≡ false
  -- "if ordered, keys of all slots below highwater never fall": slot 1 of the ordered story
  pub right_ordered : passes (shape_of O.image3) O.image3 ≡ true
  pub falling : passes (shape_of O.image3) (put O.image3 0x108 (0x90 ∷ [])) ≡ false
  -- "A FULL bucket whose slot is at or past highwater: 1. Equal hash64 and equal key: meta 1 is found, else 1."
  pub lookup_past : (lookup_in s (put image5 0x1D8 (4 ∷ [])) (72 ∷ [])).answer ≡ 1
  pub lookup_dead : (lookup_in s (put image5 0x140 (0 ∷ [])) (72 ∷ [])).answer ≡ 1
  -- "Key length other than key_size: 7."
  pub lookup_long : (lookup_in s image5 (72 ∷ 0 ∷ [])).answer ≡ 7
  pub lookup_none : (lookup_in s image5 []).answer ≡ 7
