-- A history worked out, byte by byte: two keys with one home bucket are put, user fields are set, the first key is deleted and
-- put again, and in the end the image is given up. Every image stands here in full.
-- Assumes nothing.
use Rattle.std.specs.Prelude.{ℕ, ◌-◌, ◌%◌, ◌^◌, ◌≡◌, List, [], ◌∷◌, ◌++◌, ℤ, pos, negsuc, replicate}
use Rattle.digests.specs.Fnv.{fnv1a64}
use Rattle.header.specs.declared.options.Options.{Options}
use Rattle.header.specs.declared.open.UserFields.{UserFields}
use Rattle.header.specs.Answer.{done, full, invalidated, not_present}
use Rattle.header.specs.State.{CLEAN, INVALIDATED, DIRTY, with_role}
use Rattle.header.specs.HeaderTest.{header_test, shape_of}
use Rattle.header.specs.Open.{no_fields, open_of}
use Rattle.image.specs.Lookup.{lookup_of, index_part}
use Rattle.writing.specs.Create.{create_of}
use Rattle.writing.specs.State.{begin_of, checkpoint_of, invalidate_of, set_user_fields_of}
use Rattle.soundness.specs.Commit.{commit_of}
use Rattle.maps.specs.Map.{Map, applied}
use Rattle.demands.specs.History.{empty_map, fresh_in, History}
use Rattle.pins.specs.Literal.{Layout, words, zeros, header, no_user, slot, bucket, tombstone}
use Rattle.demands.specs.Owes.{written}
use Rattle.demands.specs.Shows.{Shows}

abbrev pub options : Options
options =
    record { key_size = 1; index_size = 1; slot_capacity = 3; user_version = 7; ordered = 0; role = 2 }

abbrev pub reader : Options
reader = with_role options 0

-- three slots, and so many buckets
abbrev pub three_slots : ℕ → Layout
three_slots buckets =
    record {
      key_size = 1;
      index_size = 1;
      slot_size = 32;
      flags = 0;
      slot_capacity = 3;
      bucket_count = buckets;
      buckets_offset = 352;
    }

-- the total is 480
abbrev pub layout : Layout
layout = three_slots 8

-- the buckets by slot_plus1 of the first and of the last, which have the hashes of the keys 64 and 72; the others are EMPTY
abbrev pub buckets : (first last : ℕ) → List ℕ
buckets first last = bucket 0xAF63FD4C8602249F first ++ zeros 12 ++ bucket 0xAF64054C86023237 last

-- −3, as a word
abbrev pub minus_three : ℕ
minus_three = 2 ^ 64 - 3

-- The batches: a put of two keys, in falling key order, a delete of the first, a put of it again, and a put of a third key.
abbrev pub batch1 : List ℕ
batch1 = slot 1 72 2 20 ++ slot 1 64 1 10

abbrev pub batch2 : List ℕ
batch2 = slot 0 72 0 0

abbrev pub batch3 : List ℕ
batch3 = slot 1 72 minus_three 30

abbrev pub batch4 : List ℕ
batch4 = slot 1 80 4 40

-- The user fields: user_flags, and the bytes 1 to 64.
abbrev pub flags : ℕ
flags = 0x0123456789ABCDEF

abbrev pub eights : List ℕ
eights =
    0x0807060504030201
    ∷ 0x100F0E0D0C0B0A09
    ∷ 0x1817161514131211
    ∷ 0x201F1E1D1C1B1A19
    ∷ 0x2827262524232221
    ∷ 0x302F2E2D2C2B2A29
    ∷ 0x3837363534333231
    ∷ 0x403F3E3D3C3B3A39
    ∷ []

abbrev pub fields : UserFields
fields = record { user_flags = flags; user_data = words 8 eights }

-- The images: a buffer two words longer than the total, full of ones, and then what each call in turn leaves of the total's bytes.
abbrev pub buffer : List ℕ
buffer = words 8 (replicate 62 tombstone)

abbrev pub image0 : List ℕ
image0 = header layout 0 0 0 0 0x3B607E00 CLEAN no_user ++ zeros 28

abbrev pub image1 : List ℕ
image1 = header layout 0 0 0 0 0xA02F22DF DIRTY no_user ++ zeros 28

abbrev pub image2 : List ℕ
image2 = header layout 2 2 0 2 0x48CE1EF6 DIRTY no_user ++ slot 1 72 2 20 ++ slot 1 64 1 10 ++ zeros 4 ++ buckets 2 1

abbrev pub image3 : List ℕ
image3 =
    header layout 2 2 0 4 0xD884A423 DIRTY (flags ∷ eights) ++ slot 1 72 2 20 ++ slot 1 64 1 10 ++ zeros 4 ++ buckets 2 1

abbrev pub image4 : List ℕ
image4 =
    header layout 2 1 1 6 0x9CBE34FF DIRTY (flags ∷ eights) ++ slot 0 72 2 20 ++ slot 1 64 1 10 ++ zeros 4
    ++ buckets 2 tombstone

-- the slots and the buckets of the images from here on
abbrev pub ending : List ℕ
ending = slot 0 72 2 20 ++ slot 1 64 1 10 ++ slot 1 72 minus_three 30 ++ buckets 2 3

abbrev pub image5 : List ℕ
image5 = header layout 3 2 0 8 0x5BB02C11 DIRTY (flags ∷ eights) ++ ending

abbrev pub image6 : List ℕ
image6 = header layout 3 2 0 8 0xC0FF70CE CLEAN (flags ∷ eights) ++ ending

abbrev pub image7 : List ℕ
image7 = header layout 3 2 0 10 0x0FAEE5D9 INVALIDATED (flags ∷ eights) ++ ending

-- The maps of images 2, 4 and 5: each batch applied.
abbrev pub map2 : Map
map2 = applied (shape_of image1) batch1 empty_map

abbrev pub map4 : Map
map4 = applied (shape_of image3) batch2 map2

abbrev pub map5 : Map
map5 = applied (shape_of image4) batch3 map4

-- What each call answers, and the image that it leaves.
pub record Steps : Type 0 where
  -- all three keys have the last bucket of 8 as their home
  pub home_64 : fnv1a64 (64 ∷ []) % 8 ≡ 7
  pub home_72 : fnv1a64 (72 ∷ []) % 8 ≡ 7
  pub home_80 : fnv1a64 (80 ∷ []) % 8 ≡ 7
  -- the two words past the total stay
  pub creates : create_of options buffer ≡ written done (image0 ++ words 8 (tombstone ∷ tombstone ∷ []))
  pub fresh : fresh_in options buffer ≡ image0
  pub begins : begin_of options image0 ≡ written done image1
  -- slots in order of the records; the second key goes round the end, into bucket 0
  pub puts : commit_of options image1 batch1 ≡ written done image2
  pub marks : set_user_fields_of options image2 fields ≡ written done image3
  -- bucket 7 becomes a TOMBSTONE, before the bucket of the other key
  pub deletes : commit_of options image3 batch2 ≡ written done image4
  -- the key gets a new slot, the last, and takes the TOMBSTONE
  pub puts_again : commit_of options image4 batch3 ≡ written done image5
  -- no slot is left for a third key
  pub refuses : commit_of options image5 batch4 ≡ written full image5
  pub closes : checkpoint_of options image5 ≡ written done image6
  -- the header test of the writer after the delete, and of a reader at the end
  pub writer_passes : header_test options image4 ≡ done
  pub reader_passes : header_test reader image6 ≡ done
  pub invalidates : invalidate_of options image6 ≡ written done image7
  pub given_up : header_test reader image7 ≡ invalidated

-- a lookup answers 0, with this revision and these index bytes, in a slot that shows them; a lookup answers 9
abbrev pub Finds : Options → List ℕ → List ℕ → ℤ → List ℕ → Type 0
Finds o image key revision index =
    ((lookup_of o image key).answer ≡ done) × ((lookup_of o image key).revision ≡ revision) × (index_part o image key ≡ index)
    × Shows o image (lookup_of o image key).slot key (record { revision = revision; index = index })

abbrev pub Lacks : Options → List ℕ → List ℕ → Type 0
Lacks o image key = (lookup_of o image key).answer ≡ not_present

pub record Story : Type 0 where
  pub steps : Steps
  -- after the delete, for the writer: the second key is found past the TOMBSTONE
  pub history4 : History options image4 map4 fields
  pub deleted : Lacks options image4 (72 ∷ [])
  pub behind : Finds options image4 (64 ∷ []) (pos 1) (10 ∷ [])
  -- at the end, for any reader: the third key was never put, and the user fields are those that were set
  pub history : History options image6 map5 fields
  pub again : Finds reader image6 (72 ∷ []) (negsuc 2) (30 ∷ [])
  pub collided : Finds reader image6 (64 ∷ []) (pos 1) (10 ∷ [])
  pub never : Lacks reader image6 (80 ∷ [])
  pub opens : open_of reader image6 ≡ record { answer = done; fields = fields }
  -- an image that was given up hands out nothing
  pub closed : open_of reader image7 ≡ record { answer = invalidated; fields = no_fields }
