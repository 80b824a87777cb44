-- A second history, of an ordered cache whose keys have two bytes: keys put in falling order, a key below the tail refused
-- though the tail is deleted, a full cache, and the third TOMBSTONE of 8 buckets, which sets off a rebuild.
-- Assumes nothing.
use Rattle.std.specs.Prelude.{ℕ, ◌%◌, ◌≡◌, List, [], ◌∷◌, ◌++◌, pos, replicate}
use Rattle.digests.specs.Fnv.{fnv1a64}
use Rattle.header.specs.declared.options.Options.{Options}
use Rattle.header.specs.Answer.{done, full, out_of_order}
use Rattle.header.specs.State.{CLEAN, DIRTY, with_role}
use Rattle.header.specs.HeaderTest.{header_test, shape_of}
use Rattle.header.specs.Open.{no_fields}
use Rattle.image.specs.Lookup.{lookup_of}
use Rattle.writing.specs.Create.{create_of}
use Rattle.writing.specs.State.{begin_of, checkpoint_of}
use Rattle.soundness.specs.Commit.{commit_of}
use Rattle.maps.specs.Map.{Map, applied}
use Rattle.demands.specs.History.{empty_map, fresh_in, History}
use Rattle.pins.specs.Literal.{Layout, words, zeros, header, no_user, slot, bucket, tombstone}
use Rattle.demands.specs.Owes.{written}
use Rattle.pins.specs.Story.{Finds, Lacks}

abbrev pub options : Options
options =
    record { key_size = 2; index_size = 1; slot_capacity = 4; user_version = 7; ordered = 1; role = 2 }

abbrev pub reader : Options
reader = with_role options 0

-- the total is 512
abbrev pub layout : Layout
layout =
    record {
      key_size = 2;
      index_size = 1;
      slot_size = 32;
      flags = 1;
      slot_capacity = 4;
      bucket_count = 8;
      buckets_offset = 384;
    }

-- The keys 01 09, 7F 03, 80 06 and 80 08, in this order, as words with their zeros; and their hashes.
abbrev pub key1 : ℕ
key1 = 0x0901

abbrev pub key2 : ℕ
key2 = 0x037F

abbrev pub key3 : ℕ
key3 = 0x0680

abbrev pub key4 : ℕ
key4 = 0x0880

abbrev pub hash1 : ℕ
hash1 = 0x082F1B07B4E880DF

abbrev pub hash2 : ℕ
hash2 = 0x08E6A507B58475B7

abbrev pub hash3 : ℕ
hash3 = 0x09E58207B65CFA3B

abbrev pub hash4 : ℕ
hash4 = 0x09E58007B65CF6D5

-- The batches: three keys put in falling order; the last of them deleted; 80 01, below it, put; the first deleted and a fourth
-- put; C0 01 put; the fourth deleted.
abbrev pub batch1 : List ℕ
batch1 = slot 1 key3 3 30 ++ slot 1 key2 2 20 ++ slot 1 key1 1 10

abbrev pub batch2 : List ℕ
batch2 = slot 0 key3 0 0

abbrev pub below_tail : List ℕ
below_tail = slot 1 0x0180 9 90

abbrev pub batch3 : List ℕ
batch3 = slot 0 key1 0 0 ++ slot 1 key4 4 40

abbrev pub one_more : List ℕ
one_more = slot 1 0x01C0 5 50

abbrev pub batch4 : List ℕ
batch4 = slot 0 key4 0 0

-- the slots by the meta of each, and the key of the last, with its revision and index; buckets 0, 3, 5 and 7 by their slot_plus1
abbrev pub slots : (meta1 meta2 meta3 : ℕ) (last : List ℕ) → List ℕ
slots meta1 meta2 meta3 last = slot meta1 key1 1 10 ++ slot meta2 key2 2 20 ++ slot meta3 key3 3 30 ++ last

abbrev pub buckets : (at0 at3 : ℕ) (at5 : List ℕ) (at7 : ℕ) → List ℕ
buckets at0 at3 at5 at7 = bucket hash2 at0 ++ zeros 4 ++ bucket hash3 at3 ++ zeros 2 ++ at5 ++ zeros 2 ++ bucket hash1 at7

-- The images.
abbrev pub buffer : List ℕ
buffer = words 8 (replicate 64 tombstone)

abbrev pub image0 : List ℕ
image0 = header layout 0 0 0 0 0x705F7B9B CLEAN no_user ++ zeros 32

abbrev pub image1 : List ℕ
image1 = header layout 0 0 0 0 0xEB102744 DIRTY no_user ++ zeros 32

abbrev pub image2 : List ℕ
image2 = header layout 3 3 0 2 0xF577BE01 DIRTY no_user ++ slots 1 1 1 (zeros 4) ++ buckets 2 3 (zeros 2) 1

abbrev pub image3 : List ℕ
image3 = header layout 3 2 1 4 0x5A297461 DIRTY no_user ++ slots 1 1 0 (zeros 4) ++ buckets 2 tombstone (zeros 2) 1

abbrev pub image4 : List ℕ
image4 =
    header layout 4 2 2 6 0xB74B085F DIRTY no_user ++ slots 0 1 0 (slot 1 key4 4 40)
    ++ buckets 2 tombstone (bucket hash4 4) tombstone

-- the slots and the buckets after the rebuild
abbrev pub rebuilt : List ℕ
rebuilt = slots 0 1 0 (slot 0 key4 4 40) ++ zeros 14 ++ bucket hash2 2

abbrev pub image5 : List ℕ
image5 = header layout 4 1 0 8 0x99A8C730 DIRTY no_user ++ rebuilt

abbrev pub image6 : List ℕ
image6 = header layout 4 1 0 8 0x02E79BEF CLEAN no_user ++ rebuilt

-- The maps of images 2 to 5.
abbrev pub map2 : Map
map2 = applied (shape_of image1) batch1 empty_map

abbrev pub map3 : Map
map3 = applied (shape_of image2) batch2 map2

abbrev pub map4 : Map
map4 = applied (shape_of image3) batch3 map3

abbrev pub map5 : Map
map5 = applied (shape_of image4) batch4 map4

pub record OrderedSteps : Type 0 where
  -- the first two keys have one home
  pub hash_1 : fnv1a64 (0x01 ∷ 0x09 ∷ []) ≡ hash1
  pub hash_2 : fnv1a64 (0x7F ∷ 0x03 ∷ []) ≡ hash2
  pub home_1 : hash1 % 8 ≡ 7
  pub home_2 : hash2 % 8 ≡ 7
  pub creates : create_of options buffer ≡ written done image0
  pub fresh : fresh_in options buffer ≡ image0
  pub begins : begin_of options image0 ≡ written done image1
  -- slots in key order, 80 behind 7F; the second key goes round the end
  pub puts : commit_of options image1 batch1 ≡ written done image2
  pub deletes : commit_of options image2 batch2 ≡ written done image3
  -- the key of slot highwater - 1 counts, though it is deleted
  pub refuses_order : commit_of options image3 below_tail ≡ written out_of_order image3
  -- two TOMBSTONEs of 8 buckets stay
  pub puts_last : commit_of options image3 batch3 ≡ written done image4
  -- a deleted slot is not given out again
  pub refuses_full : commit_of options image4 one_more ≡ written full image4
  -- three do not: the index is rebuilt, and the live key stands at home
  pub rebuilds : commit_of options image4 batch4 ≡ written done image5
  pub closes : checkpoint_of options image5 ≡ written done image6
  pub writer_passes : header_test options image4 ≡ done
  pub reader_passes : header_test reader image6 ≡ done
  -- the count of buckets before the rebuild and after it
  pub two_buckets : (lookup_of options image4 (0x7F ∷ 0x03 ∷ [])).buckets ≡ 2
  pub one_bucket : (lookup_of reader image6 (0x7F ∷ 0x03 ∷ [])).buckets ≡ 1

pub record OrderedStory : Type 0 where
  pub steps : OrderedSteps
  -- before the rebuild, for the writer
  pub history4 : History options image4 map4 no_fields
  pub last : Finds options image4 (0x80 ∷ 0x08 ∷ []) (pos 4) (40 ∷ [])
  pub never : Lacks options image4 (0x80 ∷ 0x01 ∷ [])
  -- at the end, for any reader
  pub history : History options image6 map5 no_fields
  pub lasting : Finds reader image6 (0x7F ∷ 0x03 ∷ []) (pos 2) (20 ∷ [])
  pub first_gone : Lacks reader image6 (0x01 ∷ 0x09 ∷ [])
  pub last_gone : Lacks reader image6 (0x80 ∷ 0x08 ∷ [])
