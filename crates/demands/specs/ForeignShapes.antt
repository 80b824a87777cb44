-- "CR 10. Foreign shapes.": what capacity 0 gives, which B there may be, and what a commit does to an image of any such shape.
-- Assumes nothing.
use Rattle.std.specs.Prelude.{ℕ, ◌+◌, ◌^◌, ◌≤◌, ◌<◌, ◌≡◌, List}
use Rattle.numbers.specs.Bytes.{Bytes}
use Rattle.probing.specs.Table.{EMPTY}
use Rattle.header.specs.declared.options.Options.{Options}
use Rattle.header.specs.declared.open.UserFields.{UserFields}
use Rattle.header.specs.Answer.{done, needs_rebuild, incompatible, invalid_input}
use Rattle.header.specs.Extent.{extent_of}
use Rattle.header.specs.Fields as F
use Rattle.header.specs.Fields.{value}
use Rattle.header.specs.FirstOf.{first_of}
use Rattle.header.specs.HeaderTest.{test9, image_total, header_test, layout_of, shape_of}
use Rattle.header.specs.Open.{open_of}
use Rattle.header.specs.Sizes.{bucket_count, total_size}
use Rattle.image.specs.Lookup.{lookup_of, index_part}
use Rattle.image.specs.Check.{check_of}
use Rattle.listing.specs.Scan.{scan_of}
use Rattle.listing.specs.Match.{match_of}
use Rattle.writing.specs.Create.{create_of}
use Rattle.writing.specs.State.{begin_of, checkpoint_of, invalidate_of, set_user_fields_of}
use Rattle.soundness.specs.Commit.{commit_of}
use Rattle.host.specs.UserData.{user_data_of, set_user_fields_from}
use Rattle.maps.specs.Map.{applied}
use Rattle.demands.specs.Before.{seven, eight}
use Rattle.demands.specs.Demand3.{table_in}
use Rattle.demands.specs.History.{Word, Handed, read_by, fresh_in}
use Rattle.demands.specs.Owes.{written}

-- the same options with another capacity
abbrev pub with_capacity : Options → ℕ → Options
with_capacity o capacity =
    record {
      key_size = o.key_size;
      index_size = o.index_size;
      slot_capacity = capacity;
      user_version = o.user_version;
      ordered = o.ordered;
      role = o.role;
    }

-- what the header says of slots and buckets
abbrev pub capacity_in : List ℕ → ℕ
capacity_in image = value image F.slot_capacity_field

abbrev pub buckets_in : List ℕ → ℕ
buckets_in image = value image F.bucket_count_field

-- "within 1 to 1,048,576"
abbrev pub Within : List ℕ → Type 0
Within image = (1 ≤ capacity_in image) × (capacity_in image ≤ 1048576)

-- "Option capacity 0 now means 'as the header says'": a call gives with 0 what it gives with the header's capacity
abbrev pub AsHeader : {A : Type 0} → (Options → List ℕ → A) → Type 0
AsHeader call =
    (o : Options) (image : List ℕ) → Within image → call (with_capacity o 0) image ≡ call (with_capacity o (capacity_in image)) image

abbrev pub PowerOfTwo : ℕ → Type 0
PowerOfTwo n = (k : ℕ) × (n ≡ 2 ^ k)

-- What an accepted commit leaves: puts and deletes on the map that lookup reads, an image that passes header test and full check,
-- and the layout, with it capacity and B, as it was.
pub record Commits (o : Options) (image batch image' : List ℕ) : Type 0 where
  pub map : read_by o image' ≡ applied (shape_of image) batch (read_by o image)
  pub header : header_test o image' ≡ done
  pub checks : (check_of o image').answer ≡ done
  pub layout : layout_of image' ≡ layout_of image

pub record ForeignShapes : Type 0 where
  -- "Option capacity 0 now means 'as the header says', within 1 to 1,048,576": by every call that opens an image
  pub header_test_lem : AsHeader header_test
  pub open_check : AsHeader open_of
  pub extent : AsHeader extent_of
  pub lookup : (key : List ℕ) → AsHeader (λ o image. lookup_of o image key)
  pub index : (key : List ℕ) → AsHeader (λ o image. index_part o image key)
  pub check : AsHeader check_of
  pub scan : (skip limit : ℕ) (numbers : List ℕ) → AsHeader (λ o image. scan_of o image skip limit numbers)
  pub match : (offset bits : ℕ) (pattern : List ℕ) (skip limit : ℕ) (numbers : List ℕ)
      → AsHeader (λ o image. match_of o image offset bits pattern skip limit numbers)
  pub begin : AsHeader begin_of
  pub checkpoint : AsHeader checkpoint_of
  pub invalidate : AsHeader invalidate_of
  pub set_user_fields : (fields : UserFields) → AsHeader (λ o image. set_user_fields_of o image fields)
  pub commit : (batch : List ℕ) → AsHeader (λ o image. commit_of o image batch)
  pub user_data : (out : List ℕ) → AsHeader (λ o image. user_data_of o image out)
  pub user_slice : (flags : ℕ) (bytes : List ℕ) → AsHeader (λ o image. set_user_fields_from o image flags bytes)
  -- "else 2", where none of the tests before the eighth holds
  pub otherwise : (o : Options) (image : List ℕ) → (Within image → ⊥) → first_of (seven (with_capacity o 0) image) ≡ 0
      → header_test (with_capacity o 0) image ≡ incompatible
  -- what passes has such a capacity, and where the options give one it is theirs
  pub within : (o : Options) (image : List ℕ) → header_test o image ≡ done → Within image
  pub given : (o : Options) (image : List ℕ) → header_test o image ≡ done → (o.slot_capacity ≡ 0 → ⊥)
      → capacity_in image ≡ o.slot_capacity
  -- "The judged header therefore carries capacity, B and offsets to every later call.": a host is told the first two and the total
  pub told : (o : Options) (image : List ℕ) → header_test o image ≡ done
      → extent_of o image ≡ record { capacity = capacity_in image; buckets = buckets_in image; total = image_total image }
  pub not_told : (o : Options) (image : List ℕ) → (header_test o image ≡ done → ⊥)
      → extent_of o image ≡ record { capacity = 0; buckets = 0; total = 0 }
  -- "B may be any power of two above slot_capacity, up to 4,194,304": test 9 holds for none of these, and what passes has one
  pub any_power : (image : List ℕ) → PowerOfTwo (buckets_in image) → capacity_in image < buckets_in image
      → buckets_in image ≤ 4194304 → first_of (test9 image) ≡ 0
  pub power : (o : Options) (image : List ℕ) → header_test o image ≡ done
      → PowerOfTwo (buckets_in image) × (capacity_in image < buckets_in image) × (buckets_in image ≤ 4194304)
  -- "a larger power of two is 2, any other B 1", where none of the tests before the ninth holds
  pub larger : (o : Options) (image : List ℕ) → Bytes image → first_of (eight o image) ≡ 0 → PowerOfTwo (buckets_in image)
      → 4194304 < buckets_in image → header_test o image ≡ incompatible
  pub any_other : (o : Options) (image : List ℕ) → first_of (eight o image) ≡ 0
      → (PowerOfTwo (buckets_in image) → capacity_in image < buckets_in image → ⊥)
      → (PowerOfTwo (buckets_in image) → 4194304 < buckets_in image → ⊥) → header_test o image ≡ needs_rebuild
  -- "create keeps 01's sizing and answers 7 to capacity 0"
  pub sizing : (o : Options) (buffer : List ℕ) → Word o.user_version → (create_of o buffer).answer ≡ done
      → extent_of o (fresh_in o buffer)
      ≡ record { capacity = o.slot_capacity; buckets = bucket_count o.slot_capacity; total = total_size o }
  pub create_zero : (o : Options) (buffer : List ℕ) → create_of (with_capacity o 0) buffer ≡ written invalid_input buffer
  -- "An EMPTY bucket is still certain, since used plus tombstones never exceed highwater.": the reason, of what passes the header
  -- test; and the bucket, of what passes the full check, whose counts are the header's
  pub never_exceed : (o : Options) (image : List ℕ) → header_test o image ≡ done
      → (value image F.bucket_used + value image F.bucket_tombstones ≤ value image F.slot_highwater)
      × (value image F.slot_highwater ≤ capacity_in image) × (capacity_in image < buckets_in image)
  pub empty : (o : Options) (image : List ℕ) → (check_of o image).answer ≡ done
      → (b : ℕ) × (b < buckets_in image) × ((table_in image).bucket b ≡ EMPTY)
  -- a commit to any such image: one that is accepted has passed the full check
  pub commits : (o : Options) (image batch : List ℕ) → Bytes image → Bytes batch → (commit_of o image batch).answer ≡ done
      → ((check_of o image).answer ≡ done) × Commits o image batch (commit_of o image batch).image
  -- and no other call that writes changes the layout either
  pub begin_keeps : (o : Options) (image : List ℕ) → Bytes image → layout_of (begin_of o image).image ≡ layout_of image
  pub checkpoint_keeps : (o : Options) (image : List ℕ) → Bytes image → layout_of (checkpoint_of o image).image ≡ layout_of image
  pub invalidate_keeps : (o : Options) (image : List ℕ) → Bytes image → layout_of (invalidate_of o image).image ≡ layout_of image
  pub user_keeps : (o : Options) (image : List ℕ) (fields : UserFields) → Bytes image → Handed fields
      → layout_of (set_user_fields_of o image fields).image ≡ layout_of image
