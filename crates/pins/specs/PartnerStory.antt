-- A partner's image of three slots and four buckets, where create gives eight, opened as its header says: two keys with one home
-- bucket are put, and deleted. Every image stands here in full.
-- Assumes nothing.
use Rattle.std.specs.Prelude.{ℕ, ◌%◌, ◌≡◌, List, [], ◌∷◌, ◌++◌, pos}
use Rattle.digests.specs.Fnv.{fnv1a64}
use Rattle.header.specs.declared.options.Options.{Options}
use Rattle.header.specs.Answer.{done}
use Rattle.header.specs.Extent.{extent_of}
use Rattle.header.specs.HeaderTest.{header_test, shape_of}
use Rattle.header.specs.Open.{user_fields}
use Rattle.header.specs.State.{DIRTY}
use Rattle.image.specs.Check.{check_of}
use Rattle.image.specs.Lookup.{lookup_of}
use Rattle.soundness.specs.Commit.{commit_of}
use Rattle.maps.specs.Map.{applied}
use Rattle.demands.specs.History.{read_by, History}
use Rattle.demands.specs.Owes.{written}
use Rattle.host.specs.Options.{options_of}
use Rattle.pins.specs.Literal.{Layout, zeros, header, no_user, slot, bucket}
use Rattle.pins.specs.Story.{three_slots, batch1, Lacks}

-- with capacity 0
abbrev pub partner : Options
partner = options_of 1 1 0 7 0 2

-- the total is 416
abbrev pub layout : Layout
layout = three_slots 4

-- deletes of both keys of the story's first batch
abbrev pub deletes : List ℕ
deletes = slot 0 72 0 0 ++ slot 0 64 0 0

abbrev pub image0 : List ℕ
image0 = header layout 0 0 0 0 0x4F9667F0 DIRTY no_user ++ zeros 20

abbrev pub image1 : List ℕ
image1 =
    header layout 2 2 0 2 0xA7775BD9 DIRTY no_user ++ slot 1 72 2 20 ++ slot 1 64 1 10 ++ zeros 4
    ++ bucket 0xAF63FD4C8602249F 2
    ++ zeros 4
    ++ bucket 0xAF64054C86023237 1

abbrev pub image2 : List ℕ
image2 = header layout 2 0 0 4 0x4C130165 DIRTY no_user ++ slot 0 72 2 20 ++ slot 0 64 1 10 ++ zeros 12

pub record PartnerSteps : Type 0 where
  -- both keys have the last bucket of 4 as their home
  pub home_64 : fnv1a64 (64 ∷ []) % 4 ≡ 3
  pub home_72 : fnv1a64 (72 ∷ []) % 4 ≡ 3
  pub told : extent_of partner image0 ≡ record { capacity = 3; buckets = 4; total = 416 }
  -- the second key goes round the end, into bucket 0
  pub puts : commit_of partner image0 batch1 ≡ written done image1
  pub finds : lookup_of partner image1 (64 ∷ []) ≡ record { answer = done; slot = 1; revision = pos 1; buckets = 2 }
  pub checks : check_of partner image1 ≡ record { answer = done; live = 2; tombstones = 0; probes = 3 }
  -- 4 x 2 tombstones are more than 4, and not more than the 8 that create would have given: rebuilt, no bucket is left
  pub rebuilds : commit_of partner image1 deletes ≡ written done image2
  pub passes : header_test partner image2 ≡ done

pub record PartnerStory : Type 0 where
  pub steps : PartnerSteps
  -- a history that begins at the image with both keys, with what lookup reads there, and goes on by the deletes
  pub history : History partner image2 (applied (shape_of image1) deletes (read_by partner image1)) (user_fields image1)
  pub first_gone : Lacks partner image2 (72 ∷ [])
  pub second_gone : Lacks partner image2 (64 ∷ [])
