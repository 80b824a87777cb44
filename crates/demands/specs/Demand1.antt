-- "1. Any bytes may be lent as image, key or batch. Every call ends, stays inside what it was lent, and refuses bad input by
-- the numbers in document 01. A refused call changes no byte. A key of the wrong length is refused, never cut or padded."
-- Assumes nothing.
use Rattle.std.specs.Prelude.{ℕ, ◌≡◌, ◌⊎◌, List, [], ◌∷◌, pos, length}
use Rattle.header.specs.declared.options.Options.{Options}
use Rattle.header.specs.declared.open.UserFields.{UserFields}
use Rattle.header.specs.Answer.{done, needs_rebuild, incompatible, invalidated, busy, full, out_of_order, invalid_input, not_present, create_it, too_short}
use Rattle.header.specs.HeaderTest.{header_test}
use Rattle.header.specs.Open.{no_fields, open_of}
use Rattle.image.specs.Lookup.{nothing, lookup_of, index_part}
use Rattle.image.specs.Check.{failed, check_of}
use Rattle.listing.specs.Scan.{Outcome, refused, scan_of}
use Rattle.listing.specs.Match.{match_of}
use Rattle.writing.specs.Write.{Written}
use Rattle.writing.specs.Create.{create_of}
use Rattle.writing.specs.State.{begin_of, checkpoint_of, invalidate_of, set_user_fields_of}
use Rattle.soundness.specs.Commit.{commit_of}
use Rattle.host.specs.UserData.{user_data_of, set_user_fields_from}
use Rattle.demands.specs.Calls.{Calls}
use Rattle.demands.specs.Exports.{Exports}
use Rattle.demands.specs.Listings.{RightPattern}
use Rattle.demands.specs.Shows.{Shows}

-- a number that stands in a list of numbers
abbrev pub Among : List ℕ → ℕ → Type 0
Among [] n = ⊥
Among (x ∷ xs) n = (n ≡ x) ⊎ Among xs n

-- "Numbers given back": what the header test can answer, and so every call that makes it
abbrev pub header_numbers : List ℕ
header_numbers =
    done ∷ needs_rebuild ∷ incompatible ∷ invalidated ∷ busy ∷ invalid_input ∷ create_it ∷ []

-- "refuses": another number than 0
abbrev pub Refuses : ℕ → Type 0
Refuses answer = answer ≡ done → ⊥

-- What a call answers on an image: one of the numbers listed; and where the header test refuses, that test's number: "Every
-- call but create and revision age makes this test first."
pub record Judges (numbers : List ℕ) (answer : Options → List ℕ → ℕ) : Type 0 where
  pub numbered : (o : Options) (image : List ℕ) → Among numbers (answer o image)
  pub header : (o : Options) (image : List ℕ) → Refuses (header_test o image) → answer o image ≡ header_test o image

-- "Any number but 0 leaves every lent byte alone"
abbrev pub LeavesAlone : List ℕ → Written → Type 0
LeavesAlone image w = Refuses w.answer → w.image ≡ image

-- the same of a lent list, and "all else returned is 0"
abbrev pub ListsNothing : List ℕ → Outcome → Type 0
ListsNothing numbers x = Refuses x.listed.answer → x ≡ refused numbers x.listed.answer

pub record Demand1 : Type 2 where
  -- "it can't promise that the record it hands back belongs to the serial that was asked for": whatever the image, where
  -- lookup answers 0 its slot shows the key that was asked for, with the revision and the index bytes that lookup gives
  pub belongs : (o : Options) (image key : List ℕ) → (lookup_of o image key).answer ≡ done
      → Shows o image (lookup_of o image key).slot key
      (record { revision = (lookup_of o image key).revision; index = index_part o image key })
  -- "Any bytes may be lent as image, key or batch. Every call ends, stays inside what it was lent"
  pub calls : Calls
  pub exports : Exports
  -- "and refuses bad input by the numbers in document 01": for each call, those that it can answer
  pub create_judges : (o : Options) (buffer : List ℕ)
      → Among (done ∷ invalid_input ∷ too_short ∷ []) (create_of o buffer).answer
  pub open_judges : Judges header_numbers (λ o image. (open_of o image).answer)
  pub user_data_judges : (out : List ℕ) → Judges (too_short ∷ header_numbers) (λ o image. (user_data_of o image out).answer)
  pub begin_judges : Judges header_numbers (λ o image. (begin_of o image).answer)
  pub commit_judges : (batch : List ℕ)
      → Judges (full ∷ out_of_order ∷ header_numbers) (λ o image. (commit_of o image batch).answer)
  pub checkpoint_judges : Judges header_numbers (λ o image. (checkpoint_of o image).answer)
  pub invalidate_judges : Judges header_numbers (λ o image. (invalidate_of o image).answer)
  pub user_judges : (fields : UserFields) → Judges header_numbers (λ o image. (set_user_fields_of o image fields).answer)
  pub user_slice_judges : (flags : ℕ) (bytes : List ℕ)
      → Judges header_numbers (λ o image. (set_user_fields_from o image flags bytes).answer)
  pub lookup_judges : (key : List ℕ) → Judges (not_present ∷ header_numbers) (λ o image. (lookup_of o image key).answer)
  pub scan_judges : (skip limit : ℕ) (numbers : List ℕ)
      → Judges (too_short ∷ header_numbers) (λ o image. (scan_of o image skip limit numbers).listed.answer)
  pub match_judges : (offset bits : ℕ) (pattern : List ℕ) (skip limit : ℕ) (numbers : List ℕ)
      → Judges (too_short ∷ header_numbers) (λ o image. (match_of o image offset bits pattern skip limit numbers).listed.answer)
  pub check_judges : Judges header_numbers (λ o image. (check_of o image).answer)
  -- "A refused call changes no byte."
  pub create_leaves : (o : Options) (buffer : List ℕ) → LeavesAlone buffer (create_of o buffer)
  pub begin_leaves : (o : Options) (image : List ℕ) → LeavesAlone image (begin_of o image)
  pub commit_leaves : (o : Options) (image batch : List ℕ) → LeavesAlone image (commit_of o image batch)
  pub checkpoint_leaves : (o : Options) (image : List ℕ) → LeavesAlone image (checkpoint_of o image)
  pub invalidate_leaves : (o : Options) (image : List ℕ) → LeavesAlone image (invalidate_of o image)
  pub user_leaves : (o : Options) (image : List ℕ) (fields : UserFields) → LeavesAlone image (set_user_fields_of o image fields)
  pub scan_leaves : (o : Options) (image : List ℕ) (skip limit : ℕ) (numbers : List ℕ)
      → ListsNothing numbers (scan_of o image skip limit numbers)
  pub match_leaves : (o : Options) (image : List ℕ) (offset bits : ℕ) (pattern : List ℕ) (skip limit : ℕ) (numbers : List ℕ)
      → ListsNothing numbers (match_of o image offset bits pattern skip limit numbers)
  -- of the calls for C that take or hand out user data as a slice
  pub user_data_leaves : (o : Options) (image out : List ℕ) → Refuses (user_data_of o image out).answer
      → (user_data_of o image out).bytes ≡ out
  pub user_slice_leaves : (o : Options) (image : List ℕ) (flags : ℕ) (bytes : List ℕ)
      → LeavesAlone image (set_user_fields_from o image flags bytes)
  -- "all else returned is 0 or empty, save that 9 carries its bucket count" (document 01)
  pub open_empty : (o : Options) (image : List ℕ) → Refuses (open_of o image).answer → (open_of o image).fields ≡ no_fields
  pub lookup_empty : (o : Options) (image key : List ℕ) → Refuses (lookup_of o image key).answer
      → ((lookup_of o image key).slot ≡ 0) × ((lookup_of o image key).revision ≡ pos 0) × (index_part o image key ≡ [])
  pub lookup_uncounted : (o : Options) (image key : List ℕ) → Refuses (lookup_of o image key).answer
      → ((lookup_of o image key).answer ≡ not_present → ⊥) → (lookup_of o image key).buckets ≡ 0
  pub check_empty : (o : Options) (image : List ℕ) → Refuses (check_of o image).answer
      → check_of o image ≡ failed (check_of o image).answer
  -- "A key of the wrong length is refused, never cut or padded."
  pub wrong_length : (o : Options) (image key : List ℕ) → header_test o image ≡ done → (length key ≡ o.key_size → ⊥)
      → lookup_of o image key ≡ nothing invalid_input
  -- "7 if" the pattern is empty with 0 bits (CR 2), "the pattern's length differs, or it runs past the key"
  pub wrong_pattern : (o : Options) (image : List ℕ) (offset bits : ℕ) (pattern : List ℕ) (skip limit : ℕ) (numbers : List ℕ)
      → header_test o image ≡ done → (RightPattern o offset bits pattern → ⊥)
      → match_of o image offset bits pattern skip limit numbers ≡ refused numbers invalid_input
