-- "2. From a fresh image, its writer's commits act as puts and deletes on a finite map, last operation on a key deciding.
-- Where the header test passes, lookup and scan read back exactly that map, and the bytes are those the SLC1 rules give. A
-- commit is refused only for the listed reasons, and always then. The writer's full check passes on the fresh image, after
-- begin and after each accepted commit."
-- Assumes nothing.
use Rattle.std.specs.Prelude.{ℕ, ◌≤◌, ◌≡◌, Bool, true, false, ◌↔◌, List, [], ◌∷◌, ◌++◌, length, drop}
use Rattle.std.proofs.Math.Option.{some, none}
use Rattle.header.specs.declared.options.Options.{Options}
use Rattle.header.specs.declared.open.UserFields.{UserFields}
use Rattle.header.specs.Answer.{done, invalidated, not_present}
use Rattle.header.specs.Fields as F
use Rattle.header.specs.Fields.{value}
use Rattle.header.specs.FirstOf.{first_of}
use Rattle.header.specs.State.{CLEAN, with_role}
use Rattle.header.specs.HeaderTest.{header_test, shape_of}
use Rattle.header.specs.Open.{open_of}
use Rattle.header.specs.Sizes.{total_size}
use Rattle.image.specs.Lookup.{lookup_of, index_part}
use Rattle.image.specs.Check.{passes, check_of}
use Rattle.listing.specs.Scan.{scan_of}
use Rattle.listing.specs.Match.{agrees, bits_compared, match_of}
use Rattle.writing.specs.Create.{fresh, create_of}
use Rattle.writing.specs.State.{begin_of, checkpoint_of, invalidate_of}
use Rattle.soundness.specs.Apply.{committed}
use Rattle.soundness.specs.Commit.{commit_tests, commit_of}
use Rattle.maps.specs.Map.{Entry, Map}
use Rattle.demands.specs.History.{Word, writer, fresh_in, History}
use Rattle.demands.specs.Listings.{RightPattern, Roomy, Lists, Piece}
use Rattle.demands.specs.Shows.{Shows}

-- "lookup and scan read back exactly that map"
pub record ReadsBack (o : Options) (image : List ℕ) (m : Map) (fields : UserFields) : Type 0 where
  -- a key that the map has: 0, with its revision and index, in a slot that shows them and the key
  pub has : (key : List ℕ) (e : Entry) → m key ≡ some e
      → ((lookup_of o image key).answer ≡ done) × ((lookup_of o image key).revision ≡ e.revision)
      × (index_part o image key ≡ e.index) × Shows o image (lookup_of o image key).slot key e
  -- any other key of the right length: 9
  pub lacks : (key : List ℕ) → length key ≡ o.key_size → m key ≡ none → (lookup_of o image key).answer ≡ not_present
  -- a scan from the first lists the map, and a match those of its keys that agree with the pattern
  pub scans : (limit : ℕ) (numbers : List ℕ) → Roomy image limit numbers
      → Lists o image m (λ key. true) (scan_of o image 0 limit numbers)
  pub matches : (offset bits : ℕ) (pattern : List ℕ) → RightPattern o offset bits pattern → (limit : ℕ) (numbers : List ℕ)
      → Roomy image limit numbers
      → Lists o image m (agrees offset (bits_compared bits pattern) pattern) (match_of o image offset bits pattern 0 limit numbers)
  -- "Open check ... with 0 it hands out the user fields"
  pub opens : open_of o image ≡ record { answer = done; fields = fields }

-- no test of a list holds
abbrev pub NoneHolds : List (Bool × ℕ) → Type 0
NoneHolds [] = Unit {0}
NoneHolds (t ∷ ts) = (t.0 ≡ false) × NoneHolds ts

pub record Demand2 : Type 0 where
  -- "Where the header test passes, lookup and scan read back exactly that map": for any role
  pub reads : {o : Options} {image : List ℕ} {m : Map} {fields : UserFields} → History o image m fields → (role : ℕ)
      → header_test (with_role o role) image ≡ done → ReadsBack (with_role o role) image m fields
  -- with any skip, limit and list, on any image that passes the header test, scan and match give pieces of what they list so
  pub scan_pieces : (o : Options) (image : List ℕ) → header_test o image ≡ done
      → (most : ℕ) (list : List ℕ) → Roomy image most list → (skip limit : ℕ) (numbers : List ℕ)
      → Piece (scan_of o image 0 most list) skip limit numbers (scan_of o image skip limit numbers)
  pub match_pieces : (o : Options) (image : List ℕ) → header_test o image ≡ done
      → (offset bits : ℕ) (pattern : List ℕ) → RightPattern o offset bits pattern
      → (most : ℕ) (list : List ℕ) → Roomy image most list → (skip limit : ℕ) (numbers : List ℕ)
      → Piece (match_of o image offset bits pattern 0 most list) skip limit numbers
      (match_of o image offset bits pattern skip limit numbers)
  -- The header test passes for the writer and beside a writer, and for every role where the image is CLEAN, as a fresh one is.
  pub passes_dirty : {o : Options} {image : List ℕ} {m : Map} {fields : UserFields} → History o image m fields
      → (role : ℕ) → role ≤ 2 → (role ≡ 0 → ⊥) → header_test (with_role o role) image ≡ done
  pub passes_clean : {o : Options} {image : List ℕ} {m : Map} {fields : UserFields} → History o image m fields
      → value image F.state ≡ CLEAN → (role : ℕ) → role ≤ 2 → header_test (with_role o role) image ≡ done
  pub fresh_clean : (o : Options) (buffer : List ℕ) → Word o.user_version → (create_of o buffer).answer ≡ done
      → value (fresh_in o buffer) F.state ≡ CLEAN
  -- "and the bytes are those the SLC1 rules give": the definitions of create and commit say which. The next three fields are
  -- those definitions unfolded, so that the demand can be read in one place; they are no further evidence.
  pub fresh_bytes : (o : Options) (buffer : List ℕ) → (create_of o buffer).answer ≡ done
      → (create_of o buffer).image ≡ fresh o ++ drop (total_size o) buffer
  pub bytes : (o : Options) (image batch : List ℕ) → (commit_of o image batch).answer ≡ done
      → (commit_of o image batch).image ≡ committed (shape_of image) image batch
  -- "A commit is refused only for the listed reasons, and always then."
  pub refusals : (o : Options) (image batch : List ℕ) → (commit_of o image batch).answer ≡ first_of (commit_tests o image batch)
  pub only_then : (o : Options) (image batch : List ℕ)
      → ((commit_of o image batch).answer ≡ done) ↔ NoneHolds (commit_tests o image batch)
  -- "The writer's full check passes on the fresh image, after begin and after each accepted commit": on every image of a
  -- history
  pub checks : {o : Options} {image : List ℕ} {m : Map} {fields : UserFields} → History o image m fields
      → (check_of (writer o) image).answer ≡ done
  -- it passes just the images for which the header test gives 0 and every sentence of its paragraph holds
  pub check_passes : (o : Options) (image : List ℕ)
      → ((check_of o image).answer ≡ done) ↔ ((header_test o image ≡ done) × (passes (shape_of image) image ≡ true))
  -- the writer can begin and checkpoint on every image of a history
  pub begins : {o : Options} {image : List ℕ} {m : Map} {fields : UserFields} → History o image m fields
      → (begin_of (writer o) image).answer ≡ done
  pub checkpoints : {o : Options} {image : List ℕ} {m : Map} {fields : UserFields} → History o image m fields
      → ((checkpoint_of (writer o) image).answer ≡ done) × (value (checkpoint_of (writer o) image).image F.state ≡ CLEAN)
  -- an image that was invalidated is no longer read: 3
  pub invalidates : {o : Options} {image : List ℕ} {m : Map} {fields : UserFields} → History o image m fields
      → (invalidate_of (writer o) image).answer ≡ done → (role : ℕ) → role ≤ 2
      → header_test (with_role o role) (invalidate_of (writer o) image).image ≡ invalidated
