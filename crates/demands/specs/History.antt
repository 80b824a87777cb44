-- "From a fresh image, its writer's commits act as puts and deletes on a finite map, last operation on a key deciding."; and from
-- any image that the full check passes, a partner's too (CR 10).
-- Assumes nothing.
use Rattle.std.specs.Prelude.{ℕ, ◌^◌, ◌<◌, ◌≡◌, cond, List, eqb, length, take}
use Rattle.std.proofs.Math.Option.{some, none}
use Rattle.numbers.specs.Bytes.{Bytes}
use Rattle.header.specs.declared.options.Options.{Options}
use Rattle.header.specs.declared.open.UserFields.{UserFields}
use Rattle.header.specs.Answer.{done}
use Rattle.header.specs.State.{with_role}
use Rattle.header.specs.HeaderTest.{shape_of}
use Rattle.header.specs.Open.{user_fields, no_fields}
use Rattle.header.specs.Sizes.{total_size}
use Rattle.image.specs.Lookup.{lookup_of, index_part}
use Rattle.image.specs.Check.{check_of}
use Rattle.writing.specs.Create.{create_of}
use Rattle.writing.specs.State.{begin_of, checkpoint_of, set_user_fields_of}
use Rattle.soundness.specs.Commit.{commit_of}
use Rattle.maps.specs.Map.{Map, applied}

-- what is handed over are numbers of 64 bits, as what is lent are bytes: the language sees to both
abbrev pub Word : ℕ → Type 0
Word n = n < 2 ^ 64

-- the writer's options: "Role 2: the caller holds the lock"
abbrev pub writer : Options → Options
writer o = with_role o 2

-- user fields are a number of 64 bits and 64 bytes
pub record Handed (fields : UserFields) : Type 0 where
  pub flags : Word fields.user_flags
  pub size : length fields.user_data ≡ 64
  pub bytes : Bytes fields.user_data

abbrev pub empty_map : Map
empty_map key = none

-- the map that lookup reads
abbrev pub read_by : Options → List ℕ → Map
read_by o image key =
    cond
    (eqb (lookup_of o image key).answer done)
    (some (record { revision = (lookup_of o image key).revision; index = index_part o image key }))
    none

-- a fresh image: what create wrote, the total's bytes of a buffer that may be longer
abbrev pub fresh_in : Options → List ℕ → List ℕ
fresh_in o buffer = take (total_size o) (create_of o buffer).image

-- What a writer can have done under options o: the image that this leaves, and the map and the user fields that the image
-- stands for. A call that is refused is in it too: it leaves all three.
pub data History (o : Options) : List ℕ → Map → UserFields → Type 0 where
  created : (role : ℕ) (buffer : List ℕ) → Word o.user_version → (create_of (with_role o role) buffer).answer ≡ done
      → History o (fresh_in (with_role o role) buffer) empty_map no_fields
  -- an image from elsewhere, of any capacity and B, that the full check passes: with what lookup and open check read there
  adopted : (role : ℕ) (image : List ℕ) → Bytes image → (check_of (with_role o role) image).answer ≡ done
      → History o image (read_by (with_role o role) image) (user_fields image)
  begun : {image : List ℕ} {m : Map} {fields : UserFields} → History o image m fields
      → History o (begin_of (writer o) image).image m fields
  checkpointed : {image : List ℕ} {m : Map} {fields : UserFields} → History o image m fields
      → History o (checkpoint_of (writer o) image).image m fields
  -- user fields set: "replaces user_flags and user_data"
  marked : {image : List ℕ} {m : Map} {fields : UserFields} (others : UserFields) → Handed others → History o image m fields
      → (set_user_fields_of (writer o) image others).answer ≡ done
      → History o (set_user_fields_of (writer o) image others).image m others
  marking_refused : {image : List ℕ} {m : Map} {fields : UserFields} (others : UserFields) → History o image m fields
      → ((set_user_fields_of (writer o) image others).answer ≡ done → ⊥)
      → History o (set_user_fields_of (writer o) image others).image m fields
  -- an accepted commit: the batch applied to the map
  committed : {image : List ℕ} {m : Map} {fields : UserFields} (batch : List ℕ) → Bytes batch → History o image m fields
      → (commit_of (writer o) image batch).answer ≡ done
      → History o (commit_of (writer o) image batch).image (applied (shape_of image) batch m) fields
  commit_refused : {image : List ℕ} {m : Map} {fields : UserFields} (batch : List ℕ) → History o image m fields
      → ((commit_of (writer o) image batch).answer ≡ done → ⊥)
      → History o (commit_of (writer o) image batch).image m fields
