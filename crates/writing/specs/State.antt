-- "Writing calls." Begin, checkpoint, invalidate and set user fields.
-- Assumes nothing.
use Rattle.std.specs.Prelude.{ℕ, ◌+◌, Bool, cond, List, [], ◌∷◌, ◌++◌, eqb}
use Rattle.numbers.specs.Bytes.{put}
use Rattle.header.specs.declared.options.Options.{Options}
use Rattle.header.specs.declared.open.UserFields.{UserFields}
use Rattle.header.specs.Answer.{needs_rebuild, busy, invalid_input}
use Rattle.header.specs.Fields as F
use Rattle.header.specs.Fields.{value, field_of}
use Rattle.header.specs.FirstOf.{first_of}
use Rattle.header.specs.State.{CLEAN, INVALIDATED, DIRTY, no_writer_known, another_writer, last_generation}
use Rattle.header.specs.HeaderTest.{header_tests}
use Rattle.writing.specs.Write.{with_field, with_fields, sealed, Written, unless}

-- "After the header test, role 1 gives 4 and role 0 gives 7."
unfoldable pub writing_tests : Options → List ℕ → List (Bool × ℕ)
writing_tests o image = header_tests o image ++ (eqb o.role another_writer, busy) ∷ (eqb o.role no_writer_known, invalid_input) ∷ []

-- "Next, commit and set user fields on CLEAN: 7."
unfoldable pub clean_test : List ℕ → List (Bool × ℕ)
clean_test image = (eqb (value image F.state) CLEAN, invalid_input) ∷ []

-- "Then commit, set user fields and invalidate at generation 2^64 - 2: 1."
unfoldable pub generation_test : List ℕ → List (Bool × ℕ)
generation_test image = (eqb (value image F.generation) last_generation, needs_rebuild) ∷ []

-- a change of state alone; an image that has the state already is not changed
unfoldable pub in_state : List ℕ → ℕ → List ℕ
in_state image state = cond (eqb (value image F.state) state) image (sealed (with_field image F.state state))

-- "Begin: CLEAN becomes DIRTY; on DIRTY nothing changes, answer 0."
unfoldable pub begin_of : Options → List ℕ → Written
begin_of o image = unless (first_of (writing_tests o image)) image (in_state image DIRTY)

-- "Checkpoint: DIRTY becomes CLEAN; on CLEAN nothing changes, answer 0."
unfoldable pub checkpoint_of : Options → List ℕ → Written
checkpoint_of o image = unless (first_of (writing_tests o image)) image (in_state image CLEAN)

-- "Accepted, each of these three adds 2 to the generation": fields changed, the generation moved on, the CRC renewed
unfoldable pub published : List ℕ → List (ℕ × ℕ) → List ℕ
published image fs = sealed (with_fields image ((F.generation, value image F.generation + 2) ∷ fs))

-- "Invalidate: CLEAN or DIRTY becomes INVALIDATED."
unfoldable pub invalidate_tests : Options → List ℕ → List (Bool × ℕ)
invalidate_tests o image = writing_tests o image ++ generation_test image

unfoldable pub invalidate_of : Options → List ℕ → Written
invalidate_of o image =
    unless (first_of (invalidate_tests o image)) image (published image ((F.state, INVALIDATED) ∷ []))

-- "Set user fields replaces user_flags and user_data."
unfoldable pub user_tests : Options → List ℕ → List (Bool × ℕ)
user_tests o image = writing_tests o image ++ clean_test image ++ generation_test image

unfoldable pub with_user_data : List ℕ → List ℕ → List ℕ
with_user_data image bytes = put image (field_of F.user_data).offset bytes

unfoldable pub set_user_fields_of : Options → List ℕ → UserFields → Written
set_user_fields_of o image fields =
    unless (first_of (user_tests o image)) image
    (published (with_user_data image fields.user_data) ((F.user_flags, fields.user_flags) ∷ []))
