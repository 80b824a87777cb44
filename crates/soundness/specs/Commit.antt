-- "Commit, further tests in order": the tests, and then what it answers and does.
-- Assumes nothing.
use Rattle.std.specs.Prelude.{ℕ, ◌-◌, Bool, not, ◌&&◌, List, [], ◌∷◌, ◌++◌, ltb}
use Rattle.numbers.specs.Bytes.{below}
use Rattle.probing.specs.Counting.{all_to}
use Rattle.header.specs.declared.options.Options.{Options}
use Rattle.header.specs.declared.shape.Shape.{Shape}
use Rattle.header.specs.Answer.{needs_rebuild, full, out_of_order, invalid_input}
use Rattle.header.specs.FirstOf.{first_of}
use Rattle.header.specs.HeaderTest.{shape_of}
use Rattle.image.specs.Table.{key_of}
use Rattle.image.specs.Lookup.{is_live}
use Rattle.image.specs.Check.{passes}
use Rattle.writing.specs.Write.{Written, unless}
use Rattle.writing.specs.State.{user_tests}
use Rattle.batch.specs.Batch.{record_count, record_key, batch_wrong}
use Rattle.batch.specs.NewKeys.{is_new, new_count}
use Rattle.soundness.specs.Apply.{committed}

-- "Ordered, highwater above 0, and some new key below the key of slot highwater - 1, live or deleted"
unfoldable pub falls_behind : Shape → List ℕ → List ℕ → Bool
falls_behind s image batch =
    s.layout.ordered && ltb 0 s.slot_highwater
    && not
    (all_to (record_count s.layout batch)
    (λ i. not (is_new s.layout (is_live s image) batch i && below (record_key s.layout batch i) (key_of s.layout image (s.slot_highwater - 1)))))

-- "batch length no multiple of slot_size, over 1,024 records, or a malformed record: 7. Full check fails: 1." (CR 5)
unfoldable pub sound_tests : Shape → List ℕ → List ℕ → List (Bool × ℕ)
sound_tests s image batch = (batch_wrong s.layout batch, invalid_input) ∷ (not (passes s image), needs_rebuild) ∷ []

-- "New keys beyond capacity - highwater: 5. Ordered, ...: 6."
unfoldable pub room_tests : Shape → List ℕ → List ℕ → List (Bool × ℕ)
room_tests s image batch =
    (ltb (s.layout.slot_capacity - s.slot_highwater) (new_count s.layout (is_live s image) batch), full)
    ∷ (falls_behind s image batch, out_of_order)
    ∷ []

unfoldable pub further_tests : Shape → List ℕ → List ℕ → List (Bool × ℕ)
further_tests s image batch = sound_tests s image batch ++ room_tests s image batch

unfoldable pub commit_tests : Options → List ℕ → List ℕ → List (Bool × ℕ)
commit_tests o image batch = user_tests o image ++ further_tests (shape_of image) image batch

unfoldable pub commit_of : Options → List ℕ → List ℕ → Written
commit_of o image batch = unless (first_of (commit_tests o image batch)) image (committed (shape_of image) image batch)
