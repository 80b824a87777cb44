-- What it says of an image and a batch that none of the commit's tests holds.
-- Assumes nothing.
use Prim.Native.Nat.{ℕ, ◌+◌, ◌-◌, ◌^◌, ◌≤◌, ◌<◌}
use mathlib.Core.Bool.{Bool, true, false, not}
use mathlib.Core.Path.{◌≡◌}
use mathlib.Core.List.{List, [], ◌∷◌}
use native.Mathlib.Omega.{arith}
use lib.Dec.{eqb, ltb}
use borrow.Author.Tests.{eqb-false, ltb-false, not-false}
use Rattle.header.specs.declared.options.Options.{Options}
use Rattle.header.specs.declared.shape.Shape.{Shape}
use Rattle.image.specs.Lookup.{is_live}
use Rattle.header.specs.Answer.{needs_rebuild, busy, full, out_of_order, invalid_input}
use Rattle.header.specs.Fields as F
use Rattle.header.specs.Fields.{value}
use Rattle.header.specs.FirstOf.{first_of}
use Rattle.header.specs.State.{CLEAN, DIRTY}
use Rattle.header.specs.HeaderTest.{test1, test2, test3, test4, test5, test6, test7, test8, test9, test10, test11, test12, header_tests, header_test, shape_of}
use Rattle.header.specs.Shaped.{Shaped}
use Rattle.header.proofs.Firsts.{first_none, fails}
use Rattle.header.proofs.Fit.{fit_shaped}
use Rattle.header.proofs.PassedTests.{length_passed, role_passed}
use Rattle.image.specs.Check.{passes}
use Rattle.writing.specs.State.{writing_tests, clean_test, generation_test, user_tests}
use Rattle.numbers.specs.Bytes.{Bytes}
use Rattle.writing.proofs.Values.{value_bound}
use Rattle.writing.proofs.MoreTests.{change_writing, change_clean, change_generation, not_last}
use Rattle.writing.proofs.Tests.{Holds, even_passed, state_passed, header_holds, not_invalidated}
use Rattle.batch.specs.Batch.{batch_wrong}
use Rattle.batch.specs.NewKeys.{new_count}
use Rattle.soundness.specs.Commit.{falls_behind, further_tests, sound_tests, room_tests, commit_tests}
use Rattle.soundness.proofs.Grown.{Ready, may_commit}

pub record Accepted (o : Options) (image batch : List ℕ) : Type 0 where
  pub header : header_test o image ≡ 0
  -- the caller holds the lock
  pub role : (o.role ≤ 2) × (o.role ≡ 0 → ⊥)
  pub dirty : value image F.state ≡ DIRTY
  pub more : value image F.generation + 2 < 2 ^ 64
  pub right : batch_wrong (shape_of image).layout batch ≡ false
  pub passed : passes (shape_of image) image ≡ true
  pub ready : Ready (shape_of image) image batch

-- What it says that none of the commit's own tests holds.
pub record Further (s : Shape) (image batch : List ℕ) : Type 0 where
  pub right : batch_wrong s.layout batch ≡ false
  pub passed : passes s image ≡ true
  pub room : new_count s.layout (is_live s image) batch ≤ s.layout.slot_capacity - s.slot_highwater
  pub ahead : falls_behind s image batch ≡ false

pub further_facts : (s : Shape) (image batch : List ℕ) → first_of (further_tests s image batch) ≡ 0 → Further s image batch
unfolding further_tests sound_tests room_tests
further_facts s image batch none =
    let wrong : Bool = batch_wrong s.layout batch in
    let fails_check : Bool = not (passes s image) in
    let beyond : Bool = ltb (s.layout.slot_capacity - s.slot_highwater) (new_count s.layout (is_live s image) batch) in
    let behind : Bool = falls_behind s image batch in
    let p₁ = first_none ((wrong, invalid_input) ∷ []) _ tt none in
    let p₂ = first_none ((fails_check, needs_rebuild) ∷ []) _ tt p₁.1 in
    let p₃ = first_none ((beyond, full) ∷ []) ((behind, out_of_order) ∷ []) tt p₂.1 in
    record {
      right = fails wrong 6 p₁.0;
      passed = not-false (passes s image) (fails fails_check 0 p₂.0);
      room = ltb-false _ _ (fails beyond 4 p₃.0);
      ahead = fails behind 5 p₃.1;
    }

module _ (o : Options) (image batch : List ℕ) (accepted : first_of (commit_tests o image batch) ≡ 0) where
  abbrev s : Shape
  s = shape_of image

  -- none of the writing calls' tests, and none of the commit's own
  both : (first_of (user_tests o image) ≡ 0) × (first_of (further_tests s image batch) ≡ 0)
  unfolding commit_tests user_tests writing_tests clean_test generation_test header_tests test1 test2 test3 test4 test5 test6 test7 test8 test9 test10 test11 test12
  both = first_none (user_tests o image) (further_tests s image batch) tt accepted

  roles : (header_test o image ≡ 0) × (first_of ((eqb o.role 1, busy) ∷ (eqb o.role 0, invalid_input) ∷ []) ≡ 0)
  unfolding writing_tests header_test header_tests test1 test2 test3 test4 test5 test6 test7 test8 test9 test10 test11 test12
  roles = first_none (header_tests o image) ((eqb o.role 1, busy) ∷ (eqb o.role 0, invalid_input) ∷ []) tt (change_writing o image both.0)

  holds : Holds o image
  holds = header_holds o image roles.0

  some_role : o.role ≡ 0 → ⊥
  some_role =
      let zero : Bool = eqb o.role 0 in
      eqb-false _ _ (fails zero 6 (first_none ((eqb o.role 1, busy) ∷ []) ((zero, invalid_input) ∷ []) tt roles.1).1)

  not_clean : value image F.state ≡ CLEAN → ⊥
  unfolding clean_test
  not_clean = eqb-false _ _ (fails (eqb (value image F.state) CLEAN) 6 (change_clean o image both.0))

  further : Further s image batch
  further = further_facts s image batch both.1

  fit : Shaped s image
  fit = fit_shaped o image roles.0

  pub accepted_ready : Ready s image batch
  accepted_ready = may_commit s image batch fit further.passed (omega (arith, further.room, fit.highwater)) further.ahead

  is_dirty : value image F.state ≡ DIRTY
  is_dirty =
      let low = state_passed image holds.sixth in
      omega (arith, not_clean, not_invalidated o image roles.0)

  has_more : Bytes image → value image F.generation + 2 < 2 ^ 64
  has_more bytes =
      let bound : value image F.generation < 2 ^ 64 = value_bound image bytes (length_passed image holds.second) F.generation in
      let even = even_passed o image holds.fourth in
      omega (arith, not_last image (change_generation o image both.0))

  pub accepted_facts : Bytes image → Accepted o image batch
  accepted_facts bytes =
      record {
        header = roles.0;
        role = (role_passed o holds.first, some_role);
        dirty = is_dirty;
        more = has_more bytes;
        right = further.right;
        passed = further.passed;
        ready = accepted_ready;
      }
