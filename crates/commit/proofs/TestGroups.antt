-- The tests of a commit, one group after the other, and what it says that none of them holds.
-- Assumes nothing.
use Prim.Native.Nat.{ℕ, suc, ◌%◌, ◌≤◌}
use mathlib.Core.Path.{◌≡◌, refl, sym, ap, ◌∙◌}
use mathlib.Core.Bool.{Bool, true, false, cond, not, ◌||◌}
use mathlib.Core.List.{List}
use native.Mathlib.Omega.{arith}
use lib.Dec.{T, eqb, ltb}
use lib.ListN.{length}
use borrow.Author.Tests.{ltb-false}
use Rattle.header.specs.declared.options.Options.{Options}
use Rattle.header.specs.declared.shape.Shape.{Shape}
use Rattle.header.specs.FirstOf.{first_of}
use Rattle.header.specs.HeaderTest.{test1, test2, test3, test4, test5, test6, test7, test8, test9, test10, test11, test12, header_tests, shape_of}
use Rattle.header.proofs.Firsts.{named, first_stops, neither}
use Rattle.writing.specs.Write.{unless}
use Rattle.writing.specs.State.{writing_tests, clean_test, generation_test, user_tests}
use Rattle.writing.proofs.Tests.{past}
use Rattle.batch.specs.Batch.{most_records, record_count, batch_wrong, some_malformed}
use Rattle.soundness.specs.Apply.{committed}
use Rattle.soundness.specs.Commit.{sound_tests, room_tests, further_tests, commit_tests, commit_of}

-- a number other than 0 that the first test does not give
passed : (t : Bool) (k m : ℕ) → cond t (suc k) m ≡ 0 → (t ≡ false) × (m ≡ 0)
passed true k m e = absurd (omega arith)
passed false k m e = (refl, e)

module _ (s : Shape) (image batch : List ℕ) where
  sound_named : T (named (sound_tests s image batch))
  unfolding sound_tests
  sound_named = tt

  -- the groups of the further tests
  pub sound_stops : {n : ℕ} → n ≡ first_of (sound_tests s image batch) → (n ≡ 0 → ⊥) → n ≡ first_of (further_tests s image batch)
  unfolding further_tests
  sound_stops e h = first_stops (sound_tests s image batch) (room_tests s image batch) e h

  pub room_decides :
      {m : ℕ} → m ≡ first_of (sound_tests s image batch) → m ≡ 0 → {n : ℕ} → n ≡ first_of (room_tests s image batch)
      → n ≡ first_of (further_tests s image batch)
  unfolding further_tests
  room_decides d z e = e ∙ sym (past (sound_tests s image batch) (room_tests s image batch) sound_named (sym d ∙ z))

  -- a batch that passes has no more records than allowed
  pub sound_small : {n : ℕ} → n ≡ first_of (sound_tests s image batch) → n ≡ 0 → record_count s.layout batch ≤ most_records
  unfolding sound_tests first_of batch_wrong
  sound_small e z =
      let wrong = (passed (batch_wrong s.layout batch) 6 _ (sym e ∙ z)).0 in
      let two = (neither (not (eqb (length batch % s.layout.slot_size) 0) || ltb most_records (record_count s.layout batch)) (some_malformed s.layout batch) wrong).0 in
      ltb-false most_records (record_count s.layout batch) (neither (not (eqb (length batch % s.layout.slot_size) 0)) _ two).1

module _ (o : Options) (image batch : List ℕ) where
  user_named : T (named (user_tests o image))
  unfolding user_tests clean_test generation_test writing_tests header_tests test1 test2 test3 test4 test5 test6 test7 test8 test9 test10 test11 test12
  user_named = tt

  pub commit_stops : {n : ℕ} → n ≡ first_of (user_tests o image) → (n ≡ 0 → ⊥) → n ≡ first_of (commit_tests o image batch)
  unfolding commit_tests
  commit_stops e h = first_stops (user_tests o image) (further_tests (shape_of image) image batch) e h

  -- where none of the first tests holds, the further tests decide
  pub commit_further :
      first_of (user_tests o image) ≡ 0 → (s : Shape) → s ≡ shape_of image
      → unless (first_of (further_tests s image batch)) image (committed s image batch) ≡ commit_of o image batch
  unfolding commit_of commit_tests
  commit_further z s e =
      ap (λ (t : Shape). unless (first_of (further_tests t image batch)) image (committed t image batch)) e
      ∙ ap (λ (n : ℕ). unless n image (committed (shape_of image) image batch))
      (sym (past (user_tests o image) (further_tests (shape_of image) image batch) user_named z))
