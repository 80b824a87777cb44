-- Demand 1 holds.
-- Assumes nothing.
use Prim.Native.Nat.{ℕ, zero, suc}
use mathlib.Core.Path.{◌≡◌, refl, sym, ◌∙◌}
use mathlib.Core.Bool.{Bool, true, false, cond}
use mathlib.Core.Logic.{inr}
use mathlib.Core.List.{List, [], ◌∷◌, ◌++◌}
use lib.Dec.{eqb}
use lib.ListN.{length}
use Rattle.header.specs.declared.options.Options.{Options}
use Rattle.header.specs.declared.open.UserFields.{UserFields}
use Rattle.header.specs.Answer.{done, busy, full, out_of_order, invalid_input, too_short}
use Rattle.header.specs.Fields as F
use Rattle.header.specs.FirstOf.{first_of}
use Rattle.header.specs.State.{CLEAN, INVALIDATED, DIRTY}
use Rattle.header.specs.HeaderTest.{create_test1, header_tests, header_test, after_test, layout_of, shape_of}
use Rattle.header.proofs.PassedTests.{agreed}
use Rattle.header.proofs.Stages.{passes}
use Rattle.image.specs.Lookup.{nothing, lookup_of}
use Rattle.image.proofs.Looked.{looked_other, index_none}
use Rattle.writing.specs.Create.{create_tests, create_of}
use Rattle.writing.specs.State.{writing_tests, clean_test, generation_test, in_state, published, invalidate_tests, user_tests, with_user_data, begin_of, checkpoint_of, invalidate_of, set_user_fields_of}
use Rattle.writing.specs.Write.{Written}
use Rattle.writing.proofs.Answers.{answers, refused}
use Rattle.writing.proofs.Refused.{create_refused, begin_refused, checkpoint_refused, invalidate_refused, user_refused}
use Rattle.soundness.specs.Apply.{committed}
use Rattle.soundness.specs.Commit.{sound_tests, room_tests, further_tests, commit_tests, commit_of}
use Rattle.host.specs.UserData.{set_user_fields_from}
use Rattle.header.proofs.After.{after_failed}
use Rattle.demands.specs.Demand1.{Among, header_numbers, Judges, LeavesAlone, Demand1}
use Rattle.demands.proofs.Belongs.{belongs}
use Rattle.demands.proofs.Calls.{calls}
use Rattle.demands.proofs.Exports.{exports}
use Rattle.demands.proofs.Patterns.{match_refused}
use Rattle.demands.proofs.Numbered.{among, first_among, header_numbered, header_judges, judges_behind, writes_judges}
use Rattle.demands.proofs.Reading.{open_reads, lookup_reads, check_reads, user_data_reads, scan_reads, match_reads}

create_numbered : (o : Options) (buffer : List ℕ) → Among (done ∷ invalid_input ∷ too_short ∷ []) (create_of o buffer).answer
unfolding create_of create_tests create_test1
create_numbered o buffer = rw (answers buffer) (first_among (done ∷ invalid_input ∷ too_short ∷ []) (create_tests o buffer) refl refl)

-- the tests of the other calls that write
writing_judges : Judges header_numbers (λ o image. first_of (writing_tests o image))
unfolding writing_tests
writing_judges =
    judges_behind header_tests (λ o image. (eqb o.role 1, busy) ∷ (eqb o.role 0, invalid_input) ∷ []) header_judges
    refl (λ o image. refl)

invalidating_judges : Judges header_numbers (λ o image. first_of (invalidate_tests o image))
unfolding invalidate_tests generation_test
invalidating_judges = judges_behind writing_tests (λ o. generation_test) writing_judges refl (λ o image. refl)

using_judges : Judges header_numbers (λ o image. first_of (user_tests o image))
unfolding user_tests clean_test generation_test
using_judges =
    judges_behind (λ o image. writing_tests o image ++ clean_test image) (λ o. generation_test)
    (judges_behind writing_tests (λ o. clean_test) writing_judges refl (λ o image. refl)) refl (λ o image. refl)

committing_judges : (batch : List ℕ) → Judges (full ∷ out_of_order ∷ header_numbers) (λ o image. first_of (commit_tests o image batch))
unfolding commit_tests further_tests sound_tests room_tests
committing_judges batch =
    judges_behind user_tests (λ o image. further_tests (shape_of image) image batch)
    (record { numbered = λ o image. inr (inr (using_judges.numbered o image)); header = using_judges.header }) refl (λ o image. refl)

commit_leaves : (o : Options) (image batch : List ℕ) → LeavesAlone image (commit_of o image batch)
unfolding commit_of
commit_leaves o image batch = refused image (committed (shape_of image) image batch) (first_of (commit_tests o image batch))

setting_judges : (fields : UserFields) → Judges header_numbers (λ o image. (set_user_fields_of o image fields).answer)
unfolding set_user_fields_of
setting_judges fields =
    writes_judges user_tests
    (λ o image. published (with_user_data image fields.user_data) ((F.user_flags, fields.user_flags) ∷ [])) using_judges

-- a number behind the header test
numbered_after : (n m : ℕ) → Among header_numbers n → Among header_numbers m → Among header_numbers (after_test n m (λ k. k))
numbered_after zero m p q = q
numbered_after (suc n) m p q = p

-- user data taken from a slice, of 64 bytes or not
module _ (flags : ℕ) (bytes : List ℕ) where
  abbrev fields : UserFields
  fields = record { user_flags = flags; user_data = bytes }

  abbrev taken : Bool → Options → List ℕ → Written
  taken right o image =
      cond right (set_user_fields_of o image fields)
      (record { answer = after_test (header_test o image) invalid_input (λ n. n); image = image })

  taken_judges : (right : Bool) → Judges header_numbers (λ o image. (taken right o image).answer)
  taken_judges true = setting_judges fields
  taken_judges false =
      record {
        numbered = λ o image. numbered_after (header_test o image) invalid_input (header_numbered o image) (among header_numbers invalid_input refl);
        header = λ o image. after_failed invalid_input (λ n. n) (header_test o image);
      }

  taken_leaves : (right : Bool) (o : Options) (image : List ℕ) → LeavesAlone image (taken right o image)
  taken_leaves true o image = user_refused o image fields
  taken_leaves false o image = λ h. refl

  user_slice_judges : Judges header_numbers (λ o image. (set_user_fields_from o image flags bytes).answer)
  unfolding set_user_fields_from
  user_slice_judges = taken_judges (eqb (length bytes) 64)

  user_slice_leaves : (o : Options) (image : List ℕ) → LeavesAlone image (set_user_fields_from o image flags bytes)
  unfolding set_user_fields_from
  user_slice_leaves = taken_leaves (eqb (length bytes) 64)

-- "A key of the wrong length is refused, never cut or padded."
pub wrong_length : (o : Options) (image key : List ℕ) → header_test o image ≡ done → (length key ≡ o.key_size → ⊥)
    → lookup_of o image key ≡ nothing invalid_input
unfolding lookup_of shape_of layout_of
wrong_length o image key z other =
    rw z (sym (looked_other (shape_of image) image key (λ e. other (e ∙ (agreed o image (passes o image z).eighth).key))))

pub demand1 : Demand1
unfolding begin_of checkpoint_of invalidate_of commit_of
demand1 =
    record {
      belongs = belongs;
      calls = calls;
      exports = exports;
      create_judges = create_numbered;
      open_judges = open_reads.judges;
      user_data_judges = λ out. (user_data_reads out).judges;
      begin_judges = writes_judges writing_tests (λ o image. in_state image DIRTY) writing_judges;
      commit_judges = λ batch. writes_judges _ (λ o image. committed (shape_of image) image batch) (committing_judges batch);
      checkpoint_judges = writes_judges writing_tests (λ o image. in_state image CLEAN) writing_judges;
      invalidate_judges = writes_judges invalidate_tests (λ o image. published image ((F.state, INVALIDATED) ∷ [])) invalidating_judges;
      user_judges = setting_judges;
      user_slice_judges = user_slice_judges;
      lookup_judges = λ key. (lookup_reads key).judges;
      scan_judges = λ skip limit numbers. (scan_reads skip limit numbers).judges;
      match_judges = λ offset bits pattern skip limit numbers. (match_reads skip limit numbers offset bits pattern).judges;
      check_judges = check_reads.judges;
      create_leaves = create_refused;
      begin_leaves = begin_refused;
      commit_leaves = commit_leaves;
      checkpoint_leaves = checkpoint_refused;
      invalidate_leaves = invalidate_refused;
      user_leaves = user_refused;
      scan_leaves = λ o image skip limit numbers. (scan_reads skip limit numbers).empty o image;
      match_leaves = λ o image offset bits pattern skip limit numbers. (match_reads skip limit numbers offset bits pattern).empty o image;
      user_data_leaves = λ o image out. (user_data_reads out).empty o image;
      user_slice_leaves = λ o image flags bytes. user_slice_leaves flags bytes o image;
      open_empty = open_reads.empty;
      lookup_empty = λ o image key h.
          let l = (lookup_reads key).empty o image h in (l.0, l.1, sym (index_none o image key (lookup_of o image key) refl h));
      lookup_uncounted = λ o image key h. ((lookup_reads key).empty o image h).2;
      check_empty = check_reads.empty;
      wrong_length = wrong_length;
      wrong_pattern = λ o image offset bits pattern skip limit numbers z wrong. match_refused o image z offset bits pattern wrong skip limit numbers;
    }
