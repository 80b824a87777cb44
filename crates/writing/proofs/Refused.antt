-- "Any number but 0 leaves every lent byte alone": of each call that writes.
-- Assumes nothing.
use Prim.Native.Nat.{ℕ}
use mathlib.Core.Path.{◌≡◌}
use mathlib.Core.List.{List, [], ◌∷◌, ◌++◌}
use lib.ListN.{drop}
use Rattle.header.specs.declared.options.Options.{Options}
use Rattle.header.specs.declared.open.UserFields.{UserFields}
use Rattle.header.specs.Fields as F
use Rattle.header.specs.FirstOf.{first_of}
use Rattle.header.specs.State.{CLEAN, INVALIDATED, DIRTY}
use Rattle.header.specs.Sizes.{total_size}
use Rattle.writing.specs.Create.{create_tests, fresh, create_of}
use Rattle.writing.specs.State.{writing_tests, invalidate_tests, user_tests, in_state, published, with_user_data, begin_of, checkpoint_of, invalidate_of, set_user_fields_of}
use Rattle.writing.proofs.Answers.{refused}

module _ (o : Options) (image : List ℕ) where
  pub create_refused : ((create_of o image).answer ≡ 0 → ⊥) → (create_of o image).image ≡ image
  unfolding create_of
  create_refused h = refused image (fresh o ++ drop (total_size o) image) (first_of (create_tests o image)) h

  pub begin_refused : ((begin_of o image).answer ≡ 0 → ⊥) → (begin_of o image).image ≡ image
  unfolding begin_of
  begin_refused h = refused image (in_state image DIRTY) (first_of (writing_tests o image)) h

  pub checkpoint_refused : ((checkpoint_of o image).answer ≡ 0 → ⊥) → (checkpoint_of o image).image ≡ image
  unfolding checkpoint_of
  checkpoint_refused h = refused image (in_state image CLEAN) (first_of (writing_tests o image)) h

  pub invalidate_refused : ((invalidate_of o image).answer ≡ 0 → ⊥) → (invalidate_of o image).image ≡ image
  unfolding invalidate_of
  invalidate_refused h = refused image (published image ((F.state, INVALIDATED) ∷ [])) (first_of (invalidate_tests o image)) h

  pub user_refused : (fields : UserFields) → ((set_user_fields_of o image fields).answer ≡ 0 → ⊥) → (set_user_fields_of o image fields).image ≡ image
  unfolding set_user_fields_of
  user_refused fields h =
      refused image (published (with_user_data image fields.user_data) ((F.user_flags, fields.user_flags) ∷ [])) (first_of (user_tests o image)) h
