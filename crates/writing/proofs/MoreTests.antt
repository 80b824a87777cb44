-- The tests that invalidate, set user fields and commit make behind those of every writing call.
-- Assumes nothing.
use Prim.Native.Nat.{ℕ}
use mathlib.Core.Path.{◌≡◌, sym, ◌∙◌, ap, ap₂}
use mathlib.Core.List.{List, [], ◌∷◌, ◌++◌, append_assoc}
use borrow.Author.Tests.{eqb-false}
use lib.Dec.{eqb}
use Rattle.header.specs.declared.options.Options.{Options}
use Rattle.header.specs.declared.shape.Shape.{Shape}
use Rattle.header.specs.Answer.{done, needs_rebuild, invalid_input}
use Rattle.header.specs.Fields as F
use Rattle.header.specs.Fields.{value}
use Rattle.header.specs.FirstOf.{first_of}
use Rattle.header.specs.State.{CLEAN, last_generation}
use Rattle.header.specs.HeaderTest.{shape_of}
use Rattle.header.proofs.Firsts.{first_none, fails}
use Rattle.writing.specs.State.{writing_tests, clean_test, generation_test, invalidate_tests, user_tests}
use Rattle.writing.proofs.Tests.{past}
use Rattle.writing.proofs.OfShape.{shape_state, shape_generation}
use Rattle.writing.proofs.Roles.{writing_named}

module _ (o : Options) (image : List ℕ) where
  -- where no test of every writing call refuses, the state and the generation decide, as the shape has them
  module _ (z : done ≡ first_of (writing_tests o image)) {s : Shape} (e : s ≡ shape_of image) where
    pub invalidate_behind : first_of (invalidate_tests o image) ≡ first_of ((eqb s.generation last_generation, needs_rebuild) ∷ [])
    unfolding invalidate_tests generation_test
    invalidate_behind =
        past (writing_tests o image) (generation_test image) (writing_named o image) (sym z)
        ∙ ap (λ (g : ℕ). first_of ((eqb g last_generation, needs_rebuild) ∷ [])) (sym (shape_generation image e))

    pub user_behind : first_of (user_tests o image)
        ≡ first_of ((eqb s.state CLEAN, invalid_input) ∷ (eqb s.generation last_generation, needs_rebuild) ∷ [])
    unfolding user_tests clean_test generation_test
    user_behind =
        rw append_assoc (past (writing_tests o image) (clean_test image ++ generation_test image) (writing_named o image) (sym z))
        ∙ ap₂ (λ (t g : ℕ). first_of ((eqb t CLEAN, invalid_input) ∷ (eqb g last_generation, needs_rebuild) ∷ []))
        (sym (shape_state image e))
        (sym (shape_generation image e))

  -- where none of a change's tests holds, none of any writing call's does, the image is not CLEAN and another generation comes
  module _ (z : first_of (user_tests o image) ≡ 0) where
    apart : (first_of (writing_tests o image) ≡ 0) × (first_of (clean_test image ++ generation_test image) ≡ 0)
    unfolding user_tests
    apart = first_none (writing_tests o image) (clean_test image ++ generation_test image) (writing_named o image) (rw append_assoc at z)

    behind : (first_of (clean_test image) ≡ 0) × (first_of (generation_test image) ≡ 0)
    unfolding clean_test
    behind = first_none (clean_test image) (generation_test image) tt apart.1

    pub change_writing : first_of (writing_tests o image) ≡ 0
    change_writing = apart.0

    pub change_clean : first_of (clean_test image) ≡ 0
    change_clean = behind.0

    pub change_generation : first_of (generation_test image) ≡ 0
    change_generation = behind.1

-- "at generation 2^64 - 2": it is not
pub not_last : (image : List ℕ) → first_of (generation_test image) ≡ 0 → value image F.generation ≡ last_generation → ⊥
unfolding generation_test
not_last image z = eqb-false (value image F.generation) last_generation (fails (eqb (value image F.generation) last_generation) 0 z)
