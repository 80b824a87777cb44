-- `commit::further::sound_test` meets its contract.
-- Assumes nothing.
use mathlib.Core.Bool.{Bool, not}
use mathlib.Core.List.{[], ◌∷◌}
use mathlib.Core.Path.{◌≡◌, sym, ap, ◌∙◌}
use Rattle.header.specs.Answer.{needs_rebuild, invalid_input}
use Rattle.header.specs.FirstOf.{first_of}
use Rattle.header.specs.declared.shape.Layout.{Layout}
use Rattle.header.proofs.Firsts.{stage_refuses, stage_passes}
use Rattle.batch.specs.Batch.{batch_wrong}
use Rattle.soundness.specs.Commit.{sound_tests}
use Rattle.commit.proofs.further.sound_test.Goals as goal
use Rattle.commit.proofs.further.sound_test.Goals.{After-is_wrong}

-- the first test is that of the batch
first : (c : After-is_wrong) → let a = c.args in
    first_of ((c.is_wrong.result, invalid_input) ∷ []) ≡ first_of ((batch_wrong a.image.now.shape.layout a.batch.now.bytes.now, invalid_input) ∷ [])
first c =
    ap (λ (t : Bool). first_of ((t, invalid_input) ∷ []))
    (c.is_wrong.ensures ∙ ap (λ (l : Layout). batch_wrong l c.args.batch.now.bytes.now) c.requires)

pub returns-in_err-refuse_if : goal.returns-in_err-refuse_if
unfolding sound_tests
returns-in_err-refuse_if c =
    stage_refuses ((batch_wrong _ _, invalid_input) ∷ []) _ _ _ c.from_residual.ensures.1 (c.in_err-refuse_if.ensures ∙ first (goal.at.returns-in_err-refuse_if c).After-is_wrong)

pub returns : goal.returns
unfolding sound_tests
returns c =
    c.refuse_if-2.ensures ∙ ap (λ (t : Bool). first_of ((not t, needs_rebuild) ∷ [])) c.passes_check.ensures
    ∙ sym (stage_passes ((batch_wrong _ _, invalid_input) ∷ []) _ tt (c.in_ok-refuse_if.ensures ∙ first (goal.at.returns c).After-is_wrong))
