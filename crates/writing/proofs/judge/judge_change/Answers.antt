-- `writing::judge::judge_change` meets its contract: the tests of every writing call, then the state, then the generation.
-- Assumes nothing.
use mathlib.Core.Path.{sym, ◌∙◌}
use mathlib.Core.List.{[], ◌∷◌, append_assoc}
use lib.Dec.{eqb}
use Rattle.header.specs.Answer.{needs_rebuild, invalid_input}
use Rattle.header.specs.State.{CLEAN, last_generation}
use Rattle.header.proofs.Firsts.{stage_refuses, stage_passes}
use Rattle.writing.specs.State.{writing_tests, user_tests}
use Rattle.writing.proofs.MoreTests.{user_behind}
use Rattle.writing.proofs.judge.judge_change.Goals as goal

pub returns-in_err-shape-clause-numbered : goal.returns-in_err-shape-clause-numbered
unfolding user_tests
returns-in_err-shape-clause-numbered c =
    let a = c.args in
    rw append_assoc (stage_refuses (writing_tests a.o a.image.now) _ _ _ c.from_residual.ensures.1 c.in_err-shape.ensures.numbered)

pub returns-in_err-refuse_if-clause-numbered : goal.returns-in_err-refuse_if-clause-numbered
returns-in_err-refuse_if-clause-numbered c =
    let a = c.args in
    let s = c.in_ok-shape.shape in
    stage_refuses ((eqb s.state CLEAN, invalid_input) ∷ []) ((eqb s.generation last_generation, needs_rebuild) ∷ []) _ _
    c.from_residual-in_err-refuse_if.ensures.1 c.in_err-refuse_if.ensures
    ∙ sym (user_behind a.o a.image.now c.in_ok-shape.ensures.numbered c.in_ok-shape.ensures.shape)

pub returns-in_err-refuse_if-2-clause-numbered : goal.returns-in_err-refuse_if-2-clause-numbered
returns-in_err-refuse_if-2-clause-numbered c =
    let a = c.args in
    let s = c.in_ok-shape.shape in
    stage_refuses ((eqb s.generation last_generation, needs_rebuild) ∷ []) [] _ _ c.from_residual-in_err-refuse_if-2.ensures.1 c.in_err-refuse_if-2.ensures
    ∙ sym (user_behind a.o a.image.now c.in_ok-shape.ensures.numbered c.in_ok-shape.ensures.shape
    ∙ stage_passes ((eqb s.state CLEAN, invalid_input) ∷ []) _ tt c.in_ok-refuse_if.ensures)

pub returns-clause-numbered : goal.returns-clause-numbered
returns-clause-numbered c =
    let a = c.args in
    let s = c.in_ok-shape.shape in
    c.in_ok-refuse_if-2.ensures
    ∙ sym (user_behind a.o a.image.now c.in_ok-shape.ensures.numbered c.in_ok-shape.ensures.shape
    ∙ stage_passes ((eqb s.state CLEAN, invalid_input) ∷ []) _ tt c.in_ok-refuse_if.ensures)
