-- `writing::judge::judge_writer` meets its contract: the header test, and then the role.
-- Assumes nothing.
use mathlib.Core.List.{[], ◌∷◌}
use lib.Dec.{eqb}
use Rattle.header.specs.Answer.{busy, invalid_input}
use Rattle.header.specs.HeaderTest.{header_tests, header_test}
use Rattle.header.specs.State.{no_writer_known, another_writer}
use Rattle.header.proofs.Firsts.{stage_refuses, stage_passes}
use Rattle.header.proofs.Stages.{header_named}
use Rattle.writing.specs.State.{writing_tests}
use Rattle.writing.proofs.judge.judge_writer.Goals as goal

pub returns-in_err-shape-clause-numbered : goal.returns-in_err-shape-clause-numbered
unfolding writing_tests header_test
returns-in_err-shape-clause-numbered c =
    let a = c.args in
    stage_refuses (header_tests a.o a.image.now) _ _ _ c.from_residual.ensures.1 c.in_err-shape.ensures.numbered

pub returns-in_err-refuse_if-clause-numbered : goal.returns-in_err-refuse_if-clause-numbered
unfolding writing_tests header_test
returns-in_err-refuse_if-clause-numbered c =
    let a = c.args in
    rw (stage_passes (header_tests a.o a.image.now) _ (header_named a.o a.image.now) c.in_ok-shape.ensures.numbered)
    (stage_refuses ((eqb a.o.role another_writer, busy) ∷ []) _ _ _ c.from_residual-in_err-refuse_if.ensures.1 c.in_err-refuse_if.ensures)

pub returns-in_err-refuse_if-2-clause-numbered : goal.returns-in_err-refuse_if-2-clause-numbered
unfolding writing_tests header_test
returns-in_err-refuse_if-2-clause-numbered c =
    let a = c.args in
    rw (stage_passes (header_tests a.o a.image.now) _ (header_named a.o a.image.now) c.in_ok-shape.ensures.numbered, stage_passes ((eqb a.o.role another_writer, busy) ∷ []) _ tt c.in_ok-refuse_if.ensures)
    (stage_refuses ((eqb a.o.role no_writer_known, invalid_input) ∷ []) [] _ _ c.from_residual-in_err-refuse_if-2.ensures.1 c.in_err-refuse_if-2.ensures)

pub returns-clause-numbered : goal.returns-clause-numbered
unfolding writing_tests header_test
returns-clause-numbered c =
    let a = c.args in
    rw (stage_passes (header_tests a.o a.image.now) _ (header_named a.o a.image.now) c.in_ok-shape.ensures.numbered, stage_passes ((eqb a.o.role another_writer, busy) ∷ []) _ tt c.in_ok-refuse_if.ensures)
    c.in_ok-refuse_if-2.ensures
