-- `header::judge::header_test` meets its contract: the first of the stages.
-- Assumes nothing.
use mathlib.Core.Path.{sym, ◌∙◌}
use Rattle.header.specs.HeaderTest.{test1, test2}
use Rattle.header.proofs.Firsts.{exit_number, stage_refuses, stage_passes}
use Rattle.header.proofs.PassedTests.{allowed_passed}
use Rattle.header.proofs.Stages.{written, staged, written_named}
use Rattle.header.proofs.judge.header_test.Goals as goal

pub returns-in_err-options_test-clause-numbered : goal.returns-in_err-options_test-clause-numbered
returns-in_err-options_test-clause-numbered c =
    rw staged (stage_refuses (test1 c.args.o) _ _ _ c.from_residual.ensures.1 c.in_err-options_test.ensures)

pub returns-in_err-header-clause-numbered : goal.returns-in_err-header-clause-numbered
unfolding test1
returns-in_err-header-clause-numbered c =
    rw (staged, stage_passes (test1 c.args.o) _ tt c.in_ok-options_test.ensures)
    (stage_refuses (test2 c.args.image.now) _ _ _ c.from_residual-in_err-header.ensures.1 c.in_err-header.ensures.numbered)

pub returns-in_err-written_test-clause-numbered : goal.returns-in_err-written_test-clause-numbered
unfolding test1 test2
returns-in_err-written_test-clause-numbered c =
    let o = c.args.o in
    let i = c.args.image.now in
    rw (staged, stage_passes (test1 o) _ tt c.in_ok-options_test.ensures, stage_passes (test2 i) _ tt c.in_ok-header.ensures.numbered)
    (stage_refuses (written o i) _ _ _ c.from_residual-in_err-written_test.ensures.1 (rw c.in_ok-header.ensures.bytes at c.in_err-written_test.ensures))

pub fitting_test-requires : goal.fitting_test-requires
fitting_test-requires c = allowed_passed c.args.o (sym c.in_ok-options_test.ensures)

pub returns-in_err-fitting_test-clause-numbered : goal.returns-in_err-fitting_test-clause-numbered
unfolding test1 test2
returns-in_err-fitting_test-clause-numbered c =
    let o = c.args.o in
    let i = c.args.image.now in
    rw (staged, stage_passes (test1 o) _ tt c.in_ok-options_test.ensures, stage_passes (test2 i) _ tt c.in_ok-header.ensures.numbered, stage_passes (written o i) _ (written_named o i) (rw c.in_ok-header.ensures.bytes at c.in_ok-written_test.ensures))
    (exit_number _ _ c.from_residual-in_err-fitting_test.ensures.1 ∙ rw c.in_ok-header.ensures.bytes at c.in_err-fitting_test.ensures)

pub returns-clause-numbered : goal.returns-clause-numbered
unfolding test1 test2
returns-clause-numbered c =
    let o = c.args.o in
    let i = c.args.image.now in
    rw (staged, stage_passes (test1 o) _ tt c.in_ok-options_test.ensures, stage_passes (test2 i) _ tt c.in_ok-header.ensures.numbered, stage_passes (written o i) _ (written_named o i) (rw c.in_ok-header.ensures.bytes at c.in_ok-written_test.ensures))
    (rw c.in_ok-header.ensures.bytes at c.in_ok-fitting_test.ensures)
