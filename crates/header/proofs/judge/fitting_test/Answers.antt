-- `header::judge::fitting_test` meets its contract: the first of tests 8 to 12.
-- Assumes nothing.
use mathlib.Core.Path.{sym}
use Rattle.header.specs.HeaderTest.{test8, test9, test10, test11}
use Rattle.header.proofs.Allowed.{allowed}
use Rattle.header.proofs.Firsts.{stage_refuses, stage_passes}
use Rattle.header.proofs.PassedTests.{total_fits}
use Rattle.header.proofs.judge.fitting_test.Goals as goal

pub returns-in_err-agreement_test : goal.returns-in_err-agreement_test
returns-in_err-agreement_test c =
    stage_refuses (test8 c.args.o c.args.header.now) _ _ _ c.from_residual.ensures.1 c.in_err-agreement_test.ensures

pub returns-in_err-buckets_test : goal.returns-in_err-buckets_test
unfolding test8
returns-in_err-buckets_test c =
    let o = c.args.o in
    let i = c.args.header.now in
    rw (stage_passes (test8 o i) _ tt c.in_ok-agreement_test.ensures)
    (stage_refuses (test9 i) _ _ _ c.from_residual-in_err-buckets_test.ensures.1 c.in_err-buckets_test.ensures)

pub extent_test-requires : goal.extent_test-requires
extent_test-requires c =
    let o = c.args.o in
    let i = c.args.header.now in
    total_fits o i (allowed o c.requires) (sym c.in_ok-agreement_test.ensures) (sym c.in_ok-buckets_test.ensures)

pub returns-in_err-extent_test : goal.returns-in_err-extent_test
unfolding test8 test9
returns-in_err-extent_test c =
    let o = c.args.o in
    let i = c.args.header.now in
    rw (stage_passes (test8 o i) _ tt c.in_ok-agreement_test.ensures, stage_passes (test9 i) _ tt c.in_ok-buckets_test.ensures)
    (stage_refuses (test10 i) _ _ _ c.from_residual-in_err-extent_test.ensures.1 c.in_err-extent_test.ensures)

pub returns-in_err-counters_test : goal.returns-in_err-counters_test
unfolding test8 test9 test10
returns-in_err-counters_test c =
    let o = c.args.o in
    let i = c.args.header.now in
    rw (stage_passes (test8 o i) _ tt c.in_ok-agreement_test.ensures, stage_passes (test9 i) _ tt c.in_ok-buckets_test.ensures, stage_passes (test10 i) _ tt c.in_ok-extent_test.ensures)
    (stage_refuses (test11 i) _ _ _ c.from_residual-in_err-counters_test.ensures.1 c.in_err-counters_test.ensures)

pub returns : goal.returns
unfolding test8 test9 test10 test11
returns c =
    let o = c.args.o in
    let i = c.args.header.now in
    rw (stage_passes (test8 o i) _ tt c.in_ok-agreement_test.ensures, stage_passes (test9 i) _ tt c.in_ok-buckets_test.ensures, stage_passes (test10 i) _ tt c.in_ok-extent_test.ensures, stage_passes (test11 i) _ tt c.in_ok-counters_test.ensures)
    c.dirty_test.ensures
