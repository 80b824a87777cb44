-- `host::check::slc1_full_check_results` meets its contract.
-- Assumes nothing.
use native.Mathlib.Omega.{arith}
use Rattle.host.proofs.ResultLaws.{check_short, check_written}
use Rattle.host.proofs.check.slc1_full_check_results.Goals as goal

pub returns-then-results-lt-FULL_CHECK_RESULTS : goal.returns-then-results-lt-FULL_CHECK_RESULTS
returns-then-results-lt-FULL_CHECK_RESULTS c =
    let a = c.args in
    check_short a.results.now _ c.number.ensures (omega (arith, c.if-results-lt-FULL_CHECK_RESULTS.true))

pub returns : goal.returns
returns c =
    let a = c.args in
    check_written a.results.now c.full_check-checked.result c.full_check-checked.ensures c.number_of-answer.ensures c.from.ensures c.unwrap_or-counts.ensures c.if-results-lt-FULL_CHECK_RESULTS.false c.copy_to.ensures
