-- `writing::create::create` meets its contract.
-- Assumes nothing.
use mathlib.Core.Path.{sym, ◌∙◌}
use native.Mathlib.Omega.{arith}
use borrow.Author.Tests.{ltb-false}
use Rattle.header.specs.HeaderTest.{create_test1}
use Rattle.header.proofs.Firsts.{first_stops, fails, number_not_done}
use Rattle.header.proofs.PassedTests.{create_allowed, create_ordered}
use Rattle.writing.specs.Create.{create_tests, create_of}
use Rattle.writing.proofs.Answers.{says_refused, says_accepted}
use Rattle.writing.proofs.Making.{total_low, by_length}
use Rattle.writing.proofs.create.create.Goals as goal

pub returns-in_err-create_options_test : goal.returns-in_err-create_options_test
unfolding create_of create_tests
returns-in_err-create_options_test c =
    let a = c.args in
    says_refused a.buffer.now _ _ _ _ c.from_residual.ensures.1
    (first_stops (create_test1 a.o) _ c.in_err-create_options_test.ensures (number_not_done _))

pub total_size-total-requires : goal.total_size-total-requires
total_size-total-requires c = create_allowed c.args.o (sym c.in_ok-create_options_test.ensures)

pub returns-in_err-refuse_if : goal.returns-in_err-refuse_if
unfolding create_of
returns-in_err-refuse_if c =
    let a = c.args in
    says_refused a.buffer.now _ _ _ _ c.from_residual-in_err-refuse_if.ensures.1
    (c.in_err-refuse_if.ensures ∙ sym (by_length a.o a.buffer.now c.in_ok-create_options_test.ensures c.total_size-total.ensures))

pub make-requires : goal.make-requires
make-requires c =
    let o = c.args.o in
    let z = sym c.in_ok-create_options_test.ensures in
    let fits = ltb-false _ _ (fails _ 10 (sym c.in_ok-refuse_if.ensures)) in
    (c.total_size-total.ensures, omega (arith, c.total_size-total.ensures, total_low o), omega (arith, fits), create_allowed o z, create_ordered o z)

pub returns : goal.returns
unfolding create_of
returns c =
    let a = c.args in
    says_accepted a.buffer.now _ _
    (c.in_ok-refuse_if.ensures ∙ sym (by_length a.o a.buffer.now c.in_ok-create_options_test.ensures c.total_size-total.ensures))
    c.make.ensures
