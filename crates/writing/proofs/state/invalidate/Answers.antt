-- `writing::state::invalidate` meets its contract: the writing tests, the generation, and then the fields.
-- Assumes nothing.
use mathlib.Core.Path.{sym, ◌∙◌}
use borrow.Author.Tests.{eqb-false}
use Rattle.header.proofs.Firsts.{first_stops, fails, number_not_done}
use Rattle.writing.specs.State.{writing_tests, invalidate_tests, invalidate_of}
use Rattle.writing.proofs.Answers.{says_refused, says_accepted}
use Rattle.writing.proofs.MoreTests.{invalidate_behind}
use Rattle.writing.proofs.OfShape.{shape_generation}
use Rattle.writing.proofs.Roles.{passed_long, passed_even}
use Rattle.writing.proofs.state.invalidate.Goals as goal

pub returns-in_err-shape : goal.returns-in_err-shape
unfolding invalidate_of invalidate_tests
returns-in_err-shape c =
    let a = c.args in
    says_refused a.image.now _ _ _ _ c.from_residual.ensures.1
    (first_stops (writing_tests a.o a.image.now) _ c.in_err-shape.ensures.numbered (number_not_done _))

pub returns-in_err-refuse_if : goal.returns-in_err-refuse_if
unfolding invalidate_of
returns-in_err-refuse_if c =
    let a = c.args in
    says_refused a.image.now _ _ _ _ c.from_residual-in_err-refuse_if.ensures.1
    (c.in_err-refuse_if.ensures ∙ sym (invalidate_behind a.o a.image.now c.in_ok-shape.ensures.numbered c.in_ok-shape.ensures.shape))

pub put_invalidated-requires : goal.put_invalidated-requires
put_invalidated-requires c =
    let a = c.args in
    let z = sym c.in_ok-shape.ensures.numbered in
    let g = shape_generation a.image.now c.in_ok-shape.ensures.shape in
    (passed_long a.o a.image.now z, g, rw g (passed_even a.o a.image.now z), eqb-false _ _ (fails _ 0 (sym c.in_ok-refuse_if.ensures)))

pub returns : goal.returns
unfolding invalidate_of
returns c =
    let a = c.args in
    says_accepted a.image.now _ _
    (c.in_ok-refuse_if.ensures ∙ sym (invalidate_behind a.o a.image.now c.in_ok-shape.ensures.numbered c.in_ok-shape.ensures.shape))
    c.put_invalidated.ensures
