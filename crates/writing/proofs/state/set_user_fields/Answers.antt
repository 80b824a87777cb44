-- `writing::state::set_user_fields` meets its contract: the tests of a change, and then the fields.
-- Assumes nothing.
use mathlib.Core.Path.{sym, ◌∙◌}
use Rattle.writing.specs.State.{set_user_fields_of}
use Rattle.writing.proofs.Answers.{says_refused, says_accepted}
use Rattle.writing.proofs.MoreTests.{change_writing, change_generation, not_last}
use Rattle.writing.proofs.OfShape.{shape_generation}
use Rattle.writing.proofs.Roles.{passed_long, passed_even}
use Rattle.writing.proofs.state.set_user_fields.Goals as goal

pub returns-in_err-shape : goal.returns-in_err-shape
unfolding set_user_fields_of
returns-in_err-shape c = says_refused c.args.image.now _ _ _ _ c.from_residual.ensures.1 c.in_err-shape.ensures.numbered

pub put_user_fields-requires : goal.put_user_fields-requires
put_user_fields-requires c =
    let a = c.args in
    let i = a.image.now in
    let z = sym c.in_ok-shape.ensures.numbered in
    let g = shape_generation i c.in_ok-shape.ensures.shape in
    let writing = change_writing a.o i z in (
      passed_long a.o i writing,
      g,
      rw g (passed_even a.o i writing),
      λ last. not_last i (change_generation a.o i z) (sym g ∙ last),
    )

pub returns : goal.returns
unfolding set_user_fields_of
returns c = says_accepted c.args.image.now _ _ c.in_ok-shape.ensures.numbered c.put_user_fields.ensures
