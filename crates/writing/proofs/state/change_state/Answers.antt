-- `writing::state::change_state` meets its contract: the writing tests, and then the state.
-- Assumes nothing.
use mathlib.Core.Path.{sym}
use Rattle.writing.proofs.Answers.{says_refused, says_accepted}
use Rattle.writing.proofs.OfShape.{shape_state}
use Rattle.writing.proofs.Roles.{passed_long}
use Rattle.writing.proofs.state.change_state.Goals as goal

pub returns-in_err-shape : goal.returns-in_err-shape
returns-in_err-shape c = says_refused c.args.image.now _ _ _ _ c.from_residual.ensures.1 c.in_err-shape.ensures.numbered

pub turn-requires : goal.turn-requires
turn-requires c =
    let a = c.args in
    (passed_long a.o a.image.now (sym c.in_ok-shape.ensures.numbered), shape_state a.image.now c.in_ok-shape.ensures.shape, c.requires)

pub returns : goal.returns
returns c = says_accepted c.args.image.now _ _ c.in_ok-shape.ensures.numbered c.turn.ensures
