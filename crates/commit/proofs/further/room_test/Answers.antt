-- `commit::further::room_test` meets its contract: the two tests in their order.
-- Assumes nothing.
use Prim.Native.Nat.{ℕ, ◌-◌}
use lib.Dec.{ltb}
use mathlib.Core.Bool.{Bool}
use mathlib.Core.List.{[], ◌∷◌}
use mathlib.Core.Path.{sym, ap, ◌∙◌}
use Rattle.header.specs.Answer.{full, out_of_order}
use Rattle.header.specs.FirstOf.{first_of}
use Rattle.header.proofs.Firsts.{stage_refuses, stage_passes}
use Rattle.soundness.specs.Commit.{room_tests}
use Rattle.commit.proofs.further.room_test.Goals as goal

pub returns-in_err-refuse_if : goal.returns-in_err-refuse_if
unfolding room_tests
returns-in_err-refuse_if c =
    let s = c.args.image.now.shape in
    stage_refuses ((ltb (s.layout.slot_capacity - s.slot_highwater) _, full) ∷ []) _ _ _ c.from_residual.ensures.1
    (c.in_err-refuse_if.ensures ∙ ap (λ (n : ℕ). first_of ((ltb (s.layout.slot_capacity - s.slot_highwater) n, full) ∷ [])) c.requires.ordered.counted)

pub returns : goal.returns
unfolding room_tests
returns c =
    let s = c.args.image.now.shape in
    c.refuse_if-2.ensures ∙ ap (λ (t : Bool). first_of ((t, out_of_order) ∷ [])) c.falls_behind.ensures
    ∙ sym (stage_passes ((ltb (s.layout.slot_capacity - s.slot_highwater) _, full) ∷ []) _ tt
    (c.in_ok-refuse_if.ensures ∙ ap (λ (n : ℕ). first_of ((ltb (s.layout.slot_capacity - s.slot_highwater) n, full) ∷ [])) c.requires.ordered.counted))
