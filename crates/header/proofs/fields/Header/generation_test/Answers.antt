-- `header::fields::Header::generation_test` meets its contract.
-- Assumes nothing.
use Prim.Native.Nat.{ℕ, ◌%◌}
use mathlib.Core.Bool.{Bool, ◌&&◌}
use mathlib.Core.List.{[], ◌∷◌}
use mathlib.Core.Path.{sym, ◌∙◌}
use lib.Dec.{eqb}
use Rattle.header.specs.Answer.{busy}
use Rattle.header.specs.HeaderTest.{test4}
use Rattle.header.proofs.Firsts.{stage_refuses, stage_passes}
use Rattle.header.proofs.fields.Header.generation_test.Goals as goal

-- "Generation odd: role 1 gives 4"
abbrev odd-in-role-1 : ℕ → ℕ → Bool × ℕ
odd-in-role-1 generation role = (eqb (generation % 2) 1 && eqb role 1, busy)

pub returns-in_err-refuse_if : goal.returns-in_err-refuse_if
unfolding test4
returns-in_err-refuse_if c =
    rw (← c.read.ensures) (stage_refuses (odd-in-role-1 c.read.result c.args.o.role ∷ []) _ _ _ c.from_residual.ensures.1 c.in_err-refuse_if.ensures)

pub returns : goal.returns
unfolding test4
returns c = rw (← c.read.ensures) (c.refuse_if-2.ensures ∙ sym (stage_passes (odd-in-role-1 c.read.result c.args.o.role ∷ []) _ tt c.in_ok-refuse_if.ensures))
