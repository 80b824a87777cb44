-- `slots::slots::rebuild` meets its contract. The loop's invariant: the index holds the live slots below n.
-- Assumes nothing.
use mathlib.Core.Path.{◌≡◌}
use Rattle.slots.specs.Slots.{rebuilt_to}
use Rattle.slots.proofs.slots.rebuild.Given as goal

abbrev pub invariant-loop-n : goal.invariant-loop-n
invariant-loop-n l = l.image ≡ rebuilt_to l.s l.fn.image l.n
