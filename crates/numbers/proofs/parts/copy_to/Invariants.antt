-- `numbers::parts::copy_to` meets its contract. The loop's invariant: the first i items of src are copied.
-- Assumes nothing.
use mathlib.Core.Path.{◌≡◌}
use lib.Seq.{paste}
use Rattle.numbers.proofs.parts.copy_to.Given as goal

abbrev pub invariant-loop-i : goal.invariant-loop-i
invariant-loop-i g l = l.dst ≡ paste l.initial.dst l.at l.src l.i
