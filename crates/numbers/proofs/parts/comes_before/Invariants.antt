-- `numbers::parts::comes_before` meets its contract. The loop's invariant: what is left of both slices decides.
-- Assumes nothing.
use mathlib.Core.Path.{◌≡◌}
use lib.ListN.{drop}
use Rattle.numbers.specs.Bytes.{below}
use Rattle.numbers.proofs.parts.comes_before.Given as goal

abbrev pub invariant-loop-i : goal.invariant-loop-i
invariant-loop-i l = below l.a l.b ≡ below (drop l.i l.a) (drop l.i l.b)
