-- `numbers::parts::equal_words` meets its contract. The loop's invariant: both begin with the same n words.
-- Assumes nothing.
use Prim.Native.Nat.{◌*◌}
use mathlib.Core.Path.{◌≡◌}
use lib.ListN.{take}
use Rattle.numbers.proofs.parts.equal_words.Given as goal

abbrev pub invariant-loop-n : goal.invariant-loop-n
invariant-loop-n l = take (8 * l.n) l.a ≡ take (8 * l.n) l.b
