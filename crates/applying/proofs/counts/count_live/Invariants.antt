-- `applying::counts::count_live` meets its contract. The loop's invariant: the sum counts the live slots so far.
-- Assumes nothing.
use Prim.Native.Nat.{ℕ}
use mathlib.Core.Path.{◌≡◌}
use mathlib.Core.Bool.{Bool}
use mathlib.Core.List.{List}
use lib.Dec.{eqb}
use Rattle.probing.specs.Counting.{count_to}
use Rattle.header.specs.declared.shape.Shape.{Shape}
use Rattle.image.specs.Table.{meta_of}
use Rattle.applying.proofs.counts.count_live.Given as goal

-- slot n is live
abbrev pub alive : Shape → List ℕ → ℕ → Bool
alive s image n = eqb (meta_of s.layout image n) 1

abbrev pub invariant-loop-n : goal.invariant-loop-n
invariant-loop-n l = l.sum ≡ count_to l.n (alive l.image.shape l.image.bytes.now)
