-- `listing::select::fill` meets its contract. The loop's invariant: the numbers so far are written.
-- Assumes nothing.
use Prim.Native.Nat.{ℕ}
use mathlib.Core.Path.{◌≡◌}
use mathlib.Core.List.{◌++◌, map}
use lib.ListN.{length, drop}
use Rattle.listing.proofs.select.fill.Given as goal

abbrev pub invariant-loop-i : goal.invariant-loop-i
invariant-loop-i g l =
    (goal.iterator-loop-i g).can_next l.i-iterator × (goal.iterator-loop-i g).is_finite l.i-iterator
    × (l.numbers ≡ map (λ (p : ℕ × ℕ). p.1) l.yielded ++ drop (length l.yielded) l.initial.numbers)
