-- `applying::counts::count_tombstones` meets its contract. The loop's invariant: the sum counts the TOMBSTONE buckets so far.
-- Assumes nothing.
use Prim.Native.Nat.{ℕ}
use mathlib.Core.Path.{◌≡◌}
use mathlib.Core.Bool.{Bool}
use mathlib.Core.List.{List}
use Rattle.probing.specs.Counting.{count_to}
use Rattle.header.specs.declared.shape.Shape.{Shape}
use Rattle.probing.specs.Table.{is_tombstone}
use Rattle.image.specs.Table.{bucket_of}
use Rattle.applying.proofs.counts.count_tombstones.Given as goal

-- bucket b is a TOMBSTONE
abbrev pub gone : Shape → List ℕ → ℕ → Bool
gone s image b = is_tombstone (bucket_of s.layout image b)

abbrev pub invariant-loop-b : goal.invariant-loop-b
invariant-loop-b l = l.sum ≡ count_to l.b (gone l.image.shape l.image.bytes.now)
