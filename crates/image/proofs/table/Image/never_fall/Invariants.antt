-- `image::table::Image::never_fall` meets its contract. The loop's invariant: no key so far comes before the one before it.
-- Assumes nothing.
use Prim.Native.Nat.{ℕ, ◌+◌, ◌-◌}
use mathlib.Core.Path.{◌≡◌}
use mathlib.Core.Bool.{Bool, true, not}
use mathlib.Core.List.{List}
use Rattle.numbers.specs.Bytes.{below}
use Rattle.probing.specs.Counting.{all_to}
use Rattle.header.specs.declared.shape.Shape.{Shape}
use Rattle.image.specs.Table.{key_of}
use Rattle.image.proofs.table.Image.never_fall.Given as goal

-- the key of slot n + 1 does not come before that of slot n
unfoldable pub holds : Shape → List ℕ → ℕ → Bool
holds s image n = not (below (key_of s.layout image (n + 1)) (key_of s.layout image n))

abbrev pub invariant-loop-n : goal.invariant-loop-n
invariant-loop-n l = all_to (l.n - 1) (holds l.self.shape l.self.bytes.now) ≡ true
