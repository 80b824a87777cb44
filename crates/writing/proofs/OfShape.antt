-- What a shape says of the header that it was read from.
-- Assumes nothing.
use Prim.Native.Nat.{ℕ}
use mathlib.Core.Path.{◌≡◌, ap}
use mathlib.Core.List.{List}
use Rattle.header.specs.declared.shape.Shape.{Shape}
use Rattle.header.specs.Fields as F
use Rattle.header.specs.Fields.{value}
use Rattle.header.specs.HeaderTest.{shape_of}

module _ (image : List ℕ) {s : Shape} (e : s ≡ shape_of image) where
  pub shape_state : s.state ≡ value image F.state
  unfolding shape_of
  shape_state = ap (λ (t : Shape). t.state) e

  pub shape_generation : s.generation ≡ value image F.generation
  unfolding shape_of
  shape_generation = ap (λ (t : Shape). t.generation) e
