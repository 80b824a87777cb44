-- What a call answers after the header test, from what it answers by an image with its shape.
-- Assumes nothing.
use Prim.Native.Nat.{ℕ}
use mathlib.Core.Path.{◌≡◌}
use mathlib.Core.List.{List}
use Rattle.header.specs.declared.options.Options.{Options}
use Rattle.header.specs.declared.shape.Shape.{Shape}
use Rattle.header.specs.Answer.{done}
use Rattle.header.specs.HeaderTest.{header_test, shape_of, after_test}
use Rattle.header.proofs.After.{after_done}

module _ {A : Type 0} (go : Shape → List ℕ → A) (refuse : ℕ → A) (o : Options) (image : List ℕ) where
  pub after_open :
      (s : Shape) (bytes : List ℕ) → done ≡ header_test o image → bytes ≡ image → s ≡ shape_of image
      → go s bytes ≡ after_test (header_test o image) (go (shape_of image) image) refuse
  after_open s bytes passing same shape = rw (same, shape) (after_done (header_test o image) _ refuse passing)
