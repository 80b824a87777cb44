-- `header::sizes::sizes_to_create` meets its contract.
-- Assumes nothing.
use mathlib.Core.Path.{refl}
use Rattle.header.specs.Sizes.{sizes_to_create}
use Rattle.header.proofs.sizes.sizes_to_create.Goals as goal

pub returns : goal.returns
unfolding sizes_to_create
returns c = rw c.sizes_to_open.ensures refl
