-- `header::sizes::sizes_to_open` meets its contract.
-- Assumes nothing.
use mathlib.Core.Path.{refl}
use Rattle.header.specs.Sizes.{sizes_to_open}
use Rattle.header.proofs.sizes.sizes_to_open.Goals as goal

pub returns : goal.returns
unfolding sizes_to_open
returns c = refl
