-- `host::extent::slc1_image_capacity` meets its contract.
-- Assumes nothing.
use mathlib.Core.Path.{ap}
use Rattle.header.specs.declared.extent.Extent.{Extent}
use Rattle.host.proofs.extent.slc1_image_capacity.Goals as goal

pub returns : goal.returns
returns c = ap (λ (e : Extent). e.capacity) c.extent_of-extent.ensures
