-- `host::extent::slc1_image_buckets` meets its contract.
-- Assumes nothing.
use mathlib.Core.Path.{ap}
use Rattle.header.specs.declared.extent.Extent.{Extent}
use Rattle.host.proofs.extent.slc1_image_buckets.Goals as goal

pub returns : goal.returns
returns c = ap (λ (e : Extent). e.buckets) c.extent_of-extent.ensures
