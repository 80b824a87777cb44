-- `host::lookup::slc1_lookup_buckets` meets its contract.
-- Assumes nothing.
use mathlib.Core.Path.{ap, ◌∙◌}
use Rattle.image.specs.Lookup.{Lookup}
use Rattle.host.proofs.lookup.slc1_lookup_buckets.Goals as goal

pub returns : goal.returns
returns c = c.buckets_in.ensures ∙ ap (λ (x : Lookup). x.buckets) c.look_up-found.ensures
