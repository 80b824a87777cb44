-- `host::lookup::slc1_lookup` meets its contract.
-- Assumes nothing.
use mathlib.Core.Path.{ap, ◌∙◌}
use Rattle.image.specs.Lookup.{Lookup}
use Rattle.host.proofs.lookup.slc1_lookup.Goals as goal

pub returns : goal.returns
returns c = c.number_in.ensures ∙ ap (λ (x : Lookup). x.answer) c.look_up-found.ensures
