-- `host::lookup::slc1_lookup_slot` meets its contract.
-- Assumes nothing.
use mathlib.Core.Path.{ap, ◌∙◌}
use Rattle.image.specs.declared.lookup.Entry.{Entry}
use Rattle.image.specs.Lookup.{Lookup}
use Rattle.host.proofs.lookup.slc1_lookup_slot.Goals as goal

pub returns : goal.returns
returns c = ap (λ (e : Entry). e.slot) c.entry_in.ensures ∙ ap (λ (x : Lookup). x.slot) c.look_up-found.ensures
