-- `host::write::slc1_checkpoint` meets its contract.
-- Assumes nothing.
use mathlib.Core.Path.{◌∙◌}
use Rattle.host.proofs.write.slc1_checkpoint.Goals as goal

pub returns : goal.returns
returns c =
    let told = c.checkpoint.ensures in
    (c.number_of.ensures ∙ told.0, told.1)
