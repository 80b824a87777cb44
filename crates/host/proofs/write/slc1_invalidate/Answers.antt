-- `host::write::slc1_invalidate` meets its contract.
-- Assumes nothing.
use mathlib.Core.Path.{◌∙◌}
use Rattle.host.proofs.write.slc1_invalidate.Goals as goal

pub returns : goal.returns
returns c =
    let told = c.invalidate.ensures in
    (c.number_of.ensures ∙ told.0, told.1)
