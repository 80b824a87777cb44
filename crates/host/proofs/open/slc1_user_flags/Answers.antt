-- `host::open::slc1_user_flags` meets its contract.
-- Assumes nothing.
use mathlib.Core.Path.{ap}
use Rattle.header.specs.Open.{Opened}
use Rattle.host.proofs.open.slc1_user_flags.Goals as goal

pub returns-in-Ok : goal.returns-in-Ok
returns-in-Ok c = ap (λ (x : Opened). x.fields.user_flags) c.in-Ok.ensures
