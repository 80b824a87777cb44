-- `host::check::slc1_full_check_tombstones` meets its contract.
-- Assumes nothing.
use mathlib.Core.Path.{ap}
use Rattle.image.specs.Check.{Checked}
use Rattle.host.proofs.check.slc1_full_check_tombstones.Goals as goal

pub returns-in-Ok : goal.returns-in-Ok
returns-in-Ok c = ap (λ (x : Checked). x.tombstones) c.in-Ok.ensures
