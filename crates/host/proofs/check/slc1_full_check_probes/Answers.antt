-- `host::check::slc1_full_check_probes` meets its contract.
-- Assumes nothing.
use mathlib.Core.Path.{ap}
use Rattle.image.specs.Check.{Checked}
use Rattle.host.proofs.check.slc1_full_check_probes.Goals as goal

pub returns-in-Ok : goal.returns-in-Ok
returns-in-Ok c = ap (λ (x : Checked). x.probes) c.in-Ok.ensures
