-- `host::list::slc1_match_total` meets its contract.
-- Assumes nothing.
use mathlib.Core.Path.{ap}
use Rattle.listing.specs.Scan.{Listed}
use Rattle.host.proofs.list.slc1_match_total.Goals as goal

pub returns-in-Ok : goal.returns-in-Ok
returns-in-Ok c =
    let lists = c.in-Ok.ensures in
    (ap (λ (x : Listed). x.total) lists.0, lists.1)
