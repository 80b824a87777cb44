-- `host::list::slc1_scan` meets its contract.
-- Assumes nothing.
use mathlib.Core.Path.{ap, ◌∙◌}
use Rattle.listing.specs.Scan.{Listed}
use Rattle.host.proofs.ResultLaws.{told_answer}
use Rattle.host.proofs.list.slc1_scan.Goals as goal

pub returns : goal.returns
returns c =
    let lists = c.scan-listed.ensures in
    (c.number_of.ensures ∙ told_answer _ ∙ ap (λ (x : Listed). x.answer) lists.0, lists.1)
