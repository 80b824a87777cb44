-- `host::open::slc1_open_check` meets its contract.
-- Assumes nothing.
use mathlib.Core.Path.{ap, ◌∙◌}
use Rattle.header.specs.Open.{Opened}
use Rattle.host.proofs.UserDataLaws.{opened_answer}
use Rattle.host.proofs.open.slc1_open_check.Goals as goal

pub returns : goal.returns
returns c = c.number_of.ensures ∙ opened_answer _ ∙ ap (λ (x : Opened). x.answer) c.open_check-opened.ensures
