-- `host::check::slc1_full_check` meets its contract.
-- Assumes nothing.
use mathlib.Core.Path.{ap, ◌∙◌}
use Rattle.image.specs.Check.{Checked}
use Rattle.host.proofs.ResultLaws.{checked_answer}
use Rattle.host.proofs.check.slc1_full_check.Goals as goal

pub returns : goal.returns
returns c = c.number_of.ensures ∙ checked_answer _ ∙ ap (λ (x : Checked). x.answer) c.full_check-checked.ensures
