-- `host::sizes::slc1_total_size` meets its contract.
-- Assumes nothing.
use mathlib.Core.Path.{sym, ◌∙◌}
use Rattle.header.proofs.After.{after_done, after_refusal}
use Rattle.header.proofs.PassedTests.{create_allowed}
use Rattle.host.specs.Places.{total_of}
use Rattle.host.proofs.sizes.slc1_total_size.Goals as goal

pub total_size-requires : goal.total_size-requires
total_size-requires c = create_allowed _ (sym c.in-Ok.ensures)

pub returns-in-Ok : goal.returns-in-Ok
unfolding total_of
returns-in-Ok c = c.total_size.ensures ∙ after_done _ _ (λ n. 0) c.in-Ok.ensures

pub returns-in-Err : goal.returns-in-Err
unfolding total_of
returns-in-Err c = after_refusal _ _ (λ n. 0) _ c.in-Err.ensures
