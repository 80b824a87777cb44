-- `header::fields::Header::dirty_test` meets its contract.
-- Assumes nothing.
use Rattle.header.specs.HeaderTest.{test12}
use Rattle.header.proofs.fields.Header.dirty_test.Goals as goal

pub returns : goal.returns
unfolding test12
returns c = rw (← c.read.ensures) c.refuse_if.ensures
