-- `header::fields::Header::format_test` meets its contract.
-- Assumes nothing.
use Rattle.header.specs.HeaderTest.{test3}
use Rattle.header.proofs.fields.Header.format_test.Goals as goal

pub returns : goal.returns
unfolding test3
returns c = rw (← c.read-magic.ensures, ← c.read-version.ensures, ← c.read-header_size.ensures, ← c.read-hash_alg.ensures) c.refuse_if.ensures
