-- `writing::create::write_options` meets its contract.
-- Assumes nothing.
use Rattle.writing.specs.Write.{with_fields}
use Rattle.writing.specs.Create.{fresh_fields}
use Rattle.writing.proofs.create.write_options.Goals as goal

pub returns : goal.returns
unfolding with_fields fresh_fields
returns c = cc
