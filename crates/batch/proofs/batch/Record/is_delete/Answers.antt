-- `batch::batch::Record::is_delete` meets its contract.
-- Assumes nothing.
use mathlib.Core.Bool.{not}
use mathlib.Core.Path.{ap}
use Rattle.batch.proofs.batch.Record.is_delete.Goals as goal

pub returns : goal.returns
returns c = ap not c.is_put.ensures
