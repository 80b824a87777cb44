-- `batch::batch::Batch::record_key` meets its contract.
-- Assumes nothing.
use Rattle.batch.specs.Batch.{record_key}
use Rattle.batch.proofs.batch.Batch.record_key.Goals as goal

pub returns : goal.returns
unfolding record_key
returns c = cc
