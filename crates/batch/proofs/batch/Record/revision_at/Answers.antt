-- `batch::batch::Record::revision_at` meets its contract.
-- Assumes nothing.
use native.Mathlib.Omega.{arith}
use Rattle.batch.proofs.Records.{sizes}
use Rattle.batch.proofs.batch.Record.revision_at.Goals as goal

pub align8-requires : goal.align8-requires
align8-requires c = let r = c.args.self.now in omega (arith, sizes r.layout r.sized.0)

pub overflow_add-result : goal.overflow_add-result
overflow_add-result c = let r = c.args.self.now in omega (arith, c.align8.ensures, sizes r.layout r.sized.0)
