-- `batch::batch::Record::meta` meets its contract.
-- Assumes nothing.
use native.Mathlib.Omega.{arith}
use Rattle.batch.proofs.Records.{sizes}
use Rattle.batch.specs.Batch.{meta_in}
use Rattle.batch.proofs.batch.Record.meta.Goals as goal

pub u64_at-requires : goal.u64_at-requires
u64_at-requires c = let r = c.args.self.now in omega (arith, sizes r.layout r.sized.0, r.sized.1)

pub returns : goal.returns
unfolding meta_in
returns c = c.u64_at.ensures
