-- `batch::batch::Batch::record_count` meets its contract.
-- Assumes nothing.
use mathlib.Core.Path.{refl}
use native.Mathlib.Omega.{arith}
use Rattle.batch.proofs.Records.{sizes}
use Rattle.batch.specs.Batch.{record_count}
use Rattle.batch.proofs.batch.Batch.record_count.Goals as goal

pub nonzero_div-result : goal.nonzero_div-result
nonzero_div-result c = let b = c.args.self.now in omega (arith, sizes b.layout b.sized)

pub returns : goal.returns
unfolding record_count
returns c = refl
