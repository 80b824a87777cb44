-- `batch::batch::Record::key` meets its contract.
-- Assumes nothing.
use mathlib.Core.Path.{refl}
use Rattle.numbers.proofs.Put.{range_part}
use native.Mathlib.Omega.{arith}
use Rattle.batch.proofs.Records.{sizes}
use Rattle.batch.specs.Batch.{key_in}
use Rattle.batch.proofs.batch.Record.key.Goals as goal

pub overflow_add-end : goal.overflow_add-end
overflow_add-end c = let r = c.args.self.now in omega (arith, sizes r.layout r.sized.0)

pub slice_bounds-result-end : goal.slice_bounds-result-end
slice_bounds-result-end c = let r = c.args.self.now in omega (arith, sizes r.layout r.sized.0, r.sized.1)

pub returns : goal.returns
unfolding key_in
returns c = let r = c.args.self.now in range_part r.bytes.now 8 _ r.layout.key_size refl
