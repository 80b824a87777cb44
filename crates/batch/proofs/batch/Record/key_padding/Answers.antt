-- `batch::batch::Record::key_padding` meets its contract.
-- Assumes nothing.
use Prim.Native.Nat.{◌+◌, ◌-◌}
use Rattle.header.specs.Sizes.{align8}
use native.Mathlib.Omega.{arith}
use Rattle.numbers.proofs.Put.{range_part}
use Rattle.batch.proofs.Records.{sizes}
use Rattle.batch.specs.Batch.{key_padding}
use Rattle.batch.proofs.batch.Record.key_padding.Goals as goal

pub overflow_add-at : goal.overflow_add-at
overflow_add-at c = let r = c.args.self.now in omega (arith, sizes r.layout r.sized.0)

pub slice_bounds-result-count : goal.slice_bounds-result-count
slice_bounds-result-count c = let r = c.args.self.now in omega (arith, sizes r.layout r.sized.0)

pub slice_bounds-result-start : goal.slice_bounds-result-start
slice_bounds-result-start c = let r = c.args.self.now in omega (arith, sizes r.layout r.sized.0)

pub slice_bounds-result-end : goal.slice_bounds-result-end
slice_bounds-result-end c = let r = c.args.self.now in omega (arith, sizes r.layout r.sized.0)

pub returns : goal.returns
unfolding key_padding
returns c =
    let r = c.args.self.now in
    range_part r.bytes.now (8 + r.layout.key_size) _ (align8 r.layout.key_size - r.layout.key_size) (omega (arith, sizes r.layout r.sized.0))
