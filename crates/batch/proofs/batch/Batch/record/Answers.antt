-- `batch::batch::Batch::record` meets its contract.
-- Assumes nothing.
use mathlib.Core.Path.{refl}
use Rattle.numbers.proofs.Put.{range_part}
use Prim.Native.Nat.{◌*◌}
use native.Mathlib.Omega.{arith}
use Rattle.batch.proofs.Records.{record_inside}
use Rattle.batch.specs.Batch.{record_at}
use Rattle.batch.proofs.batch.Batch.record.Goals as goal

pub overflow_mul-at : goal.overflow_mul-at
overflow_mul-at c = let b = c.args.self.now in omega (arith, record_inside b.layout b.bytes.now c.args.i c.requires)

pub overflow_add-end : goal.overflow_add-end
overflow_add-end c = let b = c.args.self.now in omega (arith, record_inside b.layout b.bytes.now c.args.i c.requires)

pub slice_bounds-result-end : goal.slice_bounds-result-end
slice_bounds-result-end c = let b = c.args.self.now in omega (arith, record_inside b.layout b.bytes.now c.args.i c.requires)

pub returns-clause-bytes : goal.returns-clause-bytes
unfolding record_at
returns-clause-bytes c =
    let b = c.args.self.now in
    range_part b.bytes.now (c.args.i * b.layout.slot_size) _ b.layout.slot_size refl
