-- `batch::batch::Record::revision_and_index` meets its contract.
-- Assumes nothing.
use mathlib.Core.Path.{ap, ◌∙◌}
use Prim.Native.Nat.{ℕ, ◌+◌}
use Rattle.numbers.specs.Bytes.{part}
use native.Mathlib.Omega.{arith}
use Rattle.numbers.proofs.Put.{range_part}
use Rattle.batch.proofs.Records.{sizes}
use Rattle.batch.specs.Batch.{revision_and_index}
use Rattle.batch.proofs.batch.Record.revision_and_index.Goals as goal

pub overflow_add-end : goal.overflow_add-end
overflow_add-end c = let r = c.args.self.now in omega (arith, sizes r.layout r.sized.0)

pub overflow_add-end-2 : goal.overflow_add-end-2
overflow_add-end-2 c = let r = c.args.self.now in omega (arith, sizes r.layout r.sized.0)

pub slice_bounds-result-end : goal.slice_bounds-result-end
slice_bounds-result-end c = let r = c.args.self.now in omega (arith, sizes r.layout r.sized.0)

pub returns : goal.returns
unfolding revision_and_index
returns c =
    let r = c.args.self.now in
    let from = c.revision_at-at in
    range_part r.bytes.now from.result _ (8 + r.layout.index_size) (omega arith)
    ∙ ap (λ (x : ℕ). part r.bytes.now x (8 + r.layout.index_size)) from.ensures
