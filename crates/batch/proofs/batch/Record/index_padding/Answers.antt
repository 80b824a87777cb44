-- `batch::batch::Record::index_padding` meets its contract.
-- Assumes nothing.
use mathlib.Core.Path.{ap, ◌∙◌}
use Prim.Native.Nat.{ℕ, ◌+◌, ◌-◌}
use Rattle.numbers.specs.Bytes.{part}
use Rattle.header.specs.Sizes.{align8}
use native.Mathlib.Omega.{arith}
use Rattle.numbers.proofs.Put.{range_part}
use Rattle.batch.proofs.Records.{sizes}
use Rattle.batch.specs.Batch.{index_padding}
use Rattle.batch.proofs.batch.Record.index_padding.Goals as goal

pub overflow_add-at : goal.overflow_add-at
overflow_add-at c = let r = c.args.self.now in omega (arith, sizes r.layout r.sized.0)

pub overflow_add-at-2 : goal.overflow_add-at-2
overflow_add-at-2 c = let r = c.args.self.now in omega (arith, sizes r.layout r.sized.0)

pub slice_bounds-result-count : goal.slice_bounds-result-count
slice_bounds-result-count c = let r = c.args.self.now in omega (arith, sizes r.layout r.sized.0, r.sized.1)

pub slice_bounds-result-start : goal.slice_bounds-result-start
slice_bounds-result-start c = let r = c.args.self.now in omega (arith, sizes r.layout r.sized.0, r.sized.1)

pub returns : goal.returns
unfolding index_padding
returns c =
    let r = c.args.self.now in
    let at = c.revision_at.result + 8 + r.layout.index_size in
    let n = align8 r.layout.index_size - r.layout.index_size in
    range_part r.bytes.now at _ n (omega (arith, sizes r.layout r.sized.0, r.sized.1))
    ∙ ap (λ (x : ℕ). part r.bytes.now x n) (omega arith)
