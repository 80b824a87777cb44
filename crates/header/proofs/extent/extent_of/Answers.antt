-- `header::extent::extent_of` meets its contract.
-- Assumes nothing.
use mathlib.Core.Path.{sym}
use Rattle.header.specs.Extent.{extent_of}
use Rattle.header.specs.HeaderTest.{layout_of, shape_of}
use Rattle.header.proofs.Fit.{fit_total}
use Rattle.header.proofs.extent.extent_of.Goals as goal

pub returns-in-Ok : goal.returns-in-Ok
unfolding extent_of shape_of layout_of
returns-in-Ok c =
    let passing = c.in-Ok.ensures.numbered in
    let shape = c.in-Ok.ensures.shape in
    let size = fit_total c.args.o c.args.image.now (sym passing) in
    rw (← passing) (λ i. record { capacity = (shape i).layout.slot_capacity; buckets = (shape i).layout.bucket_count; total = size i })
