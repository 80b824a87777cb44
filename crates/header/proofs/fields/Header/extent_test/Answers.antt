-- `header::fields::Header::extent_test` meets its contract.
-- Assumes nothing.
use mathlib.Core.Path.{sym}
use Rattle.header.specs.HeaderTest.{image_total, test10}
use Rattle.header.specs.Sizes.{total}
use Rattle.header.proofs.Firsts.{fails}
use Rattle.header.proofs.fields.Header.extent_test.Goals as goal

pub returns : goal.returns
unfolding test10 image_total total
returns c =
    rw (← c.read-slots.ensures, ← c.read-buckets.ensures, ← c.read-capacity.ensures, ← c.read-slot.ensures, ← c.buckets_offset-offset.ensures, fails _ 0 (sym c.in_ok-refuse_if.ensures), ← c.read.ensures, ← c.image.ensures.bytes) c.refuse_if-2.ensures
