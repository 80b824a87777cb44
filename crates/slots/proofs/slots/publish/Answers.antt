-- `slots::slots::publish` meets its contract.
-- Assumes nothing.
use mathlib.Core.Path.{◌∙◌}
use Rattle.header.specs.Fields as F
use Rattle.writing.proofs.StateCode.{wrote_last, wrote_before, publishes}
use Rattle.slots.specs.Slots.{counted}
use Rattle.slots.proofs.slots.publish.Goals as goal

pub returns : goal.returns
unfolding counted
returns c =
    let a = c.args in
    publishes a.image.now _ c.read-next.ensures c.write.ensures
    (wrote_last F.bucket_tombstones a.s.bucket_tombstones _ c.write-5.ensures
    ∙ wrote_before F.bucket_used a.s.live_count _ c.write-4.ensures _
    ∙ wrote_before F.live_count_field a.s.live_count _ c.write-3.ensures _
    ∙ wrote_before F.slot_highwater a.s.slot_highwater _ c.write-2.ensures _)
    c.seal.ensures
