-- `slots::slots::remove` meets its contract.
-- Assumes nothing.
use Rattle.slots.proofs.Table.Removed.{removes}
use Rattle.slots.proofs.slots.remove.Goals as goal

pub returns : goal.returns
returns c =
    let a = c.args in
    removes a.l a.image.now a.n a.b c.slot_at-slot.ensures c.put_u64.ensures c.bucket_at-bucket.ensures c.put_u64-2.ensures
