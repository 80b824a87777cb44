-- `batch::decided::hash_keys` meets its contract. The loop's invariant: the hashes so far are noted.
-- Assumes nothing.
use Rattle.batch.proofs.Noted.{noted_none}
use Rattle.batch.proofs.decided.hash_keys.Goals as goal

pub loop-i-init : goal.loop-i-init
loop-i-init c = noted_none _
