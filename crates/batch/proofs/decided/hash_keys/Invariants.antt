-- `batch::decided::hash_keys` meets its contract. The loop's invariant: the hashes so far are noted.
-- Assumes nothing.
use Rattle.batch.specs.Notes.{Noted, hash_of}
use Rattle.batch.proofs.decided.hash_keys.Given as goal

abbrev pub invariant-loop-i : goal.invariant-loop-i
invariant-loop-i l = Noted (hash_of l.batch.layout l.batch.bytes.now) l.i l.hashes
