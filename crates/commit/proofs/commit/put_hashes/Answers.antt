-- `commit::commit::put_hashes` meets its contract.
-- Assumes nothing.
use Rattle.commit.proofs.commit.put_hashes.Goals as goal

pub returns : goal.returns
returns c = rw c.copy_from_slice.ensures.after c.hash_keys.ensures
