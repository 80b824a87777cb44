-- `commit::commit::commit_sound` meets its contract: a batch that passed the sound tests has no more records than allowed.
-- Assumes nothing.
use mathlib.Core.Path.{refl}
use Rattle.commit.proofs.TestGroups.{sound_small}
use Rattle.commit.proofs.commit.commit_sound.Goals as goal

pub put_hashes-requires-clause-few : goal.put_hashes-requires-clause-few
put_hashes-requires-clause-few c =
    let a = c.args in
    rw c.requires.layout (sound_small a.s a.image.now a.batch.now.bytes.now refl c.requires.sound)
