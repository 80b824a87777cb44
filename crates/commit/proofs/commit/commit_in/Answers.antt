-- `commit::commit::commit_in` meets its contract: what the sound tests refuse is refused, and the rest is told by what comes then.
-- Assumes nothing.
use Rattle.header.proofs.Firsts.{number_not_done}
use Rattle.commit.proofs.TestGroups.{sound_stops}
use Rattle.writing.proofs.Answers.{says_refused}
use Rattle.commit.proofs.commit.commit_in.Goals as goal

pub returns-in_err-sound_test : goal.returns-in_err-sound_test
returns-in_err-sound_test c =
    let a = c.args in
    says_refused a.image.now _ _ _ _ c.from_residual.ensures.1
    (sound_stops a.s a.image.now a.batch.now.bytes.now c.in_err-sound_test.ensures (number_not_done _))
