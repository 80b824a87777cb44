-- `commit::turns::kept_place` meets its contract.
-- Assumes nothing.
use mathlib.Core.Path.{sym, ap}
use Rattle.applying.specs.Prepared.{kept_place}
use Rattle.commit.proofs.turns.kept_place.Goals as goal

pub returns-then-deletes : goal.returns-then-deletes
returns-then-deletes c =
    let a = c.args in
    sym (ap (kept_place a.l.bucket_count a.report) c.if-deletes.true)
