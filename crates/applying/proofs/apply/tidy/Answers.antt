-- `applying::apply::tidy` meets its contract.
-- Assumes nothing.
use mathlib.Core.Path.{◌∙◌}
use native.Mathlib.Omega.{arith}
use Rattle.applying.proofs.Acting.{tidied_rebuilt}
use Rattle.applying.proofs.apply.tidy.Goals as goal

pub returns-then-s-count_tombstones : goal.returns-then-s-count_tombstones
returns-then-s-count_tombstones c = let a = c.args in c.rebuild.ensures ∙ tidied_rebuilt a.s a.image.now (omega arith)
