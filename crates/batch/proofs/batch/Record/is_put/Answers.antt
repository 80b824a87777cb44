-- `batch::batch::Record::is_put` meets its contract.
-- Assumes nothing.
use Prim.Native.Nat.{ℕ}
use mathlib.Core.Path.{ap}
use lib.Dec.{eqb}
use Rattle.batch.proofs.batch.Record.is_put.Goals as goal

pub returns : goal.returns
returns c = ap (λ (m : ℕ). eqb m 1) c.meta.ensures
