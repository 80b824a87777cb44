-- `numbers::parts::zero_word` meets its contract.
-- Assumes nothing.
use Prim.Native.Nat.{ℕ}
use mathlib.Core.Path.{ap}
use Rattle.std.proofs.Common.{◌==◌}
use Rattle.numbers.proofs.parts.zero_word.Goals as goal

pub returns : goal.returns
returns c = ap (λ (n : ℕ). n == 0) c.from_le_bytes.ensures
