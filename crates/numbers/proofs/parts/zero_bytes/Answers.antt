-- `numbers::parts::zero_bytes` meets its contract: each item that `all` asks for answers for itself.
-- Assumes nothing.
use Prim.Native.Nat.{ℕ}
use mathlib.Core.Path.{refl}
use Rattle.std.proofs.Common.{◌==◌}
use Rattle.std.proofs.lemmas.Iterator.{YieldsList-from_slice}
use Rattle.std.proofs.lemmas.Iterator.Search.{all_from_yields_List}
use Rattle.numbers.proofs.parts.zero_bytes.Goals as goal

pub returns : goal.returns
returns c =
    all_from_yields_List (λ (x : ℕ). x == 0) _ _ c.all.result c.all.ensures.ran (YieldsList-from_slice c.args.s.now c.iter.ensures.rest)
    (λ x b q called. (refl, called.met.said-raw.1.1.1))
