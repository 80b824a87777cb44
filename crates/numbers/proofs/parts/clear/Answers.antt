-- `numbers::parts::clear` meets its contract: what a write leaves of a slice is a put.
-- Assumes nothing.
use borrow.Author.Rules.{rules}
use native.Mathlib.Omega.{arith}
use Prim.Native.Nat.{ℕ}
use mathlib.Core.Path.{◌∙◌, ap}
use lib.ListN.{replicate, length-replicate}
use Rattle.numbers.proofs.Put.{part_written}
use Rattle.numbers.proofs.parts.clear.Goals as goal

pub returns : goal.returns
returns c =
    part_written c.args.dst.now c.args.at _ _ (replicate c.args.n 0) (rw length-replicate (omega arith))
    (c.fill.ensures.after (λ y same. same) ∙ ap (λ (k : ℕ). replicate k 0) (search rules))
