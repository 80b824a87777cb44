-- `image::table::meta_of` meets its contract: the word where the slot begins.
-- Assumes nothing.
use Prim.Native.Nat.{ℕ}
use mathlib.Core.Path.{ap, ◌∙◌}
use Rattle.numbers.specs.Bytes.{part, word}
use Rattle.image.specs.Table.{meta_of}
use Rattle.image.proofs.table.meta_of.Goals as goal

pub returns : goal.returns
unfolding meta_of
returns c = c.u64_at.ensures ∙ ap (λ (at : ℕ). word (part c.args.image.now at 8)) c.slot_at.ensures
