-- `numbers::words::put_u64` meets its contract: what std writes are the bytes of the word.
-- Assumes nothing.
use mathlib.Core.Path.{◌∙◌, ap}
use mathlib.Core.List.{List}
use Prim.Native.Nat.{ℕ}
use Rattle.numbers.specs.Bytes.{put}
use Rattle.numbers.proofs.Word.{to_bytes}
use Rattle.numbers.proofs.words.put_u64.Goals as goal

pub returns : goal.returns
returns c =
    c.copy_to.ensures ∙ ap (λ (bs : List ℕ). put c.args.s.now c.args.at bs) (c.to_le_bytes.ensures ∙ to_bytes 8 c.args.x)
