-- `numbers::words::u32_at` meets its contract: what std reads is the word of the part.
-- Assumes nothing.
use Rattle.numbers.proofs.Word.{from_part}
use Rattle.numbers.proofs.words.u32_at.Goals as goal

pub returns : goal.returns
returns c =
    from_part c.args.s.now c.args.at 3 c.from_le_bytes.result c.unwrap.result c.requires (rw c.unwrap.ensures at c.try_into.ensures.1) c.from_le_bytes.ensures
