-- `numbers::parts::all_zero` meets its contract: the words with which the bytes begin, and what is left behind them.
-- Assumes nothing.
use mathlib.Core.Path.{◌∙◌, sym}
use Rattle.numbers.proofs.Zeros.{by_words}
use Rattle.numbers.proofs.parts.all_zero.Goals as goal

pub returns-then-zero_words : goal.returns-then-zero_words
returns-then-zero_words c =
    let cut = c.as_chunks.ensures in
    c.zero_bytes.ensures ∙ sym (by_words c.args.s.now _ _ _ cut.front cut.back (sym c.if-zero_words.true ∙ c.zero_words.ensures))

pub returns-else-zero_words : goal.returns-else-zero_words
returns-else-zero_words c =
    let cut = c.as_chunks.ensures in
    c.if-zero_words.false ∙ sym (by_words c.args.s.now _ _ _ cut.front cut.back (sym c.if-zero_words.false ∙ c.zero_words.ensures))
