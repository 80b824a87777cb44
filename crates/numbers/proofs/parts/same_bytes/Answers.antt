-- `numbers::parts::same_bytes` meets its contract: the words that both begin with, and what is left of both.
-- Assumes nothing.
use native.Mathlib.Omega.{arith}
use Prim.Native.Nat.{◌/◌}
use mathlib.Core.Path.{◌≡◌, sym}
use lib.ListN.{length}
use Rattle.numbers.proofs.EqualWords.{same_by_rest, same_differ, same_lengths}
use Rattle.numbers.proofs.parts.same_bytes.Goals as goal

pub returns-then-a-b : goal.returns-then-a-b
returns-then-a-b c =
    let a = c.args in
    sym (same_lengths a.a.now a.b.now c.if-a-b.true)

pub returns-then-equal_words-words : goal.returns-then-equal_words-words
returns-then-equal_words-words c = sym (same_differ c.equal_words.ensures (omega arith) (omega arith))

pub returns : goal.returns
returns c =
    let found = c.equal_words in
    let all : length c.args.a.now / 8 ≡ found.result = omega (arith, found.ensures.in_first) in
    same_by_rest found.ensures _ all c.eq.ensures
