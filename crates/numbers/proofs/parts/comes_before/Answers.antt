-- `numbers::parts::comes_before` meets its contract. The loop's invariant: what is left of both slices decides.
-- Assumes nothing.
use borrow.Author.Rules.{rules}
use mathlib.Core.Path.{◌∙◌, sym}
use Rattle.numbers.proofs.Compare.{below_on, below_yes, below_no, below_short, below_end}
use Rattle.numbers.proofs.EqualWords.{below_left}
use Rattle.numbers.proofs.parts.comes_before.Goals as goal

pub loop-i-init : goal.loop-i-init
loop-i-init c = below_left c.equal_words-start.ensures

pub returns-then-a-i : goal.returns-then-a-i
returns-then-a-i c =
    let l = c.loop-i in
    sym (l.invariant ∙ below_short _ _ l.i (search rules) (search rules))

pub returns-then-a-i-2 : goal.returns-then-a-i-2
returns-then-a-i-2 c =
    let l = c.loop-i in
    sym (l.invariant ∙ below_yes _ _ l.i (search rules) (search rules) c.if-a-i-2.true)

pub returns-then-b-i : goal.returns-then-b-i
returns-then-b-i c =
    let l = c.loop-i in
    sym (l.invariant ∙ below_no _ _ l.i (search rules) (search rules) c.if-b-i.true)

pub loop-i-preserved : goal.loop-i-preserved
loop-i-preserved c =
    let l = c.loop-i in
    l.invariant ∙ below_on _ _ l.i (search rules) (search rules) (search rules)

pub returns : goal.returns
returns c =
    let l = c.loop-i in
    sym (l.invariant ∙ below_end _ _ l.i (search rules))
