-- `numbers::parts::equal_words` meets its contract. The loop's invariant: both begin with the same n words.
-- Assumes nothing.
use borrow.Author.Rules.{rules}
use Prim.Native.Nat.{◌*◌, ◌/◌}
use mathlib.Core.Path.{◌≡◌, sym, ◌∙◌}
use native.Mathlib.Omega.{arith}
use Rattle.numbers.specs.Bytes.{part, word}
use Rattle.numbers.proofs.EqualWords.{one_more}
use Rattle.numbers.proofs.parts.equal_words.Goals as goal
use Rattle.numbers.proofs.parts.equal_words.Goals.{After-u64_at-in-loop-n}

-- the words that a turn compares are those behind the n with which both begin
compared : (c : After-u64_at-in-loop-n)
    → let a = c.args in
    (c.u64_at.result ≡ word (part a.a.now (8 * c.loop-n.n) 8)) × (c.u64_at-in-loop-n.result ≡ word (part a.b.now (8 * c.loop-n.n) 8))
compared c = (c.u64_at.ensures, c.u64_at-in-loop-n.ensures)

pub returns-then-u64_at : goal.returns-then-u64_at
returns-then-u64_at c =
    let words = compared (goal.at.returns-then-u64_at c).After-u64_at-in-loop-n in
    record {
      in_first = search rules;
      in_second = search rules;
      alike = c.loop-n.invariant;
      no_more = λ _ _ e. c.if-u64_at.true (words.0 ∙ e ∙ sym words.1);
    }

pub loop-n-preserved : goal.loop-n-preserved
loop-n-preserved c =
    let words = compared (goal.at.loop-n-preserved c).After-u64_at-in-loop-n in
    one_more _ _ c.loop-n.n (λ k. (c.shared_slice_known-1.given k).fits) (λ k. (c.shared_slice_known-2-1.given k).fits) (search rules) (search rules)
    c.loop-n.invariant (sym words.0 ∙ c.if-u64_at.false ∙ words.1)

pub returns : goal.returns
returns c =
    let all : c.loop-n.n ≡ c.min-words.result / 8 = search rules in
    record {
      in_first = search rules;
      in_second = search rules;
      alike = rw (sym all) c.loop-n.invariant;
      no_more = λ ha hb e. omega arith;
    }
