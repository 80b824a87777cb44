-- The words of eight bytes with which two lists begin, as comparisons go by them.
-- Assumes nothing.
use Rattle.std.specs.Prelude.{ℕ, ◌+◌, ◌*◌, ◌≤◌, ◌≡◌, List, length, take}
use Rattle.numbers.specs.Bytes.{part, word}

-- both begin with the same n words, and with no more: a list ends within the next word, or the two differ in it
pub record EqualWords (a b : List ℕ) (n : ℕ) : Type 0 where
  pub in_first : 8 * n ≤ length a
  pub in_second : 8 * n ≤ length b
  pub alike : take (8 * n) a ≡ take (8 * n) b
  pub no_more : 8 * n + 8 ≤ length a → 8 * n + 8 ≤ length b → word (part a (8 * n) 8) ≡ word (part b (8 * n) 8) → ⊥
