-- "CR 2. Whole-length match.": what a bit count of 0 gives, and that nothing else moved.
-- Assumes nothing.
use Rattle.std.specs.Prelude.{ℕ, ◌+◌, ◌*◌, ◌-◌, ◌≤◌, true, ◌≡◌, ◌↔◌, List, [], length}
use Rattle.numbers.specs.Bytes.{Bytes, part}
use Rattle.header.specs.declared.options.Options.{Options}
use Rattle.header.specs.Answer.{done, invalid_input}
use Rattle.header.specs.HeaderTest.{header_test, shape_of, after_test}
use Rattle.listing.specs.Scan.{Outcome, refused}
use Rattle.listing.specs.Match.{agrees, match_in, match_of}

-- match by document 01 alone: the bits compared are those asked for
abbrev pub by_document1 : Options → List ℕ → ℕ → ℕ → List ℕ → ℕ → ℕ → List ℕ → Outcome
by_document1 o image offset bits pattern skip limit numbers =
    after_test (header_test o image) (match_in (shape_of image) image offset bits pattern skip limit numbers) (refused numbers)

pub record WholeLength : Type 0 where
  -- "Document 01 refuses a bit count of 0."
  pub refuses : (o : Options) (image : List ℕ) (offset : ℕ) (pattern : List ℕ) (skip limit : ℕ) (numbers : List ℕ)
      → header_test o image ≡ done
      → by_document1 o image offset 0 pattern skip limit numbers ≡ refused numbers invalid_input
  -- "0 means the whole pattern, eight bits a byte"
  pub whole : (o : Options) (image : List ℕ) (offset : ℕ) (pattern : List ℕ) (skip limit : ℕ) (numbers : List ℕ)
      → match_of o image offset 0 pattern skip limit numbers
      ≡ by_document1 o image offset (8 * length pattern) pattern skip limit numbers
  -- "the pattern then has 1 to key_size - offset bytes": where it has, and only there, match does not answer 7
  pub lengths : (o : Options) (image : List ℕ) (offset : ℕ) (pattern : List ℕ) (skip limit : ℕ) (numbers : List ℕ)
      → header_test o image ≡ done
      → ((match_of o image offset 0 pattern skip limit numbers).listed.answer ≡ invalid_input → ⊥)
      ↔ ((1 ≤ length pattern) × (length pattern ≤ o.key_size - offset))
  -- "An empty pattern with 0 bits stays 7."
  pub empty : (o : Options) (image : List ℕ) (offset skip limit : ℕ) (numbers : List ℕ) → header_test o image ≡ done
      → match_of o image offset 0 [] skip limit numbers ≡ refused numbers invalid_input
  -- "no other answer moves", and no list
  pub others : (o : Options) (image : List ℕ) (offset bits : ℕ) (pattern : List ℕ) (skip limit : ℕ) (numbers : List ℕ)
      → (bits ≡ 0 → ⊥)
      → match_of o image offset bits pattern skip limit numbers ≡ by_document1 o image offset bits pattern skip limit numbers
  -- what it comes to for a key, as bytes: it agrees where the pattern stands in it at the offset
  pub stands : (offset : ℕ) (pattern key : List ℕ) → Bytes pattern → Bytes key → offset + length pattern ≤ length key
      → (agrees offset (8 * length pattern) pattern key ≡ true) ↔ (part key offset (length pattern) ≡ pattern)
