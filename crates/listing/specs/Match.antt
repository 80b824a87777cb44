-- "Match (003) compares a number of bits, most significant first, from a byte offset in the key."
-- Assumes nothing.
use Rattle.std.specs.Prelude.{ℕ, ◌+◌, ◌*◌, ◌-◌, ◌/◌, ◌%◌, ◌^◌, Bool, cond, not, ◌||◌, List, eqb, ltb, length, get_or, drop}
use Rattle.probing.specs.Counting.{all_to}
use Rattle.header.specs.declared.options.Options.{Options}
use Rattle.header.specs.declared.shape.Shape.{Shape}
use Rattle.header.specs.Answer.{invalid_input}
use Rattle.header.specs.HeaderTest.{header_test, shape_of, after_test}
use Rattle.listing.specs.Scan.{Outcome, refused, matches, list}

-- bit i of the bytes of a list, the most significant bit of a byte first
unfoldable pub bit_at : List ℕ → ℕ → ℕ
bit_at s i = get_or s (i / 8) 0 / 2 ^ (7 - i % 8) % 2

-- the first bits of the key from the offset on are the pattern's; "spare bits are ignored"
unfoldable pub agrees : ℕ → ℕ → List ℕ → List ℕ → Bool
agrees offset bits pattern key = all_to bits (λ i. eqb (bit_at (drop offset key) i) (bit_at pattern i))

-- "0 means the whole pattern, eight bits a byte" (CR 2): how many bits are compared
unfoldable pub bits_compared : ℕ → List ℕ → ℕ
bits_compared bits pattern = cond (eqb bits 0) (8 * length pattern) bits

-- "7 if" no bits are compared, which only an empty pattern with 0 bits asks for (CR 2), "the pattern's length differs, or it
-- runs past the key"
unfoldable pub pattern_wrong : Shape → ℕ → ℕ → List ℕ → Bool
pattern_wrong s offset bits pattern =
    eqb bits 0 || not (eqb (length pattern) ((bits + 7) / 8)) || ltb s.layout.key_size (offset + length pattern)

unfoldable pub match_in : Shape → List ℕ → ℕ → ℕ → List ℕ → ℕ → ℕ → List ℕ → Outcome
match_in s image offset bits pattern skip limit numbers =
    cond (pattern_wrong s offset bits pattern) (refused numbers invalid_input)
    (list (matches s image (agrees offset bits pattern)) skip limit numbers)

unfoldable pub match_of : Options → List ℕ → ℕ → ℕ → List ℕ → ℕ → ℕ → List ℕ → Outcome
match_of o image offset bits pattern skip limit numbers =
    after_test (header_test o image) (match_in (shape_of image) image offset (bits_compared bits pattern) pattern skip limit numbers)
    (refused numbers)
