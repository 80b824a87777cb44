-- The user fields, handed out to a lent buffer and taken from a lent slice.
-- Assumes nothing.
use Rattle.std.specs.Prelude.{ℕ, cond, ◌≡◌, List, eqb, ltb, length}
use Rattle.numbers.specs.Bytes.{put}
use Rattle.header.specs.declared.options.Options.{Options}
use Rattle.header.specs.Answer.{done, invalid_input, too_short}
use Rattle.header.specs.HeaderTest.{header_test, after_test}
use Rattle.header.specs.Open.{user_fields}
use Rattle.writing.specs.State.{set_user_fields_of}
use Rattle.writing.specs.Write.{Written}

-- what the call answers, and the buffer that it leaves
pub record Filled : Type 0 where
  pub answer : ℕ
  pub bytes : List ℕ

abbrev pub filled : ℕ → List ℕ → Filled
filled answer bytes = record { answer = answer; bytes = bytes }

-- the call answers what is said there, and leaves those bytes in the buffer
abbrev pub Fills : Filled → ℕ → List ℕ → Type 0
Fills f answer bytes = (answer ≡ f.answer) × (bytes ≡ f.bytes)

-- "The 64 user bytes" with 0; "lent output too short: 11"
unfoldable pub user_data_of : Options → List ℕ → List ℕ → Filled
user_data_of o image out =
    after_test (header_test o image)
    (cond (ltb (length out) 64) (filled too_short out) (filled done (put out 0 (user_fields image).user_data)))
    (λ n. filled n out)

-- user fields taken from a lent slice: exactly 64 bytes; any other length is 7, after the header test
unfoldable pub set_user_fields_from : Options → List ℕ → ℕ → List ℕ → Written
set_user_fields_from o image flags bytes =
    cond (eqb (length bytes) 64) (set_user_fields_of o image (record { user_flags = flags; user_data = bytes }))
    (record { answer = after_test (header_test o image) invalid_input (λ n. n); image = image })
