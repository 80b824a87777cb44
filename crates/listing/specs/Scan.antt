-- "Scan and match": what is listed, and how.
-- Assumes nothing.
use Rattle.std.specs.Prelude.{ℕ, zero, suc, Bool, true, cond, ◌&&◌, ◌≡◌, List, [], ◌∷◌, ◌++◌, eqb, ltb, length, take, drop, Result, Ok, Err}
use Rattle.header.specs.declared.options.Options.{Options}
use Rattle.header.specs.declared.shape.Shape.{Shape}
use Rattle.header.specs.declared.refusal.Refusal.{Refusal}
use Rattle.header.specs.Answer.{done, number, too_short}
use Rattle.header.specs.HeaderTest.{header_test, shape_of, after_test}
use Rattle.image.specs.Table.{meta_of, key_of}
use Rattle.listing.specs.declared.listed.Listing.{Listing}

-- the numbers below n that pass a test, ascending
unfoldable pub passing : ℕ → (ℕ → Bool) → List ℕ
passing zero p = []
passing (suc n) p = passing n p ++ cond (p n) (n ∷ []) []

-- "Numbers of live slots (below highwater, meta exactly 1), ascending": those whose key passes a test
unfoldable pub matches : Shape → List ℕ → (List ℕ → Bool) → List ℕ
matches s image wanted =
    passing s.slot_highwater (λ n. eqb (meta_of s.layout image n) 1 && wanted (key_of s.layout image n))

-- "after a skip and up to a limit"
unfoldable pub chosen : List ℕ → ℕ → ℕ → List ℕ
chosen all skip limit = take limit (drop skip all)

-- What a listing call gives back: its answer, the total number of matches and the number written.
pub record Listed : Type 0 where
  pub answer : ℕ
  pub total : ℕ
  pub written : ℕ

-- a listing that is done, or refused: "all else returned is 0"
abbrev pub told : Result Listing Refusal → Listed
told (Ok l) = record { answer = done; total = l.total; written = l.written }
told (Err r) = record { answer = number r; total = 0; written = 0 }

-- What a listing call answers, and what it leaves in the lent list.
pub record Outcome : Type 0 where
  pub listed : Listed
  pub numbers : List ℕ

-- the call answers what the outcome says, and leaves its numbers in the lent list
abbrev pub Lists : Outcome → Result Listing Refusal → List ℕ → Type 0
Lists x result numbers = (told result ≡ x.listed) × (numbers ≡ x.numbers)

-- "all else returned is 0"; the list is unchanged
abbrev pub refused : List ℕ → ℕ → Outcome
refused numbers answer = record { listed = record { answer = answer; total = 0; written = 0 }; numbers = numbers }

-- "written to a lent list of 32-bit numbers ...; the total number of matches and the number written come back. List shorter
-- than the number to write: 11. Entries past those written are unchanged."
unfoldable pub write : List ℕ → List ℕ → ℕ → Outcome
write numbers wanted total =
    cond (ltb (length numbers) (length wanted)) (refused numbers too_short)
    (record {
      listed = record { answer = done; total = total; written = length wanted };
      numbers = wanted ++ drop (length wanted) numbers;
    })

unfoldable pub list : List ℕ → ℕ → ℕ → List ℕ → Outcome
list all skip limit numbers = write numbers (chosen all skip limit) (length all)

unfoldable pub scan_of : Options → List ℕ → ℕ → ℕ → List ℕ → Outcome
scan_of o image skip limit numbers =
    after_test (header_test o image) (list (matches (shape_of image) image (λ key. true)) skip limit numbers) (refused numbers)
