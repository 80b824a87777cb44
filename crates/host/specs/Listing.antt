-- One number of a listing, and the list that is left.
-- Assumes nothing.
use Rattle.std.specs.Prelude.{ℕ, ◌≡◌, List}
use Rattle.listing.specs.Scan.{Listed, Outcome}

-- the call hands out this number of the outcome, and leaves the outcome's numbers in the lent list
abbrev pub Hands : (Listed → ℕ) → Outcome → ℕ → List ℕ → Type 0
Hands number x r numbers = (r ≡ number x.listed) × (numbers ≡ x.numbers)
