-- "Numbers given back".
-- Assumes nothing.
use Rattle.std.specs.Prelude.{ℕ, Result, Ok, Err}
use Rattle.header.specs.declared.refusal.Refusal.{Refusal}
use Rattle.header.specs.declared.refusal.Refusal.TheVariants.{NeedsRebuild, Incompatible, Invalidated, Busy, Full, OutOfOrder, InvalidInput, NotPresent, CreateIt, TooShort}

-- "done or found"
abbrev pub done : ℕ
done = 0

abbrev pub needs_rebuild : ℕ
needs_rebuild = 1

abbrev pub incompatible : ℕ
incompatible = 2

abbrev pub invalidated : ℕ
invalidated = 3

abbrev pub busy : ℕ
busy = 4

abbrev pub full : ℕ
full = 5

abbrev pub out_of_order : ℕ
out_of_order = 6

abbrev pub invalid_input : ℕ
invalid_input = 7

-- "key not present"
abbrev pub not_present : ℕ
not_present = 9

-- "image of length 0: create it"
abbrev pub create_it : ℕ
create_it = 10

-- "lent output too short"
abbrev pub too_short : ℕ
too_short = 11

-- the number of each refusal
abbrev pub number : Refusal → ℕ
number NeedsRebuild = needs_rebuild
number Incompatible = incompatible
number Invalidated = invalidated
number Busy = busy
number Full = full
number OutOfOrder = out_of_order
number InvalidInput = invalid_input
number NotPresent = not_present
number CreateIt = create_it
number TooShort = too_short

-- the number given back
abbrev pub answer : {A : Type 0} → Result A Refusal → ℕ
answer (Ok a) = done
answer (Err r) = number r
