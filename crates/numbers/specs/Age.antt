-- The age of a revision, on integers.
-- Assumes nothing.
use Rattle.std.specs.Prelude.{zero, suc, ℤ, pos, negsuc, ◌-ℤ◌}
use Rattle.numbers.specs.declared.age.Order.TheVariants.{Older, Same, Newer}
use Rattle.numbers.specs.declared.age.Age.{Age}

-- by how much the second is above the first: nothing, so many, or so many below
abbrev pub by_difference : ℤ → Age
by_difference (pos zero) = record { order = Same; distance = 0 }
by_difference (pos (suc n)) = record { order = Newer; distance = suc n }
by_difference (negsuc n) = record { order = Older; distance = suc n }

-- "Two signed revisions give older, same or newer, the second against the first, and the distance as an unsigned 64-bit
-- number."
unfoldable pub age_of : ℤ → ℤ → Age
age_of first second = by_difference (second -ℤ first)
