-- The number that a host is given for older, same and newer.
-- Assumes nothing.
use Rattle.std.specs.Prelude.{ℤ, pos, negsuc}
use Rattle.numbers.specs.declared.age.Order.{Order}
use Rattle.numbers.specs.declared.age.Order.TheVariants.{Older, Same, Newer}

abbrev pub order_number : Order → ℤ
order_number Older = negsuc 0
order_number Same = pos 0
order_number Newer = pos 1
