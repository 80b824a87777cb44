-- `host::sizes::slc1_key_offset` meets its contract.
-- Assumes nothing.
use native.Mathlib.Omega.{arith}
use Rattle.image.specs.Places.{key_start}
use Rattle.host.specs.Places.{key_place}
use Rattle.host.proofs.PlaceLaws.{none_in, start_fits, start_in}
use Rattle.host.proofs.sizes.slc1_key_offset.Goals as goal

pub overflow_add-result : goal.overflow_add-result
overflow_add-result c = omega (arith, start_fits _ _ c.in-Some.ensures)

pub returns-in-Some : goal.returns-in-Some
unfolding key_place
returns-in-Some c = start_in _ c.args.slot c.in-Some.ensures key_start

pub returns-in-None : goal.returns-in-None
unfolding key_place
returns-in-None c = none_in _ c.args.slot c.in-None.ensures _
