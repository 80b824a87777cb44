-- `host::sizes::slc1_index_offset` meets its contract.
-- Assumes nothing.
use native.Mathlib.Omega.{arith}
use Rattle.image.specs.Places.{index_start}
use Rattle.header.proofs.SizeLaws.{align8_high}
use Rattle.host.specs.Places.{index_place}
use Rattle.host.proofs.PlaceLaws.{none_in, start_sizes, start_fits, start_in}
use Rattle.host.proofs.sizes.slc1_index_offset.Goals as goal

pub overflow_add-result : goal.overflow_add-result
overflow_add-result c = omega (arith, start_fits _ _ c.in-Some.ensures)

pub align8-requires : goal.align8-requires
align8-requires c =
    let h = start_sizes _ c.args.slot c.in-Some.ensures in
    omega (arith, h.key_high)

pub overflow_add-result-in-Some : goal.overflow_add-result-in-Some
overflow_add-result-in-Some c =
    let key = c.args.key_size in
    let h = start_sizes _ c.args.slot c.in-Some.ensures in
    omega (arith, start_fits _ _ c.in-Some.ensures, c.align8.ensures, align8_high key, h.key_high)

pub returns-in-Some : goal.returns-in-Some
unfolding index_place
returns-in-Some c = rw c.align8.ensures (start_in _ c.args.slot c.in-Some.ensures (index_start c.args.key_size))

pub returns-in-None : goal.returns-in-None
unfolding index_place
returns-in-None c = none_in _ c.args.slot c.in-None.ensures _
