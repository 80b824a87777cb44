-- `header::sizes::slot_size` meets its contract.
-- Assumes nothing.
use native.Mathlib.Omega.{arith}
use Rattle.header.specs.Sizes.{slot_size}
use Rattle.header.proofs.SizeLaws.{align8_high}
use Rattle.header.proofs.sizes.slot_size.Goals as goal

pub overflow_add-result : goal.overflow_add-result
overflow_add-result c = omega (arith, align8_high c.args.key_size)

pub overflow_add-result-2 : goal.overflow_add-result-2
overflow_add-result-2 c = omega (arith, align8_high c.args.key_size)

pub overflow_add-result-3 : goal.overflow_add-result-3
overflow_add-result-3 c =
    let a = c.args in
    omega (arith, align8_high a.key_size, align8_high a.index_size)

pub returns : goal.returns
unfolding slot_size
returns c = omega arith
