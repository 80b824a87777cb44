-- `header::sizes::bucket_count` meets its contract.
-- Assumes nothing.
use Prim.Native.Nat.{◌*◌}
use native.Mathlib.Omega.{arith}
use Rattle.header.specs.Sizes.{bucket_count}
use Rattle.header.proofs.Power.{next_power}
use Rattle.header.proofs.sizes.bucket_count.Goals as goal

pub returns : goal.returns
unfolding bucket_count
returns c =
    let e = c.next_power_of_two.ensures in
    next_power (2 * c.args.slot_capacity) c.next_power_of_two.result (omega (arith, c.requires)) e.power e.lower_bound e.upper_bound
