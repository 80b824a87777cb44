-- `header::fields::Header::buckets_test` meets its contract.
-- Assumes nothing.
use Prim.Native.Nat.{ℕ}
use mathlib.Core.Bool.{Bool, ◌&&◌}
use mathlib.Core.List.{[], ◌∷◌}
use mathlib.Core.Path.{sym, ◌∙◌}
use lib.Dec.{ltb}
use Rattle.header.specs.Answer.{incompatible}
use Rattle.header.specs.Sizes.{most_bucket_count}
use Rattle.header.specs.HeaderTest.{test9}
use Rattle.header.proofs.Firsts.{stage_refuses, stage_passes}
use Rattle.header.proofs.PowerBits.{power_by_bits}
use Rattle.header.proofs.fields.Header.buckets_test.Goals as goal

-- "a larger power of two is 2"
abbrev too-many : Bool → ℕ → Bool × ℕ
too-many power count = (power && ltb most_bucket_count count, incompatible)

pub returns-in_err-refuse_if : goal.returns-in_err-refuse_if
unfolding test9
returns-in_err-refuse_if c =
    rw (← c.read-count.ensures, ← power_by_bits c.read-count.result c.read-count.type_inv, ← c.is_power_of_two-power.ensures)
    (stage_refuses (too-many c.is_power_of_two-power.result c.read-count.result ∷ []) _ _ _ c.from_residual.ensures.1 c.in_err-refuse_if.ensures)

pub returns : goal.returns
unfolding test9
returns c =
    rw (← c.read-count.ensures, ← power_by_bits c.read-count.result c.read-count.type_inv, ← c.is_power_of_two-power.ensures, ← c.read-capacity.ensures)
    (c.refuse_if-2.ensures ∙ sym (stage_passes (too-many c.is_power_of_two-power.result c.read-count.result ∷ []) _ tt c.in_ok-refuse_if.ensures))
