-- `header::sizes::buckets_offset` meets its contract.
-- Assumes nothing.
use native.Mathlib.Omega.{arith}
use mathlib.Core.Path.{refl}
use Rattle.header.specs.Sizes.{buckets_offset}
use Rattle.header.proofs.sizes.buckets_offset.Goals as goal

pub overflow_mul-result : goal.overflow_mul-result
unfolding buckets_offset
overflow_mul-result c = omega arith

pub overflow_add-result : goal.overflow_add-result
unfolding buckets_offset
overflow_add-result c = omega arith

pub returns : goal.returns
unfolding buckets_offset
returns c = refl
