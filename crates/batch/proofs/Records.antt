-- Where records and their parts lie in a batch.
-- Assumes nothing.
use Prim.Native.Nat.{ℕ, ◌+◌, ◌*◌, ◌/◌, ◌≤◌, ◌<◌}
use mathlib.Core.Path.{◌≡◌}
use mathlib.Core.List.{List}
use native.Mathlib.Nat.{div-add-mod', mul-le-mul_right, suc-mul}
use native.Mathlib.Omega.{arith}
use lib.ListN.{length}
use Rattle.numbers.proofs.Put.{length_part}
use Rattle.header.specs.declared.shape.Layout.{Layout}
use Rattle.header.specs.Sizes.{align8, slot_size}
use Rattle.header.proofs.SizeLaws.{align8_low}
use Rattle.batch.specs.Batch.{SlotSized, record_count, record_at, key_in, record_key}

-- a record is as long as its parts, and a part no longer than with its padding
pub record Sizes (layout : Layout) : Type 0 where
  pub whole : layout.slot_size ≡ 16 + align8 layout.key_size + align8 layout.index_size
  pub key : layout.key_size ≤ align8 layout.key_size
  pub index : layout.index_size ≤ align8 layout.index_size

pub sizes : (layout : Layout) → SlotSized layout → Sizes layout
unfolding slot_size
sizes layout laid =
    record { whole = omega (arith, laid); key = align8_low layout.key_size; index = align8_low layout.index_size }

-- so many times a divisor is no more than what was divided
times_inside : (n b i : ℕ) → i < n / b → i * b + b ≤ n
times_inside n b i h = omega (arith, div-add-mod' n b, rw suc-mul at (mul-le-mul_right b h))

module _ (layout : Layout) (batch : List ℕ) (i : ℕ) (h : i < record_count layout batch) where
  -- a record ends inside the batch
  pub record_inside : i * layout.slot_size + layout.slot_size ≤ length batch
  record_inside = times_inside (length batch) layout.slot_size i (unfold record_count in h)

  pub record_length : length (record_at layout batch i) ≡ layout.slot_size
  unfolding record_at
  record_length = length_part batch (i * layout.slot_size) layout.slot_size record_inside

  -- and its key as long as a key is
  pub key_length : SlotSized layout → length (record_key layout batch i) ≡ layout.key_size
  unfolding record_key key_in
  key_length laid =
      length_part (record_at layout batch i) 8 layout.key_size (omega (arith, record_length, sizes layout laid))
