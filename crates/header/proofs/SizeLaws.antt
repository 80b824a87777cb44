-- Laws of the sizes: what they are bounded by. The limits stand here by their names alone.
-- Assumes nothing.
use Prim.Native.Nat.{ℕ, ◌+◌, ◌*◌, ◌^◌, ◌≤◌, ◌<◌}
use mathlib.Core.Bool.{true}
use mathlib.Core.Path.{◌≡◌}
use native.Mathlib.Nat.{mul-le-mul}
use native.Mathlib.Omega.{arith}
use lib.Dec.{lit≤}
use Rattle.header.specs.Sizes.{most_key_size, most_index_size, most_slot_capacity, align8, slot_size, bucket_count, buckets_offset}
use Rattle.header.specs.HeaderTest.{power_of_two}
use Rattle.header.proofs.Power.{power_two, power_low, power_high, power_of_power}

pub align8_low : (n : ℕ) → n ≤ align8 n
unfolding align8
align8_low n = omega arith

pub align8_high : (n : ℕ) → align8 n ≤ n + 7
unfolding align8
align8_high n = omega arith

-- a slot holds its meta, key, revision and index
pub slot_size_low : (key index : ℕ) → 16 + key + index ≤ slot_size key index
unfolding slot_size
slot_size_low key index = omega (arith, align8_low key, align8_low index)

pub slot_size_high : (key index : ℕ) → slot_size key index ≤ key + index + 30
unfolding slot_size
slot_size_high key index = omega (arith, align8_high key, align8_high index)

pub slot_size_limit : (key index : ℕ) → key ≤ most_key_size → index ≤ most_index_size → slot_size key index ≤ 2 ^ 16
slot_size_limit key index hk hi = omega (arith, slot_size_high key index)

-- the limit of the slot capacity is far below 64 bits
pub capacity_limit : most_slot_capacity ≤ 2 ^ 32
capacity_limit = lit≤ tt

pub offset_limit : (capacity slot : ℕ) → capacity ≤ most_slot_capacity → slot ≤ 2 ^ 16 → buckets_offset capacity slot ≤ 256 + 2 ^ 48
unfolding buckets_offset
offset_limit capacity slot hc hs =
    let h : capacity ≤ 2 ^ 32 = omega (arith, capacity_limit) in
    let product : capacity * slot ≤ 2 ^ 32 * 2 ^ 16 = mul-le-mul h hs in
    omega arith

-- "bucket_count B is the smallest power of two not below twice slot_capacity."
pub bucket_count_power : (capacity : ℕ) → (j : ℕ) × (bucket_count capacity ≡ 2 ^ j)
unfolding bucket_count
bucket_count_power capacity = let p = power_two 64 0 (2 * capacity) in (p.0, p.1)

pub bucket_count_is_power : (capacity : ℕ) → power_of_two (bucket_count capacity) ≡ true
unfolding bucket_count
bucket_count_is_power capacity = power_of_power (2 * capacity)

pub bucket_count_low : (capacity : ℕ) → capacity ≤ most_slot_capacity → 2 * capacity ≤ bucket_count capacity
unfolding bucket_count
bucket_count_low capacity h = power_low 64 0 (2 * capacity) (omega (arith, capacity_limit))

pub bucket_count_high : (capacity : ℕ) → 1 ≤ capacity → bucket_count capacity < 4 * capacity
unfolding bucket_count
bucket_count_high capacity h = omega (arith, power_high 64 0 (2 * capacity) (omega arith))

-- there are more buckets than slots
pub bucket_count_room : (capacity : ℕ) → 1 ≤ capacity → capacity ≤ most_slot_capacity → capacity < bucket_count capacity
bucket_count_room capacity low high = omega (arith, bucket_count_low capacity high)
