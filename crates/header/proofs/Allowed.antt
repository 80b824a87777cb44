-- "Sizes allowed", one by one, to open and to create, and what follows for sums and products of 64 bits.
-- Assumes nothing.
use Prim.Native.Nat.{ℕ, zero, suc, ◌*◌, ◌^◌, ◌≤◌}
use mathlib.Core.Bool.{Bool, true, ◌&&◌, and-eq-true_iff}
use mathlib.Core.Path.{◌≡◌}
use native.Mathlib.Omega.{arith}
use borrow.Author.Tests.{leb-true, eqb-true, ne_eqb}
use lib.Dec.{leb}
use Rattle.header.specs.declared.options.Options.{Options}
use Rattle.header.specs.Sizes.{most_key_size, most_index_size, most_slot_capacity, sizes_to_open, sizes_to_create, capacity_fits, slot_size, bucket_count, buckets_offset}
use Rattle.header.proofs.SizeLaws.{slot_size_limit, offset_limit, bucket_count_high}

pub record Allowed (o : Options) : Type 0 where
  pub key_low : 1 ≤ o.key_size
  pub key_high : o.key_size ≤ most_key_size
  pub index_high : o.index_size ≤ most_index_size
  pub capacity_high : o.slot_capacity ≤ most_slot_capacity

pub allowed : (o : Options) → sizes_to_open o ≡ true → Allowed o
unfolding sizes_to_open
allowed o t =
    let k₁ : Bool = leb 1 o.key_size in
    let k₂ : Bool = leb o.key_size most_key_size in
    let i : Bool = leb o.index_size most_index_size in
    let c : Bool = leb o.slot_capacity most_slot_capacity in
    let p = (and-eq-true_iff (k₁ && k₂ && i) c).0 t in
    let q = (and-eq-true_iff (k₁ && k₂) i).0 p.0 in
    let r = (and-eq-true_iff k₁ k₂).0 q.0 in
    record {
      key_low = leb-true _ _ r.0;
      key_high = leb-true _ _ r.1;
      index_high = leb-true _ _ q.1;
      capacity_high = leb-true _ _ p.1;
    }

pub record Sized (o : Options) : Type 0 where
  pub opens : sizes_to_open o ≡ true
  pub sizes : Allowed o
  pub capacity_low : 1 ≤ o.slot_capacity

pub sized : (o : Options) → sizes_to_create o ≡ true → Sized o
unfolding sizes_to_create
sized o t =
    let p = (and-eq-true_iff (sizes_to_open o) (leb 1 o.slot_capacity)).0 t in
    record { opens = p.0; sizes = allowed o p.0; capacity_low = leb-true _ _ p.1 }

-- "as the header says, within 1 to 1,048,576" (CR 10), or as a given capacity, which is
pub capacity_within : (option capacity : ℕ) → option ≤ most_slot_capacity → capacity_fits option capacity ≡ true
    → (1 ≤ capacity) × (capacity ≤ most_slot_capacity)
unfolding capacity_fits
capacity_within zero capacity h t =
    let p = (and-eq-true_iff (leb 1 capacity) (leb capacity most_slot_capacity)).0 t in
    (leb-true _ _ p.0, leb-true _ _ p.1)
capacity_within (suc n) capacity h t =
    let e = eqb-true capacity (suc n) (rw (ne_eqb (suc n) 0 (λ e. omega arith)) at t) in
    (omega arith, omega arith)

-- where the buckets of an image that create makes begin, far below 64 bits
pub offset_fits : (o : Options) → Allowed o → buckets_offset o.slot_capacity (slot_size o.key_size o.index_size) ≤ 2 ^ 49
offset_fits o a =
    omega (arith, offset_limit o.slot_capacity (slot_size o.key_size o.index_size) a.capacity_high (slot_size_limit o.key_size o.index_size a.key_high a.index_high))

pub buckets_fit : (o : Options) → Sized o → 16 * bucket_count o.slot_capacity ≤ 2 ^ 49
buckets_fit o a = omega (arith, bucket_count_high o.slot_capacity a.capacity_low, a.sizes.capacity_high)
