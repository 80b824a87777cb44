-- `header::sizes::total_size` meets its contract.
-- Assumes nothing.
use native.Mathlib.Omega.{arith}
use Rattle.header.specs.Sizes.{total, total_size}
use Rattle.header.proofs.Allowed.{sized, offset_fits, buckets_fit}
use Rattle.header.proofs.sizes.total_size.Goals as goal

pub slot_size-slot-requires : goal.slot_size-slot-requires
slot_size-slot-requires c = let a = (sized c.args.o c.requires).sizes in omega (arith, a.key_high, a.index_high)

pub buckets_offset-requires : goal.buckets_offset-requires
buckets_offset-requires c =
    let o = c.args.o in
    rw c.slot_size-slot.ensures (omega (arith, offset_fits o (sized o c.requires).sizes))

pub bucket_count-requires : goal.bucket_count-requires
bucket_count-requires c = (sized c.args.o c.requires).sizes.capacity_high

pub overflow_mul-result : goal.overflow_mul-result
overflow_mul-result c =
    let o = c.args.o in
    omega (arith, buckets_fit o (sized o c.requires))

pub overflow_add-result : goal.overflow_add-result
overflow_add-result c =
    let o = c.args.o in
    let a = sized o c.requires in
    let e = rw c.slot_size-slot.ensures at c.buckets_offset.ensures in
    omega (arith, buckets_fit o a, offset_fits o a.sizes, e)

pub returns : goal.returns
unfolding total_size total
returns c =
    let e = rw c.slot_size-slot.ensures at c.buckets_offset.ensures in
    omega (arith, e)
