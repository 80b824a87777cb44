-- `writing::create::write_layout` meets its contract.
-- Assumes nothing.
use mathlib.Core.Path.{ap}
use native.Mathlib.Omega.{arith}
use Rattle.header.proofs.Allowed.{sized, offset_fits}
use Rattle.header.specs.Sizes.{buckets_offset}
use Rattle.writing.specs.Write.{with_fields}
use Rattle.writing.specs.Create.{fresh_fields}
use Rattle.writing.proofs.create.write_layout.Goals as goal

pub bucket_count-count-requires : goal.bucket_count-count-requires
bucket_count-count-requires c = (sized c.args.o c.requires.1).sizes.capacity_high

pub slot_size-requires : goal.slot_size-requires
slot_size-requires c =
    let a = (sized c.args.o c.requires.1).sizes in
    (a.key_high, a.index_high)

pub buckets_offset-offset-requires : goal.buckets_offset-offset-requires
buckets_offset-offset-requires c =
    let o = c.args.o in
    let e = ap (buckets_offset o.slot_capacity) c.slot_size.ensures in
    omega (arith, e, offset_fits o (sized o c.requires.1).sizes)

pub returns : goal.returns
unfolding with_fields fresh_fields
returns c = cc
