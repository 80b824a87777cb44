-- `header::fields::read` meets its contract: a field that holds a number has four or eight bytes, inside the header.
-- Assumes nothing.
use native.Mathlib.Omega.{arith}
use Rattle.header.specs.Fields.{place}
use Rattle.header.proofs.Table.{inside, four_or_eight, value_of}
use Rattle.header.proofs.fields.read.Goals as goal

pub u32_at-requires : goal.u32_at-requires
u32_at-requires c =
    omega (arith, inside (place c.args.name) (omega arith) c.field_of-f.ensures)

pub u64_at-requires : goal.u64_at-requires
u64_at-requires c =
    let e = c.field_of-f.ensures in
    omega (arith, inside (place c.args.name) (omega arith) e, four_or_eight (place c.args.name) c.requires.1 e c.if-width-eq4.false)

pub returns-then-width-eq4 : goal.returns-then-width-eq4
returns-then-width-eq4 c =
    value_of c.args.image.now (place c.args.name) 4 c.field_of-f.ensures c.if-width-eq4.true c.u32_at.ensures

pub returns-else-width-eq4 : goal.returns-else-width-eq4
returns-else-width-eq4 c =
    let e = c.field_of-f.ensures in
    value_of c.args.image.now (place c.args.name) 8 e (four_or_eight (place c.args.name) c.requires.1 e c.if-width-eq4.false) c.u64_at.ensures
