-- `header::fields::bytes_in` meets its contract: a field lies in the header.
-- Assumes nothing.
use native.Mathlib.Omega.{arith}
use Rattle.header.specs.Fields.{place}
use Rattle.header.proofs.FieldBytes.{bytes_length}
use Rattle.header.proofs.Table.{place_lt, inside, bytes_of_lem}
use Rattle.header.proofs.fields.bytes_in.Goals as goal

pub overflow_add-end : goal.overflow_add-end
overflow_add-end c =
    omega (arith, inside (place c.args.name) (place_lt c.args.name) c.field_of-f.ensures)

pub returns : goal.returns
returns c =
    let image = c.args.image.now in
    let name = place c.args.name in
    let part = bytes_of_lem image name c.field_of-f.ensures in
    record { bytes = part; long = rw part (bytes_length image name c.requires (place_lt c.args.name)) }
