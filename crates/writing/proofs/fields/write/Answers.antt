-- `writing::fields::write` meets its contract: a field that holds a number has at most eight bytes, inside the header.
-- Assumes nothing.
use Prim.Native.Nat.{ℕ, ◌≤◌}
use mathlib.Core.Path.{◌≡◌, sym, ap}
use native.Mathlib.Omega.{arith}
use lib.ListN.{length}
use Rattle.std.proofs.lemmas.List.{length-take-le}
use Rattle.header.specs.Fields.{place}
use Rattle.header.proofs.Table.{inside}
use Rattle.writing.proofs.OneField.{number_width, number_written}
use Rattle.writing.proofs.fields.write.Goals as goal
use Rattle.writing.proofs.fields.write.Goals.{After-to_le_bytes}

-- the word has the bytes that the field takes
width : (c : After-to_le_bytes) → c.field_of-field.result.width ≤ length c.to_le_bytes.result
width c =
    let eight : length c.to_le_bytes.result ≡ 8 = ap (length {A = ℕ}) c.to_le_bytes.ensures in
    omega (arith, eight, number_width (place c.args.name) c.requires.1 c.field_of-field.ensures)

pub slice_bounds-copy_to-end : goal.slice_bounds-copy_to-end
slice_bounds-copy_to-end c = width (goal.at.slice_bounds-copy_to-end c).After-to_le_bytes

pub slice_bounds-copy_to-end-2 : goal.slice_bounds-copy_to-end-2
slice_bounds-copy_to-end-2 c = sym (length-take-le _ _ (width (goal.at.slice_bounds-copy_to-end-2 c).After-to_le_bytes))

pub copy_to-requires : goal.copy_to-requires
copy_to-requires c =
    let taken = length-take-le c.field_of-field.result.width c.to_le_bytes.result (width (goal.at.copy_to-requires c).After-to_le_bytes) in
    omega (arith, taken, inside (place c.args.name) (omega (arith, c.requires.1)) c.field_of-field.ensures, c.requires.0)

pub returns : goal.returns
returns c =
    let e = c.field_of-field.ensures in
    number_written c.args.image.now (place c.args.name) c.args.x e (number_width (place c.args.name) c.requires.1 e) c.to_le_bytes.ensures c.copy_to.ensures
