-- `writing::create::write_sizes` meets its contract.
-- Assumes nothing.
use native.Mathlib.Omega.{arith}
use Rattle.header.proofs.SizeLaws.{slot_size_limit}
use Rattle.writing.specs.Write.{with_fields}
use Rattle.writing.specs.Create.{fresh_fields}
use Rattle.writing.proofs.create.write_sizes.Goals as goal

pub write-requires-6 : goal.write-requires-6
write-requires-6 c =
    let o = c.args.o in
    let h = slot_size_limit o.key_size o.index_size c.requires.1 c.requires.2 in
    omega (arith, h, c.slot_size-slot.ensures)

pub returns : goal.returns
unfolding with_fields fresh_fields
returns c = cc
