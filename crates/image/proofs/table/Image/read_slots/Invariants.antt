-- `image::table::Image::read_slots` meets its contract. The loop's invariant: the tally is that of the slots passed.
-- Assumes nothing.
use mathlib.Core.Path.{◌≡◌}
use Rattle.image.specs.Table.{table_of}
use Rattle.image.specs.Tally.{slots_to}
use Rattle.image.proofs.table.Image.read_slots.Given as goal

abbrev pub invariant-loop-n : goal.invariant-loop-n
invariant-loop-n l = l.tally ≡ slots_to (table_of l.self.shape l.self.bytes.now) l.n
