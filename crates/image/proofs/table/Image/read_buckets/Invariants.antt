-- `image::table::Image::read_buckets` meets its contract. The loop's invariant: the tally is that of the buckets passed.
-- Assumes nothing.
use mathlib.Core.Path.{◌≡◌}
use Rattle.image.specs.Table.{table_of}
use Rattle.image.specs.Tally.{buckets_to}
use Rattle.image.proofs.table.Image.read_buckets.Given as goal

abbrev pub invariant-loop-b : goal.invariant-loop-b
invariant-loop-b l = l.tally ≡ buckets_to (table_of l.self.shape l.self.bytes.now) l.b
