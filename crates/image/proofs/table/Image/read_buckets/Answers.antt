-- `image::table::Image::read_buckets` meets its contract. The loop's invariant: the tally is that of the buckets passed.
-- Assumes nothing.
use mathlib.Core.Path.{refl}
use Rattle.probing.specs.Counting.{sum_to, count_to, all_to}
use Rattle.image.specs.Tally.{buckets_to}
use Rattle.image.proofs.table.Image.read_buckets.Goals as goal

pub loop-b-init : goal.loop-b-init
unfolding buckets_to all_to count_to sum_to
loop-b-init c = refl
