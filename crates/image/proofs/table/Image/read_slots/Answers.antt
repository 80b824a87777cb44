-- `image::table::Image::read_slots` meets its contract. The loop's invariant: the tally is that of the slots passed.
-- Assumes nothing.
use mathlib.Core.Path.{refl}
use Rattle.probing.specs.Counting.{sum_to, count_to, all_to}
use Rattle.image.specs.Tally.{slots_to}
use Rattle.image.proofs.table.Image.read_slots.Goals as goal

pub loop-n-init : goal.loop-n-init
unfolding slots_to all_to count_to sum_to
loop-n-init c = refl
