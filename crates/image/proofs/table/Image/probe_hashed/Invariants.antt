-- `image::table::Image::probe_hashed` meets its contract. The loop's invariant: so many buckets are passed, this one comes next, and the
-- first TOMBSTONE of those passed is noted.
-- Assumes nothing.
use Rattle.image.proofs.Way.{Passed}
use Rattle.image.proofs.table.Image.probe_hashed.Given as goal

abbrev pub invariant-loop-passed : goal.invariant-loop-passed
invariant-loop-passed l = Passed l.self.shape l.self.bytes.now l.key l.bucket l.passed l.tombstone
