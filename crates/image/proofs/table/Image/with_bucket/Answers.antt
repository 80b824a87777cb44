-- `image::table::Image::with_bucket` meets its contract, case by case.
-- Assumes nothing.
use mathlib.Core.Path.{◌∙◌, sym, ap}
use mathlib.Core.Bool.{Bool, ◌&&◌}
use Prim.Native.Nat.{◌+◌}
use native.Mathlib.Omega.{arith}
use Rattle.image.specs.Table.{table_of}
use Rattle.image.proofs.Tally.{more_empty, more_tombstone, more_full, tombstones_small, full_small}
use Rattle.image.proofs.table.Image.with_bucket.Goals as goal

pub overflow_add-result : goal.overflow_add-result
overflow_add-result c = omega (arith, tombstones_small _ _ _ c.requires.tally_value)

pub overflow_add-result-in-Full : goal.overflow_add-result-in-Full
overflow_add-result-in-Full c = omega (arith, full_small _ _ _ c.requires.tally_value)

pub returns-in-Empty : goal.returns-in-Empty
unfolding table_of
returns-in-Empty c =
    let a = c.args in
    more_empty (table_of a.self.now.shape a.self.now.bytes.now) a.b a.tally c.requires.tally_value (sym (rw c.in-Empty.is at c.bucket_of.ensures))

pub returns-in-Tombstone : goal.returns-in-Tombstone
unfolding table_of
returns-in-Tombstone c =
    let a = c.args in
    more_tombstone (table_of a.self.now.shape a.self.now.bytes.now) a.b a.tally c.requires.tally_value (sym (rw c.in-Tombstone.is at c.bucket_of.ensures))

pub returns-in-Full : goal.returns-in-Full
unfolding table_of
returns-in-Full c =
    let a = c.args in
    ap (λ (x : Bool). record { right = a.tally.right && x; full = a.tally.full + 1; tombstones = a.tally.tombstones }) c.full_right.ensures
    ∙ more_full (table_of a.self.now.shape a.self.now.bytes.now) a.b a.tally c.requires.tally_value _ _ (sym (rw c.in-Full.is at c.bucket_of.ensures))
