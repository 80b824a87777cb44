-- `image::table::Image::check_in` meets its contract: the tests of the tallies are the full check's.
-- Assumes nothing.
use Prim.Native.Nat.{ℕ}
use mathlib.Core.Path.{◌≡◌, ◌∙◌, sym, ap}
use mathlib.Core.Bool.{◌&&◌}
use lib.Dec.{eqb}
use Rattle.image.specs.Check.{passes}
use Rattle.image.proofs.Passes.{tests_passes, tally_probes, check_passed, check_failed}
use Rattle.image.proofs.table.Image.check_in.Goals as goal
use Rattle.image.proofs.table.Image.check_in.Goals.{After-order_right, Then-buckets-slots}

-- the test is the full check's
tested : (c : After-order_right)
    → let a = c.args in
    let y = c.read_buckets-buckets.result in
    let z = c.read_slots-slots.result in
    y.right && z.metas && z.found
    && (eqb z.live a.self.now.shape.live_count && eqb y.full a.self.now.shape.live_count && eqb y.tombstones a.self.now.shape.bucket_tombstones)
    && c.order_right.result
    ≡ passes a.self.now.shape a.self.now.bytes.now
tested c =
    let a = c.args in
    let y = c.read_buckets-buckets in
    let z = c.read_slots-slots in
    tests_passes a.self.now.shape a.self.now.bytes.now y.result z.result y.ensures z.ensures c.order_right.result c.order_right.ensures

pub returns-then-buckets-slots : goal.returns-then-buckets-slots
returns-then-buckets-slots c =
    let a = c.args in
    let y = c.read_buckets-buckets in
    let z = c.read_slots-slots in
    ap (λ (n : ℕ). record { answer = 0; live = a.self.now.shape.live_count; tombstones = a.self.now.shape.bucket_tombstones; probes = n })
    (tally_probes a.self.now.shape a.self.now.bytes.now y.result z.result y.ensures z.ensures)
    ∙ check_passed a.self.now.shape a.self.now.bytes.now (sym (tested (goal.at.returns-then-buckets-slots (goal.at.returns-then-buckets-slots c).Then-buckets-slots).After-order_right) ∙ c.if-buckets-slots.true)

pub returns : goal.returns
returns c =
    let a = c.args in
    check_failed a.self.now.shape a.self.now.bytes.now (sym (tested (goal.at.returns c).After-order_right) ∙ c.if-buckets-slots.false)
