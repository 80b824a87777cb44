-- `image::table::Image::with_slot` meets its contract: the meta, and for a live slot what its probe ends in, say what is added.
-- Assumes nothing.
use Prim.Native.Nat.{ℕ, ◌+◌, ◌^◌, ◌<◌}
use mathlib.Core.Path.{◌≡◌, ◌∙◌, sym, ap}
use mathlib.Core.List.{List}
use native.Mathlib.Omega.{arith}
use Rattle.probing.specs.Probe.{probe}
use Rattle.image.specs.Table.{meta_of, key_of, table_of}
use Rattle.probing.specs.Report.{report}
use Rattle.image.specs.declared.probe.Report.{Report}
use Rattle.image.specs.Told.{told, report_of}
use Rattle.image.proofs.Tally.{more_deleted, more_unknown, more_found, more_absent, more_broken, live_small, probes_small, found_small, absent_small}
use Rattle.image.proofs.table.Image.with_slot.Goals as goal
use Rattle.image.proofs.table.Image.with_slot.Goals.{After-probe_for, Else-meta-ne1}

-- the slot is live
alive : (c : Else-meta-ne1) → let a = c.args in meta_of a.self.now.shape.layout a.self.now.bytes.now a.n ≡ 1
alive c = sym c.meta_of-meta.ensures ∙ c.if-meta-ne1.false

-- the probe is of the slot's key
probed : (c : After-probe_for)
    → let a = c.args in
    c.probe_for.result.end ≡ told (probe (table_of a.self.now.shape a.self.now.bytes.now) (key_of a.self.now.shape.layout a.self.now.bytes.now a.n))
unfolding report_of report
probed c =
    let a = c.args in
    ap (λ (r : Report). r.end) c.probe_for.ensures ∙ ap (λ (k : List ℕ). told (probe (table_of a.self.now.shape a.self.now.bytes.now) k)) c.key_of.ensures

-- one more lookup count can be added to the sum
summed : (c : After-probe_for) → let a = c.args in a.tally.probes + a.self.now.shape.layout.bucket_count < 2 ^ 64
unfolding table_of
summed c =
    let a = c.args in
    let fit = c.args.self.now.shaped in
    omega (arith, fit.laid.small, fit.laid.room, fit.highwater, c.requires.n_bound, probes_small (table_of a.self.now.shape a.self.now.bytes.now) a.n a.tally c.requires.tally_value (omega (arith, fit.laid.small)))

pub returns-then-meta-eq0 : goal.returns-then-meta-eq0
unfolding table_of
returns-then-meta-eq0 c =
    let a = c.args in
    more_deleted (table_of a.self.now.shape a.self.now.bytes.now) a.n a.tally c.requires.tally_value (sym c.meta_of-meta.ensures ∙ c.if-meta-eq0.true)

pub returns-then-meta-ne1 : goal.returns-then-meta-ne1
unfolding table_of
returns-then-meta-ne1 c =
    let a = c.args in
    let meta = c.meta_of-meta.ensures in
    more_unknown (table_of a.self.now.shape a.self.now.bytes.now) a.n a.tally c.requires.tally_value (λ e. c.if-meta-eq0.false (meta ∙ e)) (λ e. c.if-meta-ne1.true (meta ∙ e))

pub overflow_add-live : goal.overflow_add-live
overflow_add-live c =
    let a = c.args in
    omega (arith, live_small (table_of a.self.now.shape a.self.now.bytes.now) a.n a.tally c.requires.tally_value)

pub overflow_add-result : goal.overflow_add-result
unfolding table_of
overflow_add-result c = omega (arith, summed (goal.at.overflow_add-result c).After-probe_for, found_small _ _ _ _ (sym c.in-Found.is ∙ probed (goal.at.overflow_add-result c).After-probe_for))

pub overflow_add-result-in-Absent : goal.overflow_add-result-in-Absent
unfolding table_of
overflow_add-result-in-Absent c = omega (arith, summed (goal.at.overflow_add-result-in-Absent c).After-probe_for, absent_small _ _ _ (sym c.in-Absent.is ∙ probed (goal.at.overflow_add-result-in-Absent c).After-probe_for))

pub returns-in-Found : goal.returns-in-Found
unfolding table_of
returns-in-Found c =
    let a = c.args in
    more_found (table_of a.self.now.shape a.self.now.bytes.now) a.n a.tally c.requires.tally_value
    (alive (goal.at.returns-in-Found c).Else-meta-ne1) _ _ (sym c.in-Found.is ∙ probed (goal.at.returns-in-Found c).After-probe_for)

pub returns-in-Absent : goal.returns-in-Absent
unfolding table_of
returns-in-Absent c =
    let a = c.args in
    more_absent (table_of a.self.now.shape a.self.now.bytes.now) a.n a.tally c.requires.tally_value
    (alive (goal.at.returns-in-Absent c).Else-meta-ne1) _ (sym c.in-Absent.is ∙ probed (goal.at.returns-in-Absent c).After-probe_for)

pub returns-in-Broken : goal.returns-in-Broken
unfolding table_of
returns-in-Broken c =
    let a = c.args in
    more_broken (table_of a.self.now.shape a.self.now.bytes.now) a.n a.tally c.requires.tally_value
    (alive (goal.at.returns-in-Broken c).Else-meta-ne1) (sym c.in-Broken.is ∙ probed (goal.at.returns-in-Broken c).After-probe_for)
