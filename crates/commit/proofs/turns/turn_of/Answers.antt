-- `commit::turns::turn_of` meets its contract.
-- Assumes nothing.
use Prim.Native.Nat.{◌<◌}
use mathlib.Core.Bool.{false, cond}
use mathlib.Core.Logic.{inl, inr}
use mathlib.Core.Path.{◌≡◌, refl, ◌∙◌, sym, ap}
use native.Mathlib.Omega.{arith}
use Rattle.applying.proofs.Acting.{left_below}
use Rattle.applying.specs.Prepared.{kept_place}
use Rattle.header.specs.declared.shape.Layout.{Layout}
use Rattle.batch.specs.Batch.{record_count}
use Rattle.batch.specs.declared.new_keys.Turn.TheVariants.{Live, New}
use Rattle.batch.specs.Notes.{hash_of, some_delete}
use Rattle.commit.proofs.Turn.{Noting, noting_as, not_deciding, no_put, by_report, put_by, key_by}
use Rattle.image.proofs.Looked.{heard}
use Rattle.image.specs.Lookup.{is_found}
use Rattle.image.specs.declared.probe.Probe.{Probe}
use Rattle.commit.proofs.turns.turn_of.Goals as goal
use Rattle.commit.proofs.turns.turn_of.Goals.{After-probe_hashed-report}

-- what the probe ends in says it
ended : (c : After-probe_hashed-report) (r : Probe) → c.probe_hashed-report.result.end ≡ r
    → let a = c.args in
    Noting a.image.now.shape a.image.now.bytes.now a.hashed.now.batch.bytes.now a.i (cond (is_found (heard r)) Live New)
    (cond (is_found (heard r)) 0 (kept_place a.image.now.shape.layout.bucket_count c.probe_hashed-report.result (some_delete a.image.now.shape.layout a.hashed.now.batch.bytes.now)))
ended c r e =
    let a = c.args in
    by_report a.image.now.shape a.image.now.bytes.now a.hashed.now.batch.bytes.now a.i
    (sym (c.requires.flagged.each a.i c.requires.i_bound) ∙ c.if-not-flags-i.false)
    (sym (put_by c.requires.layout a.hashed.now.batch.bytes.now a.i c.record-record.ensures.bytes c.is_put.ensures) ∙ c.if-not-is_put.false)
    _ (key_by c.requires.layout a.hashed.now.batch.bytes.now a.i c.record-record.ensures.bytes c.record-record.ensures.layout c.key.ensures) _ c.probe_hashed-report.ensures r e _ refl

pub returns-then-not-flags-i : goal.returns-then-not-flags-i
returns-then-not-flags-i c =
    let a = c.args in
    noting_as a.image.now.shape a.image.now.bytes.now a.hashed.now.batch.bytes.now a.i c.unplaced.ensures
    (not_deciding a.image.now.shape a.image.now.bytes.now a.hashed.now.batch.bytes.now a.i (sym (c.requires.flagged.each a.i c.requires.i_bound) ∙ c.if-not-flags-i.true))

pub returns-then-not-is_put : goal.returns-then-not-is_put
returns-then-not-is_put c =
    let a = c.args in
    noting_as a.image.now.shape a.image.now.bytes.now a.hashed.now.batch.bytes.now a.i c.unplaced-then-not-is_put.ensures
    (no_put a.image.now.shape a.image.now.bytes.now a.hashed.now.batch.bytes.now a.i
    (sym (c.requires.flagged.each a.i c.requires.i_bound) ∙ c.if-not-flags-i.false)
    (sym (put_by c.requires.layout a.hashed.now.batch.bytes.now a.i c.record-record.ensures.bytes c.is_put.ensures) ∙ c.if-not-is_put.true))

pub probe_hashed-report-requires : goal.probe_hashed-report-requires
probe_hashed-report-requires c =
    let a = c.args in
    let batch = a.hashed.now.batch in
    let layout = c.requires.layout in
    let inside : a.i < record_count batch.layout batch.bytes.now = rw layout c.requires.i_bound in
    rw (key_by layout batch.bytes.now a.i c.record-record.ensures.bytes c.record-record.ensures.layout c.key.ensures)
    (a.hashed.now.noted.each a.i inside ∙ ap (λ (l : Layout). hash_of l batch.bytes.now a.i) layout)

pub kept_place-requires : goal.kept_place-requires
kept_place-requires c =
    let image = c.args.image.now in
    let small = image.shaped.laid.small in
    (small, omega (arith, small, left_below image.shape image.bytes.now image.shaped _ _ c.probe_hashed-report.ensures))

pub returns-in-Found : goal.returns-in-Found
returns-in-Found c =
    let a = c.args in
    noting_as a.image.now.shape a.image.now.bytes.now a.hashed.now.batch.bytes.now a.i c.unplaced-in-Found.ensures (ended (goal.at.returns-in-Found c).After-probe_hashed-report _ c.in-Found.is)

pub returns-in-Absent : goal.returns-in-Absent
returns-in-Absent c =
    let a = c.args in
    let s = a.image.now.shape in
    let batch = a.hashed.now.batch.bytes.now in
    let new : (r : Probe) → c.probe_hashed-report.result.end ≡ r → is_found (heard r) ≡ false → Noting s a.image.now.bytes.now batch a.i New c.kept_place.result =
    λ r e absent.
    noting_as s a.image.now.bytes.now batch a.i
    (rw absent refl, rw absent (c.kept_place.ensures ∙ ap (kept_place s.layout.bucket_count c.probe_hashed-report.result) c.requires.deletes_value))
    (ended (goal.at.returns-in-Absent c).After-probe_hashed-report r e) in
    elim c.in-Absent.is [ inl none ↦ new _ none.1 refl | inr e ↦ new _ e refl ]
