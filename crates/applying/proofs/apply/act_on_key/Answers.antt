-- `applying::apply::act_on_key` meets its contract. Each end of the probe has its effect.
-- Assumes nothing.
use mathlib.Core.Path.{◌≡◌, refl, ap, ◌∙◌, sym}
use Rattle.applying.proofs.Acting.{stopped_at}
use Rattle.soundness.specs.Apply.{on_slot, on_live}
use Rattle.batch.specs.Batch.{key_in}
use Rattle.header.specs.declared.shape.Layout.{Layout}
use Rattle.image.proofs.Looked.{heard, reported_end}
use Rattle.image.specs.Lookup.{probe_of}
use Rattle.image.specs.Told.{report_of}
use Rattle.image.specs.declared.probe.Probe.{Probe}
use Rattle.image.specs.declared.probe.Probe.TheVariants.{Found, Absent, Broken}
use Rattle.applying.proofs.apply.act_on_key.Goals as goal
use Rattle.applying.proofs.apply.act_on_key.Goals.{After-probe_hashed-report}

-- the key is the record's
keyed : (c : After-probe_hashed-report) → let a = c.args in c.key.result.now ≡ key_in a.s.layout a.r.now.bytes.now
keyed c = let a = c.args in c.key.ensures ∙ ap (λ (l : Layout). key_in l a.r.now.bytes.now) c.requires.layout

-- the report is of that key
reported : (c : After-probe_hashed-report)
    → let a = c.args in c.probe_hashed-report.result ≡ report_of a.s a.image.now (key_in a.s.layout a.r.now.bytes.now)
reported c = let a = c.args in c.probe_hashed-report.ensures ∙ ap (report_of a.s a.image.now) (keyed c)

-- what the probe ends in
ended : (c : After-probe_hashed-report) (r : Probe) → c.probe_hashed-report.result.end ≡ r
    → let a = c.args in probe_of a.s a.image.now (key_in a.s.layout a.r.now.bytes.now) ≡ heard r
ended c r e = let a = c.args in reported_end a.s a.image.now _ _ (reported c) r e

pub act_on_slot-requires-clause-n_bound : goal.act_on_slot-requires-clause-n_bound
act_on_slot-requires-clause-n_bound c =
    let at = stopped_at c.args.s c.args.image.now c.requires.shaped _ _ (reported (goal.at.act_on_slot-requires-clause-n_bound c).After-probe_hashed-report) _ _ c.in-Found.is in
    rw c.requires.layout (at.1, at.2)

pub returns-in-Found : goal.returns-in-Found
returns-in-Found c =
    let a = c.args in
    let at = stopped_at a.s a.image.now c.requires.shaped _ _ (reported (goal.at.returns-in-Found c).After-probe_hashed-report) _ _ c.in-Found.is in
    c.act_on_slot.ensures
    ∙ ap (λ (l : Layout). on_slot l a.image.now a.r.now.bytes.now c.in-Found.slot c.probe_hashed-report.result.bucket) c.requires.layout
    ∙ ap (on_slot a.s.layout a.image.now a.r.now.bytes.now _) at.3
    ∙ ap (on_live a.s a.image.now a.r.now.bytes.now) (sym at.0)

pub returns-in_default : goal.returns-in_default
returns-in_default c = left _ refl
  where
    left : (end : Probe) → c.probe_hashed-report.result.end ≡ end
        → c.args.image.now ≡ on_live c.args.s c.args.image.now c.args.r.now.bytes.now (probe_of c.args.s c.args.image.now (key_in c.args.s.layout c.args.r.now.bytes.now))
    left (Found slot buckets) e = absurd (c.in_default.not-Found slot buckets e)
    left (Absent buckets) e = rw (ended (goal.at.returns-in_default c).After-probe_hashed-report _ e) refl
    left Broken e = rw (ended (goal.at.returns-in_default c).After-probe_hashed-report _ e) refl
