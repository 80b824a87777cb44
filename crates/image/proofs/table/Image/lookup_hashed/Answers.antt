-- `image::table::Image::lookup_hashed` meets its contract: each end of the probe has its answer.
-- Assumes nothing.
use borrow.Author.Rules.{sfits_of}
use mathlib.Core.Path.{◌≡◌, ap, ◌∙◌}
use native.Mathlib.Omega.{arith}
use mir.Facts.{to_z-of_z}
use mir.Syntax.{w64}
use lib.IntN.{ℤ}
use Rattle.header.specs.Answer.{done}
use Rattle.image.specs.declared.probe.Probe.{Probe}
use Rattle.image.specs.Lookup.{probe_of, lookup_by, lookup_in}
use Rattle.image.proofs.Looked.{heard, reported_end, found_below, looked_other, looked_by}
use Rattle.image.proofs.table.Image.lookup_hashed.Goals as goal
use Rattle.image.proofs.table.Image.lookup_hashed.Goals.{After-probe_hashed}

-- what the probe ends in
ended : (c : After-probe_hashed) (r : Probe) → c.probe_hashed.result.end ≡ r
    → let a = c.args in probe_of a.self.now.shape a.self.now.bytes.now a.key.now ≡ heard r
ended c r e = reported_end _ _ _ _ c.probe_hashed.ensures r e

-- what lookup answers then
looked : (c : After-probe_hashed) (r : Probe) → c.probe_hashed.result.end ≡ r
    → let a = c.args in
    lookup_by a.self.now.shape a.self.now.bytes.now (heard r) ≡ lookup_in a.self.now.shape a.self.now.bytes.now a.key.now
looked c r e =
    let a = c.args in
    looked_by a.self.now.shape a.self.now.bytes.now a.key.now (omega (arith, c.if-key-self.false)) (heard r) (ended c r e)

pub returns-then-key-self : goal.returns-then-key-self
returns-then-key-self c =
    let a = c.args in
    looked_other a.self.now.shape a.self.now.bytes.now a.key.now c.if-key-self.true

pub probe_hashed-requires : goal.probe_hashed-requires
probe_hashed-requires c =
    c.requires (rw c.if-key-self.false c.args.self.now.shaped.laid.keys)

pub revision_of-requires : goal.revision_of-requires
revision_of-requires c =
    let a = c.args in
    let below = found_below a.self.now.shape a.self.now.bytes.now a.key.now _ _ (ended (goal.at.revision_of-requires c).After-probe_hashed _ c.in-Found.is) in
    omega (arith, below, a.self.now.shaped.highwater)

pub returns-in-Found : goal.returns-in-Found
returns-in-Found c =
    let revision = to_z-of_z {w = w64} {z = c.revision_of.result} (sfits_of c.revision_of.type_inv) ∙ c.revision_of.ensures in
    ap (λ (z : ℤ). record { answer = done; slot = c.in-Found.slot; revision = z; buckets = c.in-Found.buckets }) revision
    ∙ looked (goal.at.returns-in-Found c).After-probe_hashed _ c.in-Found.is

pub returns-in-Absent : goal.returns-in-Absent
returns-in-Absent c = looked (goal.at.returns-in-Absent c).After-probe_hashed _ c.in-Absent.is

pub returns-in-Broken : goal.returns-in-Broken
returns-in-Broken c = looked (goal.at.returns-in-Broken c).After-probe_hashed _ c.in-Broken.is
