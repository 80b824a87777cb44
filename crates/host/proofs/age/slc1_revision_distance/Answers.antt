-- `host::age::slc1_revision_distance` meets its contract.
-- Assumes nothing.
use mathlib.Core.Path.{ap, ap₂, ◌∙◌}
use mir.Facts.{to_z-of_z}
use mir.Syntax.{w64}
use Rattle.numbers.specs.Age.{age_of}
use Rattle.numbers.specs.declared.age.Age.{Age}
use Rattle.host.proofs.age.slc1_revision_distance.Goals as goal

pub returns : goal.returns
returns c =
    let a = c.args in
    let told = ap₂ age_of (to_z-of_z {w = w64} {z = a.first} c.ranges.first) (to_z-of_z {w = w64} {z = a.second} c.ranges.second) in
    ap (λ (x : Age). x.distance) (c.revision_age-apart.ensures ∙ told)
