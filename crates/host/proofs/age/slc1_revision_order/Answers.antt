-- `host::age::slc1_revision_order` meets its contract.
-- Assumes nothing.
use mathlib.Core.Path.{sym, ap, ap₂, ◌∙◌}
use mir.Facts.{to_z-of_z}
use mir.Syntax.{w64}
use Rattle.numbers.specs.Age.{age_of}
use Rattle.numbers.specs.declared.age.Age.{Age}
use Rattle.host.specs.Order.{order_number}
use Rattle.host.proofs.age.slc1_revision_order.Goals as goal

pub returns-in-Older : goal.returns-in-Older
returns-in-Older c =
    let a = c.args in
    let told = ap₂ age_of (to_z-of_z {w = w64} {z = a.first} c.ranges.first) (to_z-of_z {w = w64} {z = a.second} c.ranges.second) in
    ap order_number (sym c.in-Older.is ∙ ap (λ (x : Age). x.order) (c.revision_age-age.ensures ∙ told))

pub returns-in-Same : goal.returns-in-Same
returns-in-Same c =
    let a = c.args in
    let told = ap₂ age_of (to_z-of_z {w = w64} {z = a.first} c.ranges.first) (to_z-of_z {w = w64} {z = a.second} c.ranges.second) in
    ap order_number (sym c.in-Same.is ∙ ap (λ (x : Age). x.order) (c.revision_age-age.ensures ∙ told))

pub returns-in-Newer : goal.returns-in-Newer
returns-in-Newer c =
    let a = c.args in
    let told = ap₂ age_of (to_z-of_z {w = w64} {z = a.first} c.ranges.first) (to_z-of_z {w = w64} {z = a.second} c.ranges.second) in
    ap order_number (sym c.in-Newer.is ∙ ap (λ (x : Age). x.order) (c.revision_age-age.ensures ∙ told))
