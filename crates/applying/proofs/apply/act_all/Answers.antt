-- `applying::apply::act_all` meets its contract. The loop's invariant: the records so far have acted.
-- Assumes nothing.
use mathlib.Core.Path.{refl, ap, ◌∙◌}
use native.Mathlib.Numerals.{add-one}
use Rattle.soundness.specs.Apply.{acted, acted_to}
use Rattle.batch.specs.Notes.{new_by}
use Rattle.applying.proofs.apply.act_all.Goals as goal

pub loop-i-init : goal.loop-i-init
unfolding acted_to
loop-i-init c = refl

pub loop-i-preserved : goal.loop-i-preserved
unfolding acted_to
loop-i-preserved c =
    let a = c.args in
    let l = c.loop-i in
    c.act.ensures ∙ rw add-one (ap (acted a.s (new_by a.plan.now.turns.now) a.plan.now.hashed.batch.bytes.now l.i) l.invariant)
