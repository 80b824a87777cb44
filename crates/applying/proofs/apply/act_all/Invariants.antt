-- `applying::apply::act_all` meets its contract. The loop's invariant: the records so far have acted.
-- Assumes nothing.
use mathlib.Core.Path.{◌≡◌}
use Rattle.soundness.specs.Apply.{acted_to}
use Rattle.batch.specs.Notes.{new_by}
use Rattle.applying.proofs.apply.act_all.Given as goal

abbrev pub invariant-loop-i : goal.invariant-loop-i
invariant-loop-i l = l.image ≡ acted_to l.s (new_by l.plan.turns.now) l.fn.image l.plan.hashed.batch.bytes.now l.i
