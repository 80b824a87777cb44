-- `applying::apply::append_all` meets its contract. The loop's invariant: the new keys so far have their slots.
-- Assumes nothing.
use mathlib.Core.Path.{◌≡◌}
use Rattle.applying.specs.Prepared.{appended_to}
use Rattle.applying.proofs.apply.append_all.Given as goal

abbrev pub invariant-loop-k : goal.invariant-loop-k
invariant-loop-k l = l.image ≡ appended_to l.s l.plan.hashed.batch.bytes.now l.order l.fn.image l.k
