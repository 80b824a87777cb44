-- `header::refusal::refuse_if` meets its contract.
-- Assumes nothing.
use mathlib.Core.Path.{refl}
use Rattle.header.specs.FirstOf.{first_of}
use Rattle.header.proofs.refusal.refuse_if.Goals as goal

pub returns-then-holds : goal.returns-then-holds
unfolding first_of
returns-then-holds c = rw c.if-holds.true refl

pub returns-else-holds : goal.returns-else-holds
unfolding first_of
returns-else-holds c = rw c.if-holds.false refl
