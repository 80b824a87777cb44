-- `host::sizes::slots_for` meets its contract.
-- Assumes nothing.
use mathlib.Core.Path.{refl}
use borrow.Author.Tests.{eq-eqb, ne_eqb}
use Rattle.host.specs.Places.{slots_for}
use Rattle.host.proofs.sizes.slots_for.Goals as goal

pub returns-then-option-eq0 : goal.returns-then-option-eq0
unfolding slots_for
returns-then-option-eq0 c = rw (eq-eqb _ _ c.if-option-eq0.true) refl

pub returns : goal.returns
unfolding slots_for
returns c = rw (ne_eqb _ _ c.if-option-eq0.false) refl
