-- `header::sizes::capacity_fits` meets its contract.
-- Assumes nothing.
use borrow.Author.Tests.{eq-eqb, ne_eqb}
use mathlib.Core.Path.{refl}
use Rattle.header.specs.Sizes.{capacity_fits}
use Rattle.header.proofs.sizes.capacity_fits.Goals as goal

pub returns-then-option-eq0 : goal.returns-then-option-eq0
unfolding capacity_fits
returns-then-option-eq0 c = rw (eq-eqb _ _ c.if-option-eq0.true) refl

pub returns : goal.returns
unfolding capacity_fits
returns c = rw (ne_eqb _ _ c.if-option-eq0.false) refl
