-- `fullcheck::checked` meets its contract.
-- Assumes nothing.
use mathlib.Core.Path.{ap, ◌∙◌}
use Rattle.header.specs.declared.options.Options.{Options}
use Rattle.image.specs.Check.{check_of}
use Rattle.fullcheck.specs.Program.{program_of}
use Rattle.fullcheck.proofs.checked.Goals as goal

pub returns-then-longer : goal.returns-then-longer
unfolding program_of
returns-then-longer c = rw c.if-longer.true c.refused.ensures

pub returns-in-Ok : goal.returns-in-Ok
unfolding program_of
returns-in-Ok c = rw c.if-longer.false (c.in-Ok.ensures ∙ ap (λ (o : Options). check_of o c.args.image.now) c.bench.ensures)

pub returns-in-Err : goal.returns-in-Err
unfolding program_of
returns-in-Err c =
    rw c.if-longer.false
    (c.refused-in-Err.ensures ∙ c.in-Err.ensures ∙ ap (λ (o : Options). check_of o c.args.image.now) c.bench.ensures)
