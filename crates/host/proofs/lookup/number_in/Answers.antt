-- `host::lookup::number_in` meets its contract.
-- Assumes nothing.
use mathlib.Core.Path.{◌≡◌}
use native.Mathlib.Omega.{arith}
use borrow.Author.Rules.{rules}
use Rattle.header.specs.Answer.{not_present}
use Rattle.image.specs.Lookup.{looked}
use Rattle.host.proofs.lookup.number_in.Goals as goal

pub returns-in-Ok-None : goal.returns-in-Ok-None
returns-in-Ok-None c =
    let absent : not_present ≡ (looked c.args.found).answer = search rules in
    omega (arith, c.number.ensures, absent)
