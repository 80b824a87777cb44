-- `host::lookup::entry_in` meets its contract.
-- Assumes nothing.
use mathlib.Core.Path.{◌≡◌}
use borrow.Author.Rules.{rules}
use Rattle.image.specs.Lookup.{looked}
use Rattle.host.proofs.lookup.entry_in.Goals as goal

pub returns-in-Ok-Some : goal.returns-in-Ok-Some
returns-in-Ok-Some c =
    let found = looked c.args.found in
    let entered : c.in-Ok-Some.entry ≡ record { slot = found.slot; revision = found.revision } = search rules in
    entered
