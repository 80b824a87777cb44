-- `slots::slots::index_live` meets its contract.
-- Assumes nothing.
use mathlib.Core.Path.{sym, ◌∙◌}
use Rattle.slots.proofs.slots.index_live.Goals as goal

pub index_slot-requires-clause-missing : goal.index_slot-requires-clause-missing
index_slot-requires-clause-missing c = c.requires.missing (sym c.meta_of.ensures ∙ c.if-meta_of-eq1.true)
