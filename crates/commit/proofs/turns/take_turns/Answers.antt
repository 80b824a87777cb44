-- `commit::turns::take_turns` meets its contract. The loop's invariant: the turns and the buckets so far are noted.
-- Assumes nothing.
use borrow.Author.Rules.{rules}
use mathlib.Core.Path.{ap, ◌∙◌}
use Rattle.batch.proofs.Noted.{noted_none}
use Rattle.batch.specs.Notes.{some_delete}
use Rattle.header.specs.declared.shape.Layout.{Layout}
use Rattle.commit.proofs.turns.take_turns.Goals as goal

pub loop-i-init : goal.loop-i-init
loop-i-init c = (noted_none _, search rules)

pub turn_of-note-requires-clause-deletes_value : goal.turn_of-note-requires-clause-deletes_value
turn_of-note-requires-clause-deletes_value c =
    c.some_delete-deletes.ensures ∙ ap (λ (l : Layout). some_delete l c.args.hashed.now.batch.bytes.now) c.requires.layout
