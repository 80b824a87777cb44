-- `commit::turns::take_turns` meets its contract. The loop's invariant: the turns and the buckets so far are noted.
-- Assumes nothing.
use Rattle.applying.specs.Prepared.{noted_place}
use Rattle.batch.specs.declared.new_keys.Turn.TheVariants.{Superseded}
use Rattle.batch.specs.Notes.{NotedAs, Noted, turn_of}
use Rattle.image.specs.Lookup.{is_live}
use Rattle.commit.proofs.turns.take_turns.Given as goal

abbrev pub invariant-loop-i : goal.invariant-loop-i
invariant-loop-i l =
    let s = l.image.shape in
    let image = l.image.bytes.now in
    let batch = l.hashed.batch.bytes.now in
    NotedAs Superseded (turn_of s.layout (is_live s image) batch) l.i l.turns × Noted (noted_place s image batch) l.i l.places
