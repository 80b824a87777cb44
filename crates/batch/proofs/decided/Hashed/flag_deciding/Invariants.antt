-- `batch::decided::Hashed::flag_deciding` meets its contract. The loop's invariant: the records from i on are flagged and indexed.
-- Assumes nothing.
use Prim.Native.Nat.{◌-◌}
use Rattle.batch.specs.Batch.{record_count, decides}
use Rattle.batch.specs.Index.{Indexed}
use Rattle.batch.proofs.Noted.{FlaggedFrom}
use Rattle.batch.proofs.decided.Hashed.flag_deciding.Given as goal

abbrev pub invariant-loop-i : goal.invariant-loop-i
invariant-loop-i l =
    let b = l.self.batch in
    FlaggedFrom (decides b.layout b.bytes.now) (record_count b.layout b.bytes.now) l.flags l.i
    × Indexed b.layout b.bytes.now l.index (record_count b.layout b.bytes.now - l.i)
