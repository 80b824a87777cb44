-- `batch::decided::Hashed::stop_of` meets its contract. The loop's invariant: the probe goes on after so many steps.
-- Assumes nothing.
use Prim.Native.Nat.{ℕ, ◌+◌, ◌%◌}
use Rattle.probing.proofs.Report.{OnWay}
use Rattle.batch.specs.Batch.{record_key}
use Rattle.batch.specs.Index.{index_buckets, record_table}
use Rattle.batch.proofs.decided.Hashed.stop_of.Given as goal

abbrev pub invariant-loop-step : goal.invariant-loop-step
invariant-loop-step l =
    let b = l.self.batch in
    (p : ℕ) × OnWay (record_table b.layout b.bytes.now l.index) (record_key b.layout b.bytes.now l.i) ((l.home + l.step) % index_buckets) l.step p
