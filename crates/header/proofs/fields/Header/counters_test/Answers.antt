-- `header::fields::Header::counters_test` meets its contract.
-- Assumes nothing.
use mathlib.Core.Bool.{and-false}
use borrow.Author.Tests.{lt-leb}
use Rattle.header.specs.Fields as F
use Rattle.header.specs.Fields.{value}
use Rattle.header.specs.HeaderTest.{test11}
use Rattle.header.proofs.Counters.{over, within}
use Rattle.header.proofs.fields.Header.counters_test.Goals as goal
use Rattle.header.proofs.fields.Header.counters_test.Goals.{then-used-highwater, else-used-highwater}

pub returns : goal.returns
unfolding test11
returns c =
    let i = c.args.self.now in
    rw (← c.read-used.ensures, ← c.read-highwater.ensures, ← c.read.ensures, ← c.read-2.ensures)
    (elim c.if-used-highwater.branch [
      | then-used-highwater w ↦
          rw (within c.read.result c.read-used.result (value i F.bucket_tombstones) c.read-highwater.result c.read-2.result w.if-used-highwater.true, ← w.read-then-used-highwater.ensures)
          (rw w.tombstones-is at c.refuse_if.ensures)
      | else-used-highwater w ↦
          rw (over c.read.result c.read-used.result (value i F.bucket_tombstones) c.read-highwater.result c.read-2.result w.if-used-highwater.false)
          (rw (w.tombstones-is, lt-leb c.read-used.result c.read-highwater.result w.if-used-highwater.false, and-false) at c.refuse_if.ensures)
    ])
