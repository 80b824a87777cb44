-- `applying::counts::count_tombstones` meets its contract. The loop's invariant: the sum counts the TOMBSTONE buckets so far.
-- Assumes nothing.
use Prim.Native.Nat.{ℕ, ◌+◌}
use mathlib.Core.Path.{◌≡◌, refl, ap, ap₂, ◌∙◌, sym}
use native.Mathlib.Omega.{arith}
use Rattle.probing.specs.Counting.{one, sum_to, count_to}
use Rattle.probing.proofs.Counting.{count_le}
use Rattle.probing.proofs.Change.{count_more}
use Rattle.batch.proofs.Every.{byte_one, one_le}
use Rattle.probing.specs.Table.{is_tombstone, tombstone_count}
use Rattle.image.specs.Table.{table_of}
use Rattle.applying.proofs.counts.count_tombstones.Invariants.{gone}
use Rattle.applying.proofs.counts.count_tombstones.Goals as goal
use Rattle.applying.proofs.counts.count_tombstones.Goals.{After-from-sum}

-- what is added is 1 if the test passes, else 0
added : (c : After-from-sum)
    → let a = c.args in
    c.from-sum.result ≡ one (gone a.image.now.shape a.image.now.bytes.now c.loop-b.b)
added c =
    c.from-sum.ensures ∙ byte_one _ ∙ ap one (c.is_tombstone.ensures ∙ ap is_tombstone c.bucket_of.ensures)

pub loop-b-init : goal.loop-b-init
unfolding count_to sum_to
loop-b-init c = refl

pub overflow_add-sum : goal.overflow_add-sum
overflow_add-sum c =
    let a = c.args in
    let l = c.loop-b in
    omega (arith, added (goal.at.overflow_add-sum c).After-from-sum, one_le (gone a.image.now.shape a.image.now.bytes.now l.b), l.invariant, count_le l.b (gone a.image.now.shape a.image.now.bytes.now))

pub loop-b-preserved : goal.loop-b-preserved
loop-b-preserved c =
    let a = c.args in
    let l = c.loop-b in
    ap₂ ◌+◌ l.invariant (added (goal.at.loop-b-preserved c).After-from-sum) ∙ sym (count_more l.b (gone a.image.now.shape a.image.now.bytes.now))

pub returns : goal.returns
unfolding tombstone_count table_of
returns c =
    let a = c.args in
    let l = c.loop-b in
    l.invariant ∙ ap (λ (n : ℕ). count_to n (gone a.image.now.shape a.image.now.bytes.now)) (omega arith)
