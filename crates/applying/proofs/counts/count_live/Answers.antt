-- `applying::counts::count_live` meets its contract. The loop's invariant: the sum counts the live slots so far.
-- Assumes nothing.
use Prim.Native.Nat.{ℕ, ◌+◌}
use mathlib.Core.Path.{◌≡◌, refl, ap, ap₂, ◌∙◌, sym}
use native.Mathlib.Omega.{arith}
use lib.Dec.{eqb}
use Rattle.probing.specs.Counting.{one, sum_to, count_to}
use Rattle.probing.proofs.Counting.{count_le}
use Rattle.probing.proofs.Change.{count_more}
use Rattle.batch.proofs.Every.{byte_one, one_le}
use Rattle.probing.specs.Table.{live_count}
use Rattle.image.specs.Table.{table_of}
use Rattle.applying.proofs.counts.count_live.Invariants.{alive}
use Rattle.applying.proofs.counts.count_live.Goals as goal
use Rattle.applying.proofs.counts.count_live.Goals.{After-from-sum}

-- what is added is 1 if the test passes, else 0
added : (c : After-from-sum)
    → let a = c.args in
    c.from-sum.result ≡ one (alive a.image.now.shape a.image.now.bytes.now c.loop-n.n)
added c = c.from-sum.ensures ∙ byte_one _ ∙ ap (λ (m : ℕ). one (eqb m 1)) c.meta_of.ensures

pub loop-n-init : goal.loop-n-init
unfolding count_to sum_to
loop-n-init c = refl

pub overflow_add-sum : goal.overflow_add-sum
overflow_add-sum c =
    let a = c.args in
    let l = c.loop-n in
    omega (arith, added (goal.at.overflow_add-sum c).After-from-sum, one_le (alive a.image.now.shape a.image.now.bytes.now l.n), l.invariant, count_le l.n (alive a.image.now.shape a.image.now.bytes.now))

pub loop-n-preserved : goal.loop-n-preserved
loop-n-preserved c =
    let a = c.args in
    let l = c.loop-n in
    ap₂ ◌+◌ l.invariant (added (goal.at.loop-n-preserved c).After-from-sum) ∙ sym (count_more l.n (alive a.image.now.shape a.image.now.bytes.now))

pub returns : goal.returns
unfolding live_count table_of
returns c =
    let a = c.args in
    let l = c.loop-n in
    l.invariant ∙ ap (λ (n : ℕ). count_to n (alive a.image.now.shape a.image.now.bytes.now)) (omega arith)
