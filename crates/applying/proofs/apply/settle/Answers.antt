-- `applying::apply::settle` meets its contract.
-- Assumes nothing.
use Prim.Native.Nat.{ℕ}
use mathlib.Core.Path.{ap, ◌∙◌}
use mathlib.Core.List.{List}
use native.Mathlib.Omega.{arith}
use lib.ListN.{length}
use Rattle.header.specs.Fields.{value, generation}
use Rattle.slots.proofs.Table.Around.{around_generation}
use Rattle.applying.proofs.StepsKeepHeader.{header_inside, tidied_kept}
use Rattle.applying.proofs.Acting.{settled_by}
use Rattle.applying.proofs.apply.settle.Goals as goal

pub publish-requires : goal.publish-requires
publish-requires c =
    let a = c.args in
    let e = c.tidy.ensures in
    let kept = tidied_kept a.s a.image.now c.requires.shaped in
    let g = ap (λ (i : List ℕ). value i generation) e ∙ around_generation kept in
    let n = ap length e ∙ kept.size in
    (omega (arith, n, header_inside a.s a.image.now c.requires.shaped), omega (arith, g, c.requires.generation_bound))

pub returns : goal.returns
returns c =
    let a = c.args in
    c.publish.ensures
    ∙ settled_by a.s a.image.now _ c.tidy.ensures _ _ c.count_live-live.ensures c.count_tombstones-tombstones.ensures _ c.with_counters.ensures
