-- `applying::apply::apply` meets its contract. Records act, new keys are appended, and the index and the counters are settled.
-- Assumes nothing.
use Prim.Native.Nat.{ℕ}
use mathlib.Core.List.{List}
use mathlib.Core.Path.{◌≡◌, sym, ap, ◌∙◌, subst}
use native.Mathlib.Nat.{le_refl}
use native.Mathlib.Omega.{arith}
use lib.ListN.{length}
use Rattle.applying.proofs.Applied.{order_below, live_turns, in_order, left_new, all_missing, all_hinted, applied}
use Rattle.soundness.specs.Apply.{acted_to, after_live, after_new}
use Rattle.soundness.proofs.Grown.{Grown}
use Rattle.applying.specs.Prepared.{appended_to, AllMissing, AllHinted}
use Rattle.probing.specs.Sound.{Sound}
use Rattle.image.specs.Table.{table_of}
use Rattle.batch.specs.Batch.{record_count}
use Rattle.batch.specs.Notes.{new_by}
use Rattle.header.specs.Shaped.{Shaped}
use Rattle.header.specs.declared.shape.Shape.{Shape}
use Rattle.slots.proofs.Table.Around.{around_generation}
use Rattle.applying.proofs.apply.apply.Goals as goal
use Rattle.applying.proofs.apply.apply.Goals.{Start}

-- the image when all records have acted, and when all new keys are appended
live-by : (b : Start) (one : List ℕ) → one ≡ acted_to b.args.s (new_by b.args.plan.now.turns.now) b.args.image.now b.args.plan.now.hashed.batch.bytes.now (record_count b.args.s.layout b.args.plan.now.hashed.batch.bytes.now)
    → one ≡ after_live b.args.s b.args.image.now b.args.plan.now.hashed.batch.bytes.now (record_count b.args.s.layout b.args.plan.now.hashed.batch.bytes.now)
live-by b one e =
    let a = b.args in
    e ∙ live_turns a.s a.image.now a.plan.now.hashed.batch.bytes.now a.plan.now.turns.now a.plan.now.places.now a.plan.now.order.now b.requires.prepared

all_new : (b : Start) (one : List ℕ) → one ≡ acted_to b.args.s (new_by b.args.plan.now.turns.now) b.args.image.now b.args.plan.now.hashed.batch.bytes.now (record_count b.args.s.layout b.args.plan.now.hashed.batch.bytes.now)
    → (two : List ℕ) → two ≡ appended_to b.args.s b.args.plan.now.hashed.batch.bytes.now b.args.plan.now.order.now one (length b.args.plan.now.order.now)
    → two ≡ after_new b.args.s b.args.image.now b.args.plan.now.hashed.batch.bytes.now (length b.args.plan.now.order.now)
all_new b one e two d =
    let a = b.args in
    d ∙ ap (λ (i : List ℕ). appended_to a.s a.plan.now.hashed.batch.bytes.now a.plan.now.order.now i (length a.plan.now.order.now)) (live-by b one e)
    ∙ in_order a.s a.image.now a.plan.now.hashed.batch.bytes.now a.plan.now.turns.now a.plan.now.places.now a.plan.now.order.now b.requires.prepared _ (le_refl _)

pub append_all-requires-clause-by_index : goal.append_all-requires-clause-by_index
append_all-requires-clause-by_index c =
    let a = c.args in
    order_below a.s a.image.now a.plan.now.hashed.batch.bytes.now a.plan.now.turns.now a.plan.now.places.now a.plan.now.order.now c.requires.prepared

pub append_all-requires-clause-all_missing : goal.append_all-requires-clause-all_missing
append_all-requires-clause-all_missing c =
    let a = c.args in
    let e = live-by (goal.at.append_all-requires-clause-all_missing c).Start c.act_all.new.image c.act_all.ensures in
    subst (λ (i : List ℕ). AllMissing a.s a.plan.now.hashed.batch.bytes.now a.plan.now.order.now i) (sym e)
    (all_missing a.s a.image.now a.plan.now.hashed.batch.bytes.now a.plan.now.turns.now a.plan.now.places.now a.plan.now.order.now c.requires.prepared c.requires.shaped)

pub append_all-requires-clause-all_hinted : goal.append_all-requires-clause-all_hinted
append_all-requires-clause-all_hinted c =
    let a = c.args in
    let e = live-by (goal.at.append_all-requires-clause-all_hinted c).Start c.act_all.new.image c.act_all.ensures in
    subst (λ (i : List ℕ). AllHinted a.s a.plan.now.hashed.batch.bytes.now a.plan.now.places.now a.plan.now.order.now i) (sym e)
    (all_hinted a.s a.image.now a.plan.now.hashed.batch.bytes.now a.plan.now.turns.now a.plan.now.places.now a.plan.now.order.now c.requires.prepared c.requires.shaped)

pub settle-requires : goal.settle-requires
settle-requires c =
    let a = c.args in
    let two = c.append_all.new.image in
    let one = c.act_all in
    let e = all_new (goal.at.settle-requires c).Start one.new.image one.ensures two c.append_all.ensures in
    let g = subst (Grown a.s a.image.now a.plan.now.hashed.batch.bytes.now (length a.plan.now.order.now)) (sym e) (left_new a.s a.image.now a.plan.now.hashed.batch.bytes.now a.plan.now.turns.now a.plan.now.places.now a.plan.now.order.now c.requires.prepared c.requires.shaped) in
    record {
      shaped = subst (λ (t : Shape). Shaped t two) (sym c.with_slots.ensures) g.fit;
      sound = subst (λ (t : Shape). Sound (table_of t two)) (sym c.with_slots.ensures) g.formed.sound;
      generation_bound = omega (arith, around_generation g.around, c.requires.generation_bound);
    }

pub returns : goal.returns
returns c =
    let a = c.args in
    let one = c.act_all in
    let two = c.append_all in
    c.settle.ensures
    ∙ applied a.s a.image.now a.plan.now.hashed.batch.bytes.now a.plan.now.turns.now a.plan.now.places.now a.plan.now.order.now c.requires.prepared
    _ (all_new (goal.at.returns c).Start _ one.ensures _ two.ensures) _ c.with_slots.ensures
