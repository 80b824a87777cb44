-- `applying::apply::act` meets its contract.
-- Assumes nothing.
use lib.ListN.{get_or}
use mathlib.Core.Bool.{not, ◌&&◌}
use Prim.Native.Nat.{◌<◌}
use mathlib.Core.Path.{◌≡◌, ap, ◌∙◌, sym}
use Rattle.applying.proofs.Acting.{acts, acts_not}
use Rattle.header.specs.declared.shape.Layout.{Layout}
use Rattle.batch.proofs.Turning.{turn_acts}
use Rattle.batch.specs.Batch.{record_count, record_at, key_in, record_key, decides}
use Rattle.batch.specs.declared.new_keys.Turn.TheVariants.{Superseded}
use Rattle.batch.specs.Notes.{is_live_turn, new_by}
use Rattle.digests.specs.Fnv.{fnv1a64}
use Rattle.applying.proofs.apply.act.Goals as goal
use Rattle.applying.proofs.apply.act.Goals.{Start}

-- the turn tells whether the record acts
in_turn : (b : Start)
    → let a = b.args in
    is_live_turn (get_or a.plan.now.turns.now a.i Superseded) ≡ decides a.s.layout a.plan.now.hashed.batch.bytes.now a.i && not (new_by a.plan.now.turns.now a.i)
in_turn b =
    let a = b.args in
    let turned = b.requires.turned in
    turn_acts a.s.layout turned.0 a.plan.now.hashed.batch.bytes.now a.plan.now.turns.now turned.1 a.i b.requires.i_bound

pub act_on_key-requires-clause-hash_value : goal.act_on_key-requires-clause-hash_value
unfolding record_key
act_on_key-requires-clause-hash_value c =
    let batch = c.args.plan.now.hashed.batch in
    let layout = c.requires.layout in
    let inside : c.args.i < record_count batch.layout batch.bytes.now = rw layout c.requires.i_bound in
    rw (← layout) (c.args.plan.now.hashed.noted.each c.args.i inside ∙ ap (λ r. fnv1a64 (key_in batch.layout r)) (sym c.record-record.ensures.bytes))

pub returns-then-is_live : goal.returns-then-is_live
returns-then-is_live c =
    let a = c.args in
    c.act_on_key.ensures
    ∙ acts a.s a.image.now (new_by a.plan.now.turns.now) a.plan.now.hashed.batch.bytes.now a.i (sym (in_turn (goal.at.returns-then-is_live c).Start) ∙ sym c.is_live.ensures ∙ c.if-is_live.true) _ (c.record-record.ensures.bytes ∙ ap (λ (l : Layout). record_at l a.plan.now.hashed.batch.bytes.now a.i) c.requires.layout)

pub returns-else-is_live : goal.returns-else-is_live
returns-else-is_live c =
    let a = c.args in
    acts_not a.s a.image.now (new_by a.plan.now.turns.now) a.plan.now.hashed.batch.bytes.now a.i (sym (in_turn (goal.at.returns-else-is_live c).Start) ∙ sym c.is_live.ensures ∙ c.if-is_live.false)
