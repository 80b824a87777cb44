-- `commit::commit::commit_hashed` meets its contract: the room test, and then the batch.
-- Assumes nothing.
use mathlib.Core.Path.{◌≡◌, refl, sym, ap, subst, ◌∙◌}
use native.Mathlib.Omega.{arith}
use lib.ListN.{length, take}
use Rattle.std.proofs.lemmas.List.{get_or-take, length-take-le}
use Rattle.header.specs.declared.shape.Layout.{Layout}
use Rattle.batch.specs.Notes.{Noted, count_by, new_at_by}
use Rattle.batch.proofs.Noted.{noted_none, noted_as}
use Rattle.batch.proofs.Turning.{turn_count, turn_new_at}
use Rattle.batch.proofs.NewRanks.{new_at_lem}
use Rattle.applying.specs.Prepared.{InOrder}
use Rattle.commit.proofs.TestGroups.{room_decides}
use Rattle.soundness.proofs.Accepted.{further_facts}
use Rattle.image.specs.Lookup.{is_live}
use Rattle.writing.proofs.Answers.{says_refused, says_accepted}
use Rattle.commit.proofs.commit.commit_hashed.Goals as goal
use Rattle.commit.proofs.commit.commit_hashed.Goals.{After-listed}

-- the order that the turns tell is that of the new keys
in_order : (c : After-listed) → let a = c.args in InOrder a.s a.image.now a.hashed.now.batch.bytes.now c.listed.result.now
in_order c =
    let a = c.args in
    let batch = a.hashed.now.batch.bytes.now in
    let layout = c.requires.layout in
    let r = c.order_new_keys-new_keys.result in
    let turns = c.take_turns-turns.result in
    let live = is_live a.s a.image.now in
    let turned = c.take_turns-turns.ensures.turns in
    let told = c.order_new_keys-new_keys.ensures in
    let counted : r.count ≡ count_by a.s.layout batch turns = told.count ∙ ap (λ (l : Layout). count_by l batch turns) layout in
    let listed : Noted (new_at_by a.s.layout batch turns) r.count r.records = subst (λ (l : Layout). Noted (new_at_by l batch turns) r.count r.records) layout told.noted in
    let noted = noted_as listed (λ k l. turn_new_at a.s.layout live batch turns turned k) in
    let all : length (take r.count r.records) ≡ r.count = length-take-le r.count r.records (omega (arith, noted.size, noted.fits)) in
    rw c.listed.ensures
    (record {
      each = λ k l. get_or-take r.count r.records k 0 (omega (arith, l, all)) ∙ noted.each k (omega (arith, l, all));
      counted = all ∙ counted ∙ turn_count a.s.layout live batch turns turned;
    })

pub take_turns-turns-requires-clause-none_noted : goal.take_turns-turns-requires-clause-none_noted
take_turns-turns-requires-clause-none_noted c = noted_none _

pub invariant_of-new : goal.invariant_of-new
invariant_of-new c =
    let a = c.args in
    let o = in_order (goal.at.invariant_of-new c).After-listed in
    record {
      by_index = λ k l. rw (c.requires.layout, o.each k l) (new_at_lem a.s.layout (is_live a.s a.image.now) a.hashed.now.batch.bytes.now k (omega (arith, l, o.counted))).inside;
    }

pub room_test-requires-clause-ordered : goal.room_test-requires-clause-ordered
room_test-requires-clause-ordered c = in_order (goal.at.room_test-requires-clause-ordered c).After-listed

pub returns-in_err-room_test : goal.returns-in_err-room_test
returns-in_err-room_test c =
    let a = c.args in
    says_refused a.image.now _ _ _ _ c.from_residual.ensures.1
    (room_decides a.s a.image.now a.hashed.now.batch.bytes.now refl c.requires.sound c.in_err-room_test.ensures)

pub apply-requires-clause-prepared : goal.apply-requires-clause-prepared
apply-requires-clause-prepared c =
    let a = c.args in
    let batch = a.hashed.now.batch.bytes.now in
    let o = in_order (goal.at.apply-requires-clause-prepared c).After-listed in
    let none = sym (room_decides a.s a.image.now batch refl c.requires.sound c.in_ok-room_test.ensures) in
    let further = further_facts a.s a.image.now batch none in
    record {
      turned = c.take_turns-turns.ensures.turns;
      placed = c.take_turns-turns.ensures.places;
      ordered = o;
      room = omega (arith, further.room, c.requires.shaped.highwater, o.counted);
      ahead = further.ahead;
      passed = further.passed;
    }

pub returns : goal.returns
returns c =
    let a = c.args in
    says_accepted a.image.now _ _ (room_decides a.s a.image.now a.hashed.now.batch.bytes.now refl c.requires.sound c.in_ok-room_test.ensures)
    c.apply.ensures
