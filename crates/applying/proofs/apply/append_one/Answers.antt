-- `applying::apply::append_one` meets its contract.
-- Assumes nothing.
use Prim.Native.Nat.{ℕ, ◌+◌}
use mathlib.Core.List.{List}
use mathlib.Core.Path.{◌≡◌, ap, ap₂, ◌∙◌}
use native.Mathlib.Omega.{arith}
use Rattle.applying.proofs.StepsKeepHeader.{slots_shaped}
use Rattle.batch.proofs.Records.{record_length}
use Rattle.batch.specs.Batch.{record_at, record_key, key_in}
use Rattle.batch.specs.Notes.{hash_of}
use Rattle.image.specs.Table.{table_of}
use Rattle.header.specs.Counters.{with_counters, with_slots}
use Rattle.header.specs.declared.shape.Layout.{Layout}
use Rattle.header.specs.declared.shape.Shape.{Shape}
use Rattle.slots.specs.Slots.{appended}
use Rattle.applying.proofs.apply.append_one.Goals as goal

pub append-requires : goal.append-requires
unfolding with_slots with_counters record_key key_in table_of
append-requires c =
    let a = c.args in
    let layout = c.requires.layout in
    let batch = a.plan.now.hashed.batch.bytes.now in
    let n = a.s.slot_highwater + a.k in
    let made : c.record.result.bytes.now ≡ record_at a.s.layout batch a.i = c.record.ensures.bytes ∙ ap (λ (l : Layout). record_at l batch a.i) layout in
    rw (c.with_slots.ensures, made)
    (record {
      shaped = slots_shaped a.s a.image.now c.requires.shaped n (omega arith) (omega arith);
      slot_highwater_bound = c.requires.k_bound;
      record_len = record_length a.s.layout batch a.i c.requires.i_bound;
      hash_value = a.plan.now.hashed.noted.each a.i (rw layout c.requires.i_bound) ∙ ap (λ (l : Layout). hash_of l batch a.i) layout;
      missing = c.requires.missing;
      hint = c.requires.hint;
    })

pub returns : goal.returns
returns c =
    let a = c.args in
    c.append.ensures
    ∙ ap₂ (λ (t : Shape) (r : List ℕ). appended t a.image.now r) c.with_slots.ensures
    (c.record.ensures.bytes ∙ ap (λ (l : Layout). record_at l a.plan.now.hashed.batch.bytes.now a.i) c.requires.layout)
