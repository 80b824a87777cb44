-- `slots::slots::append` meets its contract.
-- Assumes nothing.
use Prim.Native.Nat.{ℕ}
use mathlib.Core.Path.{sym, ap, subst, ◌∙◌}
use mathlib.Core.List.{List}
use borrow.Author.Rules.{rules}
use Rattle.numbers.specs.Bytes.{put}
use Rattle.digests.specs.Fnv.{fnv1a64}
use Rattle.probing.specs.Report.{Missing}
use Rattle.header.specs.Shaped.{Shaped}
use Rattle.image.specs.Table.{key_of, table_of}
use Rattle.slots.specs.Slots.{Hinted}
use Rattle.slots.proofs.Table.Appended.{mid_fit, mid_new, mid_missing, mid_hinted}
use Rattle.slots.proofs.slots.append.Goals as goal

pub index_slot-requires : goal.index_slot-requires
index_slot-requires c =
    let a = c.args in
    let l = a.s.layout in
    let n = a.s.slot_highwater in
    let made = c.copy_to.ensures ∙ ap (λ (at : ℕ). put a.image.now at a.«record».now) c.slot_at-at.ensures in
    let fit = mid_fit a.s a.image.now c.requires.shaped c.requires.slot_highwater_bound a.«record».now c.requires.record_len in
    let key = (mid_new a.s a.image.now c.requires.shaped c.requires.slot_highwater_bound a.«record».now c.requires.record_len).key in
    let none = mid_missing a.s a.image.now c.requires.shaped c.requires.slot_highwater_bound a.«record».now c.requires.record_len _ c.requires.missing in
    let hint = mid_hinted a.s a.image.now c.requires.shaped c.requires.slot_highwater_bound a.«record».now c.requires.record_len _ a.hint c.requires.hint in
    record {
      shaped = subst (Shaped a.s) (sym made) fit;
      n_bound = search rules;
      hash_value = c.requires.hash_value ∙ ap fnv1a64 (sym (ap (λ (i : List ℕ). key_of l i n) made ∙ key));
      missing = subst (λ (i : List ℕ). Missing (table_of a.s i) (key_of l i n)) (sym made) (rw key none);
      hint = subst (λ (i : List ℕ). Hinted (table_of a.s i) (key_of l i n) a.hint) (sym made) (rw key hint);
    }
