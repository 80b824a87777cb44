-- The steps of a commit, one after the other, come to what a commit does.
-- Assumes nothing.
use Prim.Native.Nat.{ℕ, zero, suc, ◌+◌, ◌≤◌, ◌<◌}
use mathlib.Core.Path.{◌≡◌, refl, ap, ap₂, ◌∙◌}
use mathlib.Core.Bool.{Bool, true, false}
use mathlib.Core.List.{List}
use native.Mathlib.Omega.{arith}
use lib.Dec.{eqb}
use lib.ListN.{length, get_or}
use borrow.Author.Tests.{not-false}
use Rattle.probing.specs.Report.{Missing, Hint}
use Rattle.probing.proofs.Counting.{all_at}
use Rattle.header.specs.declared.shape.Layout.{Layout}
use Rattle.header.specs.declared.shape.Shape.{Shape}
use Rattle.header.specs.Shaped.{Shaped}
use Rattle.header.specs.Counters.{with_counters, with_slots}
use Rattle.image.specs.Table.{table_of}
use Rattle.image.specs.Lookup.{probe_of, is_live}
use Rattle.image.specs.Told.{report_of}
use Rattle.image.proofs.Looked.{not_live}
use Rattle.slots.proofs.Table.Indexed.{reported_place}
use Rattle.batch.specs.declared.new_keys.Turn.{Turn}
use Rattle.batch.specs.Batch.{record_count, record_at, meta_in, record_key}
use Rattle.batch.specs.NewKeys.{new_count, new_at}
use Rattle.batch.specs.Notes.{new_by, some_delete}
use Rattle.soundness.specs.Apply.{acted, acted_to, after_live, after_new, settled, committed}
use Rattle.applying.specs.Prepared.{kept_place, noted_place, Prepared, one_appended, appended_to, AllMissing, AllHinted}
use Rattle.batch.proofs.Turning.{turn_new}
use Rattle.batch.proofs.NewRanks.{is_new_lem, Ranked, new_at_lem}
use Rattle.soundness.proofs.Grown.{Ready, may_commit, Grown, new_grown, new_missing, new_hinted}

-- tests of the records that agree below n have the same ones act
acted_same : (s : Shape) (p q : ℕ → Bool) (image batch : List ℕ) (n : ℕ) → ((i : ℕ) → i < n → p i ≡ q i) → acted_to s p image batch n ≡ acted_to s q image batch n
unfolding acted_to acted
acted_same s p q image batch zero e = refl
acted_same s p q image batch (suc n) e = rw (e n (omega arith), acted_same s p q image batch n (λ i l. e i (omega arith)))

-- where no record is a delete, each is a put
all_puts : (l : Layout) (batch : List ℕ) → some_delete l batch ≡ false → (i : ℕ) → i < record_count l batch → eqb (meta_in (record_at l batch i)) 1 ≡ true
unfolding some_delete
all_puts l batch e = all_at (record_count l batch) _ (not-false _ e)

module _ (s : Shape) (image batch : List ℕ) (turns : List Turn) (places order : List ℕ) (ready : Prepared s image batch turns places order) where
  -- the order is of records
  pub order_below : (k : ℕ) → k < length order → get_or order k 0 < record_count s.layout batch
  order_below k l = rw (ready.ordered.each k l) (new_at_lem s.layout (is_live s image) batch k (omega (arith, ready.ordered.counted))).inside

  -- the records that act by their turns
  pub live_turns : acted_to s (new_by turns) image batch (record_count s.layout batch) ≡ after_live s image batch (record_count s.layout batch)
  unfolding after_live
  live_turns = acted_same s _ _ image batch (record_count s.layout batch) (turn_new s.layout (is_live s image) batch turns ready.turned)

  -- the new keys appended in their order
  pub in_order : (k : ℕ) → k ≤ length order → appended_to s batch order (after_live s image batch (record_count s.layout batch)) k ≡ after_new s image batch k
  unfolding appended_to one_appended after_new
  in_order zero l = refl
  in_order (suc k) l = rw (in_order k (omega arith), ready.ordered.each k l)

  -- what the steps leave, where the shape is the image's
  module _ (fit : Shaped s image) where
    may : Ready s image batch
    may = may_commit s image batch fit ready.passed (omega (arith, ready.room, ready.ordered.counted)) ready.ahead

    pub left_new : Grown s image batch (length order) (after_new s image batch (length order))
    left_new = new_grown s image batch may (length order) (omega (arith, ready.ordered.counted))

    pub all_missing : AllMissing s batch order (after_live s image batch (record_count s.layout batch))
    all_missing k l =
        rw (in_order k (omega arith), ready.ordered.each k l) (new_missing s image batch may k (omega (arith, ready.ordered.counted)))

    -- the bucket noted for the new key of rank k is a hint when its turn comes
    module _ (k : ℕ) (l : k < new_count s.layout (is_live s image) batch) where
      abbrev i : ℕ
      i = new_at s.layout (is_live s image) batch k

      abbrev key : List ℕ
      key = record_key s.layout batch i

      new : Ranked s.layout (is_live s image) batch k i
      new = new_at_lem s.layout (is_live s image) batch k l

      missing : Missing (table_of s image) key
      unfolding probe_of
      missing = not_live s image may.formed.sound key (is_new_lem s.layout (is_live s image) batch i new.new).absent

      noted_hint : Hint (table_of (with_slots s (s.slot_highwater + k)) (after_new s image batch k)) key (noted_place s image batch i)
      unfolding noted_place table_of with_slots with_counters
      noted_hint = rw new.new (go (some_delete s.layout batch) refl)
        where
          go : (deletes : Bool) → some_delete s.layout batch ≡ deletes
              → Hint (table_of (with_slots s (s.slot_highwater + k)) (after_new s image batch k)) key (kept_place s.layout.bucket_count (report_of s image key) deletes)
          go true e = λ inside free. absurd (omega arith)
          go false e = rw (reported_place s image key _ refl missing) (new_hinted s image batch may (all_puts s.layout batch e) k l key)

    pub all_hinted : AllHinted s batch places order (after_live s image batch (record_count s.layout batch))
    all_hinted k l =
        let below : k < new_count s.layout (is_live s image) batch = omega (arith, ready.ordered.counted) in
        rw (in_order k (omega arith), ready.ordered.each k l, ready.placed.each _ (new k below).inside) (noted_hint k below)

  pub applied : (b : List ℕ) → b ≡ after_new s image batch (length order) → (t : Shape) → t ≡ with_slots s (s.slot_highwater + length order) → settled t b ≡ committed s image batch
  unfolding committed
  applied b eb t et =
      ap₂ settled et eb
      ∙ ap (λ (k : ℕ). settled (with_slots s (s.slot_highwater + k)) (after_new s image batch k)) ready.ordered.counted
