-- The index rebuilt: all zero, then the live slots in slot order. The slots stay.
-- Assumes nothing.
use Prim.Native.Nat.{ℕ, zero, suc, ◌+◌, ◌*◌, ◌≤◌, ◌<◌}
use mathlib.Core.Bool.{Bool, true, false, cond}
use mathlib.Core.Path.{◌≡◌, refl, sym, ap, ◌∙◌}
use mathlib.Core.List.{List}
use native.Mathlib.Nat.{le_refl, add_assoc}
use native.Mathlib.Numerals.{add-one}
use native.Mathlib.Omega.{arith}
use lib.Dec.{eqb}
use borrow.Author.Tests.{lt-ltb}
use lib.ListN.{length, replicate, length-replicate}
use Rattle.numbers.specs.Bytes.{word, part, put}
use Rattle.numbers.proofs.PutPart.{part_put_in}
use Rattle.probing.specs.Table.{EMPTY, Table, live_count}
use Rattle.probing.specs.Probe.{probe}
use Rattle.probing.specs.Report.{Missing}
use Rattle.probing.specs.Sound.{Sound}
use Rattle.probing.specs.Change as change
use Rattle.probing.specs.Change.{placed}
use Rattle.probing.specs.Clip.{clip}
use Rattle.probing.proofs.Clip.{agree_clip, probe_clip, live_clip, sound_clip, clip_emptied}
use Rattle.probing.proofs.Counting.{count_le}
use Rattle.probing.proofs.Rebuild.{unbuilt}
use Rattle.header.specs.declared.shape.Shape.{Shape}
use Rattle.header.specs.Shaped.{Shaped}
use Rattle.header.specs.Sizes.{buckets_offset}
use Rattle.image.specs.Table.{bucket_at, meta_of, key_of, bucket_from, bucket_of, table_of}
use Rattle.image.proofs.Places.{slot_ends}
use Rattle.slots.specs.Slots.{indexed, rebuilt_to, rebuilt}
use Rattle.slots.proofs.Table.ReadBack.{word_zeros}
use Rattle.slots.proofs.Table.Around.{put_before, Around, around_then, around_shaped, put_around, SameSlot, same_slot, same_slot_then}
use Rattle.slots.proofs.Table.Indexed.{indexed_around, indexed_slot, indexed_table}

-- The index holds the live slots below n, and all else is as it was.
pub record Built (s : Shape) (image : List ℕ) (n : ℕ) (image' : List ℕ) : Type 0 where
  pub around : Around image image'
  pub slots : (m : ℕ) → m < s.layout.slot_capacity → SameSlot s.layout image image' m
  pub table : clip (table_of s image') ≡ change.rebuilt_to (clip (table_of s image)) n

module _ (s : Shape) (image : List ℕ) (fit : Shaped s image) where
  -- the image with all buckets zero
  abbrev zeros : List ℕ
  zeros = replicate (16 * s.layout.bucket_count) 0

  abbrev empty : List ℕ
  empty = put image s.layout.buckets_offset zeros

  fits : s.layout.buckets_offset + length zeros ≤ length image
  fits = omega (arith, fit.laid.size, length-replicate {A = ℕ} (16 * s.layout.bucket_count) 0)

  word_zero : (j : ℕ) → j + 8 ≤ 16 * s.layout.bucket_count → word (part empty (s.layout.buckets_offset + j) 8) ≡ 0
  word_zero j l =
      ap word (part_put_in image s.layout.buckets_offset zeros fits j 8 (omega (arith, length-replicate {A = ℕ} (16 * s.layout.bucket_count) 0)))
      ∙ word_zeros (16 * s.layout.bucket_count) j l

  empty_bucket : (b : ℕ) → b < s.layout.bucket_count → bucket_of s.layout empty b ≡ EMPTY
  unfolding bucket_of bucket_from bucket_at
  empty_bucket b l = rw (add_assoc s.layout.buckets_offset (16 * b) 8, word_zero (16 * b + 8) (omega arith)) refl

  empty_slots : (m : ℕ) → m < s.layout.slot_capacity → SameSlot s.layout image empty m
  empty_slots m l = same_slot s.layout image empty fit.laid m (put_before image s.layout.buckets_offset zeros fits _ _ (slot_ends s.layout image fit.laid m l))

  built_none : Built s image 0 (rebuilt_to s image 0)
  unfolding rebuilt_to buckets_offset change.rebuilt_to table_of
  built_none =
      record {
        around = put_around image s.layout.buckets_offset zeros (omega (arith, fit.laid.offset)) fits;
        slots = empty_slots;
        table =
            agree_clip (table_of s empty) (change.rebuilt_to (table_of s image) 0) refl refl refl empty_bucket
            (λ m l. (empty_slots m (omega (arith, l, fit.highwater))).meta) (λ m l. (empty_slots m (omega (arith, l, fit.highwater))).key)
            ∙ clip_emptied (table_of s image);
      }

  -- what slot n does to the table
  step : (n : ℕ) → n < s.slot_highwater → (alive : Bool) → eqb (meta_of s.layout image n) 1 ≡ alive
      → change.rebuilt_to (clip (table_of s image)) (suc n)
      ≡ cond alive (placed (change.rebuilt_to (clip (table_of s image)) n) n) (change.rebuilt_to (clip (table_of s image)) n)
  unfolding change.rebuilt_to table_of
  step n l alive e =
      ap (λ (r : Bool). cond r (placed (change.rebuilt_to (clip (table_of s image)) n) n) (change.rebuilt_to (clip (table_of s image)) n))
      (live_clip (table_of s image) n l ∙ e)

  -- slot by slot
  pub built : (n : ℕ) → n ≤ s.slot_highwater → Built s image n (rebuilt_to s image n)
  unfolding rebuilt_to
  built zero l = built_none
  built (suc n) l = go (eqb (meta_of s.layout image n) 1) refl (built n (omega arith))
    where
      inside : n < s.layout.slot_capacity
      inside = omega (arith, fit.highwater)

      go : (alive : Bool) → eqb (meta_of s.layout image n) 1 ≡ alive → Built s image n (rebuilt_to s image n)
          → Built s image (suc n) (cond alive (indexed s (rebuilt_to s image n) n) (rebuilt_to s image n))
      go true e b =
          let before = rebuilt_to s image n in
          let fit' = around_shaped b.around fit in
          record {
            around = around_then b.around (indexed_around s before fit' n inside);
            slots = λ m below. same_slot_then (b.slots m below) (indexed_slot s before fit' n inside m below);
            table = indexed_table s before fit' n inside l ∙ ap (λ (t : Table). placed t n) b.table ∙ sym (step n l true e);
          }
      go false e b = record { around = b.around; slots = b.slots; table = b.table ∙ sym (step n l false e) }

  -- one slot more, by the meta that the image has by then
  pub rebuilt_more : (n : ℕ) (before : List ℕ) → n < s.slot_highwater → before ≡ rebuilt_to s image n
      → cond (eqb (meta_of s.layout before n) 1) (indexed s before n) before ≡ rebuilt_to s image (n + 1)
  unfolding rebuilt_to
  rebuilt_more n before l e =
      let meta = ((built n (omega arith)).slots n (omega (arith, fit.highwater))).meta in
      rw (add-one, e) (ap (λ (m : ℕ). cond (eqb m 1) (indexed s (rebuilt_to s image n) n) (rebuilt_to s image n)) meta)

  -- its key is not in the index yet
  pub rebuilt_missing : Sound (table_of s image) → (n : ℕ) (before : List ℕ) → n < s.slot_highwater → before ≡ rebuilt_to s image n
      → meta_of s.layout before n ≡ 1 → Missing (table_of s before) (key_of s.layout before n)
  unfolding clip table_of live_count
  rebuilt_missing sound n before l e alive =
      let t = clip (table_of s image) in
      let b = built n (omega arith) in
      let slot = b.slots n (omega (arith, fit.highwater)) in
      let below = lt-ltb n s.slot_highwater l in
      let key : key_of s.layout before n ≡ t.key n = rw (e, below) slot.key in
      let none = unbuilt t (omega (arith, count_le s.slot_highwater (λ m. eqb (t.meta m) 1), fit.highwater, fit.laid.room))
      ((sound_clip (table_of s image)).1 sound).different n l (rw below (sym slot.meta ∙ (rw e at alive))) in (
        none.0,
        ap (probe (table_of s before)) key
            ∙ sym (probe_clip (table_of s before) (omega (arith, fit.laid.room)) (t.key n))
            ∙ ap (λ (u : Table). probe u (t.key n)) (ap (λ (i : List ℕ). clip (table_of s i)) e ∙ b.table)
            ∙ none.1,
      )

  pub rebuilt_around : Around image (rebuilt s image)
  unfolding rebuilt
  rebuilt_around = (built s.slot_highwater (le_refl _)).around

  -- the slots stay
  pub rebuilt_slot : (m : ℕ) → m < s.layout.slot_capacity → SameSlot s.layout image (rebuilt s image) m
  unfolding rebuilt
  rebuilt_slot = (built s.slot_highwater (le_refl _)).slots

  -- the table with the index rebuilt
  pub rebuilt_table : clip (table_of s (rebuilt s image)) ≡ change.rebuilt (clip (table_of s image))
  unfolding rebuilt change.rebuilt clip table_of
  rebuilt_table = (built s.slot_highwater (le_refl _)).table
