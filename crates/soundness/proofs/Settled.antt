-- The end of a commit: the index rebuilt where it has many tombstones, and the counters published. The full check passes then.
-- Assumes nothing.
use Prim.Native.Nat.{ℕ, ◌+◌, ◌*◌, ◌^◌, ◌≤◌, ◌<◌}
use mathlib.Core.Bool.{Bool, true, false, cond}
use mathlib.Core.Path.{◌≡◌, refl, sym, ap, subst, ◌∙◌}
use mathlib.Core.List.{List}
use native.Mathlib.Omega.{arith}
use lib.Dec.{ltb}
use lib.ListN.{length}
use borrow.Author.Tests.{ltb-false}
use Rattle.probing.specs.Table.{Table, live_count, tombstone_count}
use Rattle.probing.specs.Check.{checks}
use Rattle.probing.specs.Clip.{clip}
use Rattle.probing.proofs.Clip.{tombstone_count_clip}
use Rattle.header.specs.declared.shape.Shape.{Shape}
use Rattle.header.specs.Fields as F
use Rattle.header.specs.Fields.{value}
use Rattle.header.specs.HeaderTest.{shape_of}
use Rattle.header.specs.Shaped.{Shaped}
use Rattle.image.specs.Table.{table_of}
use Rattle.image.specs.Check.{passes}
use Rattle.slots.specs.Slots.{rebuilt}
use Rattle.slots.proofs.Table.Around.{Around, around_self, around_generation, around_shape, around_shaped, SameSlot, same_slot_self, same_slot_then}
use Rattle.slots.proofs.Table.Rebuilt.{rebuilt_around, rebuilt_slot, rebuilt_table}
use Rattle.slots.proofs.Table.Counted as write
use Rattle.header.specs.Counters.{with_counters, with_slots}
use Rattle.soundness.specs.Apply.{tidied, recounted, settled}
use Rattle.soundness.proofs.Formed.{Formed, formed_clip, clip_formed, rebuilt_formed, rebuilt_clear, formed_passes}

-- What is left after "if 4 x tombstones > B, the index is rebuilt".
pub record Tidy (s : Shape) (image image' : List ℕ) : Type 0 where
  pub around : Around image image'
  pub fit : Shaped s image'
  pub slots : (n : ℕ) → n < s.layout.slot_capacity → SameSlot s.layout image image' n
  pub formed : Formed s.layout.ordered (table_of s image')
  pub few : 4 * tombstone_count (table_of s image') ≤ s.layout.bucket_count

module _ (s : Shape) (image : List ℕ) (fit : Shaped s image) (formed : Formed s.layout.ordered (table_of s image)) where
  within : Formed s.layout.ordered (clip (table_of s image))
  within = formed_clip (table_of s image) formed

  room : (clip (table_of s image)).highwater < (clip (table_of s image)).B
  unfolding clip table_of
  room = omega (arith, fit.highwater, fit.laid.room)

  rebuilt_tidy : Tidy s image (rebuilt s image)
  rebuilt_tidy =
      record {
        around = rebuilt_around s image fit;
        fit = around_shaped (rebuilt_around s image fit) fit;
        slots = rebuilt_slot s image fit;
        formed = clip_formed _ (subst (Formed s.layout.ordered) (sym (rebuilt_table s image fit)) (rebuilt_formed (clip (table_of s image)) within room));
        few = omega (arith, clear);
      }
    where
      clear : tombstone_count (table_of s (rebuilt s image)) ≡ 0
      clear =
          sym (tombstone_count_clip (table_of s (rebuilt s image)))
          ∙ ap tombstone_count (rebuilt_table s image fit)
          ∙ rebuilt_clear (clip (table_of s image)) within room

  pub tidied_tidy : Tidy s image (tidied s image)
  unfolding tidied
  tidied_tidy = go (ltb s.layout.bucket_count (4 * tombstone_count (table_of s image))) refl
    where
      go : (many : Bool) → ltb s.layout.bucket_count (4 * tombstone_count (table_of s image)) ≡ many → Tidy s image (cond many (rebuilt s image) image)
      go true e = rebuilt_tidy
      go false e =
          record {
            around = around_self;
            fit = fit;
            slots = λ n l. same_slot_self;
            formed = formed;
            few = ltb-false s.layout.bucket_count (4 * tombstone_count (table_of s image)) e;
          }

-- Where n slots are given out and the rest of the shape is the header's
module _ (s : Shape) (n : ℕ) (image : List ℕ) (head : shape_of image ≡ s) (fit : Shaped (with_slots s n) image)
    (formed : Formed s.layout.ordered (table_of (with_slots s n) image)) where
  abbrev given : Shape
  given = with_slots s n

  abbrev tidy : List ℕ
  tidy = tidied given image

  abbrev new : Shape
  new = recounted given tidy

  abbrev after : List ℕ
  after = settled given image

  pub is_tidy : Tidy given image tidy
  unfolding with_slots with_counters
  is_tidy = tidied_tidy given image fit formed

  abbrev table : Table
  table = table_of given tidy

  -- the new counters are those of a shape of the image
  pub recounted_fit : Shaped new tidy
  unfolding recounted with_slots with_counters table_of
  recounted_fit =
      record {
        laid = is_tidy.fit.laid;
        counters = omega (arith, is_tidy.formed.used, is_tidy.formed.balanced);
        highwater = is_tidy.fit.highwater;
      }

  pub settled_length : length after ≡ length image
  unfolding settled
  settled_length = write.counted_length new tidy recounted_fit ∙ is_tidy.around.size

  -- the slots stay
  pub settled_slot : (m : ℕ) → m < s.layout.slot_capacity → SameSlot s.layout image after m
  unfolding settled recounted with_slots with_counters
  settled_slot m l = same_slot_then (is_tidy.slots m l) (write.counted_slot new tidy recounted_fit m)

  -- the table stays
  settled_table : table_of new after ≡ table
  unfolding settled recounted with_slots with_counters table_of
  settled_table = write.counted_table new tidy recounted_fit

  module _ (more : value image F.generation + 2 < 2 ^ 64) where
    pub settled_shape : shape_of after ≡ write.counted_shape s new
    unfolding settled
    settled_shape =
        write.counted_shape_lem new tidy recounted_fit (rw (around_generation is_tidy.around) more)
        ∙ ap (λ (t : Shape). write.counted_shape t new) (around_shape is_tidy.around ∙ head)

    -- the full check passes
    pub settled_passes : passes (shape_of after) after ≡ true
    unfolding passes recounted with_slots with_counters table_of
    settled_passes =
        rw settled_shape
        (ap (λ (t : Table). checks t s.layout.ordered (live_count table) (live_count table) (tombstone_count table)) settled_table
        ∙ formed_passes table is_tidy.formed)
