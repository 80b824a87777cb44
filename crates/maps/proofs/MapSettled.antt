-- The rebuilt index and the header written: neither changes the map that lookup reads.
-- Assumes nothing.
use Prim.Native.Nat.{ℕ, ◌+◌, ◌^◌, ◌<◌}
use mathlib.Core.Path.{◌≡◌, refl, ap, ◌∙◌}
use mathlib.Core.List.{List}
use native.Mathlib.Omega.{arith}
use Rattle.header.specs.declared.shape.Shape.{Shape}
use Rattle.header.specs.Fields as F
use Rattle.header.specs.Fields.{value}
use Rattle.header.specs.HeaderTest.{shape_of}
use Rattle.header.specs.Shaped.{Shaped}
use Rattle.image.specs.Table.{table_of}
use Rattle.image.specs.Lookup.{probe_of}
use Rattle.slots.specs.Slots.{counted}
use Rattle.slots.proofs.Table.Counted as write
use Rattle.header.specs.Counters.{with_counters, with_slots}
use Rattle.soundness.specs.Apply.{tidied, recounted, settled}
use Rattle.maps.specs.Map.{map_of}
use Rattle.soundness.proofs.Formed.{Formed}
use Rattle.soundness.proofs.Settled.{is_tidy, recounted_fit, settled_shape}
use Rattle.maps.proofs.MapSlots.{map_kept}
use Rattle.maps.proofs.SameMap.{same_map}
use Rattle.maps.proofs.MapWrites.{same_has, has_same, same_entry}

-- Where n slots are given out and the rest of the shape is the header's, settling leaves the map, read by the new header.
module _ (s : Shape) (n : ℕ) (image : List ℕ) (head : shape_of image ≡ s) (fit : Shaped (with_slots s n) image)
    (formed : Formed s.layout.ordered (table_of (with_slots s n) image)) (more : value image F.generation + 2 < 2 ^ 64) (k : List ℕ) where
  abbrev given : Shape
  given = with_slots s n

  abbrev tidy : List ℕ
  tidy = tidied given image

  abbrev new : Shape
  new = recounted given tidy

  -- the map hangs on the layout and on highwater alone
  read_alike : map_of (write.counted_shape s new) (counted new tidy) k ≡ map_of new (counted new tidy) k
  unfolding map_of probe_of table_of recounted with_slots with_counters
  read_alike = refl

  new_alike : map_of new tidy k ≡ map_of given tidy k
  unfolding map_of probe_of table_of recounted with_slots with_counters
  new_alike = refl

  -- the slots stay through a rebuild
  tidied_map : map_of given tidy k ≡ map_of given image k
  tidied_map =
      let tidied = is_tidy s n image head fit formed in
      map_kept given image formed.sound given tidy tidied.formed.sound k
      (λ m h. let same = tidied.slots m (omega (arith, h.below, fit.highwater)) in (same_has same h, same_entry same))
      (λ m h. has_same (tidied.slots m (omega (arith, h.below, fit.highwater))) h)

  pub settled_map : map_of (shape_of (settled given image)) (settled given image) k ≡ map_of given image k
  unfolding settled
  settled_map =
      let fit' = recounted_fit s n image head fit formed in
      ap (λ (t : Shape). map_of t (counted new tidy) k) (settled_shape s n image head fit formed more)
      ∙ read_alike
      ∙ same_map new tidy (counted new tidy) (write.counted_table new tidy fit') (write.counted_slot new tidy fit') k
      ∙ new_alike
      ∙ tidied_map
