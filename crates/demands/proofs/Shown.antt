-- What a host reads at a slot is what the library reads there: the places that the host is given are those of the image.
-- Assumes nothing.
use Prim.Native.Nat.{ℕ, zero, suc, ◌-◌, ◌<◌}
use mathlib.Core.Bool.{cond}
use mathlib.Core.Path.{◌≡◌, refl, ◌∙◌}
use mathlib.Core.List.{List}
use native.Mathlib.Omega.{arith}
use borrow.Author.Tests.{lt-ltb, ne_eqb}
use lib.Dec.{eqb}
use Rattle.header.specs.declared.options.Options.{Options}
use Rattle.header.specs.declared.shape.Shape.{Shape}
use Rattle.header.specs.HeaderTest.{header_test, layout_of, shape_of}
use Rattle.header.specs.Shaped.{Shaped}
use Rattle.header.specs.Sizes.{most_slot_capacity}
use Rattle.header.proofs.Fit.{fit_shaped, fit_key_size, fit_index_size, fit_capacity, fit_given}
use Rattle.header.proofs.Stages.{passes}
use Rattle.image.specs.Table.{slot_at, key_at, revision_at, index_at, key_of, revision_of, index_of}
use Rattle.image.proofs.Places.{revision_in_slot, key_inside, index_inside}
use Rattle.host.specs.Places.{slots_for, place_in, key_place, index_place}
use Rattle.maps.proofs.MapSlots.{entry_of}
use Rattle.demands.specs.Shows.{Shows}

module _ (o : Options) (image : List ℕ) (z : header_test o image ≡ 0) where
  abbrev s : Shape
  s = shape_of image

  shaped : Shaped s image
  shaped = fit_shaped o image z

  pub same_key_size : s.layout.key_size ≡ o.key_size
  same_key_size = fit_key_size o image z

  same_index_size : s.layout.index_size ≡ o.index_size
  same_index_size = fit_index_size o image z

  -- a slot of the image is one that there can be under the options
  can_be : (n : ℕ) → n < s.layout.slot_capacity → n < slots_for o.slot_capacity
  unfolding slots_for
  can_be n inside = go o.slot_capacity refl
    where
      go : (option : ℕ) → o.slot_capacity ≡ option → n < cond (eqb option 0) most_slot_capacity option
      go zero e = omega (arith, (fit_capacity o image z).1)
      go (suc m) e = rw (ne_eqb (suc m) 0 (λ z. omega arith)) (omega (arith, e, fit_given o image z (λ z. omega arith)))

  module _ (n : ℕ) (inside : n < s.layout.slot_capacity) where
    given : (place : ℕ) → place_in o n place ≡ place
    unfolding place_in
    given place = rw ((passes o image z).first, lt-ltb n (slots_for o.slot_capacity) (can_be n inside)) refl

    key_placed : key_place o n ≡ key_at s.layout n
    unfolding key_place key_at slot_at
    key_placed = given _ ∙ rw (shaped.laid.slot, same_key_size, same_index_size) refl

    index_placed : index_place o n ≡ index_at s.layout n
    unfolding index_place index_at slot_at
    index_placed = given _ ∙ rw (shaped.laid.slot, same_key_size, same_index_size) refl

    revision_placed : index_place o n - 8 ≡ revision_at s.layout n
    revision_placed = omega (arith, index_placed, revision_in_slot s.layout n)

    -- a slot shows its key and its entry
    pub slot_shows : Shows o image n (key_of s.layout image n) (entry_of s.layout image n)
    unfolding key_of revision_of index_of shape_of layout_of
    slot_shows =
        record {
          below = inside;
          key_bytes = rw (key_placed, ← same_key_size) refl;
          index_bytes = rw (index_placed, ← same_index_size) refl;
          revision_bytes = rw revision_placed refl;
          key_inside = rw (key_placed, ← same_key_size) (key_inside s.layout image shaped.laid n inside);
          index_inside = rw (index_placed, ← same_index_size) (index_inside s.layout image shaped.laid n inside);
        }
