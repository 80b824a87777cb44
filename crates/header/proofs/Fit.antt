-- What it says of an image that it passed the header test: all that later code relies on.
-- Assumes nothing.
use Prim.Native.Nat.{ℕ, ◌≤◌}
use mathlib.Core.Bool.{true}
use mathlib.Core.Path.{◌≡◌, sym}
use mathlib.Core.List.{List}
use native.Mathlib.Omega.{arith}
use borrow.Author.Tests.{eqb-true, ne_eqb}
use lib.ListN.{length}
use Rattle.header.specs.declared.options.Options.{Options}
use Rattle.header.specs.declared.shape.Shape.{Shape}
use Rattle.header.specs.Answer.{done}
use Rattle.header.specs.Fields as F
use Rattle.header.specs.Fields.{value}
use Rattle.header.specs.HeaderTest.{image_total, header_test, layout_of, shape_of}
use Rattle.header.specs.Shaped.{Shaped}
use Rattle.header.specs.Sizes.{most_slot_capacity, sizes_to_open, capacity_fits, total}
use Rattle.header.proofs.Allowed.{allowed, capacity_within}
use Rattle.header.proofs.PassedTests.{Agreed, agreed, Powered, powered, allowed_passed, length_passed, extent_passed, counters_passed}
use Rattle.header.proofs.Stages.{Passes, passes}

module _ (o : Options) (image : List ℕ) (passing : header_test o image ≡ 0) where
  passed : Passes o image
  passed = passes o image passing

  pub fit_allowed : sizes_to_open o ≡ true
  fit_allowed = allowed_passed o passed.first

  pub fit_length : 256 ≤ length image
  fit_length = length_passed image passed.second

  says : Agreed o image
  says = agreed o image passed.eighth

  -- the shape's sizes are the options'
  pub fit_key_size : (shape_of image).layout.key_size ≡ o.key_size
  unfolding shape_of layout_of
  fit_key_size = says.key

  pub fit_index_size : (shape_of image).layout.index_size ≡ o.index_size
  unfolding shape_of layout_of
  fit_index_size = says.index

  -- "within 1 to 1,048,576", whatever the option says (CR 10)
  pub fit_capacity : (1 ≤ (shape_of image).layout.slot_capacity) × ((shape_of image).layout.slot_capacity ≤ most_slot_capacity)
  unfolding shape_of layout_of
  fit_capacity =
      capacity_within o.slot_capacity (value image F.slot_capacity_field) (allowed o fit_allowed).capacity_high says.capacity

  -- and a given capacity is the header's
  pub fit_given : (o.slot_capacity ≡ 0 → ⊥) → (shape_of image).layout.slot_capacity ≡ o.slot_capacity
  unfolding shape_of layout_of capacity_fits
  fit_given given = eqb-true _ _ (rw (ne_eqb o.slot_capacity 0 given) at says.capacity)

  -- "any power of two above slot_capacity, up to 4,194,304" (CR 10)
  pub fit_powered : Powered image
  fit_powered = powered image passed.ninth

  -- "a length other than the total" (CR 8): not this
  pub fit_total : length image ≡ image_total image
  fit_total = (extent_passed image passed.tenth).1

  pub fit_shaped : Shaped (shape_of image) image
  unfolding shape_of layout_of image_total total
  fit_shaped =
      record {
        laid = record {
          keys = rw says.key (allowed o fit_allowed).key_high;
          slot = rw (says.key, says.index) says.slot;
          offset = (extent_passed image passed.tenth).0;
          size = rw (extent_passed image passed.tenth).0 fit_total;
          power = fit_powered.power;
          room = fit_powered.above;
          small = omega (arith, fit_powered.most);
        };
        counters = (counters_passed image passed.eleventh).0;
        highwater = (counters_passed image passed.eleventh).1;
      }

-- and of a shape that `judge` hands on
pub judged_shaped : (o : Options) (image : List ℕ) {s : Shape} → done ≡ header_test o image → s ≡ shape_of image → Shaped s image
judged_shaped o image passing shape = rw shape (fit_shaped o image (sym passing))
