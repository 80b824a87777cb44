-- A listing that leaves none out lists the map: each wanted key of it once, in a slot that shows what the map says, and nothing
-- else.
-- Assumes nothing.
use Prim.Native.Nat.{ℕ, ◌≤◌, ◌<◌}
use mathlib.Core.Path.{◌≡◌, refl, sym, ◌∙◌}
use mathlib.Core.Bool.{Bool, true, ◌&&◌, and-eq-true_iff}
use mathlib.Core.List.{List}
use mathlib.Core.Option.{some}
use native.Mathlib.Omega.{arith}
use lib.Dec.{eqb}
use lib.ListN.{length, get_or}
use borrow.Author.Tests.{eqb-true}
use Rattle.probing.specs.Sound.{Sound}
use Rattle.header.specs.declared.options.Options.{Options}
use Rattle.header.specs.declared.shape.Shape.{Shape}
use Rattle.header.specs.Fields as F
use Rattle.header.specs.Fields.{value}
use Rattle.header.specs.HeaderTest.{header_test, layout_of, shape_of}
use Rattle.header.proofs.Fit.{fit_shaped}
use Rattle.image.specs.Table.{meta_of, key_of, table_of}
use Rattle.listing.specs.Scan.{matches, list}
use Rattle.listing.proofs.Passing.{passing_le}
use Rattle.maps.specs.Map.{Entry, map_of}
use Rattle.maps.proofs.MapSlots.{Has, entry_of, map_has, some_iff, one_has}
use Rattle.demands.specs.Listings.{Roomy, entry, Lists}
use Rattle.demands.specs.Shows.{Shows}
use Rattle.demands.proofs.Ascending.{passing_ascends, listed_once}
use Rattle.demands.proofs.Pieces.{whole_list, whole_list_lem, whole_entry}
use Rattle.demands.proofs.Shown.{slot_shows}

module _ (o : Options) (image : List ℕ) (z : header_test o image ≡ 0) (wanted : List ℕ → Bool) where
  abbrev s : Shape
  s = shape_of image

  -- whether slot n is live and its key wanted
  abbrev picked : ℕ → Bool
  picked n = eqb (meta_of s.layout image n) 1 && wanted (key_of s.layout image n)

  abbrev slots : List ℕ
  slots = matches s image wanted

  -- there is room for them where there is for every slot
  pub few : length slots ≤ value image F.slot_capacity_field
  unfolding matches shape_of layout_of
  few = omega (arith, passing_le picked s.slot_highwater, (fit_shaped o image z).highwater)

  inside : (n : ℕ) → n < s.slot_highwater → n < s.layout.slot_capacity
  inside n h = omega (arith, (fit_shaped o image z).highwater)

  module _ (sound : Sound (table_of s image)) (limit : ℕ) (numbers : List ℕ) (roomy : Roomy image limit numbers) where
    long : length slots ≤ length numbers
    long = omega (arith, few, roomy.long)

    at : (i : ℕ) → i < length slots → entry (whole_list slots numbers) i ≡ get_or slots i 0
    at = whole_entry slots numbers long

    -- entry i is a live slot, and its key is wanted
    live : (i : ℕ) → i < length slots → Has s image (key_of s.layout image (get_or slots i 0)) (get_or slots i 0) × (wanted (key_of s.layout image (get_or slots i 0)) ≡ true)
    unfolding matches
    live i h =
        let a = (passing_ascends picked s.slot_highwater).each i h in
        let p = (and-eq-true_iff (eqb (meta_of s.layout image (get_or slots i 0)) 1) (wanted (key_of s.layout image (get_or slots i 0)))).0 a.1 in
        (record { below = a.0; alive = eqb-true _ 1 p.0; key = refl }, p.1)

    shows : (i : ℕ) → i < length slots → Shows o image (get_or slots i 0) (key_of s.layout image (get_or slots i 0)) (entry_of s.layout image (get_or slots i 0))
    shows i h = slot_shows o image z (get_or slots i 0) (inside _ (live i h).0.below)

    -- what two shown entries have in common they have as keys of slots
    shown_key : (i : ℕ) → i < length slots → (key : List ℕ) (e : Entry) → Shows o image (entry (whole_list slots numbers) i) key e → key_of s.layout image (get_or slots i 0) ≡ key
    shown_key i h key e x = sym (shows i h).key_bytes ∙ (rw (at i h) at x).key_bytes

    every : (key : List ℕ) (e : Entry) → map_of s image key ≡ some e → wanted key ≡ true
        → (i : ℕ) × ((i < length slots) × Shows o image (entry (whole_list slots numbers) i) key e)
    unfolding matches
    every key e q w =
        let h = (some_iff s image sound key e).0 q in
        let r = (passing_ascends picked s.slot_highwater).every h.0 h.1.below (rw (h.1.alive, h.1.key, w) refl) in
        (r.0, (r.1.0, rw (at r.0 r.1.0, r.1.1) (rw (h.1.key, h.2) at (slot_shows o image z h.0 (inside _ h.1.below)))))

    ascending : (i j : ℕ) → i < j → j < length slots → entry (whole_list slots numbers) i < entry (whole_list slots numbers) j
    unfolding matches
    ascending i j l h = rw (at i (omega arith), at j h) ((passing_ascends picked s.slot_highwater).rises i j l h)

    once : (i j : ℕ) → i < length slots → j < length slots → (key : List ℕ) (d e : Entry)
        → Shows o image (entry (whole_list slots numbers) i) key d → Shows o image (entry (whole_list slots numbers) j) key e → i ≡ j
    unfolding matches
    once i j hi hj key d e x y =
        listed_once picked (passing_ascends picked s.slot_highwater) i j hi hj
        (one_has s image sound key _ _ (rw (shown_key i hi key d x) at (live i hi).0) (rw (shown_key j hj key e y) at (live j hj).0))

    lists : Lists o image (map_of s image) wanted (whole_list slots numbers)
    lists =
        record {
          answers = refl;
          all = refl;
          each = λ i h. (
            key_of s.layout image (get_or slots i 0),
            (entry_of s.layout image (get_or slots i 0), (rw (at i h) (shows i h), map_has s image sound _ (get_or slots i 0) (live i h).0, (live i h).1)),
          );
          every = every;
          ascending = ascending;
          once = once;
        }

    pub lists_map : Lists o image (map_of s image) wanted (list slots 0 limit numbers)
    lists_map = rw (whole_list_lem slots limit numbers (omega (arith, few, roomy.high)) long) lists
