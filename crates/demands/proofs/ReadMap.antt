-- The map that lookup's answers tell is that of the probe rule, where the header test passes and the table is sound.
-- Assumes nothing.
use Prim.Native.Nat.{ℕ}
use mathlib.Core.Path.{◌≡◌, refl, sym, ap, ◌∙◌, fun_ext}
use mathlib.Core.List.{List}
use mathlib.Core.Option.{Option, some, none}
use native.Mathlib.Decide.{ℕ_discrete}
use native.Mathlib.Omega.{arith}
use lib.ListN.{length}
use Rattle.probing.specs.Sound.{Sound}
use Rattle.header.specs.declared.options.Options.{Options}
use Rattle.header.specs.declared.shape.Shape.{Shape}
use Rattle.header.specs.HeaderTest.{header_test, shape_of}
use Rattle.header.proofs.Fit.{fit_key_size, fit_shaped}
use Rattle.image.specs.Table.{table_of}
use Rattle.image.proofs.Places.{key_length}
use Rattle.maps.specs.Map.{Entry, map_of}
use Rattle.maps.proofs.MapSlots.{some_iff}
use Rattle.maps.proofs.ReadsMap.{lookup_some, lookup_none}
use Rattle.demands.specs.History.{read_by}
use Rattle.demands.proofs.Demand1.{wrong_length}

module _ (o : Options) (image : List ℕ) (z : header_test o image ≡ 0) (sound : Sound (table_of (shape_of image) image)) where
  abbrev s : Shape
  s = shape_of image

  -- a key of the map has the right length: it is a slot's
  pub key_sized : (key : List ℕ) (e : Entry) → map_of s image key ≡ some e → length key ≡ s.layout.key_size
  key_sized key e q =
      let has = (some_iff s image sound key e).0 q in
      let shaped = fit_shaped o image z in
      ap length (sym has.1.key) ∙ key_length s.layout image shaped.laid has.0 (omega (arith, has.1.below, shaped.highwater))

  pub read_map : read_by o image ≡ map_of s image
  read_map = fun_ext (λ key. go key (map_of s image key) refl)
    where
      same_size : s.layout.key_size ≡ o.key_size
      same_size = fit_key_size o image z

      lacks : (key : List ℕ) → map_of s image key ≡ none → Dec (length key ≡ s.layout.key_size) → read_by o image key ≡ map_of s image key
      lacks key q (yes size) = rw ((lookup_none o image key z size sound q).0, q) refl
      lacks key q (no other) = rw (wrong_length o image key z (λ e. other (e ∙ sym same_size)), q) refl

      go : (key : List ℕ) (m : Option Entry) → map_of s image key ≡ m → read_by o image key ≡ map_of s image key
      go key (some e) q = let l = lookup_some o image key z (key_sized key e q) sound e q in rw (l.0, l.1, l.2, q) refl
      go key none q = lacks key q (ℕ_discrete (length key) s.layout.key_size)
