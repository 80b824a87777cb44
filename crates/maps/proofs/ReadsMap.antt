-- Lookup reads the map: of a sound table it answers 0 with a key's revision and index, and 9 for a key that has none.
-- Assumes nothing.
use Prim.Native.Nat.{ℕ}
use mathlib.Core.Path.{◌≡◌, sym, ap, ◌∙◌}
use mathlib.Core.List.{List, []}
use mathlib.Core.Option.{some, none}
use lib.IntN.{pos}
use lib.ListN.{length}
use Rattle.probing.specs.Probe.{Probed}
use Rattle.probing.specs.Sound.{Sound}
use Rattle.header.specs.declared.options.Options.{Options}
use Rattle.header.specs.Answer.{done, not_present}
use Rattle.header.specs.HeaderTest.{header_test, shape_of}
use Rattle.image.specs.Table.{table_of}
use Rattle.image.specs.Lookup.{Lookup, probe_of, lookup_by, lookup_of, index_by, index_part}
use Rattle.image.proofs.Looked.{looked_by}
use Rattle.maps.specs.Map.{Entry, map_of}
use Rattle.maps.proofs.MapSlots.{has_found, lacks_absent, some_iff, none_iff}

module _ (o : Options) (image key : List ℕ) (header : header_test o image ≡ 0) (size : length key ≡ (shape_of image).layout.key_size) where
  -- lookup, by what the probe ends in
  looked : (p : Probed) → probe_of (shape_of image) image key ≡ p → lookup_of o image key ≡ lookup_by (shape_of image) image p
  unfolding lookup_of
  looked p e = rw header (sym (looked_by (shape_of image) image key size p e))

  indexed : (p : Probed) → probe_of (shape_of image) image key ≡ p
      → index_part o image key ≡ index_by (shape_of image) image (lookup_by (shape_of image) image p)
  unfolding index_part
  indexed p e = ap (index_by (shape_of image) image) (looked p e)

  module _ (sound : Sound (table_of (shape_of image) image)) where
    -- a key that has an entry: 0, with its revision and index
    pub lookup_some : (e : Entry) → map_of (shape_of image) image key ≡ some e
        → ((lookup_of o image key).answer ≡ done) × ((lookup_of o image key).revision ≡ e.revision) × (index_part o image key ≡ e.index)
    lookup_some e q =
        let has = (some_iff (shape_of image) image sound key e).0 q in
        let there = has_found (shape_of image) image sound key has.0 has.1 in
        let l = looked _ there.1 in (
          ap (λ (x : Lookup). x.answer) l,
          ap (λ (x : Lookup). x.revision) l ∙ ap (λ (x : Entry). x.revision) has.2,
          indexed _ there.1 ∙ ap (λ (x : Entry). x.index) has.2,
        )

    -- a key that has none: 9, and nothing with it
    pub lookup_none : map_of (shape_of image) image key ≡ none
        → ((lookup_of o image key).answer ≡ not_present) × ((lookup_of o image key).revision ≡ pos 0) × (index_part o image key ≡ [])
    lookup_none q =
        let there = lacks_absent (shape_of image) image sound key ((none_iff (shape_of image) image sound key).0 q) in
        let l = looked _ there.1 in
        (ap (λ (x : Lookup). x.answer) l, ap (λ (x : Lookup). x.revision) l, indexed _ there.1)
