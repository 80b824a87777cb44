-- A change of state or of user fields leaves the map that lookup reads.
-- Assumes nothing.
use Prim.Native.Nat.{ℕ, ◌≤◌}
use mathlib.Core.Path.{◌≡◌, ap, ◌∙◌}
use mathlib.Core.List.{List}
use native.Mathlib.Omega.{arith}
use Rattle.header.specs.declared.options.Options.{Options}
use Rattle.header.specs.declared.shape.Shape.{Shape}
use Rattle.header.specs.HeaderTest.{header_test, shape_of}
use Rattle.header.specs.Shaped.{Shaped}
use Rattle.header.specs.Sizes.{buckets_offset}
use Rattle.header.proofs.Fit.{fit_shaped}
use Rattle.image.specs.Table.{slot_at, table_of}
use Rattle.image.specs.Lookup.{probe_of}
use Rattle.writing.proofs.Lasting.{Kept}
use Rattle.writing.proofs.LastingTable.{kept_shape, kept_table}
use Rattle.slots.proofs.Table.Around.{SameSlot, same_slot}
use Rattle.maps.specs.Map.{map_of}
use Rattle.maps.proofs.SameMap.{same_map}

module _ (s : Shape) (image image' : List ℕ) (fit : Shaped s image) (kept : Kept image image') where
  offset : 256 ≤ s.layout.buckets_offset
  unfolding buckets_offset
  offset = omega (arith, fit.laid.offset)

  slots : (n : ℕ) → SameSlot s.layout image image' n
  unfolding slot_at
  slots n = same_slot s.layout image image' fit.laid n (record { parts = λ a m from to. kept.behind a m (omega arith) })

-- Where the header test passes, the map after is the map before, each read by its own header.
pub kept_map : (o : Options) (image image' : List ℕ) → header_test o image ≡ 0 → Kept image image' → (k : List ℕ)
    → map_of (shape_of image') image' k ≡ map_of (shape_of image) image k
unfolding map_of probe_of table_of
kept_map o image image' z kept k =
    let s = shape_of image in
    let fit = fit_shaped o image z in
    ap (λ (t : Shape). map_of t image' k) (kept_shape image image' kept)
    ∙ same_map s image image' (kept_table image image' kept s (offset s image image' fit kept)) (slots s image image' fit kept) k
