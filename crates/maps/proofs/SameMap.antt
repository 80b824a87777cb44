-- What the map that lookup reads hangs on: the table, and what its slots show.
-- Assumes nothing.
use Prim.Native.Nat.{ℕ}
use mathlib.Core.Path.{◌≡◌, refl, ap, ◌∙◌}
use mathlib.Core.List.{List}
use mathlib.Core.Option.{some}
use Rattle.probing.specs.Table.{Table}
use Rattle.probing.specs.Probe.{Probed, found, absent, broken, probe}
use Rattle.header.specs.declared.shape.Shape.{Shape}
use Rattle.image.specs.Table.{table_of}
use Rattle.image.specs.Lookup.{probe_of}
use Rattle.slots.proofs.Table.Around.{SameSlot}
use Rattle.maps.specs.Map.{entry_at, map_of}
use Rattle.maps.proofs.MapWrites.{same_entry}

-- the same table and slots that read as they did
pub same_map : (s : Shape) (image image' : List ℕ) → table_of s image' ≡ table_of s image → ((n : ℕ) → SameSlot s.layout image image' n) → (k : List ℕ)
    → map_of s image' k ≡ map_of s image k
unfolding map_of probe_of
same_map s image image' table slots k = ap (λ (t : Table). entry_at s.layout image' (probe t k)) table ∙ go (probe (table_of s image) k)
  where
    go : (p : Probed) → entry_at s.layout image' p ≡ entry_at s.layout image p
    go (found n count) = ap some (same_entry (slots n))
    go (absent count) = refl
    go broken = refl
