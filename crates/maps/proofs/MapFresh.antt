-- A fresh image shows the empty map.
-- Assumes nothing.
use Prim.Native.Nat.{ℕ}
use mathlib.Core.Path.{◌≡◌, ap}
use mathlib.Core.List.{List}
use mathlib.Core.Option.{none}
use native.Mathlib.Omega.{arith}
use Rattle.header.specs.declared.options.Options.{Options}
use Rattle.header.specs.declared.shape.Shape.{Shape}
use Rattle.header.specs.Fields as F
use Rattle.header.specs.FirstOf.{first_of}
use Rattle.header.specs.State.{with_role}
use Rattle.header.specs.HeaderTest.{create_test1, shape_of}
use Rattle.image.proofs.FullCheck.{passes_whole}
use Rattle.writing.specs.Create.{fresh}
use Rattle.writing.proofs.OneField.{Fits}
use Rattle.writing.proofs.Fresh.{fresh_header}
use Rattle.writing.proofs.FreshTable.{fresh_shape_lem, fresh_passes}
use Rattle.maps.specs.Map.{map_of}
use Rattle.maps.proofs.MapSlots.{map_lacks}

pub fresh_map : (o : Options) → first_of (create_test1 o) ≡ 0 → Fits F.user_version o.user_version → (k : List ℕ)
    → map_of (shape_of (fresh o)) (fresh o) k ≡ none
fresh_map o first version k =
    let image = fresh o in
    let passed = fresh_header o first version 0 (omega arith) in
    let whole = passes_whole (with_role o 0) image passed (fresh_passes o first version) in
    let high : (shape_of image).slot_highwater ≡ 0 = ap (λ (s : Shape). s.slot_highwater) (fresh_shape_lem o first version) in
    map_lacks (shape_of image) image whole.sound k (λ n h. let b = h.below in omega arith)
