-- The bytes of a field, copied out whole.
-- Assumes nothing.
use Prim.Native.Nat.{ℕ, ◌≤◌, ◌<◌}
use mathlib.Core.Path.{◌≡◌, refl}
use mathlib.Core.List.{List}
use native.Mathlib.Omega.{arith}
use lib.ListN.{length}
use Rattle.numbers.proofs.Put.{length_part}
use Rattle.header.specs.Fields.{field_of, bytes_in}
use Rattle.header.proofs.Table.{inside}

-- a field has as many bytes as its width
pub bytes_length : (image : List ℕ) (name : ℕ) → 256 ≤ length image → name < 23 → length (bytes_in image name) ≡ (field_of name).width
unfolding bytes_in
bytes_length image name h n = length_part image (field_of name).offset (field_of name).width (omega (arith, inside name {f = field_of name} n refl))
