-- What the inner functions of a listing go by: which pattern a key can be compared with, and which slots are wanted.
-- Assumes nothing.
use Rattle.std.specs.Prelude.{ℕ, ◌+◌, ◌/◌, ◌≤◌, Bool, ◌&&◌, ◌≡◌, List, eqb, length}
use Rattle.header.specs.declared.shape.Shape.{Shape}
use Rattle.image.specs.Table.{meta_of, key_of}
use Rattle.listing.specs.Scan.{passing}

-- the pattern has exactly the bytes needed, inside a key of this size
pub record RightPattern (size offset bits : ℕ) (pattern : List ℕ) : Type 0 where
  pub bytes : length pattern ≡ (bits + 7) / 8
  pub inside : offset + length pattern ≤ size

-- slot n is live and its key passes a test
unfoldable pub wanted_at : Shape → List ℕ → (List ℕ → Bool) → ℕ → Bool
wanted_at s image wanted n = eqb (meta_of s.layout image n) 1 && wanted (key_of s.layout image n)

-- the wanted slots, ascending
abbrev pub wanted_slots : Shape → List ℕ → (List ℕ → Bool) → List ℕ
wanted_slots s image wanted = passing s.slot_highwater (wanted_at s image wanted)
