-- "the host reads the index in the image by the slot number": what it then has before it.
-- Assumes nothing.
use Rattle.std.specs.Prelude.{ℕ, ◌+◌, ◌-◌, ◌≤◌, ◌<◌, ◌≡◌, List, length}
use Rattle.numbers.specs.Bytes.{part, word}
use Rattle.numbers.specs.Signed.{signed}
use Rattle.header.specs.declared.options.Options.{Options}
use Rattle.header.specs.Fields as F
use Rattle.header.specs.Fields.{value}
use Rattle.host.specs.Places.{key_place, index_place}
use Rattle.maps.specs.Map.{Entry}

-- Slot n shows a key and an entry: the places are those that slc1_key_offset and slc1_index_offset give (`Exports`), and all
-- that is read there lies inside the image.
pub record Shows (o : Options) (image : List ℕ) (n : ℕ) (key : List ℕ) (entry : Entry) : Type 0 where
  pub below : n < value image F.slot_capacity_field
  -- the key_size bytes at the key's place
  pub key_bytes : part image (key_place o n) o.key_size ≡ key
  -- the index_size bytes at the index's place, and the eight bytes before it as a signed number
  pub index_bytes : part image (index_place o n) o.index_size ≡ entry.index
  pub revision_bytes : signed (word (part image (index_place o n - 8) 8)) ≡ entry.revision
  pub key_inside : key_place o n + o.key_size ≤ length image
  pub index_inside : index_place o n + o.index_size ≤ length image
