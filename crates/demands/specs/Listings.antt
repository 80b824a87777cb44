-- "Scan and match": what a listing gives a host.
-- Assumes nothing.
use Rattle.std.specs.Prelude.{ℕ, ◌+◌, ◌-◌, ◌/◌, ◌≤◌, ◌<◌, min, ◌≡◌, Bool, true, ◌↔◌, List, length, get_or}
use Rattle.std.proofs.Math.Option.{some}
use Rattle.header.specs.declared.options.Options.{Options}
use Rattle.header.specs.Answer.{done, too_short}
use Rattle.header.specs.Fields as F
use Rattle.header.specs.Fields.{value}
use Rattle.listing.specs.Scan.{Outcome}
use Rattle.maps.specs.Map.{Entry, Map}
use Rattle.demands.specs.Shows.{Shows}

-- "The pattern has exactly the bytes needed", which with 0 bits are those it has (CR 2), one or more; inside the key from the
-- offset on
pub record RightPattern (o : Options) (offset bits : ℕ) (pattern : List ℕ) : Type 0 where
  pub some_bytes : 0 < length pattern
  pub bytes : (bits ≡ 0 → ⊥) → length pattern ≡ (bits + 7) / 8
  pub inside : offset + length pattern ≤ o.key_size

-- a limit and a lent list with room for every slot that the header says
pub record Roomy (image : List ℕ) (limit : ℕ) (numbers : List ℕ) : Type 0 where
  pub high : value image F.slot_capacity_field ≤ limit
  pub long : value image F.slot_capacity_field ≤ length numbers

-- the slot number in entry i
abbrev pub entry : Outcome → ℕ → ℕ
entry x i = get_or x.numbers i 0

-- A listing that leaves none out: each key of the map that is wanted exactly once, its slot showing that key, revision and
-- index, and nothing else; the numbers ascend.
pub record Lists (o : Options) (image : List ℕ) (m : Map) (wanted : List ℕ → Bool) (x : Outcome) : Type 0 where
  pub answers : x.listed.answer ≡ done
  pub all : x.listed.written ≡ x.listed.total
  pub each : (i : ℕ) → i < x.listed.written
      → (key : List ℕ) × ((e : Entry) × (Shows o image (entry x i) key e × (m key ≡ some e) × (wanted key ≡ true)))
  pub every : (key : List ℕ) (e : Entry) → m key ≡ some e → wanted key ≡ true
      → (i : ℕ) × ((i < x.listed.written) × Shows o image (entry x i) key e)
  pub ascending : (i j : ℕ) → i < j → j < x.listed.written → entry x i < entry x j
  pub once : (i j : ℕ) → i < x.listed.written → j < x.listed.written → (key : List ℕ) (d e : Entry)
      → Shows o image (entry x i) key d → Shows o image (entry x j) key e → i ≡ j

-- the number to write of so many, "after a skip and up to a limit"
abbrev pub to_write : ℕ → ℕ → ℕ → ℕ
to_write total skip limit = min limit (total - skip)

-- Any listing against one that leaves none out: the piece of it after the skip and up to the limit.
pub record Piece (whole : Outcome) (skip limit : ℕ) (numbers : List ℕ) (x : Outcome) : Type 0 where
  -- "List shorter than the number to write: 11", and 0 otherwise
  pub short : (x.listed.answer ≡ too_short) ↔ (length numbers < to_write whole.listed.total skip limit)
  pub answers : (x.listed.answer ≡ done) ↔ (to_write whole.listed.total skip limit ≤ length numbers)
  -- "the total number of matches and the number written come back"
  pub total : x.listed.answer ≡ done → x.listed.total ≡ whole.listed.total
  pub written : x.listed.answer ≡ done → x.listed.written ≡ to_write whole.listed.total skip limit
  pub entries : x.listed.answer ≡ done → (i : ℕ) → i < x.listed.written → entry x i ≡ entry whole (skip + i)
  -- "Entries past those written are unchanged."
  pub rest : x.listed.answer ≡ done → (i : ℕ) → x.listed.written ≤ i → entry x i ≡ get_or numbers i 0
  pub size : length x.numbers ≡ length numbers
