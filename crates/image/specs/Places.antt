-- Where slots and their parts start, by the sizes alone: "A slot: meta u64 (1 live, 0 deleted), key, zeros to a multiple of 8,
-- revision i64, index, zeros to a multiple of 8." Both what the library reads and where a host reads go by this.
-- Assumes nothing.
use Rattle.std.specs.Prelude.{ℕ, ◌+◌, ◌*◌}
use Rattle.header.specs.Sizes.{align8}

-- slot n, by the size of a slot: the slots follow the 256 bytes of the header
abbrev pub slot_start : ℕ → ℕ → ℕ
slot_start size n = 256 + n * size

-- the parts of a slot that starts at `at`, by the size of a key
abbrev pub key_start : ℕ → ℕ
key_start at = at + 8

abbrev pub revision_start : ℕ → ℕ → ℕ
revision_start key at = at + 8 + align8 key

abbrev pub index_start : ℕ → ℕ → ℕ
index_start key at = at + 16 + align8 key
