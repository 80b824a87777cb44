-- The states of an image, the roles of a caller, and the last generation.
-- Assumes nothing.
use Rattle.std.specs.Prelude.{ℕ}
use Rattle.header.specs.declared.options.Options.{Options}

-- "State: 0 CLEAN, 1 INVALIDATED, 2 DIRTY."
abbrev pub CLEAN : ℕ
CLEAN = 0

abbrev pub INVALIDATED : ℕ
INVALIDATED = 1

abbrev pub DIRTY : ℕ
DIRTY = 2

-- "Role 0: no writer known. Role 1: another writer is active. Role 2: the caller holds the lock"
abbrev pub no_writer_known : ℕ
no_writer_known = 0

abbrev pub another_writer : ℕ
another_writer = 1

abbrev pub holds_the_lock : ℕ
holds_the_lock = 2

-- the same options under another role
abbrev pub with_role : Options → ℕ → Options
with_role o role =
    record {
      key_size = o.key_size;
      index_size = o.index_size;
      slot_capacity = o.slot_capacity;
      user_version = o.user_version;
      ordered = o.ordered;
      role = role;
    }

-- "generation 2^64 - 2"
abbrev pub last_generation : ℕ
last_generation = 18446744073709551614
