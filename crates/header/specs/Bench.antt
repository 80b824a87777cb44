-- The options of the bench.
-- Assumes nothing.
use Rattle.std.specs.Prelude.{ℕ}
use Rattle.header.specs.declared.options.Options.{Options}

-- "Key 12, index 20, capacity 512, user_version 1, unordered", under a role
abbrev pub bench_options : ℕ → Options
bench_options role =
    record { key_size = 12; index_size = 20; slot_capacity = 512; user_version = 1; ordered = 0; role = role }
