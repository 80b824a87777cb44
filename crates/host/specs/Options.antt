-- Six numbers as options.
-- Assumes nothing.
use Rattle.std.specs.Prelude.{ℕ}
use Rattle.header.specs.declared.options.Options.{Options}

abbrev pub options_of : ℕ → ℕ → ℕ → ℕ → ℕ → ℕ → Options
options_of key index capacity version ordered role =
    record {
      key_size = key;
      index_size = index;
      slot_capacity = capacity;
      user_version = version;
      ordered = ordered;
      role = role;
    }
