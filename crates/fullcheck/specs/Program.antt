-- "Program."
-- Assumes nothing.
use Rattle.std.specs.Prelude.{ℕ, Bool, cond, List}
use Rattle.header.specs.Answer.{invalid_input}
use Rattle.header.specs.Bench.{bench_options}
use Rattle.header.specs.State.{no_writer_known}
use Rattle.image.specs.Check.{Checked, check_of, failed}
use Rattle.fullcheck.specs.declared.Numbers.{Numbers}

-- "Key 12, index 20, capacity 512, user_version 1, unordered, role 0."; "holds one image of at most 65,536 bytes; longer input is
-- answered 7"
unfoldable pub program_of : List ℕ → Bool → Checked
program_of image longer = cond longer (failed invalid_input) (check_of (bench_options no_writer_known) image)

-- the four numbers, as they are printed
abbrev pub printed : Numbers → Checked
printed n = record { answer = n.answer; live = n.live; tombstones = n.tombstones; probes = n.probes }
