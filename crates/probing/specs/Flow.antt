-- How the probes of the live slots pass over the buckets.
-- Assumes nothing.
use Rattle.std.specs.Prelude.{ℕ, ◌+◌, ◌-◌, ◌%◌, Bool, ◌&&◌, List, ltb}
use Rattle.probing.specs.Counting.{count_to}
use Rattle.probing.specs.Table.{Table, live}
use Rattle.probing.specs.Probe.{home, probe, count_of}

-- how many steps bucket b is from a key's home, going on by one, round the end
abbrev pub away : Table → List ℕ → ℕ → ℕ
away t k b = (b + (t.B - home t k)) % t.B

-- whether the probe for a key passes over bucket b and goes on; the count includes the last bucket
abbrev pub passes_over : Table → List ℕ → ℕ → Bool
passes_over t k b = ltb (away t k b + 1) (count_of (probe t k))

-- how many live slots' probes pass over bucket b and go on
unfoldable pub flow : Table → ℕ → ℕ
flow t b = count_to t.highwater (λ s. live t s && passes_over t (t.key s) b)
