-- The home buckets of a table's live keys, as a list.
-- Assumes nothing.
use Rattle.std.specs.Prelude.{ℕ, zero, suc, cond, List, [], ◌∷◌}
use Rattle.probing.specs.Table.{Table, live}
use Rattle.probing.specs.Probe.{home}

-- of the live slots below n, the last slot's first
unfoldable pub homes_to : Table → ℕ → List ℕ
homes_to t zero = []
homes_to t (suc n) = cond (live t n) (home t (t.key n) ∷ homes_to t n) (homes_to t n)

unfoldable pub live_homes : Table → List ℕ
live_homes t = homes_to t t.highwater
