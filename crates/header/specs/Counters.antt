-- A shape with other counters. The layout stays.
-- Assumes nothing.
use Rattle.std.specs.Prelude.{ℕ}
use Rattle.header.specs.declared.shape.Shape.{Shape}

unfoldable pub with_counters : Shape → ℕ → ℕ → ℕ → Shape
with_counters s highwater live tombstones =
    record {
      layout = s.layout;
      slot_highwater = highwater;
      live_count = live;
      bucket_tombstones = tombstones;
      state = s.state;
      generation = s.generation;
    }

-- with so many slots given out
unfoldable pub with_slots : Shape → ℕ → Shape
with_slots s n = with_counters s n s.live_count s.bucket_tombstones
