-- What the laws of the table start from: the facts that the full check's sentences come to, where an EMPTY bucket is left.
-- Assumes nothing.
use Rattle.std.specs.Prelude.{ℕ, ◌+◌, ◌%◌, ◌<◌, ◌≡◌}
use Rattle.probing.specs.Table.{EMPTY, FULL, Table}
use Rattle.probing.specs.Probe.{home}

-- A live slot s stands in the bucket that is distance from its home, and no bucket on the way there is EMPTY.
pub record Reached (t : Table) (s : ℕ) : Type 0 where
  pub distance : ℕ
  pub within : distance < t.B
  pub stands : t.bucket ((home t (t.key s) + distance) % t.B) ≡ FULL (t.hash (t.key s)) s
  pub way : (i : ℕ) → i < distance → t.bucket ((home t (t.key s) + i) % t.B) ≡ EMPTY → ⊥

pub record Sound (t : Table) : Type 0 where
  -- a FULL bucket points below highwater at a live slot and carries its key's hash
  pub full : (b h s : ℕ) → b < t.B → t.bucket b ≡ FULL h s → (s < t.highwater) × (t.meta s ≡ 1) × (h ≡ t.hash (t.key s))
  -- live slots have different keys
  pub different : (s s' : ℕ) → s < t.highwater → s' < t.highwater → t.meta s ≡ 1 → t.meta s' ≡ 1 → t.key s ≡ t.key s' → s ≡ s'
  -- each live slot can be reached from its home
  pub reached : (s : ℕ) → s < t.highwater → t.meta s ≡ 1 → Reached t s
  -- no two buckets hold one slot
  pub single : (b b' h h' s : ℕ) → b < t.B → b' < t.B → t.bucket b ≡ FULL h s → t.bucket b' ≡ FULL h' s → b ≡ b'
  -- there is an EMPTY bucket
  pub vacant : (b : ℕ) × (b < t.B) × (t.bucket b ≡ EMPTY)
