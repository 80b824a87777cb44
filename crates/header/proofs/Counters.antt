-- "bucket_used + bucket_tombstones <= slot_highwater" without the sum.
-- Assumes nothing.
use Prim.Native.Nat.{ℕ, ◌+◌, ◌-◌, ◌≤◌, ◌<◌}
use mathlib.Core.Bool.{false, ◌&&◌, and-false}
use mathlib.Core.Path.{◌≡◌, refl, ◌∙◌, sym}
use native.Mathlib.Decide.{dec_le}
use native.Mathlib.Omega.{arith}
use borrow.Author.Tests.{le-leb, lt-leb}
use lib.Dec.{eqb, leb}

module _ (live used tombstones highwater capacity : ℕ) where
  -- more used than the highwater
  pub over : highwater < used → eqb live used && leb (used + tombstones) highwater && leb highwater capacity ≡ false
  over h = rw (lt-leb (used + tombstones) highwater (omega arith), and-false) refl

  -- as many tombstones as are left
  left : used ≤ highwater → leb (used + tombstones) highwater ≡ leb tombstones (highwater - used)
  left h =
      elim (dec_le tombstones (highwater - used)) [
        | yes fits ↦ le-leb (used + tombstones) highwater (omega arith) ∙ sym (le-leb tombstones (highwater - used) fits)
        | no more ↦ lt-leb (used + tombstones) highwater (omega arith) ∙ sym (lt-leb tombstones (highwater - used) (omega arith))
      ]

  pub within : used ≤ highwater
      → eqb live used && leb (used + tombstones) highwater && leb highwater capacity ≡ eqb live used && leb tombstones (highwater - used) && leb highwater capacity
  within h = rw (left h) refl
