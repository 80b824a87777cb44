-- What a FULL bucket of an image says to a probe, case by case.
-- Assumes nothing.
use Prim.Native.Nat.{ℕ, ◌≤◌, ◌<◌}
use mathlib.Core.Path.{◌≡◌}
use mathlib.Core.Bool.{true, false}
use mathlib.Core.List.{List}
use borrow.Author.Tests.{le-leb, lt-leb, eq-eqb, ne_eqb}
use Rattle.numbers.specs.Bytes.{same}
use Rattle.digests.specs.Fnv.{fnv1a64}
use Rattle.probing.specs.Table.{FULL}
use Rattle.probing.specs.Probe.{Probed, found, broken, examine}
use Rattle.header.specs.declared.shape.Shape.{Shape}
use Rattle.image.specs.Table.{meta_of, key_of, table_of}

module _ (s : Shape) (image key : List ℕ) (count : ℕ) (onward : Probed) (h n : ℕ) where
  -- a slot at or past highwater
  pub full_past : s.slot_highwater ≤ n → examine (table_of s image) key count onward (FULL h n) ≡ broken
  unfolding examine table_of
  full_past l = rw (le-leb s.slot_highwater n l)

  module _ (l : n < s.slot_highwater) where
    -- another hash, or another key
    pub full_other_hash : (h ≡ fnv1a64 key → ⊥) → examine (table_of s image) key count onward (FULL h n) ≡ onward
    unfolding examine table_of
    full_other_hash differs = rw (lt-leb s.slot_highwater n l, ne_eqb h (fnv1a64 key) differs)

    module _ (e : h ≡ fnv1a64 key) where
      pub full_other_key : same (key_of s.layout image n) key ≡ false → examine (table_of s image) key count onward (FULL h n) ≡ onward
      unfolding examine table_of
      full_other_key differs = rw (lt-leb s.slot_highwater n l, eq-eqb h (fnv1a64 key) e, differs)

      -- the key's slot, by its meta
      module _ (equal : same (key_of s.layout image n) key ≡ true) where
        pub full_live : meta_of s.layout image n ≡ 1 → examine (table_of s image) key count onward (FULL h n) ≡ found n count
        unfolding examine table_of
        full_live m = rw (lt-leb s.slot_highwater n l, eq-eqb h (fnv1a64 key) e, equal, eq-eqb (meta_of s.layout image n) 1 m)

        pub full_dead : (meta_of s.layout image n ≡ 1 → ⊥) → examine (table_of s image) key count onward (FULL h n) ≡ broken
        unfolding examine table_of
        full_dead m = rw (lt-leb s.slot_highwater n l, eq-eqb h (fnv1a64 key) e, equal, ne_eqb (meta_of s.layout image n) 1 m)
