-- The record that lookup hands back belongs to the key that was asked for.
-- Assumes nothing.
use Prim.Native.Nat.{ℕ, zero, suc}
use mathlib.Core.Bool.{Bool, true, false, cond}
use mathlib.Core.Path.{◌≡◌, refl}
use mathlib.Core.List.{List}
use native.Mathlib.Omega.{arith}
use lib.Dec.{eqb}
use lib.ListN.{length}
use Rattle.probing.specs.Probe.{Probed, found, absent, broken}
use Rattle.probing.proofs.Reading.Ends.{found_run}
use Rattle.header.specs.declared.options.Options.{Options}
use Rattle.header.specs.declared.shape.Shape.{Shape}
use Rattle.header.specs.Answer.{done, invalid_input}
use Rattle.header.specs.HeaderTest.{header_test, shape_of}
use Rattle.header.proofs.Fit.{fit_shaped}
use Rattle.image.specs.Table.{table_of, key_of}
use Rattle.image.specs.Lookup.{Lookup, nothing, probe_of, lookup_by, lookup_in, lookup_of, index_by, index_part}
use Rattle.image.proofs.Looked.{found_below}
use Rattle.demands.specs.Shows.{Shows}
use Rattle.demands.proofs.Reading.{lookup_reads}
use Rattle.demands.proofs.Shown.{slot_shows}

-- lookup answers 0 only where the header test does
passed : (o : Options) (image key : List ℕ) → (lookup_of o image key).answer ≡ done → header_test o image ≡ 0
passed o image key a = go (header_test o image) refl
  where
    go : (n : ℕ) → header_test o image ≡ n → n ≡ 0
    go zero e = refl
    go (suc n) e = absurd (omega (arith, (lookup_reads key).judges.header o image (λ z. omega arith)))

module _ (o : Options) (image key : List ℕ) (z : header_test o image ≡ 0) where
  abbrev s : Shape
  s = shape_of image

  -- the slot of a lookup shows the key that was asked for, with what the lookup gives
  abbrev Right : Lookup → Type 0
  Right l = Shows o image l.slot key (record { revision = l.revision; index = index_by s image l })

  -- a slot that the probe finds has the key
  found_key : (n count : ℕ) → probe_of s image key ≡ found n count → key_of s.layout image n ≡ key
  unfolding probe_of table_of
  found_key n count e = (found_run (table_of s image) key n count e).last.keyed

  found_right : (n count : ℕ) → probe_of s image key ≡ found n count → Right (lookup_by s image (found n count))
  found_right n count e =
      let below = found_below s image key n count e in
      let high = (fit_shaped o image z).highwater in
      rw (found_key n count e) at (slot_shows o image z n (omega arith))

  looked_right : (lookup_in s image key).answer ≡ done → Right (lookup_in s image key)
  unfolding lookup_in
  looked_right a = go (eqb (length key) s.layout.key_size) (probe_of s image key) refl a
    where
      go : (equal : Bool) (p : Probed) → probe_of s image key ≡ p → (cond equal (lookup_by s image p) (nothing invalid_input)).answer ≡ done
          → Right (cond equal (lookup_by s image p) (nothing invalid_input))
      go false p q e = absurd (omega arith)
      go true (found n count) q e = found_right n count q
      go true (absent count) q e = absurd (omega arith)
      go true broken q e = absurd (omega arith)

pub belongs : (o : Options) (image key : List ℕ) → (lookup_of o image key).answer ≡ done
    → Shows o image (lookup_of o image key).slot key
    (record { revision = (lookup_of o image key).revision; index = index_part o image key })
unfolding lookup_of index_part
belongs o image key a = let z = passed o image key a in rw z (looked_right o image key z (rw z at a))
