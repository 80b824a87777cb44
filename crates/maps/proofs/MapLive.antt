-- What the records do to live keys, on the map that lookup reads: a key that the image has gets what its deciding record
-- says, and a key that it has not still has nothing.
-- Assumes nothing.
use Prim.Native.Nat.{ℕ, zero, suc, ◌≤◌, ◌<◌}
use mathlib.Core.Bool.{Bool, true, false, cond}
use mathlib.Core.Path.{◌≡◌, refl, sym, ap, subst, ◌∙◌}
use mathlib.Core.Logic.{◌⊎◌, inl, inr}
use mathlib.Core.List.{List}
use mathlib.Core.Option.{Option, some, none}
use native.Mathlib.Nat.{eq-or-lt_of_le, mod-lt, le_refl}
use native.Mathlib.Omega.{arith}
use lib.Dec.{eqb}
use lib.ListN.{length}
use Rattle.probing.specs.Probe.{Probed, found, absent, broken, last_of}
use Rattle.probing.specs.Sound.{Sound}
use Rattle.probing.proofs.Keys.{either, not_both}
use Rattle.header.specs.declared.shape.Shape.{Shape}
use Rattle.header.specs.Shaped.{Shaped}
use Rattle.image.specs.Table.{table_of}
use Rattle.image.specs.Lookup.{probe_of, is_found, is_live}
use Rattle.slots.specs.Slots.{rewritten, removed}
use Rattle.batch.specs.Batch.{record_count, record_at, meta_in, key_in, record_key, decides}
use Rattle.batch.specs.NewKeys.{is_new}
use Rattle.batch.proofs.NewRanks.{is_new_lem}
use Rattle.soundness.specs.Apply.{on_live, acted, acted_to, after_live}
use Rattle.maps.specs.Map.{Entry, entry_at, entry_in, map_of}
use Rattle.batch.proofs.Records.{record_length}
use Rattle.soundness.proofs.Formed.{Formed}
use Rattle.soundness.proofs.Live.{live_kept}
use Rattle.maps.proofs.Applied.{said, Deciding, deciding_one}
use Rattle.maps.proofs.MapSlots.{Has, found_has}
use Rattle.maps.proofs.MapWrites.{rewritten_same, rewritten_else, removed_same, removed_else}

-- what a key gets that has something; a key that has nothing still has nothing
abbrev pub if_there : Option Entry → Option Entry → Option Entry
if_there (some e) x = x
if_there none x = none

-- Key gets x if it is there, and the other keys keep what they have.
record Acts (s : Shape) (image key : List ℕ) (x : Option Entry) (image' : List ℕ) : Type 0 where
  here : map_of s image' key ≡ if_there (map_of s image key) x
  elsewhere : (k : List ℕ) → (k ≡ key → ⊥) → map_of s image' k ≡ map_of s image k

module _ (s : Shape) (image : List ℕ) (fit : Shaped s image) (sound : Sound (table_of s image)) (r : List ℕ) (whole : length r ≡ s.layout.slot_size) where
  -- by what the probe for the record's key ends in
  on_live_lem : (p : Probed) → probe_of s image (key_in s.layout r) ≡ p → Sound (table_of s (on_live s image r p)) → Acts s image (key_in s.layout r) (said s r) (on_live s image r p)
  unfolding map_of table_of
  on_live_lem (found n count) e sound' = by (eqb (meta_in r) 1) sound'
    where
      has : Has s image (key_in s.layout r) n
      has = found_has s image sound (key_in s.layout r) n count e

      b : ℕ
      b = last_of (table_of s image) (key_in s.layout r) count

      bucket : b < s.layout.bucket_count
      bucket = mod-lt _ (omega (arith, fit.laid.room))

      there : (x : Option Entry) → if_there (map_of s image (key_in s.layout r)) x ≡ x
      there x = ap (λ (p : Probed). if_there (entry_at s.layout image p) x) e

      by : (put : Bool) → Sound (table_of s (cond put (rewritten s.layout image n r) (removed s.layout image n b)))
          → Acts s image (key_in s.layout r) (cond put (some (entry_in s r)) none) (cond put (rewritten s.layout image n r) (removed s.layout image n b))
      by true sound' =
          record {
            here = rewritten_same s image fit sound r whole n has sound' ∙ sym (there (some (entry_in s r)));
            elsewhere = rewritten_else s image fit sound r whole n has sound';
          }
      by false sound' =
          record {
            here = removed_same s image fit sound (key_in s.layout r) n b has bucket sound' ∙ sym (there none);
            elsewhere = removed_else s image fit sound (key_in s.layout r) n b has bucket sound';
          }
  on_live_lem (absent count) e sound' = record { here = rw e; elsewhere = λ k other. refl }
  on_live_lem broken e sound' = record { here = rw e; elsewhere = λ k other. refl }

module _ (s : Shape) (image batch : List ℕ) (fit : Shaped s image) (formed : Formed s.layout.ordered (table_of s image)) where
  sound_at : (i : ℕ) → i ≤ record_count s.layout batch → Sound (table_of s (after_live s image batch i))
  sound_at i l = (live_kept s image batch fit formed i l).formed.sound

  abbrev map_at : ℕ → List ℕ → Option Entry
  map_at i = map_of s (after_live s image batch i)

  abbrev new : ℕ → Bool
  new = is_new s.layout (is_live s image) batch

  -- the turn of record n, if it decides and its key is not new
  turn : (n : ℕ) → decides s.layout batch n ≡ true → new n ≡ false
      → after_live s image batch (suc n)
      ≡ on_live s (after_live s image batch n) (record_at s.layout batch n) (probe_of s (after_live s image batch n) (record_key s.layout batch n))
  unfolding after_live acted_to acted
  turn n d e = rw (d, e)

  acts : (n : ℕ) → n < record_count s.layout batch → decides s.layout batch n ≡ true → new n ≡ false
      → Acts s (after_live s image batch n) (record_key s.layout batch n) (said s (record_at s.layout batch n)) (after_live s image batch (suc n))
  unfolding record_key
  acts n l d e =
      let kept = live_kept s image batch fit formed n (omega arith) in
      let r = record_at s.layout batch n in
      subst (Acts s (after_live s image batch n) (record_key s.layout batch n) (said s r)) (sym (turn n d e))
      (on_live_lem s (after_live s image batch n) kept.fit kept.formed.sound r (record_length s.layout batch n l) _ refl
      (subst (λ (x : List ℕ). Sound (table_of s x)) (turn n d e) (sound_at (suc n) l)))

  -- and if it does not decide, or waits
  passes_by : (n : ℕ) → decides s.layout batch n ≡ false → after_live s image batch (suc n) ≡ after_live s image batch n
  unfolding after_live acted_to acted
  passes_by n d = rw d

  waits : (n : ℕ) → decides s.layout batch n ≡ true → new n ≡ true → after_live s image batch (suc n) ≡ after_live s image batch n
  unfolding after_live acted_to acted
  waits n d e = rw (d, e)

  -- a new key has nothing
  new_none : (n : ℕ) → new n ≡ true → map_of s image (record_key s.layout batch n) ≡ none
  unfolding map_of is_live
  new_none n e = go (probe_of s image (record_key s.layout batch n)) (is_new_lem s.layout (is_live s image) batch n e).absent
    where
      go : (p : Probed) → is_found p ≡ false → entry_at s.layout image p ≡ none
      go (found m count) f = absurd (not_both refl f)
      go (absent count) f = refl
      go broken f = refl

  module _ (k : List ℕ) where
    -- one record more
    more_elsewhere : (n : ℕ) → n < record_count s.layout batch → (Deciding s batch k n → ⊥) → map_at (suc n) k ≡ map_at n k
    more_elsewhere n l other = go (either (decides s.layout batch n)) (either (new n))
      where
        go : (decides s.layout batch n ≡ true) ⊎ (decides s.layout batch n ≡ false) → (new n ≡ true) ⊎ (new n ≡ false) → map_at (suc n) k ≡ map_at n k
        go (inl d) (inl e) = ap (λ (x : List ℕ). map_of s x k) (waits n d e)
        go (inl d) (inr e) = (acts n l d e).elsewhere k (λ q. other (record { below = l; key = sym q; deciding = d }))
        go (inr d) e = ap (λ (x : List ℕ). map_of s x k) (passes_by n d)

    -- a key that no record below n decides on
    live_elsewhere : (n : ℕ) → n ≤ record_count s.layout batch → ((i : ℕ) → i < n → Deciding s batch k i → ⊥) → map_at n k ≡ map_of s image k
    unfolding after_live acted_to
    live_elsewhere zero l spared = refl
    live_elsewhere (suc n) l spared = more_elsewhere n (omega arith) (spared n (omega arith)) ∙ live_elsewhere n (omega arith) (λ i m. spared i (omega arith))

    more_here : (n : ℕ) → n < record_count s.layout batch → Deciding s batch k n → map_at n k ≡ map_of s image k
        → map_at (suc n) k ≡ if_there (map_of s image k) (said s (record_at s.layout batch n))
    more_here n l d before = go (either (new n))
      where
        go : (new n ≡ true) ⊎ (new n ≡ false) → map_at (suc n) k ≡ if_there (map_of s image k) (said s (record_at s.layout batch n))
        go (inl e) =
            let nothing : map_of s image k ≡ none = ap (map_of s image) (sym d.key) ∙ new_none n e in
            ap (λ (x : List ℕ). map_of s x k) (waits n d.deciding e) ∙ before ∙ rw nothing
        go (inr e) =
            rw (← d.key) (acts n l d.deciding e).here
            ∙ ap (λ (x : Option Entry). if_there x (said s (record_at s.layout batch n))) before

    -- a key that one does
    live_here : (n : ℕ) → n ≤ record_count s.layout batch → (i : ℕ) → i < n → Deciding s batch k i → map_at n k ≡ if_there (map_of s image k) (said s (record_at s.layout batch i))
    live_here zero l i m d = absurd (omega arith)
    live_here (suc n) l i m d = go (eq-or-lt_of_le {n = i} {m = n} (omega arith)) (λ below. live_here n (omega arith) i below d)
      where
        go : (i ≡ n) ⊎ (i < n) → (i < n → map_at n k ≡ if_there (map_of s image k) (said s (record_at s.layout batch i)))
            → map_at (suc n) k ≡ if_there (map_of s image k) (said s (record_at s.layout batch i))
        go (inl e) rest =
            let at : Deciding s batch k n = subst (Deciding s batch k) e d in
            let before = live_elsewhere n (omega arith) (λ j below q. let same = deciding_one s batch k j n q at in omega arith) in
            rw e (more_here n (omega arith) at before)
        go (inr below) rest = more_elsewhere n (omega arith) (λ q. let same = deciding_one s batch k i n d q in omega arith) ∙ rest below

    -- After all records
    pub live_unnamed : ((i : ℕ) → Deciding s batch k i → ⊥) → map_at (record_count s.layout batch) k ≡ map_of s image k
    live_unnamed spared = live_elsewhere (record_count s.layout batch) (le_refl _) (λ i l. spared i)

    pub live_decided : (i : ℕ) → Deciding s batch k i → map_at (record_count s.layout batch) k ≡ if_there (map_of s image k) (said s (record_at s.layout batch i))
    live_decided i d = live_here (record_count s.layout batch) (le_refl _) i d.below d
