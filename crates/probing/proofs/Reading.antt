-- What reading a sound table gives: a live slot's key is found there, and any other key is absent.
-- Assumes nothing.
use Prim.Native.Nat.{ℕ, zero, suc, ◌+◌, ◌-◌, ◌≤◌, ◌<◌}
use mathlib.Core.Path.{◌≡◌, refl, sym, ap, ◌∙◌}
use mathlib.Core.Bool.{Bool, true, false, cond, ◌&&◌}
use mathlib.Core.Logic.{◌⊎◌, inl, inr, ◌↔◌}
use mathlib.Core.List.{List}
use native.Mathlib.Nat.{eq-or-lt_of_le, mod-lt, zero-add}
use native.Mathlib.Omega.{arith}
use lib.Dec.{eqb}
use borrow.Author.Tests.{lt-leb, eq-eqb}
use Rattle.numbers.specs.Bytes.{same}
use Rattle.probing.specs.Table.{Bucket, EMPTY, TOMBSTONE, FULL, Table}
use Rattle.probing.specs.Probe.{Probed, found, absent, broken, home, examine, probe}
use Rattle.probing.specs.Sound.{Reached, Sound}
use Rattle.probing.proofs.Keys.{clash}
use Rattle.probing.proofs.Round.{steps_differ, steps_to}
use Walk.{nth, walk, walk_step, walk_on, probe_walk, Passes, examine_finds}
use Ends.{found_run}
pub mod Walk
pub mod Ends
pub mod Bound

-- where a FULL bucket points at a live slot below highwater, what breaks the probe is further on, and the bucket is not EMPTY
examine_broken :
    (t : Table) (k : List ℕ) (c : ℕ) (onward : Probed) (x : Bucket) → ((h s : ℕ) → x ≡ FULL h s → (s < t.highwater) × (t.meta s ≡ 1))
    → examine t k c onward x ≡ broken → (x ≡ EMPTY → ⊥) × (onward ≡ broken)
unfolding examine
examine_broken t k c onward EMPTY full e = clash cc
examine_broken t k c onward TOMBSTONE full e = (λ q. clash cc, e)
examine_broken t k c onward (FULL h s) full e =
    go (eqb h (t.hash k) && same (t.key s) k) (rw (lt-leb t.highwater s (full h s refl).0, eq-eqb (t.meta s) 1 (full h s refl).1) at e)
  where
    go : (equal : Bool) → cond equal (found s c) onward ≡ broken → (FULL h s ≡ EMPTY → ⊥) × (onward ≡ broken)
    go true e = clash cc
    go false e = (λ q. clash cc, e)

-- what a probe ends in where it is not broken
pub answers : (p : Probed) → (p ≡ broken → ⊥) → ((s : ℕ) × (n : ℕ) × (p ≡ found s n)) ⊎ ((n : ℕ) × (p ≡ absent n))
answers (found s n) h = inl (s, n, refl)
answers (absent n) h = inr (n, refl)
answers broken h = absurd (h refl)

module _ (t : Table) (sound : Sound t) where
  -- there is a bucket
  pub roomy : 0 < t.B
  roomy = let v = sound.vacant.1 in omega arith

  -- a probe with an EMPTY bucket ahead does not break
  walk_unbroken : (k : List ℕ) (left i e : ℕ) → i ≤ e → e < i + left → t.bucket (nth t k e) ≡ EMPTY → walk t k left i ≡ broken → ⊥
  walk_unbroken k zero i e l m empty b = omega arith
  walk_unbroken k (suc left) i e l m empty b =
      let r = examine_broken t k (suc i) (walk t k left (suc i)) (t.bucket (nth t k i)) full (sym (walk_step t k left i) ∙ b) in
      go (eq-or-lt_of_le l) r.0 (λ p. walk_unbroken k left (suc i) e p (omega arith) empty r.1)
    where
      full : (h s : ℕ) → t.bucket (nth t k i) ≡ FULL h s → (s < t.highwater) × (t.meta s ≡ 1)
      full h s q = let f = sound.full (nth t k i) h s (mod-lt _ roomy) q in (f.0, f.1)

      go : (i ≡ e) ⊎ (i < e) → (t.bucket (nth t k i) ≡ EMPTY → ⊥) → (i < e → ⊥) → ⊥
      go (inl q) taken rest = taken (ap (λ (j : ℕ). t.bucket (nth t k j)) q ∙ empty)
      go (inr q) taken rest = rest q

  -- no probe breaks
  pub never_broken : (k : List ℕ) → probe t k ≡ broken → ⊥
  never_broken k b =
      let v = sound.vacant in
      let d = steps_to (home t k) v.0 t.B v.1 in
      walk_unbroken k t.B 0 d.0 (omega arith) (omega (arith, d.1)) (ap t.bucket d.2 ∙ v.2) (sym (probe_walk t k) ∙ b)

  -- a key that no live slot has is absent
  pub probe_none : (k : List ℕ) → ((s : ℕ) → s < t.highwater → t.meta s ≡ 1 → t.key s ≡ k → ⊥) → (n : ℕ) × (probe t k ≡ absent n)
  probe_none k none = go (answers (probe t k) (never_broken k))
    where
      go : ((s : ℕ) × (n : ℕ) × (probe t k ≡ found s n)) ⊎ ((n : ℕ) × (probe t k ≡ absent n)) → (n : ℕ) × (probe t k ≡ absent n)
      go (inl f) = let hit = (found_run t k f.0 f.1 f.2).last in absurd (none f.0 hit.below hit.alive hit.keyed)
      go (inr a) = a

  -- the buckets on the way to a live slot let a probe for its key go on
  way_passes :
      (s : ℕ) (l : s < t.highwater) (a : t.meta s ≡ 1) (i : ℕ)
      → i < (sound.reached s l a).distance → Passes t (t.key s) (t.bucket (nth t (t.key s) i))
  way_passes s l a i m =
      record {
        taken = r.way i m;
        other = λ h s' q. let f = sound.full b h s' (mod-lt _ roomy) q in (f.0, λ e keyed. not_here h s' q f.0 f.1 keyed);
      }
    where
      r : Reached t s
      r = sound.reached s l a

      b : ℕ
      b = nth t (t.key s) i

      not_here : (h s' : ℕ) → t.bucket b ≡ FULL h s' → s' < t.highwater → t.meta s' ≡ 1 → t.key s' ≡ t.key s → ⊥
      not_here h s' q l' a' keyed =
          let q' : t.bucket b ≡ FULL h s = q ∙ ap (FULL h) (sound.different s' s l' l a' a keyed) in
          let there = sound.single b _ h _ s (mod-lt _ roomy) (mod-lt _ roomy) q' r.stands in
          let arrived = steps_differ (home t (t.key s)) i r.distance t.B (omega (arith, m, r.within)) r.within there in
          omega (arith, m)

  -- a live slot's key is found there, at the count of its distance and one
  pub probe_live : (s : ℕ) (l : s < t.highwater) (a : t.meta s ≡ 1) → probe t (t.key s) ≡ found s (suc (sound.reached s l a).distance)
  probe_live s l a =
      probe_walk t k
      ∙ ap (λ (x : ℕ). walk t k x 0) split
      ∙ walk_on t k (suc left) 0 d (λ j z m. way_passes s l a j (omega arith))
      ∙ ap (walk t k (suc left)) (zero-add d)
      ∙ walk_step t k left d
      ∙ ap (examine t k (suc d) (walk t k left (suc d))) r.stands
      ∙ examine_finds t k (suc d) (walk t k left (suc d)) s l a refl
    where
      r : Reached t s
      r = sound.reached s l a

      k : List ℕ
      k = t.key s

      d : ℕ
      d = r.distance

      left : ℕ
      left = t.B - suc d

      split : t.B ≡ suc left + d
      split = omega (arith, r.within)

  -- a probe finds a slot just where the slot is live and has the key
  pub found_iff : (k : List ℕ) (s : ℕ) → ((n : ℕ) × (probe t k ≡ found s n)) ↔ ((s < t.highwater) × (t.meta s ≡ 1) × (t.key s ≡ k))
  found_iff k s = (
    λ f. let hit = (found_run t k s f.0 f.1).last in (hit.below, hit.alive, hit.keyed),
    λ h. (suc (sound.reached s h.0 h.1).distance, ap (probe t) (sym h.2) ∙ probe_live s h.0 h.1),
  )

  -- a probe finds nothing just where no live slot has the key
  pub absent_iff : (k : List ℕ) → ((n : ℕ) × (probe t k ≡ absent n)) ↔ ((s : ℕ) → s < t.highwater → t.meta s ≡ 1 → t.key s ≡ k → ⊥)
  absent_iff k = (
    λ a s l alive keyed. let f = (found_iff k s).1 (l, alive, keyed) in clash (cc (a.1, f.1)),
    probe_none k,
  )
