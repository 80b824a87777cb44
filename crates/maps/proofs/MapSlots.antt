-- The map that lookup reads, slot by slot: a key has what its live slot shows, and nothing where no live slot has it.
-- Assumes nothing.
use Prim.Native.Nat.{ℕ, ◌<◌}
use mathlib.Core.Path.{◌≡◌, refl, sym, ap, ◌∙◌}
use mathlib.Core.Logic.{◌↔◌, ◌⊎◌, inl, inr}
use mathlib.Core.Bool.{true, false}
use mathlib.Core.List.{List}
use mathlib.Core.Option.{some, none}
use Rattle.probing.specs.Probe.{Probed, found, absent, broken}
use Rattle.probing.specs.Sound.{Sound}
use Rattle.probing.proofs.Keys.{clash}
use Rattle.probing.proofs.Reading.{never_broken, found_iff, absent_iff}
use Rattle.header.specs.declared.shape.Layout.{Layout}
use Rattle.header.specs.declared.shape.Shape.{Shape}
use Rattle.image.specs.Table.{meta_of, key_of, revision_of, index_of, table_of}
use Rattle.image.specs.Lookup.{probe_of, is_found, is_live}
use Rattle.maps.specs.Map.{Entry, entry_at, map_of}

-- what slot n shows
abbrev pub entry_of : Layout → List ℕ → ℕ → Entry
entry_of l image n = record { revision = revision_of l image n; index = index_of l image n }

-- Slot n is live and has key k.
pub record Has (s : Shape) (image k : List ℕ) (n : ℕ) : Type 0 where
  pub below : n < s.slot_highwater
  pub alive : meta_of s.layout image n ≡ 1
  pub key : key_of s.layout image n ≡ k

-- no live slot has key k
abbrev pub Lacks : Shape → List ℕ → List ℕ → Type 0
Lacks s image k = (n : ℕ) → Has s image k n → ⊥

module _ (s : Shape) (image : List ℕ) (sound : Sound (table_of s image)) (k : List ℕ) where
  -- the probe finds the slot that has the key, and nothing where none has
  pub found_has : (n count : ℕ) → probe_of s image k ≡ found n count → Has s image k n
  unfolding probe_of table_of
  found_has n count e =
      let h = (found_iff (table_of s image) sound k n).0 (count, e) in
      record { below = h.0; alive = h.1; key = h.2 }

  pub has_found : (n : ℕ) → Has s image k n → (count : ℕ) × (probe_of s image k ≡ found n count)
  unfolding probe_of table_of
  has_found n h = (found_iff (table_of s image) sound k n).1 (h.below, h.alive, h.key)

  absent_lacks : (count : ℕ) → probe_of s image k ≡ absent count → Lacks s image k
  unfolding probe_of table_of
  absent_lacks count e n h = (absent_iff (table_of s image) sound k).0 (count, e) n h.below h.alive h.key

  pub lacks_absent : Lacks s image k → (count : ℕ) × (probe_of s image k ≡ absent count)
  unfolding probe_of table_of
  lacks_absent h = (absent_iff (table_of s image) sound k).1 (λ n l a e. h n (record { below = l; alive = a; key = e }))

  -- a key that a live slot has is live, and one that none has is not
  pub has_live : (n : ℕ) → Has s image k n → is_live s image k ≡ true
  unfolding is_live
  has_live n h = ap is_found (has_found n h).1

  pub lacks_live : Lacks s image k → is_live s image k ≡ false
  unfolding is_live
  lacks_live h = ap is_found (lacks_absent h).1

  -- it does one or the other
  pub has_or_lacks : ((n : ℕ) × Has s image k n) ⊎ Lacks s image k
  unfolding probe_of
  has_or_lacks = go (probe_of s image k) refl
    where
      go : (p : Probed) → probe_of s image k ≡ p → ((n : ℕ) × Has s image k n) ⊎ Lacks s image k
      go (found n count) e = inl (n, found_has n count e)
      go (absent count) e = inr (absent_lacks count e)
      go broken e = absurd (never_broken (table_of s image) sound k e)

  -- one live slot at most has the key
  pub one_has : (m n : ℕ) → Has s image k m → Has s image k n → m ≡ n
  unfolding table_of
  one_has m n p q = sound.different m n p.below q.below p.alive q.alive (p.key ∙ sym q.key)

  -- what the map says of the key
  pub map_has : (n : ℕ) → Has s image k n → map_of s image k ≡ some (entry_of s.layout image n)
  unfolding map_of
  map_has n h = ap (entry_at s.layout image) (has_found n h).1

  pub map_lacks : Lacks s image k → map_of s image k ≡ none
  unfolding map_of
  map_lacks h = ap (entry_at s.layout image) (lacks_absent h).1

  -- The key has an entry just where a live slot with the key shows it, and none just where no live slot has the key.
  pub some_iff : (e : Entry) → (map_of s image k ≡ some e) ↔ ((n : ℕ) × Has s image k n × (entry_of s.layout image n ≡ e))
  some_iff e = (there has_or_lacks, λ h. map_has h.0 h.1 ∙ ap some h.2)
    where
      there : ((n : ℕ) × Has s image k n) ⊎ Lacks s image k → map_of s image k ≡ some e → (n : ℕ) × Has s image k n × (entry_of s.layout image n ≡ e)
      there (inl h) q = (h.0, h.1, cc (map_has h.0 h.1))
      there (inr h) q = clash (cc (map_lacks h))

  pub none_iff : (map_of s image k ≡ none) ↔ Lacks s image k
  none_iff = (λ e n h. clash (cc (map_has n h)), map_lacks)

-- Where the slots that have a key are the same and show the same, the key has the same.
module _ (s : Shape) (image : List ℕ) (sound : Sound (table_of s image)) (s' : Shape) (image' : List ℕ) (sound' : Sound (table_of s' image')) (k : List ℕ) where
  pub map_kept :
      ((n : ℕ) → Has s image k n → Has s' image' k n × (entry_of s'.layout image' n ≡ entry_of s.layout image n)) → ((n : ℕ) → Has s' image' k n → Has s image k n)
      → map_of s' image' k ≡ map_of s image k
  map_kept on back = go (has_or_lacks s image sound k)
    where
      go : ((n : ℕ) × Has s image k n) ⊎ Lacks s image k → map_of s' image' k ≡ map_of s image k
      go (inl h) =
          let kept = on h.0 h.1 in
          map_has s' image' sound' k h.0 kept.0 ∙ ap some kept.1 ∙ sym (map_has s image sound k h.0 h.1)
      go (inr h) = map_lacks s' image' sound' k (λ n q. h n (back n q)) ∙ sym (map_lacks s image sound k h)
