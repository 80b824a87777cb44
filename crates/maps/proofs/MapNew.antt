-- New keys, on the map that lookup reads: each gets its record's revision and index, and the other keys keep what they have.
-- Assumes nothing.
use Prim.Native.Nat.{ℕ, zero, suc, ◌+◌, ◌≤◌, ◌<◌}
use mathlib.Core.Bool.{true, false}
use mathlib.Core.Path.{◌≡◌, sym, ap, subst, ◌∙◌}
use mathlib.Core.Logic.{◌⊎◌, inl, inr}
use mathlib.Core.List.{List}
use mathlib.Core.Option.{Option, some}
use native.Mathlib.Nat.{eq-or-lt_of_le, le_refl}
use native.Mathlib.Omega.{arith}
use lib.ListN.{length}
use Rattle.numbers.specs.Bytes.{same}
use Rattle.probing.specs.Sound.{Sound}
use Rattle.probing.proofs.Keys.{either, not_both, same_eq, eq_same}
use Rattle.header.specs.declared.shape.Shape.{Shape}
use Rattle.image.specs.Lookup.{is_live}
use Rattle.header.specs.Shaped.{Shaped}
use Rattle.image.specs.Table.{table_of}
use Rattle.slots.specs.Slots.{appended}
use Rattle.slots.proofs.Table.Appended.{grown}
use Rattle.batch.specs.Batch.{record_count, record_at, meta_in, key_in, record_key}
use Rattle.batch.specs.NewKeys.{new_count, new_at}
use Rattle.header.specs.Counters.{with_counters, with_slots}
use Rattle.soundness.specs.Apply.{after_live, after_new}
use Rattle.maps.specs.Map.{Entry, entry_in, map_of}
use Rattle.batch.proofs.Records.{record_length}
use Rattle.batch.proofs.NewRanks.{is_new_lem, new_at_lem}
use Rattle.soundness.proofs.Grown.{as_many, slot_more, Ready, new_grown}
use Rattle.maps.proofs.Applied.{Deciding, deciding_one}
use Rattle.maps.proofs.MapWrites.{appended_same, appended_else}

module _ (s : Shape) (image batch : List ℕ) (ready : Ready s image batch) where
  fit : (r : ℕ) → r ≤ new_count s.layout (is_live s image) batch → Shaped (with_slots s (s.slot_highwater + r)) (after_new s image batch r)
  fit r l = (new_grown s image batch ready r l).fit

  sound : (r : ℕ) → r ≤ new_count s.layout (is_live s image) batch → Sound (table_of (with_slots s (s.slot_highwater + r)) (after_new s image batch r))
  sound r l = (new_grown s image batch ready r l).formed.sound

  abbrev map_at : ℕ → List ℕ → Option Entry
  map_at r = map_of (with_slots s (s.slot_highwater + r)) (after_new s image batch r)

  abbrev record_of : ℕ → List ℕ
  record_of q = record_at s.layout batch (new_at s.layout (is_live s image) batch q)

  module _ (q : ℕ) (l : q < new_count s.layout (is_live s image) batch) where
    before : Shape
    before = with_slots s (s.slot_highwater + q)

    room : s.slot_highwater + q < s.layout.slot_capacity
    unfolding with_slots with_counters
    room = omega (arith, (fit (suc q) l).highwater)

    put : meta_in (record_of q) ≡ 1
    put = (is_new_lem s.layout (is_live s image) batch _ (new_at_lem s.layout (is_live s image) batch q l).new).meta

    whole : length (record_of q) ≡ s.layout.slot_size
    whole = record_length s.layout batch (new_at s.layout (is_live s image) batch q) (new_at_lem s.layout (is_live s image) batch q l).inside

    sound_then : Sound (table_of (grown before) (appended before (after_new s image batch q) (record_of q)))
    unfolding before after_new
    sound_then = subst (λ (t : Shape). Sound (table_of t (after_new s image batch (suc q)))) (slot_more s q) (sound (suc q) l)

    -- one new key more
    more_here : map_at (suc q) (record_key s.layout batch (new_at s.layout (is_live s image) batch q)) ≡ some (entry_in s (record_of q))
    unfolding record_key after_new before with_slots with_counters entry_in key_in
    more_here =
        rw (slot_more s q)
        (appended_same before (after_new s image batch q) (fit q (omega arith)) (sound q (omega arith)) (record_of q) whole put room sound_then)

    more_elsewhere : (k : List ℕ) → (record_key s.layout batch (new_at s.layout (is_live s image) batch q) ≡ k → ⊥) → map_at (suc q) k ≡ map_at q k
    unfolding record_key after_new before with_slots with_counters key_in
    more_elsewhere k other =
        rw (slot_more s q)
        (appended_else before (after_new s image batch q) (fit q (omega arith)) (sound q (omega arith)) (record_of q) whole put room sound_then k (λ e. other (sym e)))

  module _ (k : List ℕ) where
    -- the record of a new key decides on it
    pub new_deciding : (q : ℕ) → q < new_count s.layout (is_live s image) batch → record_key s.layout batch (new_at s.layout (is_live s image) batch q) ≡ k → Deciding s batch k (new_at s.layout (is_live s image) batch q)
    new_deciding q l key =
        let at = new_at_lem s.layout (is_live s image) batch q l in
        record { below = at.inside; key = key; deciding = (is_new_lem s.layout (is_live s image) batch _ at.new).decides }

    -- a key that is none of the first n new ones
    new_elsewhere : (n : ℕ) → n ≤ new_count s.layout (is_live s image) batch → ((q : ℕ) → q < n → record_key s.layout batch (new_at s.layout (is_live s image) batch q) ≡ k → ⊥)
        → map_at n k ≡ map_of s (after_live s image batch (record_count s.layout batch)) k
    unfolding after_new
    new_elsewhere zero l other = rw (as_many s)
    new_elsewhere (suc n) l other = more_elsewhere n l k (other n (omega arith)) ∙ new_elsewhere n (omega arith) (λ q m. other q (omega arith))

    -- a key that is one of them
    new_here : (n : ℕ) → n ≤ new_count s.layout (is_live s image) batch → (i : ℕ) → Deciding s batch k i → (q : ℕ) → q < n → new_at s.layout (is_live s image) batch q ≡ i
        → map_at n k ≡ some (entry_in s (record_at s.layout batch i))
    new_here zero l i d q m e = absurd (omega arith)
    new_here (suc n) l i d q m e =
        go (either (same (record_key s.layout batch (new_at s.layout (is_live s image) batch n)) k)) (λ below. new_here n (omega arith) i d q below e)
      where
        go : (same (record_key s.layout batch (new_at s.layout (is_live s image) batch n)) k ≡ true) ⊎ (same (record_key s.layout batch (new_at s.layout (is_live s image) batch n)) k ≡ false)
            → (q < n → map_at n k ≡ some (entry_in s (record_at s.layout batch i))) → map_at (suc n) k ≡ some (entry_in s (record_at s.layout batch i))
        go (inl hit) rest =
            let key = same_eq _ _ hit in
            let at = deciding_one s batch k (new_at s.layout (is_live s image) batch n) i (new_deciding n l key) d in
            ap (map_at (suc n)) (sym key) ∙ more_here n l ∙ ap (λ (j : ℕ). some (entry_in s (record_at s.layout batch j))) at
        go (inr miss) rest = more_elsewhere n l k other ∙ rest (by (eq-or-lt_of_le {n = q} {m = n} (omega arith)))
          where
            other : record_key s.layout batch (new_at s.layout (is_live s image) batch n) ≡ k → ⊥
            other key = not_both (eq_same _ _ key) miss

            by : (q ≡ n) ⊎ (q < n) → q < n
            by (inl at) = absurd (other (ap (λ (j : ℕ). record_key s.layout batch (new_at s.layout (is_live s image) batch j)) (sym at) ∙ ap (record_key s.layout batch) e ∙ d.key))
            by (inr below) = below

    -- After all new keys: a key that is not new, and a new one
    pub new_not : ((q : ℕ) → q < new_count s.layout (is_live s image) batch → record_key s.layout batch (new_at s.layout (is_live s image) batch q) ≡ k → ⊥)
        → map_at (new_count s.layout (is_live s image) batch) k ≡ map_of s (after_live s image batch (record_count s.layout batch)) k
    new_not = new_elsewhere (new_count s.layout (is_live s image) batch) (le_refl _)

    pub new_one : (i : ℕ) → Deciding s batch k i → (q : ℕ) → q < new_count s.layout (is_live s image) batch → new_at s.layout (is_live s image) batch q ≡ i
        → map_at (new_count s.layout (is_live s image) batch) k ≡ some (entry_in s (record_at s.layout batch i))
    new_one = new_here (new_count s.layout (is_live s image) batch) (le_refl _)
