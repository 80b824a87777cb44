-- What each write of a commit makes of the map that lookup reads: one key changes, or none.
-- Assumes nothing.
use Prim.Native.Nat.{ℕ, ◌+◌, ◌<◌}
use mathlib.Core.Path.{◌≡◌, refl, sym, ap, ◌∙◌}
use mathlib.Core.Logic.{◌↔◌, ◌⊎◌, inl, inr}
use mathlib.Core.List.{List}
use mathlib.Core.Option.{some, none}
use native.Mathlib.Nat.{eq-or-lt_of_le}
use native.Mathlib.Omega.{arith}
use lib.IntN.{ℤ}
use lib.ListN.{length}
use Rattle.probing.specs.Sound.{Sound}
use Rattle.header.specs.declared.shape.Layout.{Layout}
use Rattle.header.specs.declared.shape.Shape.{Shape}
use Rattle.header.specs.Counters.{with_counters, with_slots}
use Rattle.header.specs.Shaped.{Shaped}
use Rattle.image.specs.Table.{meta_of, key_of, table_of}
use Rattle.slots.specs.Slots.{rewritten, removed, appended}
use Rattle.slots.proofs.Table.Around.{SameSlot, SameBody}
use Rattle.slots.proofs.Table.Rewritten.{rewritten_other, rewritten_meta, rewritten_key, rewritten_revision, rewritten_index}
use Rattle.slots.proofs.Table.Removed.{removed_meta, removed_other, removed_body}
use Rattle.slots.proofs.Table.Appended.{grown, Holds, appended_other, appended_new}
use Rattle.batch.specs.Batch.{meta_in, key_in}
use Rattle.maps.specs.Map.{Entry, entry_in, map_of}
use Rattle.maps.proofs.MapSlots.{entry_of, Has, one_has, map_has, map_lacks, map_kept}

-- an entry by its parts
entry_same : {r r' : ℤ} {x x' : List ℕ} → r ≡ r' → x ≡ x' → ◌≡◌ {A = Entry} (record { revision = r; index = x }) (record { revision = r'; index = x' })
entry_same p q = λ i. record { revision = p i; index = q i }

-- a slot that reads as it did has its key, and shows its entry
module _ {s : Shape} {image image' : List ℕ} {n : ℕ} (same : SameSlot s.layout image image' n) where
  pub same_has : {k : List ℕ} → Has s image k n → Has s image' k n
  same_has h = record { below = h.below; alive = same.meta ∙ h.alive; key = same.key ∙ h.key }

  pub has_same : {k : List ℕ} → Has s image' k n → Has s image k n
  has_same h = record { below = h.below; alive = sym same.meta ∙ h.alive; key = sym same.key ∙ h.key }

pub same_entry : {layout : Layout} {image image' : List ℕ} {n : ℕ} → SameSlot layout image image' n → entry_of layout image' n ≡ entry_of layout image n
same_entry same = entry_same same.revision same.index

module _ (s : Shape) (image : List ℕ) (fit : Shaped s image) (sound : Sound (table_of s image)) where
  inside : {k : List ℕ} {n : ℕ} → Has s image k n → n < s.layout.slot_capacity
  inside h = omega (arith, h.below, fit.highwater)

  -- "Put on a live key rewrites revision and index in its slot."
  module _ (r : List ℕ) (whole : length r ≡ s.layout.slot_size) (n : ℕ) (has : Has s image (key_in s.layout r) n)
      (sound' : Sound (table_of s (rewritten s.layout image n r))) where
    pub rewritten_same : map_of s (rewritten s.layout image n r) (key_in s.layout r) ≡ some (entry_in s r)
    unfolding entry_in
    rewritten_same =
        map_has s (rewritten s.layout image n r) sound' (key_in s.layout r) n
        (record {
          below = has.below;
          alive = rewritten_meta s image fit n (inside has) r whole n ∙ has.alive;
          key = rewritten_key s image fit n (inside has) r whole n ∙ has.key;
        })
        ∙ ap some (entry_same (rewritten_revision s image fit n (inside has) r whole) (rewritten_index s image fit n (inside has) r whole))

    pub rewritten_else : (k : List ℕ) → (k ≡ key_in s.layout r → ⊥) → map_of s (rewritten s.layout image n r) k ≡ map_of s image k
    rewritten_else k other =
        map_kept s image sound s (rewritten s.layout image n r) sound' k
        (λ m h. let same = slots m (λ e. other (sym h.key ∙ ap (key_of s.layout image) e ∙ has.key)) in (same_has same h, same_entry same))
        (λ m h. record {
          below = h.below;
          alive = sym (rewritten_meta s image fit n (inside has) r whole m) ∙ h.alive;
          key = sym (rewritten_key s image fit n (inside has) r whole m) ∙ h.key;
        })
      where
        slots : (m : ℕ) → (m ≡ n → ⊥) → SameSlot s.layout image (rewritten s.layout image n r) m
        slots = rewritten_other s image fit n (inside has) r whole

  -- "Delete on a live key clears meta alone and makes its bucket a TOMBSTONE"
  module _ (key : List ℕ) (n b : ℕ) (has : Has s image key n) (bucket : b < s.layout.bucket_count) (sound' : Sound (table_of s (removed s.layout image n b))) where
    -- the slots that are live
    still : (k : List ℕ) (m : ℕ) → Has s (removed s.layout image n b) k m → (m ≡ n → ⊥) × Has s image k m
    still k m h = (gone, record { below = h.below; alive = sym (removed_other s image fit n b (inside has) bucket m cap gone) ∙ h.alive; key = sym body.key ∙ h.key })
      where
        cap : m < s.layout.slot_capacity
        cap = omega (arith, h.below, fit.highwater)

        gone : m ≡ n → ⊥
        gone e = let zero = ap (meta_of s.layout (removed s.layout image n b)) e ∙ removed_meta s image fit n b (inside has) bucket in omega (arith, h.alive)

        body : SameBody s.layout image (removed s.layout image n b) m
        body = removed_body s image fit n b (inside has) bucket m cap

    pub removed_same : map_of s (removed s.layout image n b) key ≡ none
    removed_same =
        map_lacks s (removed s.layout image n b) sound' key
        (λ m h. let was = still key m h in was.0 (one_has s image sound key m n was.1 has))

    pub removed_else : (k : List ℕ) → (k ≡ key → ⊥) → map_of s (removed s.layout image n b) k ≡ map_of s image k
    removed_else k other =
        map_kept s image sound s (removed s.layout image n b) sound' k
        (λ m h.
        let elsewhere : m ≡ n → ⊥ = λ e. other (sym h.key ∙ ap (key_of s.layout image) e ∙ has.key) in
        let body = removed_body s image fit n b (inside has) bucket m (inside h) in (
          record { below = h.below; alive = removed_other s image fit n b (inside has) bucket m (inside h) elsewhere ∙ h.alive; key = body.key ∙ h.key },
          entry_same body.revision body.index,
        ))
        (λ m h. (still k m h).1)

  -- "new keys get the next slot numbers, ...; the record's bytes become the whole slot"
  module _ (r : List ℕ) (whole : length r ≡ s.layout.slot_size) (put : meta_in r ≡ 1) (room : s.slot_highwater < s.layout.slot_capacity)
      (sound' : Sound (table_of (grown s) (appended s image r))) where
    after : List ℕ
    after = appended s image r

    -- slots lie where they lay
    grown_has : (k : List ℕ) (m : ℕ) → Has (grown s) after k m ↔ ((m < s.slot_highwater + 1) × (meta_of s.layout after m ≡ 1) × (key_of s.layout after m ≡ k))
    unfolding with_slots with_counters
    grown_has k m = (λ h. (h.below, h.alive, h.key), λ h. record { below = h.0; alive = h.1; key = h.2 })

    grown_entry : (m : ℕ) → entry_of (grown s).layout after m ≡ entry_of s.layout after m
    unfolding with_slots with_counters
    grown_entry m = refl

    slots : (m : ℕ) → m < s.slot_highwater → SameSlot s.layout image after m
    unfolding after
    slots m l = appended_other s image fit room r whole m (omega (arith, fit.highwater)) (λ e. omega arith)

    new : Holds s.layout after s.slot_highwater r
    unfolding after
    new = appended_new s image fit room r whole

    pub appended_same : map_of (grown s) (appended s image r) (key_in s.layout r) ≡ some (entry_in s r)
    unfolding entry_in meta_in key_in after
    appended_same =
        let n = s.slot_highwater in
        map_has (grown s) after sound' (key_in s.layout r) n ((grown_has (key_in s.layout r) n).1 (omega arith, new.meta ∙ put, new.key))
        ∙ ap some (grown_entry n ∙ entry_same new.revision new.index)

    pub appended_else : (k : List ℕ) → (k ≡ key_in s.layout r → ⊥) → map_of (grown s) (appended s image r) k ≡ map_of s image k
    unfolding key_in after
    appended_else k other = map_kept s image sound (grown s) after sound' k on back
      where
        on : (m : ℕ) → Has s image k m → Has (grown s) after k m × (entry_of (grown s).layout after m ≡ entry_of s.layout image m)
        on m h =
            let same = slots m h.below in
            let kept = same_has same h in
            ((grown_has k m).1 (omega (arith, h.below), kept.alive, kept.key), grown_entry m ∙ same_entry same)

        old : (m : ℕ) → Has (grown s) after k m → m < s.slot_highwater
        old m h =
            let is = (grown_has k m).0 h in
            by (eq-or-lt_of_le {n = m} {m = s.slot_highwater} (omega (arith, is.0))) is.2
          where
            by : (m ≡ s.slot_highwater) ⊎ (m < s.slot_highwater) → key_of s.layout after m ≡ k → m < s.slot_highwater
            by (inl e) key = absurd (other (sym key ∙ ap (key_of s.layout after) e ∙ new.key))
            by (inr l) key = l

        back : (m : ℕ) → Has (grown s) after k m → Has s image k m
        back m h =
            let is = (grown_has k m).0 h in
            has_same (slots m (old m h)) (record { below = old m h; alive = is.1; key = is.2 })
