-- A slot more in the index: a sound index over the slots below n gets slot n, by its key's place.
-- Assumes nothing.
use Prim.Native.Nat.{ℕ, zero, suc, ◌+◌, ◌≤◌, ◌<◌}
use mathlib.Core.Bool.{false}
use mathlib.Core.Path.{◌≡◌, refl, sym, ap, ◌∙◌}
use mathlib.Core.List.{List}
use native.Mathlib.Nat.{mod-lt}
use native.Mathlib.Omega.{arith}
use borrow.Author.Tests.{lt-leb}
use Rattle.probing.specs.Counting.{one}
use Rattle.probing.specs.Table.{Bucket, EMPTY, TOMBSTONE, FULL, Table, is_tombstone, is_full, full_count, tombstone_count}
use Rattle.probing.specs.Probe.{Probed, home, next, examine, probe_from, probe}
use Rattle.probing.specs.Sound.{Reached, Sound}
use Rattle.probing.specs.Change.{with_bucket, place, placed}
use Rattle.probing.proofs.Counting.{one_more}
use Rattle.probing.proofs.Keys.{not_both}
use Rattle.probing.proofs.Checks.Stands.{has_empty}
use Rattle.probing.proofs.Change.{update_same, by_update, count_update}
use Rattle.probing.proofs.Place.{FirstFree, place_first, place_below}

-- the table with its slots below n alone
abbrev pub up_to : Table → ℕ → Table
up_to t n = record { B = t.B; highwater = n; bucket = t.bucket; meta = t.meta; key = t.key; hash = t.hash }

-- where the index holds slots below n alone, a probe ends as in the table with those alone
module _ (t : Table) (n : ℕ) (fewer : n ≤ t.highwater) (some : 0 < t.B) (held : (b h s : ℕ) → b < t.B → t.bucket b ≡ FULL h s → s < n) where
  examine_up_to : (k : List ℕ) (c : ℕ) (onward : Probed) (x : Bucket) → ((h s : ℕ) → x ≡ FULL h s → s < n) → examine t k c onward x ≡ examine (up_to t n) k c onward x
  unfolding examine
  examine_up_to k c onward EMPTY inside = refl
  examine_up_to k c onward TOMBSTONE inside = refl
  examine_up_to k c onward (FULL h s) inside = let l = inside h s refl in rw (lt-leb t.highwater s (omega arith), lt-leb n s l) refl

  probe_from_up_to : (k : List ℕ) (left b passed : ℕ) → b < t.B → probe_from t k left b passed ≡ probe_from (up_to t n) k left b passed
  unfolding probe_from
  probe_from_up_to k zero b passed l = refl
  probe_from_up_to k (suc left) b passed l =
      ap (λ (onward : Probed). examine t k (passed + 1) onward (t.bucket b)) (probe_from_up_to k left (next t b) (passed + 1) (mod-lt _ some))
      ∙ examine_up_to k (passed + 1) _ (t.bucket b) (λ h s. held b h s l)

  pub probe_up_to : (k : List ℕ) → probe t k ≡ probe (up_to t n) k
  unfolding probe
  probe_up_to k = probe_from_up_to k t.B (home t k) 0 (mod-lt _ some)

-- the table with its slots up to n, and slot n in bucket p
abbrev filled : Table → ℕ → ℕ → Table
filled t n p = up_to (with_bucket t p (FULL (t.hash (t.key n)) n)) (n + 1)

-- what follows at bucket p, and at the others, follows
by_bucket : {P : Type 0} (t : Table) (n p b : ℕ) → (b ≡ p → (filled t n p).bucket b ≡ FULL (t.hash (t.key n)) n → P)
    → ((filled t n p).bucket b ≡ t.bucket b → P) → P
by_bucket t n p b there elsewhere = by_update t.bucket p (FULL (t.hash (t.key n)) n) b there (λ other. elsewhere)

module _ (t : Table) (n p : ℕ) (free : is_full (t.bucket p) ≡ false) where
  -- a FULL bucket stays
  full_stays : (b h s : ℕ) → t.bucket b ≡ FULL h s → (filled t n p).bucket b ≡ FULL h s
  full_stays b h s q =
      by_bucket t n p b
      (λ at v. absurd (not_both (sym (ap (λ (x : ℕ). is_full (t.bucket x)) at) ∙ ap is_full q) free))
      (λ v. v ∙ q)

  -- an EMPTY bucket was EMPTY
  empty_was : (b : ℕ) → (filled t n p).bucket b ≡ EMPTY → t.bucket b ≡ EMPTY
  empty_was b q = by_bucket t n p b (λ at v. cc) (λ v. cc)

module _ (t : Table) (n p : ℕ) (sound : Sound (up_to t n)) (alive : t.meta n ≡ 1)
    (new : (s : ℕ) → s < n → t.meta s ≡ 1 → t.key s ≡ t.key n → ⊥) (first : FirstFree t (home t (t.key n)) p) where
  -- no bucket held slot n
  unheld : (b h : ℕ) → b < t.B → t.bucket b ≡ FULL h n → ⊥
  unheld b h l q = omega (arith, (sound.full b h n l q).0)

  filled_full : (b h s : ℕ) → b < t.B → (filled t n p).bucket b ≡ FULL h s → (s < n + 1) × (t.meta s ≡ 1) × (h ≡ t.hash (t.key s))
  filled_full b h s l q =
      by_bucket t n p b
      (λ at v. let e : s ≡ n = cc in (omega arith, rw e alive, cc))
      (λ v. let old = sound.full b h s l (sym v ∙ q) in (omega arith, old.1, old.2))

  filled_different : (s s' : ℕ) → s < n + 1 → s' < n + 1 → t.meta s ≡ 1 → t.meta s' ≡ 1 → t.key s ≡ t.key s' → s ≡ s'
  filled_different s s' l l' m m' = one_more {P = λ x. t.meta x ≡ 1 → t.key x ≡ t.key s' → x ≡ s'} n old last s (omega arith) m
    where
      old : (x : ℕ) → x < n → t.meta x ≡ 1 → t.key x ≡ t.key s' → x ≡ s'
      old x lx mx =
          one_more {P = λ y. t.meta y ≡ 1 → t.key x ≡ t.key y → x ≡ y} n (λ y ly my. sound.different x y lx ly mx my) (λ my q. absurd (new x lx mx q)) s' (omega arith) m'

      last : t.meta n ≡ 1 → t.key n ≡ t.key s' → n ≡ s'
      last mn =
          one_more {P = λ y. t.meta y ≡ 1 → t.key n ≡ t.key y → n ≡ y} n (λ y ly my q. absurd (new y ly my (sym q))) (λ my q. refl) s' (omega arith) m'

  filled_single : (b b' h h' s : ℕ) → b < t.B → b' < t.B → (filled t n p).bucket b ≡ FULL h s → (filled t n p).bucket b' ≡ FULL h' s → b ≡ b'
  filled_single b b' h h' s l l' q q' = by_bucket t n p b there elsewhere
    where
      there : b ≡ p → (filled t n p).bucket b ≡ FULL (t.hash (t.key n)) n → b ≡ b'
      there at v =
          let e : s ≡ n = cc in
          by_bucket t n p b' (λ at' v'. cc) (λ v'. absurd (unheld b' h' l' (sym v' ∙ q' ∙ ap (FULL h') e)))

      elsewhere : (filled t n p).bucket b ≡ t.bucket b → b ≡ b'
      elsewhere v =
          by_bucket t n p b'
          (λ at' v'. let e : s ≡ n = cc in absurd (unheld b h l (sym v ∙ q ∙ ap (FULL h) e)))
          (λ v'. sound.single b b' h h' s l l' (sym v ∙ q) (sym v' ∙ q'))

  filled_reached : (s : ℕ) → s < n + 1 → t.meta s ≡ 1 → Reached (filled t n p) s
  filled_reached s l = one_more {P = λ s. t.meta s ≡ 1 → Reached (filled t n p) s} n old last s (omega arith)
    where
      old : (s : ℕ) → s < n → t.meta s ≡ 1 → Reached (filled t n p) s
      old s l m =
          let r = sound.reached s l m in
          record {
            distance = r.distance;
            within = r.within;
            stands = full_stays t n p first.free _ _ _ r.stands;
            way = λ i l q. r.way i l (empty_was t n p first.free _ q);
          }

      last : t.meta n ≡ 1 → Reached (filled t n p) n
      last m =
          record {
            distance = first.distance;
            within = first.within;
            stands = update_same t.bucket p _ _ (sym first.there);
            way = λ i l q. not_both (first.way i l) (ap is_full (empty_was t n p first.free _ q));
          }

-- What comes of slot n when it is placed.
pub record Placed (t : Table) (n : ℕ) : Type 0 where
  pub sound : Sound (up_to (placed t n) (n + 1))
  pub fulls : full_count (placed t n) ≡ full_count t + 1
  pub tombstones : tombstone_count (placed t n) + one (is_tombstone (t.bucket (place t (t.key n)))) ≡ tombstone_count t

-- A sound index over the slots below n gets the live slot n, whose key no live slot below has, where two buckets are EMPTY.
pub placing : (t : Table) (n : ℕ) → Sound (up_to t n) → t.meta n ≡ 1
    → ((s : ℕ) → s < n → t.meta s ≡ 1 → t.key s ≡ t.key n → ⊥) → full_count t + tombstone_count t + 1 < t.B → Placed t n
unfolding placed full_count tombstone_count
placing t n sound alive new room =
    let p = place t (t.key n) in
    let vacant = sound.vacant in
    let first = place_first t (t.key n) vacant.0 vacant.1 (ap is_full vacant.2) in
    let below = place_below t (t.key n) first in
    let mark = FULL (t.hash (t.key n)) n in
    let fulls = count_update is_full t.B t.bucket p mark below in
    let tombstones = count_update is_tombstone t.B t.bucket p mark below in
    let was = ap one first.free in
    record {
      sound = record {
        full = filled_full t n p sound alive new first;
        different = filled_different t n p sound alive new first;
        reached = filled_reached t n p sound alive new first;
        single = filled_single t n p sound alive new first;
        vacant = has_empty (with_bucket t p mark) (omega arith);
      };
      fulls = omega arith;
      tombstones = omega arith;
    }
