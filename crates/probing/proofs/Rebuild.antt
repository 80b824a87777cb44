-- A rebuilt index: it holds the live slots and no TOMBSTONE, and the slots stay.
-- Assumes nothing.
use Prim.Native.Nat.{ℕ, zero, suc, ◌+◌, ◌≤◌, ◌<◌}
use mathlib.Core.Bool.{Bool, true, false, cond}
use mathlib.Core.Path.{◌≡◌, refl, sym, ap, subst, ◌∙◌}
use native.Mathlib.Nat.{le_dest, le_refl, add-zero, add-suc}
use native.Mathlib.Numerals.{add-one}
use native.Mathlib.Omega.{arith}
use borrow.Author.Tests.{eqb-true, eqb-false}
use Rattle.probing.specs.Counting.{sum_to, one, count_to}
use Rattle.probing.specs.Table.{Bucket, EMPTY, FULL, Table, live, live_count, full_count, tombstone_count}
use Rattle.probing.specs.Probe.{probe}
use Rattle.probing.specs.Report.{Missing}
use Rattle.probing.specs.Check.{metas_right, never_fall}
use Rattle.probing.specs.Sound.{Sound}
use Rattle.probing.specs.Change.{placed, rebuilt_to, rebuilt}
use Rattle.probing.proofs.Counting.{one_more, count_none}
use Rattle.probing.proofs.Change.{count_more}
use Rattle.probing.proofs.Placed.{up_to, probe_up_to, placing}
use Rattle.probing.proofs.Reading.{probe_none}

-- What rebuilding the index makes of a table.
pub record Rebuilt (t t' : Table) : Type 0 where
  pub sound : Sound t'
  pub same_b : t'.B ≡ t.B
  pub same_highwater : t'.highwater ≡ t.highwater
  pub same_metas : t'.meta ≡ t.meta
  pub same_keys : t'.key ≡ t.key
  pub same_hash : t'.hash ≡ t.hash
  pub metas : metas_right t' ≡ metas_right t
  pub lives : live_count t' ≡ live_count t
  pub fulls : full_count t' ≡ live_count t
  pub tombstones : tombstone_count t' ≡ 0
  pub order : never_fall t' ≡ never_fall t

-- the table with other buckets
abbrev pub over : Table → (ℕ → Bucket) → Table
over t f = record { B = t.B; highwater = t.highwater; bucket = f; meta = t.meta; key = t.key; hash = t.hash }

-- rebuilding changes the buckets alone
pub rebuilt_over : (t : Table) (n : ℕ) → rebuilt_to t n ≡ over t (rebuilt_to t n).bucket
unfolding rebuilt_to placed
rebuilt_over t zero = refl
rebuilt_over t (suc n) = go (live t n) (rebuilt_over t n)
  where
    go : {u : Table} (alive : Bool) → u ≡ over t u.bucket → cond alive (placed u n) u ≡ over t (cond alive (placed u n) u).bucket
    go {u} true e = ap (λ (v : Table). over v (placed u n).bucket) e
    go false e = e

-- The buckets f are a sound index over the slots of t below n, with a FULL bucket for each live one and no TOMBSTONE.
pub record Built (t : Table) (n : ℕ) (f : ℕ → Bucket) : Type 0 where
  pub sound : Sound (up_to (over t f) n)
  pub fulls : full_count (over t f) ≡ count_to n (live t)
  pub tombstones : tombstone_count (over t f) ≡ 0

-- the buckets all EMPTY
built_none : (t : Table) → 0 < t.B → Built t 0 (λ b. EMPTY)
unfolding full_count tombstone_count count_to sum_to
built_none t some =
    record {
      sound = record {
        full = λ b h s l q. absurd (clash q);
        different = λ s s' l. absurd (omega arith);
        reached = λ s l. absurd (omega arith);
        single = λ b b' h h' s l l' q. absurd (clash q);
        vacant = (0, some, refl);
      };
      fulls = count_none t.B (λ b l. refl);
      tombstones = count_none t.B (λ b l. refl);
    }
  where
    clash : {h s : ℕ} → EMPTY ≡ FULL h s → ⊥
    clash e = let z : ◌≡◌ {A = ℕ} 0 1 = cc in omega arith

-- a slot that is not live needs no bucket
built_dead : (t : Table) (n : ℕ) (f : ℕ → Bucket) → live t n ≡ false → Built t n f → Built t (n + 1) f
built_dead t n f dead b =
    record {
      sound = record {
        full = λ p h s l q. let old = b.sound.full p h s l q in (omega (arith, old.0), old.1, old.2);
        different = λ s s' l l' m m'. b.sound.different s s' (older s l m) (older s' l' m') m m';
        reached = λ s l m.
            let r = b.sound.reached s (older s l m) m in
            record { distance = r.distance; within = r.within; stands = r.stands; way = r.way };
        single = b.sound.single;
        vacant = b.sound.vacant;
      };
      fulls = b.fulls ∙ sym (count_more n (live t) ∙ ap (λ (x : ℕ). count_to n (live t) + x) (ap one dead) ∙ add-zero _);
      tombstones = b.tombstones;
    }
  where
    older : (s : ℕ) → s < n + 1 → t.meta s ≡ 1 → s < n
    older s l = one_more {P = λ s. t.meta s ≡ 1 → s < n} n (λ s l m. l) (λ m. absurd (eqb-false _ _ dead m)) s (omega arith)

-- a live slot is placed
built_live : (t : Table) (n : ℕ) (f : ℕ → Bucket) → live t n ≡ true
    → ((s : ℕ) → s < n → t.meta s ≡ 1 → t.key s ≡ t.key n → ⊥) → count_to n (live t) + 1 < t.B
    → Built t n f → Built t (n + 1) (placed (over t f) n).bucket
unfolding placed
built_live t n f alive new room b =
    let made = placing (over t f) n b.sound (eqb-true _ _ alive) new (omega (arith, b.fulls, b.tombstones)) in
    let more = count_more n (live t) in
    let counts = ap one alive in
    record { sound = made.sound; fulls = omega (arith, made.fulls, b.fulls); tombstones = omega (arith, made.tombstones, b.tombstones) }

-- a count grows with its bound
count_grows : (p : ℕ → Bool) (n more : ℕ) → count_to n p ≤ count_to (n + more) p
unfolding count_to sum_to
count_grows p n zero = rw add-zero (le_refl _)
count_grows p n (suc more) = rw add-suc (omega (arith, count_grows p n more))

module _ (t : Table) (room : live_count t < t.B)
    (different : (s s' : ℕ) → s < t.highwater → s' < t.highwater → t.meta s ≡ 1 → t.meta s' ≡ 1 → t.key s ≡ t.key s' → s ≡ s') where
  -- the live slots below n are fewer than the buckets
  roomy : (n : ℕ) → n ≤ t.highwater → count_to n (live t) < t.B
  unfolding live_count
  roomy n l = let d = le_dest l in omega (arith, rw d.1 at (count_grows (live t) n d.0))

  -- a live slot's key is that of no live slot below it
  unlike : (n : ℕ) → n < t.highwater → t.meta n ≡ 1 → (s : ℕ) → s < n → t.meta s ≡ 1 → t.key s ≡ t.key n → ⊥
  unlike n l alive s less m e = omega (arith, different s n (omega arith) l m alive e)

  -- slot by slot
  pub built : (n : ℕ) → n ≤ t.highwater → Built t n (rebuilt_to t n).bucket
  unfolding rebuilt_to
  built zero l = built_none t (omega arith)
  built (suc n) l = rw add-one at (go (live t n) refl (built n (omega arith)))
    where
      go : (alive : Bool) → live t n ≡ alive → Built t n (rebuilt_to t n).bucket
          → Built t (n + 1) (cond alive (placed (rebuilt_to t n) n) (rebuilt_to t n)).bucket
      go true alive before =
          let fits = roomy (n + 1) (omega arith) in
          let more = count_more n (live t) in
          let counts = ap one alive in
          subst (λ (u : Table). Built t (n + 1) (placed u n).bucket) (sym (rebuilt_over t n))
          (built_live t n (rebuilt_to t n).bucket alive (unlike n l (eqb-true _ _ alive)) (omega arith) before)
      go false dead before = built_dead t n _ dead before

  -- before its turn, a live slot's key is not in the index
  pub unbuilt : (n : ℕ) → n < t.highwater → t.meta n ≡ 1 → Missing (rebuilt_to t n) (t.key n)
  unbuilt n l alive =
      let sound = (built n (omega arith)).sound in
      let none = probe_none _ sound (t.key n) (unlike n l alive) in
      let inside = probe_up_to (over t (rebuilt_to t n).bucket) n (omega arith) (omega arith) (λ b h s below q. (sound.full b h s below q).0) (t.key n) in
      (none.0, ap (λ (u : Table). probe u (t.key n)) (rebuilt_over t n) ∙ inside ∙ none.1)

-- The index is rebuilt, where live slots have different keys and are fewer than the buckets.
pub rebuilding : (t : Table) → live_count t < t.B
    → ((s s' : ℕ) → s < t.highwater → s' < t.highwater → t.meta s ≡ 1 → t.meta s' ≡ 1 → t.key s ≡ t.key s' → s ≡ s')
    → Rebuilt t (rebuilt t)
unfolding rebuilt metas_right live_count never_fall
rebuilding t room different =
    let b = built t room different t.highwater (le_refl _) in
    subst (Rebuilt t) (sym (rebuilt_over t t.highwater))
    (record {
      sound = b.sound;
      same_b = refl;
      same_highwater = refl;
      same_metas = refl;
      same_keys = refl;
      same_hash = refl;
      metas = refl;
      lives = refl;
      fulls = b.fulls;
      tombstones = b.tombstones;
      order = refl;
    })
