-- How the probes of a sound table's live slots pass over its buckets: those that pass over a bucket, and those that have their
-- home at the next, pass over the next, but for the one that ends there.
-- Assumes nothing.
use Prim.Native.Nat.{ℕ, suc, ◌+◌, ◌-◌, ◌%◌, ◌≤◌, ◌<◌}
use mathlib.Core.Bool.{Bool, true, false, ◌&&◌}
use mathlib.Core.List.{List}
use mathlib.Core.Path.{◌≡◌, refl, sym, ◌∙◌, ap}
use mathlib.Core.Logic.{◌⊎◌, inl, inr, ◌↔◌}
use native.Mathlib.Nat.{mod-lt}
use native.Mathlib.Omega.{arith}
use lib.Dec.{eqb, ltb}
use borrow.Author.Tests.{eqb-true, eqb-false, eq-eqb, ne_eqb, ltb-true}
use Rattle.probing.specs.Counting.{one, count_to}
use Rattle.probing.specs.Table.{Bucket, EMPTY, TOMBSTONE, FULL, Table, live, is_tombstone, tombstone_count}
use Rattle.probing.specs.Probe.{home, next, probe, count_of}
use Rattle.probing.specs.Sound.{Reached, Sound}
use Rattle.probing.specs.Overflow.{homes_of, overflow}
use Rattle.probing.specs.Flow.{away, passes_over, flow}
use Rattle.probing.proofs.Keys.{either, and_both, both_and, not_true_false}
use Rattle.probing.proofs.Counting.{sum_same, sum_add, count_single, count_none, count_positive}
use Rattle.probing.proofs.Away.{one_ltb, one_eqb, steps_away, away_steps, away_next}
use Rattle.probing.proofs.Stretch.{flow_overflow}
use Rattle.probing.proofs.Round.{no_step}
use Rattle.probing.proofs.Reading.{roomy, probe_live}

-- tests that pass where each other does are equal
eqb_same : (a b c d : ℕ) → (a ≡ b → c ≡ d) → (c ≡ d → a ≡ b) → eqb a b ≡ eqb c d
eqb_same a b c d there back = go (either (eqb a b))
  where
    go : (eqb a b ≡ true) ⊎ (eqb a b ≡ false) → eqb a b ≡ eqb c d
    go (inl e) = e ∙ sym (eq-eqb c d (there (eqb-true a b e)))
    go (inr e) = e ∙ sym (ne_eqb c d (λ q. eqb-false a b e (back q)))

-- below c, or c
below_or_at : (a c : ℕ) → one (ltb a c) + one (eqb a c) ≡ one (ltb a (suc c))
below_or_at a c = go (eqb a c) refl
  where
    go : (e : Bool) → eqb a c ≡ e → one (ltb a c) + one e ≡ one (ltb a (suc c))
    go true e = omega (arith, eqb-true a c e, one_ltb a c, one_ltb a (suc c))
    go false e = omega (arith, eqb-false a c e, one_ltb a c, one_ltb a (suc c))

-- a probe that ends d steps from its home, and two buckets in a row, r and r' steps from there: it passes over the second or
-- ends there if it passes over the first, or the second is its home
pass_on :
    (B d r r' : ℕ) → d < B → r < B → (r' ≡ r + 1) ⊎ (r' + B ≡ r + 1)
    → one (ltb (r' + 1) (suc d)) + one (eqb (r' + 1) (suc d)) ≡ one (ltb (r + 1) (suc d)) + one (eqb r' 0)
pass_on B d r r' l k c = below_or_at (r' + 1) (suc d) ∙ go c
  where
    go : (r' ≡ r + 1) ⊎ (r' + B ≡ r + 1) → one (ltb (r' + 1) (suc (suc d))) ≡ one (ltb (r + 1) (suc d)) + one (eqb r' 0)
    go (inl e) =
        let z : one (eqb r' 0) ≡ 0 = omega (arith, one_eqb r' 0) in
        omega (arith, one_ltb (r' + 1) (suc (suc d)), one_ltb (r + 1) (suc d))
    go (inr e) =
        let z : one (eqb r' 0) ≡ 1 = omega (arith, one_eqb r' 0) in
        omega (arith, one_ltb (r' + 1) (suc (suc d)), one_ltb (r + 1) (suc d))

-- a balance of tests that holds of live slots holds of all, for where a slot is not live all the tests fail
each_live :
    (p v w x y : Bool) → (p ≡ true → one v + one w ≡ one x + one y)
    → one (p && v) + one (p && w) ≡ one (p && x) + one (p && y)
each_live true v w x y h = h refl
each_live false v w x y h = refl

-- whether the probe for a key ends at bucket b
abbrev ends_at : Table → List ℕ → ℕ → Bool
ends_at t k b = eqb (away t k b + 1) (count_of (probe t k))

-- how many live slots' probes end at bucket b
standing : Table → ℕ → ℕ
standing t b = count_to t.highwater (λ s. live t s && ends_at t (t.key s) b)

-- a bucket that is no TOMBSTONE
abbrev EmptyOrFull : Bucket → Type 0
EmptyOrFull x = (x ≡ EMPTY) ⊎ ((h : ℕ) × (s : ℕ) × (x ≡ FULL h s))

-- buckets that are equal hold one slot
full_same : {h h' s s' : ℕ} → FULL h s ≡ FULL h' s' → s ≡ s'
full_same e = cc

full_empty : {h s : ℕ} → FULL h s ≡ EMPTY → ⊥
full_empty e = let z : ◌≡◌ {A = ℕ} 0 1 = cc in omega arith

module _ (t : Table) (sound : Sound t) where
  -- a live slot s with its key k
  module _ (s : ℕ) (below : s < t.highwater) (alive : live t s ≡ true) where
    abbrev k : List ℕ
    k = t.key s

    abbrev pub reach : Reached t s
    reach = sound.reached s below (eqb-true (t.meta s) 1 alive)

    -- its count is its distance and one
    pub count_live : count_of (probe t k) ≡ suc reach.distance
    count_live = ap count_of (probe_live t sound s below (eqb-true (t.meta s) 1 alive))

    home_inside : home t k < t.B
    home_inside = mod-lt (t.hash k) (roomy t sound)

    -- its home is the bucket that is no step away
    home_away : (b : ℕ) → b < t.B → eqb (home t k) b ≡ eqb (away t k b) 0
    home_away b l =
        let none : (home t k + 0) % t.B ≡ home t k = no_step (t.hash k) t.B in
        eqb_same (home t k) b (away t k b) 0
        (λ e. ap (away t k) (sym (none ∙ e)) ∙ away_steps t.B (home t k) home_inside 0 (roomy t sound))
        (λ e. sym none ∙ ap (λ (x : ℕ). (home t k + x) % t.B) (sym e) ∙ steps_away t.B (home t k) home_inside b l)

    -- its probe passes over the next bucket or ends there if it passes over this one, or the next is its home
    live_on :
        (b : ℕ) → b < t.B
        → one (passes_over t k (next t b)) + one (ends_at t k (next t b)) ≡ one (passes_over t k b) + one (eqb (home t k) (next t b))
    live_on b l =
        rw (count_live, home_away (next t b) (mod-lt (b + 1) (roomy t sound)))
        (pass_on t.B reach.distance (away t k b) (away t k (next t b)) reach.within (mod-lt _ (roomy t sound))
        (away_next t.B b (t.B - home t k) l))

    -- its probe ends at the bucket that holds it
    ends_full : (b : ℕ) → b < t.B → ends_at t k b ≡ true → t.bucket b ≡ FULL (t.hash k) s
    ends_full b l e =
        let d : away t k b ≡ reach.distance = omega (arith, count_live, eqb-true (away t k b + 1) (count_of (probe t k)) e) in
        ap t.bucket (sym (steps_away t.B (home t k) home_inside b l) ∙ ap (λ (x : ℕ). (home t k + x) % t.B) d)
        ∙ reach.stands

    full_ends : (b h : ℕ) → b < t.B → t.bucket b ≡ FULL h s → ends_at t k b ≡ true
    full_ends b h l e =
        let here = sound.single b _ h _ s l (mod-lt _ (roomy t sound)) e reach.stands in
        let d = ap (away t k) here ∙ away_steps t.B (home t k) home_inside reach.distance reach.within in
        eq-eqb (away t k b + 1) (count_of (probe t k)) (omega (arith, count_live))

    -- its probe passes over no EMPTY bucket
    passes_full : (b : ℕ) → b < t.B → passes_over t k b ≡ true → t.bucket b ≡ EMPTY → ⊥
    passes_full b l p e =
        let q = ltb-true (away t k b + 1) (count_of (probe t k)) p in
        reach.way (away t k b) (omega (arith, count_live)) (ap t.bucket (steps_away t.B (home t k) home_inside b l) ∙ e)

  -- where no live slot passes a test none is counted
  none_live :
      (p : ℕ → Bool) → ((s : ℕ) → s < t.highwater → live t s ≡ true → p s ≡ true → ⊥)
      → count_to t.highwater (λ s. live t s && p s) ≡ 0
  none_live p h = count_none t.highwater (λ s below. not_true_false _ (λ e.
      let both = and_both _ _ e in
      h s below both.0 both.1))

  -- What passes over the next bucket or ends there passed over this one or has its home there.
  conserved : (b : ℕ) → b < t.B → flow t (next t b) + standing t (next t b) ≡ flow t b + homes_of t (next t b)
  unfolding flow homes_of standing count_to
  conserved b l =
      sym (sum_add t.highwater _ _)
      ∙ sum_same t.highwater (λ s below. each_live (live t s) _ _ _ _ (λ alive. live_on s below alive b l))
      ∙ sum_add t.highwater _ _

  -- nothing passes over an EMPTY bucket
  pub flow_empty : (b : ℕ) → b < t.B → t.bucket b ≡ EMPTY → flow t b ≡ 0
  unfolding flow
  flow_empty b l e = none_live (λ s. passes_over t (t.key s) b) (λ s below alive p. passes_full s below alive b l p e)

  -- nothing ends there
  standing_empty : (b : ℕ) → b < t.B → t.bucket b ≡ EMPTY → standing t b ≡ 0
  unfolding standing
  standing_empty b l e = none_live (λ s. ends_at t (t.key s) b) (λ s below alive p. full_empty (sym (ends_full s below alive b l p) ∙ e))

  -- one probe ends at a FULL bucket
  standing_full : (b h s : ℕ) → b < t.B → t.bucket b ≡ FULL h s → standing t b ≡ 1
  unfolding standing
  standing_full b h s l e =
      let f = sound.full b h s l e in
      let alive = eq-eqb (t.meta s) 1 f.1 in
      count_single t.highwater _ s f.0 (both_and alive (full_ends s f.0 alive b h l e))
      (λ j below other. not_true_false _ (λ p.
      let both = and_both _ _ p in
      other (full_same (sym (ends_full j below both.0 b l both.1) ∙ e))))

  -- A table without tombstones.
  module _ (clear : tombstone_count t ≡ 0) where
    -- a bucket is EMPTY or FULL
    empty_or_full : (b : ℕ) → b < t.B → EmptyOrFull (t.bucket b)
    unfolding tombstone_count
    empty_or_full b l = go (t.bucket b) refl
      where
        go : (x : Bucket) → t.bucket b ≡ x → EmptyOrFull (t.bucket b)
        go EMPTY e = inl e
        go TOMBSTONE e =
            let p = count_positive t.B (λ x. is_tombstone (t.bucket x)) b l (ap is_tombstone e) in
            absurd (omega arith)
        go (FULL h s) e = inr (h, s, e)

    module _ (b : ℕ) (l : b < t.B) where
      abbrev inside : next t b < t.B
      inside = mod-lt (b + 1) (roomy t sound)

      -- The recurrence: at the next bucket its homes come in, and one probe ends if there is one.
      pub flow_next : flow t (next t b) ≡ flow t b + homes_of t (next t b) - 1
      flow_next = go (empty_or_full (next t b) inside)
        where
          go : EmptyOrFull (t.bucket (next t b)) → flow t (next t b) ≡ flow t b + homes_of t (next t b) - 1
          go (inl e) = omega (arith, conserved b l, flow_empty (next t b) inside e, standing_empty (next t b) inside e)
          go (inr (h, s, e)) = omega (arith, conserved b l, standing_full (next t b) h s inside e)

      -- The next bucket is not EMPTY just where a probe passes over this one or has its home there.
      pub next_full : (t.bucket (next t b) ≡ EMPTY → ⊥) ↔ (1 ≤ flow t b + homes_of t (next t b))
      next_full = (
        λ taken. go taken (empty_or_full (next t b) inside),
        λ some e. omega (arith, conserved b l, flow_empty (next t b) inside e, standing_empty (next t b) inside e),
      )
        where
          go : (t.bucket (next t b) ≡ EMPTY → ⊥) → EmptyOrFull (t.bucket (next t b)) → 1 ≤ flow t b + homes_of t (next t b)
          go taken (inl e) = absurd (taken e)
          go taken (inr (h, s, e)) = omega (arith, conserved b l, standing_full (next t b) h s inside e)

    -- What passes over a bucket is its overflow.
    pub flow_is_overflow : (b : ℕ) → b < t.B → flow t b ≡ overflow t.B (homes_of t) b
    flow_is_overflow =
        let (e, l, empty) = sound.vacant in
        flow_overflow t.B (homes_of t) (flow t) flow_next e l (flow_empty e l empty)
