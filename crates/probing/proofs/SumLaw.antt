-- The sum law: in a sound table without tombstones the sum of lookup counts over the live keys is their number and every
-- bucket's overflow, which their home buckets alone decide.
-- Assumes nothing.
use Prim.Native.Nat.{ℕ, zero, suc, ◌+◌, ◌-◌, ◌%◌, max, ◌<◌}
use mathlib.Core.Bool.{Bool, true, false, cond, ◌&&◌}
use mathlib.Core.Path.{◌≡◌, refl, sym, ◌∙◌, ap, ap₂}
use native.Mathlib.Nat.{mod-lt}
use native.Mathlib.Omega.{arith}
use lib.Dec.{eqb, ltb}
use Rattle.probing.specs.Counting.{sum_to, one, count_to}
use Rattle.probing.specs.Table.{Table, live, live_count, tombstone_count}
use Rattle.probing.specs.Probe.{home, probe, count_of}
use Rattle.probing.specs.Check.{probes}
use Rattle.probing.specs.Sound.{Sound}
use Rattle.probing.specs.Overflow.{homes_of, stretch, largest, overflow, lawful}
use Rattle.probing.specs.Flow.{passes_over, flow}
use Rattle.probing.proofs.Counting.{sum_same, sum_add, sum_swap, sum_zero, count_equal}
use Rattle.probing.proofs.Away.{one_ltb, sum_round, sum_below}
use Rattle.probing.proofs.Reading.{roomy}
use Rattle.probing.proofs.Flow.{reach, count_live, flow_is_overflow}

-- a probe with d steps passes over d of the buckets of a round
passed_over : (B d k : ℕ) → d < B → sum_to B (λ b. one (ltb ((b + k) % B + 1) (suc d))) ≡ d
passed_over B d k l =
    let round = sum_round B k (λ i. one (ltb (i + 1) (suc d))) in
    let below = sum_same B {f = λ i. one (ltb (i + 1) (suc d))} {g = λ i. one (ltb i d)}
    (λ i m. omega (arith, one_ltb (i + 1) (suc d), one_ltb i d)) in
    omega (arith, sum_below B d)

-- a live slot's count is one and the buckets that its probe passes over; a slot that is not live adds nothing
each_sum :
    (p : Bool) (B n : ℕ) (q : ℕ → Bool) → (p ≡ true → n ≡ suc (sum_to B (λ b. one (q b))))
    → cond p n 0 ≡ one p + sum_to B (λ b. one (p && q b))
each_sum true B n q h = let e = h refl in omega arith
each_sum false B n q h = let e = sum_zero B {f = λ b. 0} (λ b l. refl) in omega arith

-- a home is one bucket
each_home : (p : Bool) (B x : ℕ) → x < B → one p ≡ sum_to B (λ b. one (p && eqb x b))
unfolding count_to
each_home true B x l = sym (count_equal B x l)
each_home false B x l = sym (sum_zero B (λ b m. refl))

module _ (t : Table) (sound : Sound t) where
  -- the sum of lookup counts is the number of live keys and what passes over every bucket
  pub probes_flow : probes t ≡ live_count t + sum_to t.B (flow t)
  unfolding probes live_count count_to flow
  probes_flow =
      sum_same t.highwater (λ s below. each_sum (live t s) t.B _ (passes_over t (t.key s)) (counted s below))
      ∙ sum_add t.highwater (λ s. one (live t s)) _
      ∙ ap (λ (x : ℕ). live_count t + x) (sum_swap t.highwater t.B _)
    where
      counted :
          (s : ℕ) → s < t.highwater → live t s ≡ true
          → count_of (probe t (t.key s)) ≡ suc (sum_to t.B (λ b. one (passes_over t (t.key s) b)))
      counted s below alive = rw (count_live t sound s below alive) (ap suc (sym (passed_over t.B _ _ (reach t sound s below alive).within)))

  -- every live key has its home at one bucket
  pub live_homes_lem : live_count t ≡ sum_to t.B (homes_of t)
  unfolding live_count homes_of count_to
  live_homes_lem =
      sum_same t.highwater (λ s below. each_home (live t s) t.B _ (mod-lt (t.hash (t.key s)) (roomy t sound)))
      ∙ sum_swap t.highwater t.B (λ s b. one (live t s && eqb (home t (t.key s)) b))

  -- The sum law.
  pub sum_law : tombstone_count t ≡ 0 → probes t ≡ lawful t.B (live_count t) (homes_of t)
  unfolding lawful
  sum_law clear = probes_flow ∙ ap (λ (x : ℕ). live_count t + x) (sum_same t.B (flow_is_overflow t sound clear))

-- the overflow looks at the homes of the buckets below B alone
module _ (B : ℕ) (h g : ℕ → ℕ) (some : 0 < B) (agree : (b : ℕ) → b < B → h b ≡ g b) where
  largest_same : (b n : ℕ) → largest B h b n ≡ largest B g b n
  unfolding largest stretch
  largest_same b zero = refl
  largest_same b (suc n) =
      ap₂ max (largest_same b n)
      (ap (λ (x : ℕ). x - suc n) (sum_same (suc n) (λ i l. agree _ (mod-lt (b + (B - i)) some))))

  pub lawful_same : (n : ℕ) → lawful B n h ≡ lawful B n g
  unfolding lawful overflow
  lawful_same n = ap (λ (x : ℕ). n + x) (sum_same B (λ b l. largest_same b B))

-- Two tables with as many buckets and as many homes at each.
module _
    (t t' : Table) (sound : Sound t) (sound' : Sound t')
    (e : t.B ≡ t'.B) (agree : (b : ℕ) → b < t.B → homes_of t b ≡ homes_of t' b) where
  -- they have as many live keys
  pub live_by_homes : live_count t ≡ live_count t'
  live_by_homes =
      live_homes_lem t sound
      ∙ sum_same t.B agree
      ∙ ap (λ (B : ℕ). sum_to B (homes_of t')) e
      ∙ sym (live_homes_lem t' sound')

  -- Without tombstones they have the same sum, whatever order their keys came in.
  pub sum_by_homes : tombstone_count t ≡ 0 → tombstone_count t' ≡ 0 → probes t ≡ probes t'
  sum_by_homes clear clear' =
      sum_law t sound clear
      ∙ ap (λ (n : ℕ). lawful t.B n (homes_of t)) live_by_homes
      ∙ lawful_same t.B (homes_of t) (homes_of t') (roomy t sound) agree (live_count t')
      ∙ ap (λ (B : ℕ). lawful B (live_count t') (homes_of t')) e
      ∙ sym (sum_law t' sound' clear')
