-- Stretches, and the overflow as the answer to a recurrence.
-- Assumes nothing.
use Prim.Native.Nat.{ℕ, zero, suc, ◌+◌, ◌-◌, ◌%◌, max, ◌≤◌, ◌<◌}
use mathlib.Core.Path.{◌≡◌, refl, ◌∙◌, ap, subst}
use mathlib.Core.Logic.{◌⊎◌, inl, inr}
use native.Mathlib.Nat.{add-zero, mod-lt, mod-eq_of_lt, mod-add-mod, add-mod_right, eq-or-lt_of_le, eq-zero-or-pos}
use native.Mathlib.Omega.{arith}
use Rattle.probing.specs.Counting.{sum_to}
use Rattle.probing.specs.Overflow.{back, stretch, largest, overflow}
use Rattle.probing.proofs.Counting.{sum_first, sum_same}
use Rattle.probing.proofs.Round.{steps_to, suc_step}

module _ (B : ℕ) where
  -- the bucket i + 1 before the next one is the bucket i before this one
  back_next : (b i : ℕ) → i < B → back B ((b + 1) % B) (suc i) ≡ back B b i
  back_next b i l =
      let e : b + 1 + (B - suc i) ≡ b + (B - i) = omega arith in
      mod-add-mod (b + 1) B (B - suc i) ∙ ap (λ (x : ℕ). x % B) e

  -- the bucket none before a bucket is itself
  back_none : (b : ℕ) → b < B → back B b 0 ≡ b
  back_none b l =
      let e : b + (B - 0) ≡ b + B = omega arith in
      ap (λ (x : ℕ). x % B) e ∙ add-mod_right b B ∙ mod-eq_of_lt l

  -- the next of the bucket one before is itself
  next_back : (b : ℕ) → b < B → (back B b 1 + 1) % B ≡ b
  next_back b l =
      let e : b + (B - 1) + 1 ≡ b + B = omega arith in
      mod-add-mod (b + (B - 1)) B 1 ∙ ap (λ (x : ℕ). x % B) e ∙ add-mod_right b B ∙ mod-eq_of_lt l

module _ (B : ℕ) (h : ℕ → ℕ) where
  -- no buckets, no homes
  stretch_none : (b : ℕ) → stretch B h b 0 ≡ 0
  unfolding stretch sum_to
  stretch_none b = refl

  -- the stretch that ends at the next bucket is one longer, by that bucket's homes
  pub stretch_next : (b n : ℕ) → b < B → n ≤ B → stretch B h ((b + 1) % B) (suc n) ≡ stretch B h b n + h ((b + 1) % B)
  unfolding stretch
  stretch_next b n l m =
      let first = sum_first n (λ i. h (back B ((b + 1) % B) i)) in
      let rest = sum_same n {f = λ i. h (back B ((b + 1) % B) (suc i))} {g = λ i. h (back B b i)}
      (λ i k. ap h (back_next B b i (omega arith))) in
      let e = ap h (back_none B ((b + 1) % B) (mod-lt (b + 1) (omega arith))) in
      omega arith

  -- a bound of every stretch's excess bounds the largest
  largest_le : (b n x : ℕ) → ((m : ℕ) → m ≤ n → stretch B h b m - m ≤ x) → largest B h b n ≤ x
  unfolding largest
  largest_le b zero x f = omega arith
  largest_le b (suc n) x f =
      let r = largest_le b n x (λ m l. f m (omega arith)) in
      let s = f (suc n) (omega arith) in
      omega arith

  -- a stretch's excess is at most the largest
  le_largest : (b n m : ℕ) → m ≤ n → stretch B h b m - m ≤ largest B h b n
  unfolding largest
  le_largest b zero m l =
      let z : m ≡ 0 = omega arith in
      let e = ap (stretch B h b) z ∙ stretch_none b in
      omega arith
  le_largest b (suc n) m l = go (eq-or-lt_of_le l) (le_largest b n m)
    where
      go :
          (m ≡ suc n) ⊎ (m < suc n) → (m ≤ n → stretch B h b m - m ≤ largest B h b n)
          → stretch B h b m - m ≤ max (largest B h b n) (stretch B h b (suc n) - suc n)
      go (inl e) r = let e' = ap (stretch B h b) e in omega arith
      go (inr k) r = let r' = r (omega arith) in omega arith

-- A flow that takes in each bucket's homes and leaves one there, if it has one to leave.
module _ (B : ℕ) (h flow : ℕ → ℕ) (step : (b : ℕ) → b < B → flow ((b + 1) % B) ≡ flow b + h ((b + 1) % B) - 1) where
  -- no stretch's excess is above the flow
  above : (n b : ℕ) → b < B → n ≤ B → stretch B h b n ≤ flow b + n
  above zero b l m = let e = stretch_none B h b in omega arith
  above (suc n) b l m = subst (λ (x : ℕ). stretch B h x (suc n) ≤ flow x + suc n) (next_back B b l) (next (above n))
    where
      next :
          ((c : ℕ) → c < B → n ≤ B → stretch B h c n ≤ flow c + n)
          → stretch B h ((back B b 1 + 1) % B) (suc n) ≤ flow ((back B b 1 + 1) % B) + suc n
      next r =
          let c<B : back B b 1 < B = mod-lt (b + (B - 1)) (omega arith) in
          let r' = r (back B b 1) c<B (omega arith) in
          let e = stretch_next B h (back B b 1) n c<B (omega arith) in
          let e' = step (back B b 1) c<B in
          omega arith

  -- the flow at a bucket is the excess of a stretch of at most n buckets that ends there
  abbrev Reaches : ℕ → ℕ → Type 0
  Reaches b n = (m : ℕ) × (m ≤ n) × (stretch B h b m ≡ flow b + m)

  -- where there is no flow, the stretch of no buckets will do
  reaches_none : (b n : ℕ) → flow b ≡ 0 → Reaches b n
  reaches_none b n z = (0, omega arith, (let e = stretch_none B h b in omega arith))

  -- what holds at a bucket holds at the next
  reaches_next : (b n : ℕ) → b < B → n ≤ B → Reaches b n → Reaches ((b + 1) % B) (suc n)
  reaches_next b n l k (m, m≤n, e) = go (eq-zero-or-pos (flow ((b + 1) % B)))
    where
      go : (flow ((b + 1) % B) ≡ 0) ⊎ (0 < flow ((b + 1) % B)) → Reaches ((b + 1) % B) (suc n)
      go (inl z) = reaches_none ((b + 1) % B) (suc n) z
      go (inr p) =
          let e₁ = stretch_next B h b m l (omega arith) in
          let e₂ = step b l in
          (suc m, omega arith, omega arith)

  -- and so at every bucket on from one without flow
  reaches_on : (e : ℕ) → e < B → flow e ≡ 0 → (n : ℕ) → n ≤ B → Reaches ((e + n) % B) n
  reaches_on e l z zero k = reaches_none ((e + 0) % B) 0 (ap flow (ap (λ (x : ℕ). x % B) (add-zero e) ∙ mod-eq_of_lt l) ∙ z)
  reaches_on e l z (suc n) k =
      subst (λ (x : ℕ). Reaches x (suc n)) (suc_step e n B)
      (reaches_next ((e + n) % B) n (mod-lt (e + n) (omega arith)) (omega arith) (reaches_on e l z n (omega arith)))

  -- a flow that is zero somewhere is the overflow everywhere
  pub flow_overflow : (e : ℕ) → e < B → flow e ≡ 0 → (b : ℕ) → b < B → flow b ≡ overflow B h b
  unfolding overflow
  flow_overflow e l z b l' =
      let (n, n<B, there) = steps_to e b B l' in
      let (m, m≤n, at) = subst (λ (x : ℕ). Reaches x n) there (reaches_on e l z n (omega arith)) in
      let up = le_largest B h b B m (omega arith) in
      let down = largest_le B h b B (flow b) (λ i k. let r = above i b l' k in omega arith) in
      omega arith
