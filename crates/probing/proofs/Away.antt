-- How far a bucket is from a home, round a table of B buckets, and sums over a whole round.
-- Assumes nothing.
use Prim.Native.Nat.{ℕ, zero, suc, ◌+◌, ◌-◌, ◌%◌, min, ◌≤◌, ◌<◌}
use mathlib.Core.Bool.{Bool, true, false}
use mathlib.Core.Path.{◌≡◌, refl, sym, ◌∙◌, ap}
use mathlib.Core.Logic.{◌⊎◌, inl, inr}
use native.Mathlib.Nat.{mod-lt, mod-eq_of_lt, mod-add-mod, add-mod-mod, add-mod_right, add-mod_left, add-zero, zero-add}
use native.Mathlib.Omega.{arith}
use lib.Dec.{eqb, ltb}
use borrow.Author.Tests.{eqb-true, eqb-false, ltb-true, ltb-false}
use Rattle.probing.specs.Counting.{sum_to, one}
use Rattle.probing.proofs.Counting.{sum_first, sum_same}
use Rattle.probing.proofs.Round.{two_rounds}

-- what a test counts, as truncated minus, which arithmetic reads
pub one_ltb : (a b : ℕ) → one (ltb a b) ≡ 1 - (suc a - b)
one_ltb a b = go (ltb a b) refl
  where
    go : (r : Bool) → ltb a b ≡ r → one r ≡ 1 - (suc a - b)
    go true e = omega (arith, ltb-true a b e)
    go false e = omega (arith, ltb-false a b e)

pub one_eqb : (a b : ℕ) → one (eqb a b) ≡ 1 - ((a - b) + (b - a))
one_eqb a b = go (eqb a b) refl
  where
    go : (r : Bool) → eqb a b ≡ r → one r ≡ 1 - ((a - b) + (b - a))
    go true e = omega (arith, eqb-true a b e)
    go false e = omega (arith, eqb-false a b e)

module _ (B h : ℕ) (inside : h < B) where
  -- so many steps from h on is b
  pub steps_away : (b : ℕ) → b < B → (h + (b + (B - h)) % B) % B ≡ b
  steps_away b l =
      let e : h + (b + (B - h)) ≡ b + B = omega arith in
      add-mod-mod h (b + (B - h)) B ∙ ap (λ (x : ℕ). x % B) e ∙ add-mod_right b B ∙ mod-eq_of_lt l

  -- the bucket that is d steps from h on is d steps away
  pub away_steps : (d : ℕ) → d < B → ((h + d) % B + (B - h)) % B ≡ d
  away_steps d l =
      let e : h + d + (B - h) ≡ d + B = omega arith in
      mod-add-mod (h + d) B (B - h) ∙ ap (λ (x : ℕ). x % B) e ∙ add-mod_right d B ∙ mod-eq_of_lt l

-- the next bucket is one step more away, or the round is over
pub away_next :
    (B b k : ℕ) → b < B
    → (((b + 1) % B + k) % B ≡ (b + k) % B + 1) ⊎ (((b + 1) % B + k) % B + B ≡ (b + k) % B + 1)
away_next B b k l =
    go ((b + k) % B + 1) (mod-add-mod (b + 1) B k ∙ ap (λ (x : ℕ). x % B) (omega arith) ∙ sym (mod-add-mod (b + k) B 1))
    (two_rounds ((b + k) % B + 1) B (let r = mod-lt (b + k) {m = B} (omega arith) in omega arith))
  where
    go :
        (x : ℕ) → ((b + 1) % B + k) % B ≡ x % B → ((x < B) × (x % B ≡ x)) ⊎ ((B ≤ x) × (x % B + B ≡ x))
        → (((b + 1) % B + k) % B ≡ x) ⊎ (((b + 1) % B + k) % B + B ≡ x)
    go x e (inl r) = inl (e ∙ r.1)
    go x e (inr r) = inr (ap (λ (y : ℕ). y + B) e ∙ r.1)

-- a sum over a whole round is the same from any bucket on
pub sum_round : (B k : ℕ) (f : ℕ → ℕ) → sum_to B (λ b. f ((b + k) % B)) ≡ sum_to B f
unfolding sum_to
sum_round B zero f = sum_same B (λ b l. ap f (ap (λ (x : ℕ). x % B) (add-zero b) ∙ mod-eq_of_lt l))
sum_round B (suc k) f =
    let on = sum_same B {f = λ b. f ((b + suc k) % B)} {g = λ b. f ((suc b + k) % B)}
    (λ b l. ap (λ (x : ℕ). f (x % B)) (omega arith)) in
    let over = sum_first B (λ b. f ((b + k) % B)) in
    let ends = ap f (add-mod_left B k ∙ ap (λ (x : ℕ). x % B) (sym (zero-add k))) in
    let rest = sum_round B k f in
    omega arith

-- how many of the numbers below n are below d
pub sum_below : (n d : ℕ) → sum_to n (λ i. one (ltb i d)) ≡ min n d
unfolding sum_to
sum_below zero d = omega arith
sum_below (suc n) d = let r = sum_below n d in let e = one_ltb n d in omega arith
