-- Walking round a table of B buckets: laws of x % B for any B.
-- Assumes nothing.
use Prim.Native.Nat.{ℕ, suc, ◌+◌, ◌-◌, ◌%◌, ◌≤◌, ◌<◌}
use mathlib.Core.Path.{◌≡◌, sym, ap, ◌∙◌}
use mathlib.Core.Logic.{◌⊎◌, inl, inr}
use native.Mathlib.Nat.{mod-lt, mod-mod, mod-eq_of_lt, mod-eq-sub-mod, mod-add-mod, add-zero, add_assoc}
use native.Mathlib.Decide.{dec_lt, dec_le}
use native.Mathlib.Numerals.{add-one}
use native.Mathlib.Omega.{arith}

-- a number below two rounds is in the first round, or in the second, one round past its remainder
pub two_rounds : (x B : ℕ) → x < B + B → ((x < B) × (x % B ≡ x)) ⊎ ((B ≤ x) × (x % B + B ≡ x))
two_rounds x B h = go (dec_lt x B)
  where
    go : Dec (x < B) → ((x < B) × (x % B ≡ x)) ⊎ ((B ≤ x) × (x % B + B ≡ x))
    go (yes l) = inl (l, mod-eq_of_lt l)
    go (no g) =
        let le : B ≤ x = omega arith in
        let small : x - B < B = omega arith in
        let e : x % B ≡ x - B = mod-eq-sub-mod le ∙ mod-eq_of_lt small in
        inr (le, omega arith)

-- no step from a remainder stays there
pub no_step : (h B : ℕ) → (h % B + 0) % B ≡ h % B
no_step h B = ap (λ (x : ℕ). x % B) (add-zero (h % B)) ∙ mod-mod h B

-- one step on from i steps is i + 1 steps
pub one_step : (h i B : ℕ) → ((h + i) % B + 1) % B ≡ (h + (i + 1)) % B
one_step h i B = mod-add-mod (h + i) B 1 ∙ ap (λ (x : ℕ). x % B) (add_assoc h i 1)

-- the same, to suc i steps
pub suc_step : (h i B : ℕ) → ((h + i) % B + 1) % B ≡ (h + suc i) % B
suc_step h i B = one_step h i B ∙ ap (λ (x : ℕ). (h + x) % B) (add-one i)

-- less than a round of steps from a bucket ends at different buckets for different numbers of steps
steps_from : (h i j B : ℕ) → h < B → i < B → j < B → (h + i) % B ≡ (h + j) % B → i ≡ j
steps_from h i j B l li lj e = go (two_rounds (h + i) B (omega arith)) (two_rounds (h + j) B (omega arith))
  where
    go : ((h + i < B) × ((h + i) % B ≡ h + i)) ⊎ ((B ≤ h + i) × ((h + i) % B + B ≡ h + i))
        → ((h + j < B) × ((h + j) % B ≡ h + j)) ⊎ ((B ≤ h + j) × ((h + j) % B + B ≡ h + j)) → i ≡ j
    go (inl p) (inl q) = omega arith
    go (inl p) (inr q) = omega arith
    go (inr p) (inl q) = omega arith
    go (inr p) (inr q) = omega arith

-- the same from any number
pub steps_differ : (h i j B : ℕ) → i < B → j < B → (h + i) % B ≡ (h + j) % B → i ≡ j
steps_differ h i j B li lj e =
    steps_from (h % B) i j B (mod-lt h (omega arith)) li lj (mod-add-mod h B i ∙ e ∙ sym (mod-add-mod h B j))

-- every bucket is less than a round of steps away from a bucket
away_from : (h b B : ℕ) → h < B → b < B → (d : ℕ) × (d < B) × ((h + d) % B ≡ b)
away_from h b B l lb = go (dec_le h b)
  where
    go : Dec (h ≤ b) → (d : ℕ) × (d < B) × ((h + d) % B ≡ b)
    go (yes le) =
        let e : h + (b - h) ≡ b = omega arith in
        (b - h, omega arith, ap (λ (x : ℕ). x % B) e ∙ mod-eq_of_lt lb)
    go (no g) =
        let big : B ≤ h + (b + B - h) = omega arith in
        let e : h + (b + B - h) - B ≡ b = omega arith in
        (b + B - h, omega arith, mod-eq-sub-mod big ∙ ap (λ (x : ℕ). x % B) e ∙ mod-eq_of_lt lb)

-- the same from any number
pub steps_to : (h b B : ℕ) → b < B → (d : ℕ) × (d < B) × ((h + d) % B ≡ b)
steps_to h b B lb =
    let r = away_from (h % B) b B (mod-lt h (omega arith)) lb in
    (r.0, r.1, sym (mod-add-mod h B r.0) ∙ r.2)
