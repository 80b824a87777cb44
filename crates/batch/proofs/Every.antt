-- A test of every number below a bound, made one number after the other; and the flag of a test: 1 or 0.
-- Assumes nothing.
use Prim.Native.Nat.{ℕ, zero, suc, ◌+◌, ◌≤◌, ◌<◌}
use native.Mathlib.Omega.{arith}
use mathlib.Core.Path.{◌≡◌, refl, ap, ap₂, ◌∙◌}
use mathlib.Core.Bool.{Bool, true, false, not, ◌&&◌, ◌||◌}
use mathlib.Core.List.{[], ◌∷◌, ◌++◌}
use mir.Val.{bool_byte}
use Rattle.std.specs.List.{list_any, list_all, range_with_len}
use Rattle.std.proofs.lemmas.List.Folds.{list_any-append, list_all-append}
use Rattle.probing.specs.Counting.{one, all_to}
use Rattle.probing.proofs.Counting.{all_at}
use Rattle.probing.proofs.Keys.{not_both, not_true_false}

module _ (p : ℕ → Bool) where
  -- one number fails
  pub every_fails : (n i : ℕ) → i < n → p i ≡ false → all_to n p ≡ false
  every_fails n i l e = not_true_false _ (λ a. not_both (all_at n p a i l) e)

-- the numbers from a on, with one more behind them
range_more : (a n j : ℕ) → a + n ≡ j → range_with_len a (suc n) ≡ range_with_len a n ++ j ∷ []
range_more a zero j e = ap (λ (x : ℕ). x ∷ []) (omega arith)
range_more a (suc n) j e = ap (a ∷◌) (range_more (a + 1) n j (omega arith))

and_true : (b : Bool) → (b && true) ≡ b
and_true true = refl
and_true false = refl

not_and : (a b : Bool) → (not a || (not b || false)) ≡ not (a && b)
not_and true true = refl
not_and true false = refl
not_and false b = refl

-- every number passes, by a search from 0 on
pub all_pass : (p : ℕ → Bool) (n : ℕ) → list_all p (range_with_len 0 n) ≡ all_to n p
unfolding all_to
all_pass p zero = refl
all_pass p (suc n) =
    ap (list_all p) (range_more 0 n n (omega arith))
    ∙ list_all-append p (range_with_len 0 n) (n ∷ [])
    ∙ ap₂ ◌&&◌ (all_pass p n) (and_true (p n))

-- some number fails, by a search from 0 on
pub any_fails : (p : ℕ → Bool) (n : ℕ) → list_any (λ i. not (p i)) (range_with_len 0 n) ≡ not (all_to n p)
unfolding all_to
any_fails p zero = refl
any_fails p (suc n) =
    let q = λ (i : ℕ). not (p i) in
    ap (list_any q) (range_more 0 n n (omega arith))
    ∙ list_any-append q (range_with_len 0 n) (n ∷ [])
    ∙ ap (λ (b : Bool). b || (q n || false)) (any_fails p n)
    ∙ not_and (all_to n p) (p n)

-- a flag is what the test is as a number
pub byte_one : (b : Bool) → bool_byte b ≡ one b
byte_one true = refl
byte_one false = refl

-- a flag is at most 1
pub one_le : (b : Bool) → one b ≤ 1
one_le true = omega arith
one_le false = omega arith

-- a flag that is 1, and one that is not
pub flag_up : (b : Bool) → one b ≡ 1 → b ≡ true
flag_up true e = refl
flag_up false e = absurd (omega arith)

pub flag_down : (b : Bool) → (one b ≡ 1 → ⊥) → b ≡ false
flag_down true d = absurd (d refl)
flag_down false d = refl
