-- The numbers below a bound that pass a test: how their list grows with the bound.
-- Assumes nothing.
use Prim.Native.Nat.{ℕ, zero, suc, ◌+◌, ◌-◌, ◌≤◌}
use mathlib.Core.Bool.{Bool, true, false, cond}
use mathlib.Core.Path.{◌≡◌, refl, sym, ◌∙◌, ap}
use mathlib.Core.List.{List, [], ◌∷◌, ◌++◌, map, append-nil, append_assoc}
use native.Mathlib.Nat.{add-zero, add-suc}
use native.Mathlib.Numerals.{add-one}
use native.Mathlib.Omega.{arith}
use lib.ListN.{length, length-append}
use Rattle.std.specs.List.{filter, range_with_len}
use Rattle.std.proofs.lemmas.List.{map-id}
use Rattle.std.proofs.lemmas.List.FromFn.{filter_of_map_range_with_len_more}
use Rattle.listing.specs.Scan.{passing}

-- a choice of one number or none
at_most_one : (n : ℕ) (t : Bool) → length (cond t (n ∷ []) []) ≤ 1
at_most_one n true = omega arith
at_most_one n false = omega arith

module _ (p : ℕ → Bool) where
  -- numbers more only add at the end
  passing_add : (n k : ℕ) → (rest : List ℕ) × (passing (n + k) p ≡ passing n p ++ rest)
  unfolding passing
  passing_add n zero = ([], rw (add-zero n) (sym (append-nil _)))
  passing_add n (suc k) =
      let r = passing_add n k in
      let end = cond (p (n + k)) ((n + k) ∷ []) [] in
      (r.0 ++ end, rw (add-suc n k) (ap (λ (l : List ℕ). l ++ end) r.1 ∙ append_assoc (passing n p) r.0 end))

  pub passing_front : (n m : ℕ) → n ≤ m → (rest : List ℕ) × (passing m p ≡ passing n p ++ rest)
  passing_front n m h =
      let r = passing_add n (m - n) in
      let e : m ≡ n + (m - n) = omega arith in
      (r.0, ap (λ (k : ℕ). passing k p) e ∙ r.1)

  -- they are what a filter keeps of the numbers
  passing_kept : (n : ℕ) → passing n p ≡ filter p (map (λ (k : ℕ). k) (range_with_len 0 n))
  unfolding passing
  passing_kept zero = refl
  passing_kept (suc n) =
      ap (λ (l : List ℕ). l ++ cond (p n) (n ∷ []) []) (passing_kept n)
      ∙ sym (filter_of_map_range_with_len_more p (λ (k : ℕ). k) 0 n n (omega arith))
      ∙ ap (λ (k : ℕ). filter p (map (λ (k : ℕ). k) (range_with_len 0 k))) (add-one n)

  pub passing_filter : (n : ℕ) → passing n p ≡ filter p (range_with_len 0 n)
  passing_filter n = passing_kept n ∙ ap (filter p) (map-id (range_with_len 0 n))

  -- at most as many pass as there are
  pub passing_le : (n : ℕ) → length (passing n p) ≤ n
  unfolding passing
  passing_le zero = omega arith
  passing_le (suc n) =
      omega (arith, passing_le n, at_most_one n (p n), length-append (passing n p) (cond (p n) (n ∷ []) []))
