-- The list of the numbers below a bound that pass a test: each of them, every one, and once.
-- Assumes nothing.
use Prim.Native.Nat.{ℕ, zero, suc, ◌+◌, ◌<◌}
use mathlib.Core.Path.{◌≡◌, refl, sym, ap, ◌∙◌}
use mathlib.Core.Logic.{◌⊎◌, inl, inr}
use mathlib.Core.Bool.{Bool, true, false, cond}
use mathlib.Core.List.{List, [], ◌∷◌, ◌++◌, append-nil}
use native.Mathlib.Nat.{eq-or-lt_of_le, le_of_suc-le-suc, le_antisymm, lt_of_not-le}
use native.Mathlib.Omega.{arith}
use lib.ListN.{length, get_or, length-append, get_or-append}
use lib.Seq.{get_or-append_seam}
use Rattle.probing.proofs.Keys.{clash}
use Rattle.listing.specs.Scan.{passing}

-- an entry of a list with one more behind it
abbrev End : List ℕ → ℕ → ℕ → Type 0
End xs x i = ((i < length xs) × (get_or (xs ++ (x ∷ [])) i 0 ≡ get_or xs i 0)) ⊎ ((i ≡ length xs) × (get_or (xs ++ (x ∷ [])) i 0 ≡ x))

at_end : (xs : List ℕ) (x i : ℕ) → i < length (xs ++ (x ∷ [])) → End xs x i
at_end [] x zero h = inr (refl, refl)
at_end [] x (suc i) h = absurd (omega arith)
at_end (y ∷ ys) x zero h = inl (omega arith, refl)
at_end (y ∷ ys) x (suc i) h = go (at_end ys x i (omega arith))
  where
    go : End ys x i → End (y ∷ ys) x (suc i)
    go (inl (l, e)) = inl (omega arith, e)
    go (inr (l, e)) = inr (ap suc l, e)

module _ (p : ℕ → Bool) where
  -- xs are the numbers below n that pass: each of them does, every one of those is in it, and later entries are greater
  pub record Ascends (n : ℕ) (xs : List ℕ) : Type 0 where
    pub each : (i : ℕ) → i < length xs → (get_or xs i 0 < n) × (p (get_or xs i 0) ≡ true)
    pub every : (k : ℕ) → k < n → p k ≡ true → (i : ℕ) × ((i < length xs) × (get_or xs i 0 ≡ k))
    pub rises : (i j : ℕ) → i < j → j < length xs → get_or xs i 0 < get_or xs j 0

  -- the next number does not pass
  stays : (n : ℕ) (xs : List ℕ) → Ascends n xs → p n ≡ false → Ascends (suc n) xs
  stays n xs a e =
      record {
        each = λ i h. let r = a.each i h in (omega (arith, r.0), r.1);
        every = λ k h q. every k q (eq-or-lt_of_le (le_of_suc-le-suc h));
        rises = a.rises;
      }
    where
      every : (k : ℕ) → p k ≡ true → (k ≡ n) ⊎ (k < n) → (i : ℕ) × ((i < length xs) × (get_or xs i 0 ≡ k))
      every k q (inl b) = clash (cc (e, q, b))
      every k q (inr b) = a.every k b q

  -- the next number passes
  grows : (n : ℕ) (xs : List ℕ) → Ascends n xs → p n ≡ true → Ascends (suc n) (xs ++ (n ∷ []))
  grows n xs a e = record { each = λ i h. each i (at_end xs n i h); every = λ k h q. every k q (eq-or-lt_of_le (le_of_suc-le-suc h)); rises = λ i j l h. rises i j l (at_end xs n j h) }
    where
      each : (i : ℕ) → End xs n i → (get_or (xs ++ (n ∷ [])) i 0 < suc n) × (p (get_or (xs ++ (n ∷ [])) i 0) ≡ true)
      each i (inl (b, q)) = let r = a.each i b in (omega (arith, r.0), rw q r.1)
      each i (inr (b, q)) = (omega arith, rw q e)

      long : length (xs ++ (n ∷ [])) ≡ length xs + 1
      long = length-append xs (n ∷ [])

      every : (k : ℕ) → p k ≡ true → (k ≡ n) ⊎ (k < n) → (i : ℕ) × ((i < length (xs ++ (n ∷ []))) × (get_or (xs ++ (n ∷ [])) i 0 ≡ k))
      every k q (inl b) = (length xs, (omega (arith, long), get_or-append_seam xs n [] 0 ∙ sym b))
      every k q (inr b) =
          let r = a.every k b q in
          (r.0, (omega (arith, r.1.0, long), get_or-append xs (n ∷ []) 0 r.0 r.1.0 ∙ r.1.1))

      rises : (i j : ℕ) → i < j → End xs n j → get_or (xs ++ (n ∷ [])) i 0 < get_or (xs ++ (n ∷ [])) j 0
      rises i j l (inl (b, q)) = let r = a.rises i j l b in omega (arith, r, q, get_or-append xs (n ∷ []) 0 i (omega arith))
      rises i j l (inr (b, q)) = let r = a.each i (omega arith) in omega (arith, r.0, q, get_or-append xs (n ∷ []) 0 i (omega arith))

  pub passing_ascends : (n : ℕ) → Ascends n (passing n p)
  unfolding passing
  passing_ascends zero = record { each = λ i h. absurd (omega arith); every = λ k h e. absurd (omega arith); rises = λ i j l h. absurd (omega arith) }
  passing_ascends (suc n) = go (p n) refl (passing_ascends n)
    where
      go : (t : Bool) → p n ≡ t → Ascends n (passing n p) → Ascends (suc n) (passing n p ++ cond t (n ∷ []) [])
      go false e a = rw (append-nil (passing n p)) (stays n (passing n p) a e)
      go true e a = grows n (passing n p) a e

  -- so no number is in it twice
  pub listed_once : {n : ℕ} {xs : List ℕ} → Ascends n xs → (i j : ℕ) → i < length xs → j < length xs → get_or xs i 0 ≡ get_or xs j 0 → i ≡ j
  listed_once a i j hi hj e =
      le_antisymm
      (le_of_suc-le-suc (lt_of_not-le (λ (l : j < i). let r = a.rises j i l hi in omega arith)))
      (le_of_suc-le-suc (lt_of_not-le (λ (l : i < j). let r = a.rises i j l hj in omega arith)))
