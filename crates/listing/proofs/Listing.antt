-- What is listed of the wanted slots, by the number to write.
-- Assumes nothing.
use Prim.Native.Nat.{ℕ, zero, suc, ◌-◌, min, ◌≤◌, ◌<◌}
use mathlib.Core.Path.{◌≡◌, refl, sym, ◌∙◌, ap}
use mathlib.Core.List.{List, [], ◌∷◌, ◌++◌}
use native.Mathlib.Omega.{arith}
use lib.ListN.{length, take, drop, length-drop, length-take}
use borrow.Author.Tests.{lt-ltb, le-ltb}
use Rattle.std.specs.Prelude.{Bool, true, false, Result, Ok, Err, IsErrAnd}
use Rattle.header.specs.declared.refusal.Refusal.{Refusal}
use Rattle.header.specs.Answer.{done, number, too_short}
use Rattle.header.specs.FirstOf.{first_of}
use Rattle.header.proofs.Firsts.{number_not_done}
use Rattle.listing.specs.declared.listed.Listing.{Listing}
use Rattle.listing.specs.Scan.{Outcome, Lists, refused, chosen, write, list}

-- no more can be taken than there are
take_min : (n : ℕ) (l : List ℕ) → take n l ≡ take (min n (length l)) l
take_min zero l = let e : min 0 (length l) ≡ 0 = omega arith in rw e refl
take_min (suc n) [] = let e : min (suc n) 0 ≡ 0 = omega arith in rw e refl
take_min (suc n) (x ∷ xs) =
    let e : min (suc n) (suc (length xs)) ≡ suc (min n (length xs)) = omega arith in
    rw e (ap (λ (l : List ℕ). x ∷ l) (take_min n xs))

-- what a call leaves that an outcome says, an equal outcome says
pub same_outcome :
    (r : Result Listing Refusal) {l : List ℕ} {o p : Outcome} → p ≡ o → Lists p r l → Lists o r l
same_outcome r e h = (h.0 ∙ ap (λ (x : Outcome). x.listed) e, h.1 ∙ ap (λ (x : Outcome). x.numbers) e)

-- what a call leaves that is refused by `?`
pub says_refused : (numbers : List ℕ) (r : Result Listing Refusal) (e : Refusal) → IsErrAnd r (λ y. y ≡ e) → {n : ℕ} → number e ≡ n
    → Lists (refused numbers n) r numbers
says_refused numbers (Ok l) e is h = absurd is
says_refused numbers (Err y) e is h = rw (is, h) (refl, refl)

-- a test that refused holds, and gave its number
pub test_refused : (t : Bool) (n : ℕ) (e : Refusal) → number e ≡ first_of ((t, n) ∷ []) → (t ≡ true) × (number e ≡ n)
unfolding first_of
test_refused true n e h = (refl, h)
test_refused false n e h = absurd (number_not_done e h)

-- a listing that is accepted: `count` numbers after the skip, of `total`
abbrev pub accepted : List ℕ → ℕ → List ℕ → ℕ → ℕ → Outcome
accepted all skip numbers total count =
    record {
      listed = record { answer = done; total = total; written = count };
      numbers = take count (drop skip all) ++ drop count numbers;
    }

module _
    (all : List ℕ) (skip limit : ℕ) (numbers : List ℕ) (total count : ℕ) (t : total ≡ length all)
    (k : count ≡ min limit (total - skip)) where
  chosen_length : length (chosen all skip limit) ≡ count
  unfolding chosen
  chosen_length = length-take limit (drop skip all) ∙ (omega (arith, length-drop skip all))

  chosen_count : chosen all skip limit ≡ take count (drop skip all)
  unfolding chosen
  chosen_count = take_min limit (drop skip all) ∙ ap (λ (n : ℕ). take n (drop skip all)) (sym (length-take limit (drop skip all)) ∙ chosen_length)

  -- the list is shorter than the number to write
  pub list_short : length numbers < count → refused numbers too_short ≡ list all skip limit numbers
  unfolding list write
  list_short h = rw (chosen_length, lt-ltb (length numbers) count h) refl

  -- or it is long enough
  pub list_fits : count ≤ length numbers → accepted all skip numbers total count ≡ list all skip limit numbers
  unfolding list write
  list_fits h = rw (chosen_length, le-ltb (length numbers) count h, chosen_count, t) refl
