-- "refuses bad input by the numbers in document 01": laws of lists of tests, and of calls that write by them.
-- Assumes nothing.
use Prim.Native.Nat.{ℕ}
use mathlib.Core.Bool.{Bool, true, false, ◌&&◌, ◌||◌, and-eq-true_iff}
use mathlib.Core.Logic.{inl, inr}
use mathlib.Core.Path.{◌≡◌, refl, sym, ◌∙◌}
use mathlib.Core.List.{List, [], ◌∷◌, ◌++◌}
use borrow.Author.Tests.{eqb-true}
use lib.Dec.{eqb}
use Rattle.probing.proofs.Keys.{clash}
use Rattle.header.specs.declared.options.Options.{Options}
use Rattle.header.specs.FirstOf.{first_of}
use Rattle.header.specs.HeaderTest.{test1, test2, test3, test4, test5, test6, test7, test8, test9, test10, test11, test12, header_tests, header_test}
use Rattle.header.proofs.Firsts.{first_stops}
use Rattle.writing.specs.Write.{unless}
use Rattle.writing.proofs.Answers.{answers}
use Rattle.demands.specs.Demand1.{Among, header_numbers, Judges}

-- whether a list has a number
abbrev pub has : List ℕ → ℕ → Bool
has [] n = false
has (x ∷ xs) n = eqb n x || has xs n

pub among : (numbers : List ℕ) (n : ℕ) → has numbers n ≡ true → Among numbers n
among [] n e = clash cc
among (x ∷ xs) n e = go (eqb n x) refl e (among xs n)
  where
    go : (t : Bool) → eqb n x ≡ t → t || has xs n ≡ true → (has xs n ≡ true → Among xs n) → Among (x ∷ xs) n
    go true q e further = inl (eqb-true n x q)
    go false q e further = inr (further e)

-- whether a list has the number of each test
abbrev pub within : List ℕ → List (Bool × ℕ) → Bool
within numbers [] = true
within numbers (t ∷ ts) = has numbers t.1 && within numbers ts

-- then it has that of the first test that holds, or that is 0
pub first_among : (numbers : List ℕ) (ts : List (Bool × ℕ)) → has numbers 0 ≡ true → within numbers ts ≡ true
    → Among numbers (first_of ts)
unfolding first_of
first_among numbers [] z e = among numbers 0 z
first_among numbers ((true, n) ∷ ts) z e = among numbers n ((and-eq-true_iff (has numbers n) (within numbers ts)).0 e).0
first_among numbers ((false, n) ∷ ts) z e = first_among numbers ts z ((and-eq-true_iff (has numbers n) (within numbers ts)).0 e).1

-- of two lists of tests, one behind the other
among_behind : (numbers : List ℕ) (xs ys : List (Bool × ℕ)) → Among numbers (first_of xs) → Among numbers (first_of ys)
    → Among numbers (first_of (xs ++ ys))
unfolding first_of
among_behind numbers [] ys p q = q
among_behind numbers ((true, n) ∷ xs) ys p q = p
among_behind numbers ((false, n) ∷ xs) ys p q = among_behind numbers xs ys p q

pub header_numbered : (o : Options) (image : List ℕ) → Among header_numbers (header_test o image)
unfolding header_test header_tests test1 test2 test3 test4 test5 test6 test7 test8 test9 test10 test11 test12
header_numbered o image = first_among header_numbers (header_tests o image) refl refl

-- a call's tests
abbrev pub Tests : Type 0
Tests = Options → List ℕ → List (Bool × ℕ)

pub header_judges : Judges header_numbers (λ o image. first_of (header_tests o image))
unfolding header_test
header_judges = record { numbered = header_numbered; header = λ o image h. refl }

-- tests behind those that make the header test first
pub judges_behind : {numbers : List ℕ} (tests more : Tests) → Judges numbers (λ o image. first_of (tests o image))
    → has numbers 0 ≡ true → ((o : Options) (image : List ℕ) → within numbers (more o image) ≡ true)
    → Judges numbers (λ o image. first_of (tests o image ++ more o image))
judges_behind {numbers} tests more j z e =
    record {
      numbered = λ o image.
          among_behind numbers (tests o image) (more o image) (j.numbered o image) (first_among numbers (more o image) z (e o image));
      header = λ o image h. sym (first_stops (tests o image) (more o image) (sym (j.header o image h)) h);
    }

-- a call that writes answers the number of its tests
pub writes_judges : {numbers : List ℕ} (tests : Tests) (changed : Options → List ℕ → List ℕ)
    → Judges numbers (λ o image. first_of (tests o image))
    → Judges numbers (λ o image. (unless (first_of (tests o image)) image (changed o image)).answer)
writes_judges tests changed j =
    record {
      numbered = λ o image. rw (answers image (changed o image)) (j.numbered o image);
      header = λ o image h. answers image (changed o image) (first_of (tests o image)) ∙ j.header o image h;
    }
