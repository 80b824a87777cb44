-- The header test's list in stages: where it gives 0, so does each of its tests.
-- Assumes nothing.
use Prim.Native.Nat.{ℕ}
use mathlib.Core.Bool.{Bool}
use mathlib.Core.Path.{◌≡◌, sym, ◌∙◌}
use mathlib.Core.List.{List, ◌++◌, append_assoc}
use lib.Dec.{T}
use Rattle.header.specs.declared.options.Options.{Options}
use Rattle.header.specs.FirstOf.{first_of}
use Rattle.header.specs.HeaderTest.{test1, test2, test3, test4, test5, test6, test7, test8, test9, test10, test11, test12, header_tests, header_test}
use Rattle.header.proofs.Firsts.{named, first_none}

-- tests 3 to 7, and tests 8 to 12
abbrev pub written : Options → List ℕ → List (Bool × ℕ)
written o image = test3 image ++ (test4 o image ++ (test5 image ++ (test6 image ++ test7 image)))

abbrev pub fitting : Options → List ℕ → List (Bool × ℕ)
fitting o image = test8 o image ++ (test9 image ++ (test10 image ++ (test11 image ++ test12 o image)))

pub staged : (o : Options) (image : List ℕ) → header_test o image ≡ first_of (test1 o ++ (test2 image ++ (written o image ++ fitting o image)))
unfolding header_test header_tests
staged o image = simp append_assoc

-- no test gives 0, nor does one of the first stage
pub header_named : (o : Options) (image : List ℕ) → T (named (header_tests o image))
unfolding header_tests test1 test2 test3 test4 test5 test6 test7 test8 test9 test10 test11 test12
header_named o image = tt

pub written_named : (o : Options) (image : List ℕ) → T (named (written o image))
unfolding test3 test4 test5 test6 test7
written_named o image = tt

-- none of the tests that later calls rely on holds
pub record Passes (o : Options) (image : List ℕ) : Type 0 where
  pub first : first_of (test1 o) ≡ 0
  pub second : first_of (test2 image) ≡ 0
  pub eighth : first_of (test8 o image) ≡ 0
  pub ninth : first_of (test9 image) ≡ 0
  pub tenth : first_of (test10 image) ≡ 0
  pub eleventh : first_of (test11 image) ≡ 0

pub passes : (o : Options) (image : List ℕ) → header_test o image ≡ 0 → Passes o image
unfolding test1 test2 test8 test9 test10 test11
passes o image z =
    let from2 = first_none (test1 o) (test2 image ++ (written o image ++ fitting o image)) tt (sym (staged o image) ∙ z) in
    let from3 = first_none (test2 image) (written o image ++ fitting o image) tt from2.1 in
    let from8 = first_none (written o image) (fitting o image) (written_named o image) from3.1 in
    let from9 = first_none (test8 o image) (test9 image ++ (test10 image ++ (test11 image ++ test12 o image))) tt from8.1 in
    let from10 = first_none (test9 image) (test10 image ++ (test11 image ++ test12 o image)) tt from9.1 in
    let from11 = first_none (test10 image) (test11 image ++ test12 o image) tt from10.1 in
    let from12 = first_none (test11 image) (test12 o image) tt from11.1 in
    record {
      first = from2.0;
      second = from3.0;
      eighth = from9.0;
      ninth = from10.0;
      tenth = from11.0;
      eleventh = from12.0;
    }
