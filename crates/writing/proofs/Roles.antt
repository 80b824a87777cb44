-- The tests of the writing calls: the header test, then the role, and what it says that none of them holds.
-- Assumes nothing.
use Prim.Native.Nat.{ℕ, ◌%◌, ◌≤◌}
use mathlib.Core.Path.{◌≡◌}
use mathlib.Core.List.{List}
use lib.Dec.{T}
use lib.ListN.{length}
use Rattle.header.specs.declared.options.Options.{Options}
use Rattle.header.specs.Fields as F
use Rattle.header.specs.Fields.{value}
use Rattle.header.specs.FirstOf.{first_of}
use Rattle.header.specs.HeaderTest.{test1, test2, test3, test4, test5, test6, test7, test8, test9, test10, test11, test12, header_tests, header_test}
use Rattle.header.proofs.Firsts.{named, first_none}
use Rattle.header.proofs.PassedTests.{length_passed}
use Rattle.header.proofs.Stages.{header_named}
use Rattle.writing.specs.State.{writing_tests}
use Rattle.writing.proofs.Tests.{even_passed, Holds, header_holds}

module _ (o : Options) (image : List ℕ) where
  -- no test gives 0
  pub writing_named : T (named (writing_tests o image))
  unfolding writing_tests header_tests test1 test2 test3 test4 test5 test6 test7 test8 test9 test10 test11 test12
  writing_named = tt

  -- of an image whose writing tests pass
  module _ (z : first_of (writing_tests o image) ≡ 0) where
    pub passed_header : header_test o image ≡ 0
    unfolding writing_tests header_test
    passed_header = (first_none (header_tests o image) _ (header_named o image) z).0

    holds : Holds o image
    holds = header_holds o image passed_header

    pub passed_long : 256 ≤ length image
    passed_long = length_passed image holds.second

    pub passed_even : value image F.generation % 2 ≡ 0
    passed_even = even_passed o image holds.fourth
