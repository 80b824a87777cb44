-- The header test up to a test: those before the eighth, the ninth and the tenth.
-- Assumes nothing.
use Rattle.std.specs.Prelude.{ℕ, Bool, List, ◌++◌}
use Rattle.header.specs.declared.options.Options.{Options}
use Rattle.header.specs.HeaderTest.{test1, test2, test3, test4, test5, test6, test7, test8, test9}

abbrev pub seven : Options → List ℕ → List (Bool × ℕ)
seven o image = test1 o ++ test2 image ++ test3 image ++ test4 o image ++ test5 image ++ test6 image ++ test7 image

abbrev pub eight : Options → List ℕ → List (Bool × ℕ)
eight o image = seven o image ++ test8 o image

abbrev pub nine : Options → List ℕ → List (Bool × ℕ)
nine o image = eight o image ++ test9 image
