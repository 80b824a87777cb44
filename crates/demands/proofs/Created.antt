-- What create leaves where it answers 0.
-- Assumes nothing.
use Prim.Native.Nat.{ℕ}
use mathlib.Core.Path.{◌≡◌, sym, ap, ◌∙◌}
use mathlib.Core.List.{List, ◌++◌}
use lib.ListN.{take, drop}
use lib.Seq.{take_at}
use Rattle.header.specs.declared.options.Options.{Options}
use Rattle.header.specs.FirstOf.{first_of}
use Rattle.header.specs.HeaderTest.{create_test1}
use Rattle.header.specs.Sizes.{total_size}
use Rattle.header.proofs.Firsts.{first_none}
use Rattle.writing.specs.Create.{create_tests, fresh, create_of}
use Rattle.writing.proofs.Answers.{answers, accepted}
use Rattle.writing.proofs.Fresh.{fresh_length}
use Rattle.demands.specs.History.{fresh_in}

module _ (o : Options) (buffer : List ℕ) (a : (create_of o buffer).answer ≡ 0) where
  none_holds : first_of (create_tests o buffer) ≡ 0
  unfolding create_of
  none_holds = sym (answers buffer (fresh o ++ drop (total_size o) buffer) (first_of (create_tests o buffer))) ∙ a

  -- the options are allowed
  pub create_allowed : first_of (create_test1 o) ≡ 0
  unfolding create_tests create_test1
  create_allowed = (first_none (create_test1 o) _ tt none_holds).0

  -- a fresh image, and what the buffer had past the total
  pub create_left : (create_of o buffer).image ≡ fresh o ++ drop (total_size o) buffer
  unfolding create_of
  create_left = accepted buffer (fresh o ++ drop (total_size o) buffer) (first_of (create_tests o buffer)) none_holds

  pub fresh_in_lem : fresh_in o buffer ≡ fresh o
  fresh_in_lem = ap (take (total_size o)) create_left ∙ take_at (fresh o) (drop (total_size o) buffer) (total_size o) (fresh_length o)
