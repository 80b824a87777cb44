-- `commit::commit::commit_batch` meets its contract: the tests of a change, and then the batch.
-- Assumes nothing.
use borrow.Author.Rules.{rules}
use mathlib.Core.List.{List}
use mathlib.Core.Path.{◌≡◌, sym, ap, ◌∙◌}
use Prim.Native.Nat.{ℕ}
use Rattle.header.specs.declared.options.Options.{Options}
use Rattle.header.specs.declared.shape.Shape.{Shape}
use Rattle.header.specs.Answer.{done}
use Rattle.header.specs.FirstOf.{first_of}
use Rattle.header.specs.HeaderTest.{shape_of}
use Rattle.header.specs.Shaped.{Shaped}
use Rattle.header.proofs.Fit.{fit_shaped}
use Rattle.header.proofs.Firsts.{number_not_done}
use Rattle.writing.specs.Write.{Written}
use Rattle.writing.specs.State.{user_tests}
use Rattle.writing.proofs.Answers.{says_refused}
use Rattle.writing.proofs.StateLaws.{next_fits}
use Rattle.writing.proofs.MoreTests.{change_writing, change_generation}
use Rattle.writing.proofs.Roles.{passed_header, passed_long, passed_even}
use Rattle.soundness.specs.Commit.{commit_of}
use Rattle.commit.proofs.TestGroups.{commit_stops, commit_further}
use Rattle.commit.proofs.commit.commit_batch.Goals as goal

-- the shape of an image that passes the tests of a change fits it
fits : (o : Options) (i : List ℕ) {s : Shape} → done ≡ first_of (user_tests o i) → s ≡ shape_of i → Shaped s i
fits o i z e = rw e (fit_shaped o i (passed_header o i (change_writing o i (sym z))))

pub returns-in_err-shape : goal.returns-in_err-shape
unfolding commit_of
returns-in_err-shape c =
    let a = c.args in
    says_refused a.image.now _ _ _ _ c.from_residual.ensures.1
    (commit_stops a.o a.image.now a.batch.now c.in_err-shape.ensures.numbered (number_not_done _))

pub invariant_of-batch : goal.invariant_of-batch
invariant_of-batch c =
    let told = c.in_ok-shape.ensures in
    record { sized = (fits c.args.o c.args.image.now told.numbered told.shape).laid.slot }

pub commit_in-requires-clause-shaped : goal.commit_in-requires-clause-shaped
commit_in-requires-clause-shaped c =
    let told = c.in_ok-shape.ensures in
    fits c.args.o c.args.image.now told.numbered told.shape

pub commit_in-requires-clause-generation_bound : goal.commit_in-requires-clause-generation_bound
commit_in-requires-clause-generation_bound c =
    let a = c.args in
    let i = a.image.now in
    let z = sym c.in_ok-shape.ensures.numbered in
    let writing = change_writing a.o i z in
    next_fits i (search rules) (passed_long a.o i writing) (change_generation a.o i z) (passed_even a.o i writing)

pub returns : goal.returns
returns c =
    let a = c.args in
    let told = c.in_ok-shape.ensures in
    let done = commit_further a.o a.image.now a.batch.now (sym told.numbered) _ told.shape in
    let r = c.commit_in.ensures in
    (r.0 ∙ ap (λ (x : Written). x.answer) done, r.1 ∙ ap (λ (x : Written). x.image) done)
