-- `listing::matching::match_in` meets its contract.
-- Assumes nothing.
use Prim.Native.Nat.{◌+◌}
use mathlib.Core.Path.{sym, ◌∙◌}
use native.Mathlib.Omega.{arith}
use borrow.Author.Tests.{ltb-false}
use lib.ListN.{length}
use Rattle.header.proofs.Firsts.{fails}
use Rattle.listing.specs.Match.{match_in}
use Rattle.listing.proofs.Listing.{says_refused, test_refused}
use Rattle.listing.proofs.Pattern.{wrong_past, wrong_length, right, not_wrong}
use Rattle.listing.proofs.matching.match_in.Goals as goal

pub returns-in_err-refuse_if : goal.returns-in_err-refuse_if
unfolding match_in
returns-in_err-refuse_if c =
    let a = c.args in
    let r = test_refused _ _ _ c.in_err-refuse_if.ensures in
    rw (wrong_past a.image.now.shape a.offset _ a.pattern.now (sym c.runs_past.ensures ∙ r.0))
    (says_refused a.numbers.now _ _ c.from_residual.ensures.1 r.1)

pub bits_compared-compared-requires : goal.bits_compared-compared-requires
bits_compared-compared-requires c =
    let a = c.args in
    let inside =
    ltb-false a.image.now.shape.layout.key_size (a.offset + length a.pattern.now) (sym c.runs_past.ensures ∙ fails _ 6 (sym c.in_ok-refuse_if.ensures)) in
    omega (arith, inside, a.image.now.shaped.laid.keys)

pub returns-in_err-refuse_if-2 : goal.returns-in_err-refuse_if-2
unfolding match_in
returns-in_err-refuse_if-2 c =
    let a = c.args in
    let r = test_refused _ _ _ c.in_err-refuse_if-2.ensures in
    rw (← c.bits_compared-compared.ensures, wrong_length a.image.now.shape a.offset _ a.pattern.now (sym c.length_wrong.ensures ∙ r.0))
    (says_refused a.numbers.now _ _ c.from_residual-in_err-refuse_if-2.ensures.1 r.1)

pub select-requires : goal.select-requires
select-requires c =
    let a = c.args in
    let n = c.bits_compared-compared.result in
    not_wrong a.image.now.shape a.offset n a.pattern.now
    (right a.image.now.shape a.offset n a.pattern.now (sym c.runs_past.ensures ∙ fails _ 6 (sym c.in_ok-refuse_if.ensures)) (sym c.length_wrong.ensures ∙ fails _ 6 (sym c.in_ok-refuse_if-2.ensures)))

pub returns : goal.returns
unfolding match_in
returns c =
    let a = c.args in
    rw (← c.bits_compared-compared.ensures, right a.image.now.shape a.offset _ a.pattern.now (sym c.runs_past.ensures ∙ fails _ 6 (sym c.in_ok-refuse_if.ensures)) (sym c.length_wrong.ensures ∙ fails _ 6 (sym c.in_ok-refuse_if-2.ensures)))
    c.select.ensures
