-- `listing::select::select` meets its contract.
-- Assumes nothing.
use Prim.Native.Nat.{min}
use mathlib.Core.Path.{refl, sym, ◌∙◌, ap}
use borrow.Author.Tests.{ltb-true, ltb-false}
use Rattle.std.specs.Prelude.{Ok}
use Rattle.header.proofs.Firsts.{fails}
use Rattle.listing.specs.Scan.{matches}
use Rattle.listing.specs.Select.{wanted_at}
use Rattle.listing.proofs.Listing.{same_outcome, says_refused, test_refused, list_short, list_fits}
use Rattle.listing.proofs.select.select.Goals as goal

pub returns-in_err-refuse_if : goal.returns-in_err-refuse_if
unfolding matches wanted_at
returns-in_err-refuse_if g c =
    let a = c.args in
    let r = test_refused _ _ _ c.in_err-refuse_if.ensures in
    let e =
    list_short _ a.skip a.limit a.numbers.now
    c.count_wanted-total.result c.min-count.result
    c.count_wanted-total.ensures (c.min-count.ensures ∙ ap (min a.limit) c.saturating_sub.ensures) (ltb-true _ _ r.0) in
    same_outcome _ e (says_refused a.numbers.now _ _ c.from_residual.ensures.1 r.1)

pub write_wanted-requires-clause-room : goal.write_wanted-requires-clause-room
write_wanted-requires-clause-room g c = ltb-false _ _ (fails _ 10 (sym c.in_ok-refuse_if.ensures))

pub returns : goal.returns
unfolding matches wanted_at
returns g c =
    let a = c.args in
    let e =
    list_fits _ a.skip a.limit a.numbers.now
    c.count_wanted-total.result c.min-count.result
    c.count_wanted-total.ensures (c.min-count.ensures ∙ ap (min a.limit) c.saturating_sub.ensures)
    (ltb-false _ _ (fails _ 10 (sym c.in_ok-refuse_if.ensures))) in
    same_outcome (Ok (record { total = c.count_wanted-total.result; written = c.min-count.result })) e (refl, c.write_wanted.ensures)
