-- `listing::select::count_wanted` meets its contract.
-- Assumes nothing.
use Prim.Native.Nat.{ℕ}
use mathlib.Core.Path.{sym, ◌∙◌, ap}
use lib.ListN.{length}
use Rattle.std.proofs.Common.{rules}
use Rattle.std.specs.List.{filter}
use Rattle.listing.specs.Scan.{passing}
use Rattle.listing.specs.Select.{wanted_at}
use Rattle.listing.proofs.Numbers.{numbers_first, numbers_all}
use Rattle.listing.proofs.Passing.{passing_filter}
use Rattle.listing.proofs.select.count_wanted.Goals as goal

pub returns : goal.returns
returns g c =
    let a = c.args in
    let test = wanted_at a.image.now.shape a.image.now.bytes.now (g.W.Wanted.test a.wanted.now) in
    let run = c.count.ensures.runs in
    let from = c.filter.ensures.runs run.0 run.0.seen run.1 in
    let kept = from.2.4 test (λ x r f e. search rules) in
    let all = numbers_all a.image.now.shape.slot_highwater from.0 from.1 (from.2.0 ∙ run.2) in
    let numbers = numbers_first a.image.now.shape.slot_highwater from.0 from.1 in
    run.3 ∙ run.0.long
    ∙ ap length (kept ∙ ap (filter test) numbers ∙ sym (passing_filter test from.0.len))
    ∙ ap (λ (n : ℕ). length (passing n test)) all
