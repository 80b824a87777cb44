-- `listing::select::write_wanted` meets its contract: the run that fills the list is followed back to the numbers of the slots.
-- Assumes nothing.
use Prim.Native.Nat.{ℕ, ◌-◌, ◌≤◌}
use mathlib.Core.Logic.{⊎_elim}
use mathlib.Core.Path.{◌≡◌, sym, ◌∙◌, ap, ap₂}
use mathlib.Core.List.{List, ◌++◌}
use native.Mathlib.Nat.{eq-or-lt_of_le}
use native.Mathlib.Omega.{arith}
use lib.ListN.{length, drop}
use Rattle.std.proofs.Common.{rules}
use Rattle.std.specs.List.{filter}
use Rattle.listing.specs.Scan.{passing}
use Rattle.listing.specs.Select.{wanted_at}
use Rattle.listing.proofs.Filling.{written_all}
use Rattle.listing.proofs.Numbers.{numbers_first, numbers_within, numbers_all}
use Rattle.listing.proofs.Passing.{passing_filter}
use Rattle.listing.proofs.select.write_wanted.Goals as goal

pub returns : goal.returns
returns g c =
    let a = c.args in
    let test = wanted_at a.image.now.shape a.image.now.bytes.now (g.W.Wanted.test a.wanted.now) in
    let bound = a.image.now.shape.slot_highwater in
    let filled = c.fill.ensures in
    let taken = c.take.ensures.runs filled.0 filled.0.seen filled.1 in
    let skipped = c.skip.ensures.runs taken.1.0 taken.1.0.seen taken.1.1 in
    let kept = c.filter-slots.ensures.runs skipped.0 skipped.0.seen skipped.1 in
    let numbers = kept.0 in
    let few : skipped.0.items ≡ passing numbers.len test =
    kept.2.4 test (λ x r f e. search rules) ∙ ap (filter test) (numbers_first bound numbers kept.1) ∙ sym (passing_filter test numbers.len) in
    let within : numbers.len ≤ bound = numbers_within bound numbers kept.1 in
    let same = taken.1.2.0 in
    let count : filled.0.len ≡ length (passing numbers.len test) - a.skip = omega (arith, same.0, skipped.2.1, skipped.0.long, ap length few) in
    let all : length (passing numbers.len test) - a.skip ≡ a.count =
    ⊎_elim (λ e. sym count ∙ e) (λ l.
    let whole = skipped.2.0 ∙ taken.1.2.1 filled.2 (omega (arith, l)) in
    let to_end = numbers_all bound numbers kept.1 (kept.2.0 ∙ whole) in
    absurd (omega (arith, c.requires.enough, ap (λ (n : ℕ). length (passing n test)) to_end)))
    (eq-or-lt_of_le {n = filled.0.len} {m = a.count} (omega (arith, taken.0))) in
    filled.3
    ∙ ap₂ (λ (xs : List ℕ) (n : ℕ). xs ++ drop n a.numbers.now)
    (sym same.1 ∙ skipped.2.2 ∙ ap (drop a.skip) few
    ∙ written_all test numbers.len bound a.skip a.count within all)
    (count ∙ all)
