-- `listing::select::fill` meets its contract.
-- Assumes nothing.
use Prim.Native.Nat.{ℕ, ◌<◌}
use mathlib.Core.Path.{◌≡◌, sym, ◌∙◌, ap, ap₂, subst}
use mathlib.Core.List.{List, ◌++◌, map}
use native.Mathlib.Omega.{arith}
use lib.ListN.{length, drop}
use Rattle.std.proofs.Common.{rules, IfSome}
use Rattle.std.proofs.iter.runs.Made.{run_of_turn, run_of_exit}
use Rattle.listing.proofs.Filling.{written_next}
use Rattle.listing.proofs.select.fill.Goals as goal

pub loop-i-preserved : goal.loop-i-preserved
loop-i-preserved g c =
    let l = c.loop-i in
    let x : ℕ × ℕ = (c.in-Some.i, c.in-Some.n) in
    let run = run_of_turn _ _ l.yielded l.i-iterator l.yielded_by x _ c.in-Some.ensures.steps in
    let from = c.enumerate-i-items.ensures.runs run.0 run.0.seen (run.1 ∙ c.into_iter-i-iterator.ensures.into_iter_gives) in
    let place : c.in-Some.i ≡ length l.yielded = subst (λ o. IfSome o (λ p. p.0 ≡ length l.yielded)) run.2.2 (from.0 (length l.yielded)) in
    let given = from.1 in
    let fits = c.requires.fits given.0 given.0.seen given.1 in
    let room : length l.yielded < length c.args.numbers.now = omega (arith, fits, given.2.0.0, run.2.1) in
    (search rules, search rules, written_next l.yielded x c.args.numbers.now l.numbers place room l.invariant.2)

pub returns : goal.returns
returns g c =
    let a = c.args in
    let l = c.loop-i in
    let run = run_of_exit _ _ l.yielded l.i-iterator l.yielded_by _ c.in-None.ensures.steps in
    let from = c.enumerate-i-items.ensures.runs run.0 run.0.seen (run.1 ∙ c.into_iter-i-iterator.ensures.into_iter_gives) in
    let given = from.1 in (
      given.0,
      given.1,
      given.2.1 ∙ run.2,
      l.invariant.2
          ∙ sym (ap₂ (λ (xs : List ℕ) (n : ℕ). xs ++ drop n a.numbers.now)
          (given.2.0.1 ∙ ap (map (λ (p : ℕ × ℕ). p.1)) run.3.0)
          (given.2.0.0 ∙ run.3.1)),
    )
