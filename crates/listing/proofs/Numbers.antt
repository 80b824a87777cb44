-- What a run over the numbers below a bound gave.
-- Assumes nothing.
use Prim.Native.Nat.{ℕ, ◌≤◌, ◌<◌}
use mathlib.Core.Bool.{true}
use mathlib.Core.Path.{◌≡◌, sym, ◌∙◌, ap}
use native.Mathlib.Omega.{arith}
use Rattle.std.specs.Iterator.Runs.{Run}
use Rattle.std.specs.List.{range_with_len}
use Rattle.std.specs.Option.{unwrap_or}
use Rattle.std.specs.declared.ops.Range.{Range}
use Rattle.std.proofs.iter.Yields.{nat_range_steps}
use Rattle.std.proofs.iter.runs.Sources.{range_runs}
use Rattle.std.proofs.lemmas.List.{ext_get_or}
use Rattle.std.proofs.lemmas.List.FromFn.{length-range_with_len, get_or-range_with_len}

module _ (n : ℕ) (q : Run nat_range_steps) (from : q.from ≡ record { start = 0; end = n }) where
  -- it gave the first of them
  pub numbers_first : q.items ≡ range_with_len 0 q.len
  numbers_first =
      let runs = range_runs q q.seen in
      let first : q.from.start ≡ 0 = ap (λ (r : Range ℕ). r.start) from in
      ext_get_or 0 q.items (range_with_len 0 q.len) (sym q.long ∙ sym (length-range_with_len 0 q.len))
      (λ i l. let below : i < q.len = omega (arith, q.long) in
      ap (λ o. unwrap_or o 0) (sym (q.reads i 0 below) ∙ runs.3 i below)
      ∙ (omega (arith, first, get_or-range_with_len 0 q.len i 0 below)))

  pub numbers_within : q.len ≤ n
  numbers_within = let runs = range_runs q q.seen in omega (arith, runs.0, ap (λ (r : Range ℕ). r.start) from, ap (λ (r : Range ℕ). r.end) from)

  -- and all of them, where it went on to its end
  pub numbers_all : q.whole ≡ true → q.len ≡ n
  numbers_all whole = let runs = range_runs q q.seen in omega (arith, runs.1 whole, ap (λ (r : Range ℕ). r.start) from, ap (λ (r : Range ℕ). r.end) from)
