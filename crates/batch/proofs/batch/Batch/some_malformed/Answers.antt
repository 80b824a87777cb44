-- `batch::batch::Batch::some_malformed` meets its contract.
-- Assumes nothing.
use borrow.Author.Rules.{rules}
use borrow.Author.Tests.{tests}
use Prim.Native.Nat.{ℕ}
use native.Mathlib.Omega.{arith}
use mathlib.Core.Path.{refl, ◌∙◌}
use mathlib.Core.Bool.{not}
use Rattle.std.proofs.lemmas.Iterator.{YieldsList-from_range}
use Rattle.std.proofs.lemmas.Iterator.Search.{any_from_yields_List}
use Rattle.batch.specs.Batch.{record_count, record_at, malformed, some_malformed}
use Rattle.batch.proofs.Every.{any_fails}
use Rattle.batch.proofs.batch.Batch.some_malformed.Goals as goal

pub returns : goal.returns
unfolding some_malformed
returns c =
    let b = c.args.self.now in
    let well = λ (i : ℕ). not (malformed b.layout (record_at b.layout b.bytes.now i)) in
    let n = record_count b.layout b.bytes.now in
    any_from_yields_List (λ i. not (well i)) _ _ c.any.result c.any.ensures.ran (YieldsList-from_range 0 c.record_count.result n refl (omega (arith, c.record_count.ensures))) (λ x r q k. search (rules, tests))
    ∙ any_fails well n
