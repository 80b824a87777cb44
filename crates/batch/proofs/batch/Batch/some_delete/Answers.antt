-- `batch::batch::Batch::some_delete` meets its contract.
-- Assumes nothing.
use borrow.Author.Rules.{rules}
use borrow.Author.Tests.{tests}
use Prim.Native.Nat.{ℕ}
use native.Mathlib.Omega.{arith}
use mathlib.Core.Path.{refl, ◌∙◌}
use mathlib.Core.Bool.{not}
use lib.Dec.{eqb}
use Rattle.std.proofs.lemmas.Iterator.{YieldsList-from_range}
use Rattle.std.proofs.lemmas.Iterator.Search.{any_from_yields_List}
use Rattle.batch.specs.Batch.{record_count, record_at, meta_in}
use Rattle.batch.specs.Notes.{some_delete}
use Rattle.batch.proofs.Every.{any_fails}
use Rattle.batch.proofs.batch.Batch.some_delete.Goals as goal

pub returns : goal.returns
unfolding some_delete
returns c =
    let b = c.args.self.now in
    let put = λ (i : ℕ). eqb (meta_in (record_at b.layout b.bytes.now i)) 1 in
    let n = record_count b.layout b.bytes.now in
    any_from_yields_List (λ i. not (put i)) _ _ c.any.result c.any.ensures.ran (YieldsList-from_range 0 c.record_count.result n refl (omega (arith, c.record_count.ensures))) (λ x r q k. search (rules, tests))
    ∙ any_fails put n
