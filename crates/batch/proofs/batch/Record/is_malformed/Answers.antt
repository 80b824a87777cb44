-- `batch::batch::Record::is_malformed` meets its contract.
-- Assumes nothing.
use mathlib.Core.Bool.{not, ◌&&◌, ◌||◌}
use mathlib.Core.Path.{ap, ◌∙◌}
use lib.Dec.{eqb, ltb}
use Rattle.numbers.specs.Bytes.{all_zero}
use Rattle.batch.specs.Batch.{malformed}
use Rattle.batch.proofs.batch.Record.is_malformed.Goals as goal

pub returns : goal.returns
unfolding malformed
returns c =
    let m = c.meta-meta.ensures in
    let k = c.all_zero-behind_key.ensures ∙ ap all_zero c.key_padding.ensures in
    let i = c.all_zero-behind_index.ensures ∙ ap all_zero c.index_padding.ensures in
    let v = c.all_zero-nothing_else.ensures ∙ ap all_zero c.revision_and_index.ensures in
    λ j. ltb 1 (m j) || not (k j) || not (i j) || (eqb (m j) 0 && not (v j))
