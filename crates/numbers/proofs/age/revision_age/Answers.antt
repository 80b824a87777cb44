-- `numbers::age::revision_age` meets its contract: each order of the two numbers has its law.
-- Assumes nothing.
use Rattle.numbers.proofs.AgeLaws.{Apart, older, equal, newer}
use Rattle.numbers.proofs.age.revision_age.Goals as goal
use Rattle.numbers.proofs.age.revision_age.Goals.{in-Less, in-Equal, in-Greater}

pub returns : goal.returns
returns c =
    let both : Apart c.args.first c.args.second c.abs_diff.result =
    record { first_fits = c.ranges.first; second_fits = c.ranges.second; apart = c.abs_diff.ensures } in
    elim c.match-cmp.branch [
      | in-Less w ↦ older both w.order-is w.in-Less.ensures
      | in-Equal w ↦ equal both w.order-is w.in-Equal.ensures
      | in-Greater w ↦ newer both w.order-is w.in-Greater.ensures
    ]
