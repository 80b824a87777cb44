-- `image::table::index_of` meets its contract: the index follows the revision.
-- Assumes nothing.
use mathlib.Core.Path.{refl, ap, ◌∙◌}
use Prim.Native.Nat.{ℕ, ◌+◌}
use Rattle.numbers.specs.Bytes.{part}
use Rattle.numbers.proofs.Put.{range_part}
use Rattle.image.specs.Table.{index_of}
use Rattle.image.proofs.Places.{revision_in_slot}
use Rattle.image.proofs.table.index_of.Goals as goal

pub returns : goal.returns
unfolding index_of
returns c =
    let a = c.args in
    let at = c.revision_at-at in
    range_part a.image.now (at.result + 8) _ a.l.index_size refl
    ∙ ap (λ (x : ℕ). part a.image.now (x + 8) a.l.index_size) at.ensures
    ∙ ap (λ (x : ℕ). part a.image.now x a.l.index_size) (revision_in_slot a.l a.n)
