-- `image::table::key_of` meets its contract: the key follows the meta.
-- Assumes nothing.
use Prim.Native.Nat.{ℕ, ◌+◌}
use mathlib.Core.Path.{refl, ap, ◌∙◌}
use Rattle.numbers.specs.Bytes.{part}
use Rattle.numbers.proofs.Put.{range_part}
use Rattle.image.specs.Table.{key_at, key_of}
use Rattle.image.proofs.table.key_of.Goals as goal

pub returns : goal.returns
unfolding key_of key_at
returns c =
    let a = c.args in
    let at = c.slot_at-at in
    range_part a.image.now (at.result + 8) _ a.l.key_size refl
    ∙ ap (λ (x : ℕ). part a.image.now (x + 8) a.l.key_size) at.ensures
