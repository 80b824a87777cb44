-- `slots::slots::rewrite` meets its contract.
-- Assumes nothing.
use mathlib.Core.Path.{◌≡◌, ap, ap₂, ◌∙◌}
use native.Mathlib.Omega.{arith}
use Prim.Native.Nat.{ℕ, ◌+◌, ◌-◌}
use lib.ListN.{take, drop}
use Rattle.numbers.specs.Bytes.{part, put}
use Rattle.header.specs.Sizes.{align8}
use Rattle.image.specs.Table.{slot_at, revision_at}
use Rattle.numbers.proofs.Put.{range_part}
use Rattle.slots.specs.Slots.{rewritten}
use Rattle.slots.proofs.slots.rewrite.Goals as goal

pub returns : goal.returns
unfolding rewritten revision_at
returns c =
    let aligned = c.align8 in
    let slot = c.slot_at in
    let sizes = c.args.l in
    let from : ℕ = 8 + aligned.result in
    let end : ℕ = from + 8 + sizes.index_size in
    let copied : c.copy_to.new.dst ≡ put c.args.image.now (slot.result + from) (take (end - from) (drop from c.args.«record».now)) =
    c.copy_to.ensures in
    let at : slot.result + from ≡ slot_at sizes c.args.n + 8 + align8 sizes.key_size = omega (arith, slot.ensures, aligned.ensures) in
    copied
    ∙ ap₂ (put c.args.image.now) at
    (range_part c.args.«record».now from end (8 + sizes.index_size) (omega arith)
    ∙ ap (λ (x : ℕ). part c.args.«record».now (8 + x) (8 + sizes.index_size)) aligned.ensures)
