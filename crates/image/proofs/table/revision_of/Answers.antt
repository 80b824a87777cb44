-- `image::table::revision_of` meets its contract: the word where the revision begins, as a signed number.
-- Assumes nothing.
use borrow.Author.Rules.{sfits_of}
use mathlib.Core.Path.{ap, ◌∙◌}
use mir.Facts.{to_z-of_z}
use mir.Syntax.{w64}
use Prim.Native.Nat.{ℕ}
use Rattle.numbers.specs.Bytes.{part, word}
use Rattle.numbers.specs.Signed.{signed}
use Rattle.image.specs.Table.{revision_of}
use Rattle.image.proofs.table.revision_of.Goals as goal

pub returns : goal.returns
unfolding revision_of
returns c =
    to_z-of_z {w = w64} {z = c.signed_of.result} (sfits_of c.signed_of.type_inv)
    ∙ c.signed_of.ensures
    ∙ ap signed (c.u64_at.ensures ∙ ap (λ (at : ℕ). word (part c.args.image.now at 8)) c.revision_at.ensures)
