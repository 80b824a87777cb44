-- `image::table::Image::full_right` meets its contract: each test is one of the sentence's.
-- Assumes nothing.
use mathlib.Core.Path.{◌∙◌, sym, ap}
use lib.Dec.{eqb}
use borrow.Author.Tests.{le-ltb}
use Rattle.probing.proofs.Keys.{not_both}
use Rattle.digests.specs.Fnv.{fnv1a64}
use Rattle.image.proofs.Tally.{past_wrong, meta_decides}
use Rattle.image.proofs.table.Image.full_right.Goals as goal
use Rattle.image.proofs.table.Image.full_right.Goals.{then-slot-self, else-slot-self}

pub returns-then-meta_of-eq1 : goal.returns-then-meta_of-eq1
returns-then-meta_of-eq1 c =
    let a = c.args in
    let i = a.self.now in
    elim c.if-slot-self.branch [
      | then-slot-self w ↦
          rw (← meta_decides i.shape i.bytes.now a.hash64 a.slot w.if-slot-self.true, ← w.meta_of.ensures, sym w.value-is ∙ c.if-meta_of-eq1.true)
          (ap (eqb a.hash64) (c.fnv1a64_of.ensures ∙ ap fnv1a64 c.key_of.ensures))
      | else-slot-self w ↦ absurd (not_both (sym w.value-is ∙ c.if-meta_of-eq1.true) (le-ltb a.slot i.shape.slot_highwater w.if-slot-self.false))
    ]

pub returns-else-meta_of-eq1 : goal.returns-else-meta_of-eq1
returns-else-meta_of-eq1 c =
    let a = c.args in
    let i = a.self.now in
    elim c.if-slot-self.branch [
      | then-slot-self w ↦
          c.if-meta_of-eq1.false ∙ rw (← meta_decides i.shape i.bytes.now a.hash64 a.slot w.if-slot-self.true, ← w.meta_of.ensures, sym w.value-is ∙ c.if-meta_of-eq1.false)
      | else-slot-self w ↦ w.value-is ∙ le-ltb a.slot i.shape.slot_highwater w.if-slot-self.false ∙ past_wrong i.shape i.bytes.now a.hash64 a.slot w.if-slot-self.false
    ]
