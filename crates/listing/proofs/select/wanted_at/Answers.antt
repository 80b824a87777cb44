-- `listing::select::wanted_at` meets its contract.
-- Assumes nothing.
use Prim.Native.Nat.{◌<◌}
use mathlib.Core.Path.{◌≡◌, refl, sym, ◌∙◌, ap, subst}
use borrow.Author.Tests.{eq-eqb, ne_eqb}
use native.Mathlib.Omega.{arith}
use lib.ListN.{length}
use Rattle.listing.specs.Select.{wanted_at}
use Rattle.image.specs.Table.{meta_of}
use Rattle.image.proofs.Places.{key_length}
use Rattle.listing.proofs.select.wanted_at.Goals as goal

pub passes-requires : goal.passes-requires
passes-requires g c =
    let a = c.args in
    let n : a.n < a.image.now.shape.layout.slot_capacity = omega (arith, c.args.image.now.shaped.highwater, c.requires.n_bound) in
    let size = ap length c.key_of.ensures ∙ key_length a.image.now.shape.layout a.image.now.bytes.now c.args.image.now.shaped.laid a.n n in
    subst (g.W.Wanted.takes a.wanted.now) (sym size) c.requires.takes

pub returns-then-meta_of-eq1 : goal.returns-then-meta_of-eq1
unfolding wanted_at
returns-then-meta_of-eq1 g c =
    let a = c.args in
    rw (eq-eqb (meta_of a.image.now.shape.layout a.image.now.bytes.now a.n) 1 (sym c.meta_of.ensures ∙ c.if-meta_of-eq1.true))
    (c.passes.ensures ∙ ap (g.W.Wanted.test a.wanted.now) c.key_of.ensures)

pub returns-else-meta_of-eq1 : goal.returns-else-meta_of-eq1
unfolding wanted_at
returns-else-meta_of-eq1 g c =
    let a = c.args in
    let no : meta_of a.image.now.shape.layout a.image.now.bytes.now a.n ≡ 1 → ⊥ = λ e. c.if-meta_of-eq1.false (c.meta_of.ensures ∙ e) in
    rw (ne_eqb c.meta_of.result 1 c.if-meta_of-eq1.false, ne_eqb (meta_of a.image.now.shape.layout a.image.now.bytes.now a.n) 1 no) refl
