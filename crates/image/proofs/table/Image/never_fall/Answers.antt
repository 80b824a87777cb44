-- `image::table::Image::never_fall` meets its contract. The loop's invariant: no key so far comes before the one before it.
-- Assumes nothing.
use Prim.Native.Nat.{ℕ, zero, suc, ◌+◌, ◌-◌, ◌<◌, ◌≤◌}
use mathlib.Core.Path.{◌≡◌, refl, ◌∙◌, sym, ap, ap₂}
use mathlib.Core.Bool.{Bool, true, false, not}
use mathlib.Core.List.{List}
use native.Mathlib.Omega.{arith}
use Rattle.numbers.specs.Bytes.{below}
use Rattle.probing.specs.Counting.{all_to}
use Rattle.probing.specs.Check.{never_fall}
use Rattle.probing.proofs.Keys.{not_both, not_true_false, both_and}
use Rattle.probing.proofs.Counting.{all_at}
use Rattle.header.specs.declared.shape.Shape.{Shape}
use Rattle.image.specs.Table.{key_of, table_of}
use Rattle.image.proofs.table.Image.never_fall.Invariants.{holds}
use Rattle.image.proofs.table.Image.never_fall.Goals as goal

module _ (s : Shape) (image : List ℕ) (n : ℕ) (some : 1 ≤ n) (r : Bool) (compared : r ≡ below (key_of s.layout image n) (key_of s.layout image (n - 1))) where
  -- the comparison is of slot n's key with the one before
  held : holds s image (n - 1) ≡ not r
  unfolding holds
  held =
      let next : n - 1 + 1 ≡ n = omega (arith, some) in
      ap not (ap (λ (m : ℕ). below (key_of s.layout image m) (key_of s.layout image (n - 1))) next ∙ sym compared)

  -- where a key comes before the one before it, keys fall
  fell : n < s.slot_highwater → r ≡ true → false ≡ never_fall (table_of s image)
  unfolding never_fall table_of holds
  fell l e =
      sym (not_true_false _ (λ a. not_both (all_at (s.slot_highwater - 1) (holds s image) a (n - 1) (omega (arith, some, l))) (held ∙ ap not e)))

  -- else they have not fallen so far
  stays : all_to (n - 1) (holds s image) ≡ true → r ≡ false → all_to (n + 1 - 1) (holds s image) ≡ true
  unfolding all_to
  stays before e =
      let next : n + 1 - 1 ≡ suc (n - 1) = omega (arith, some) in
      ap (λ (m : ℕ). all_to m (holds s image)) next ∙ both_and before (held ∙ ap not e)

-- where the loop ends, all keys were compared
all : (p : ℕ → Bool) (highwater n : ℕ) → highwater ≤ n → (1 ≤ highwater → n ≤ highwater) → all_to (n - 1) p ≡ true → true ≡ all_to (highwater - 1) p
unfolding all_to
all p zero n l few e = refl
all p (suc h) n l few e =
    let last : suc h ≡ n = omega (arith, l, few (omega arith)) in
    sym (rw last e)

pub loop-n-init : goal.loop-n-init
unfolding all_to
loop-n-init c = refl

pub returns-then-comes_before : goal.returns-then-comes_before
returns-then-comes_before c =
    let i = c.args.self.now in
    fell i.shape i.bytes.now c.loop-n.n c.loop-n.auto.n _ (c.comes_before.ensures ∙ ap₂ below c.key_of.ensures c.key_of-in-loop-n.ensures)
    c.loop-n-test.true c.if-comes_before.true

pub loop-n-preserved : goal.loop-n-preserved
loop-n-preserved c =
    let i = c.args.self.now in
    stays i.shape i.bytes.now c.loop-n.n c.loop-n.auto.n _ (c.comes_before.ensures ∙ ap₂ below c.key_of.ensures c.key_of-in-loop-n.ensures)
    c.loop-n.invariant c.if-comes_before.false

pub returns : goal.returns
unfolding never_fall table_of holds
returns c =
    let i = c.args.self.now in
    all (holds i.shape i.bytes.now) i.shape.slot_highwater c.loop-n.n c.loop-n-test.false c.loop-n.auto.n-end c.loop-n.invariant
