-- `listing::bits::agrees_at` meets its contract: the whole bytes decide, and then the bits that are left.
-- Assumes nothing.
use Prim.Native.Nat.{ℕ, ◌+◌, ◌-◌, ◌/◌, ◌%◌}
use mathlib.Core.Bool.{Bool, true, false, not, ◌&&◌}
use mathlib.Core.Path.{◌≡◌, sym, ◌∙◌, ap}
use native.Mathlib.Omega.{arith}
use borrow.Author.Tests.{eq-eqb, not-false, not-true}
use lib.ListN.{take, drop}
use Rattle.std.specs.Str.{bytes_eq}
use Rattle.listing.specs.Match.{agrees}
use Rattle.listing.proofs.SameBits.{same_bits, same_last, same_none, agrees_parts}
use Rattle.listing.proofs.bits.agrees_at.Goals as goal
use Rattle.listing.proofs.bits.agrees_at.Goals.{After-ne}

-- what the comparison of the whole bytes says
bytes : (c : After-ne) (t : Bool) → c.ne.result ≡ not t
    → bytes_eq (take (c.args.offset + c.args.bits / 8 - c.args.offset) (drop c.args.offset c.args.key.now)) (take (c.args.bits / 8) c.args.pattern.now) ≡ t
bytes c true e = not-false _ (sym c.ne.ensures ∙ e)
bytes c false e = not-true _ (sym c.ne.ensures ∙ e)

parts : (c : After-ne) (t : Bool) → c.ne.result ≡ not t
    → agrees c.args.offset c.args.bits c.args.pattern.now c.args.key.now
    ≡ (t && same_bits (c.args.bits % 8) (drop (c.args.offset + c.args.bits / 8) c.args.key.now) (drop (c.args.bits / 8) c.args.pattern.now))
parts c t e =
    let a = c.args in
    let whole : a.bits / 8 ≡ a.offset + a.bits / 8 - a.offset = omega arith in
    agrees_parts a.offset a.bits a.pattern.now a.key.now (λ i. (c.type_inv.pattern i).fits) (λ i. (c.type_inv.key i).fits)
    (omega (arith, c.requires.bytes, c.requires.inside)) (omega (arith, c.requires.bytes))
    ∙ ap (λ (s : Bool). s && same_bits (a.bits % 8) (drop (a.offset + a.bits / 8) a.key.now) (drop (a.bits / 8) a.pattern.now))
    (ap (λ (n : ℕ). bytes_eq (take n (drop a.offset a.key.now)) (take (a.bits / 8) a.pattern.now)) whole ∙ bytes c t e)

pub returns-then-ne : goal.returns-then-ne
returns-then-ne c = sym (parts (goal.at.returns-then-ne c).After-ne false c.if-ne.true)

pub returns-then-left-eq0 : goal.returns-then-left-eq0
returns-then-left-eq0 c =
    let a = c.args in
    eq-eqb (a.bits % 8) 0 c.if-left-eq0.true
    ∙ sym (parts (goal.at.returns-then-left-eq0 c).After-ne true c.if-ne.false
    ∙ ap (λ (n : ℕ). same_bits n (drop (a.offset + a.bits / 8) a.key.now) (drop (a.bits / 8) a.pattern.now)) c.if-left-eq0.true
    ∙ same_none _ _)

pub returns-else-left-eq0 : goal.returns-else-left-eq0
returns-else-left-eq0 c =
    let a = c.args in
    let at = a.offset + a.bits / 8 in
    c.same_upper.ensures
    ∙ sym (parts (goal.at.returns-else-left-eq0 c).After-ne true c.if-ne.false
    ∙ same_last a.key.now a.pattern.now at (a.bits / 8) (c.type_inv.key at).fits (c.type_inv.pattern (a.bits / 8)).fits (a.bits % 8) (omega arith))
