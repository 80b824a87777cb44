-- The header test taken apart: where every test but those of the state passes, the state and the role decide.
-- Assumes nothing.
use Prim.Native.Nat.{ℕ, ◌%◌, ◌≤◌}
use mathlib.Core.Bool.{Bool, true, false, not, ◌&&◌, ◌||◌}
use mathlib.Core.Path.{◌≡◌, refl, sym, ◌∙◌}
use mathlib.Core.List.{List, [], ◌∷◌, ◌++◌}
use native.Mathlib.Omega.{arith}
use borrow.Author.Tests.{eqb-true, eqb-false, not-false, ltb-false}
use lib.Dec.{T, eqb, ltb}
use Rattle.numbers.specs.Bytes.{all_zero}
use Rattle.digests.specs.Crc.{header_crc}
use Rattle.header.specs.declared.options.Options.{Options}
use Rattle.header.specs.Answer.{needs_rebuild, invalidated, busy}
use Rattle.header.specs.Fields as F
use Rattle.header.specs.Fields.{value, bytes_in}
use Rattle.header.specs.FirstOf.{first_of}
use Rattle.header.specs.State.{INVALIDATED, DIRTY, no_writer_known, another_writer}
use Rattle.header.specs.HeaderTest.{test1, test2, test3, test4, test5, test6, test7, test8, test9, test10, test11, test12, header_test}
use Rattle.header.proofs.Firsts.{named, first_after, first_none, fails, neither}
use Rattle.header.proofs.Stages.{staged, fitting}

-- the tests behind a list that gives none decide
pub past : (xs ys : List (Bool × ℕ)) → T (named xs) → first_of xs ≡ 0 → first_of (xs ++ ys) ≡ first_of ys
past xs ys t z = sym (first_after xs ys t {m = first_of xs} {n = first_of ys} refl z refl)

-- where it gives none, tests of one number may stand for each other
pub behind : (xs ys zs : List (Bool × ℕ)) → (first_of xs ≡ 0 → first_of ys ≡ first_of zs) → first_of (xs ++ ys) ≡ first_of (xs ++ zs)
unfolding first_of
behind [] ys zs e = e refl
behind ((true, n) ∷ xs) ys zs e = refl
behind ((false, n) ∷ xs) ys zs e = behind xs ys zs e

-- "Generation odd": it is not
pub even_passed : (o : Options) (image : List ℕ) → first_of (test4 o image) ≡ 0 → value image F.generation % 2 ≡ 0
unfolding test4
even_passed o image z =
    let odd : Bool = eqb (value image F.generation % 2) 1 in
    let p = first_none ((odd && eqb o.role another_writer, busy) ∷ []) ((odd, needs_rebuild) ∷ []) tt z in
    omega (arith, eqb-false (value image F.generation % 2) 1 (fails odd 0 p.1))

-- "CRC differs": it does not
pub crc_passed : (image : List ℕ) → first_of (test5 image) ≡ 0 → value image F.header_crc32c ≡ header_crc image
unfolding test5
crc_passed image z =
    let right : Bool = eqb (value image F.header_crc32c) (header_crc image) in
    eqb-true (value image F.header_crc32c) (header_crc image) (not-false right (fails (not right) 0 z))

-- "unknown state": it is known
pub state_passed : (image : List ℕ) → first_of (test6 image) ≡ 0 → value image F.state ≤ DIRTY
unfolding test6
state_passed image z =
    let other : Bool = ltb 1 (value image F.flags) || not (all_zero (bytes_in image F.reserved)) in
    ltb-false 2 (value image F.state) (neither other (ltb 2 (value image F.state)) (fails (other || ltb 2 (value image F.state)) 1 z)).1

-- what the state and the role decide: "7. INVALIDATED: 3." "12. DIRTY with role 0: 1."
abbrev pub state_tests : ℕ → ℕ → List (Bool × ℕ)
state_tests role state = (eqb state INVALIDATED, invalidated) ∷ (eqb state DIRTY && eqb role no_writer_known, needs_rebuild) ∷ []

module _ (o : Options) (image : List ℕ) where
  -- none of the other tests holds
  pub record Holds : Type 0 where
    pub first : first_of (test1 o) ≡ 0
    pub second : first_of (test2 image) ≡ 0
    pub third : first_of (test3 image) ≡ 0
    pub fourth : first_of (test4 o image) ≡ 0
    pub fifth : first_of (test5 image) ≡ 0
    pub sixth : first_of (test6 image) ≡ 0
    pub eighth : first_of (test8 o image) ≡ 0
    pub ninth : first_of (test9 image) ≡ 0
    pub tenth : first_of (test10 image) ≡ 0
    pub eleventh : first_of (test11 image) ≡ 0

  pub header_by_state : Holds → header_test o image ≡ first_of (state_tests o.role (value image F.state))
  unfolding test1 test2 test3 test4 test5 test6 test7 test8 test9 test10 test11 test12
  header_by_state h =
      staged o image
      ∙ past (test1 o) _ tt h.first
      ∙ past (test2 image) _ tt h.second
      ∙ past (test3 image) _ tt h.third
      ∙ past (test4 o image) _ tt h.fourth
      ∙ past (test5 image) _ tt h.fifth
      ∙ past (test6 image) _ tt h.sixth
      ∙ behind (test7 image) (fitting o image) (test12 o image)
      (λ z. past (test8 o image) _ tt h.eighth ∙ past (test9 image) _ tt h.ninth ∙ past (test10 image) _ tt h.tenth ∙ past (test11 image) _ tt h.eleventh)

  pub header_holds : header_test o image ≡ 0 → Holds
  unfolding test1 test2 test3 test4 test5 test6 test7 test8 test9 test10 test11
  header_holds z =
      let p₁ = first_none (test1 o) _ tt (sym (staged o image) ∙ z) in
      let p₂ = first_none (test2 image) _ tt p₁.1 in
      let p₃ = first_none (test3 image) _ tt p₂.1 in
      let p₄ = first_none (test4 o image) _ tt p₃.1 in
      let p₅ = first_none (test5 image) _ tt p₄.1 in
      let p₆ = first_none (test6 image) _ tt p₅.1 in
      let p₇ = first_none (test7 image) _ tt p₆.1 in
      let p₈ = first_none (test8 o image) _ tt p₇.1 in
      let p₉ = first_none (test9 image) _ tt p₈.1 in
      let p₁₀ = first_none (test10 image) _ tt p₉.1 in
      let p₁₁ = first_none (test11 image) _ tt p₁₀.1 in
      record {
        first = p₁.0;
        second = p₂.0;
        third = p₃.0;
        fourth = p₄.0;
        fifth = p₅.0;
        sixth = p₆.0;
        eighth = p₈.0;
        ninth = p₉.0;
        tenth = p₁₀.0;
        eleventh = p₁₁.0;
      }

-- test 7: an image that passes is CLEAN or DIRTY
pub not_invalidated : (o : Options) (image : List ℕ) → header_test o image ≡ 0 → value image F.state ≡ INVALIDATED → ⊥
not_invalidated o image z =
    let state : Bool = eqb (value image F.state) INVALIDATED in
    let tests = sym (header_by_state o image (header_holds o image z)) ∙ z in
    eqb-false _ _ (fails state 2 (first_none ((state, invalidated) ∷ []) _ tt tests).0)
