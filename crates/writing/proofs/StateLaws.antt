-- What begin, checkpoint, invalidate and set user fields make of an image, where they answer 0.
-- Assumes nothing.
use Prim.Native.Nat.{ℕ, ◌+◌, ◌%◌, ◌≤◌}
use mathlib.Core.Bool.{Bool, true, false, cond}
use mathlib.Core.Path.{◌≡◌, refl, sym, ◌∙◌}
use mathlib.Core.List.{List, [], ◌∷◌}
use native.Mathlib.Omega.{arith}
use borrow.Author.Tests.{eqb-true}
use lib.Dec.{eqb, lit<, lit≤}
use lib.ListN.{length}
use Rattle.header.specs.declared.options.Options.{Options}
use Rattle.header.specs.Fields as F
use Rattle.header.specs.Fields.{value}
use Rattle.header.specs.FirstOf.{first_of}
use Rattle.header.specs.State.{CLEAN, INVALIDATED, DIRTY}
use Rattle.header.specs.HeaderTest.{header_test}
use Rattle.header.proofs.Firsts.{first_none}
use Rattle.writing.specs.Write.{with_field, with_fields, sealed}
use Rattle.writing.specs.State.{writing_tests, generation_test, invalidate_tests, in_state, published, begin_of, checkpoint_of, invalidate_of}
use Rattle.writing.proofs.Answers.{answers, accepted}
use Rattle.numbers.specs.Bytes.{Bytes}
use Rattle.writing.proofs.Values.{value_bound}
use Rattle.writing.proofs.Became.{Became, became_written, became_same}
use Rattle.writing.proofs.OneField.{Fits}
use Rattle.writing.proofs.Tests.{even_passed, header_holds}
use Rattle.writing.proofs.Roles.{writing_named, passed_header, passed_long, passed_even}
use Rattle.writing.proofs.MoreTests.{not_last}

-- a change of state alone
state_written : (o : Options) (image : List ℕ) → header_test o image ≡ 0 → 256 ≤ length image → Bytes image → (state : ℕ) → state ≤ 2
    → Became o image (sealed (with_field image F.state state)) state (value image F.generation)
unfolding with_fields
state_written o image z long bytes state low =
    became_written o image z long bytes ((F.state, state) ∷ []) tt (omega arith, tt) refl refl low (even_passed o image (header_holds o image z).fourth)

in_state_became : (o : Options) (image : List ℕ) → header_test o image ≡ 0 → 256 ≤ length image → Bytes image → (state : ℕ) → state ≤ 2
    → Became o image (in_state image state) state (value image F.generation)
unfolding in_state
in_state_became o image z long bytes state low = go (eqb (value image F.state) state) refl
  where
    go : (t : Bool) → eqb (value image F.state) state ≡ t
        → Became o image (cond t image (sealed (with_field image F.state state))) state (value image F.generation)
    go true e = rw (eqb-true (value image F.state) state e) at (became_same o image z long bytes)
    go false e = state_written o image z long bytes state low

-- "at generation 2^64 - 2": it is not, so that the next one can be held
pub next_fits : (image : List ℕ) → Bytes image → 256 ≤ length image → first_of (generation_test image) ≡ 0 → value image F.generation % 2 ≡ 0
    → Fits F.generation (value image F.generation + 2)
next_fits image bytes long z even = omega (arith, not_last image z, value_bound image bytes long F.generation)

module _ (o : Options) (image : List ℕ) (bytes : Bytes image) where
  change_became : (state : ℕ) → state ≤ 2 → {image' : List ℕ} → first_of (writing_tests o image) ≡ 0 → image' ≡ in_state image state
      → Became o image image' state (value image F.generation)
  change_became state low z e =
      rw e (in_state_became o image (passed_header o image z) (passed_long o image z) bytes state low)

  pub begin_became : (begin_of o image).answer ≡ 0 → Became o image (begin_of o image).image DIRTY (value image F.generation)
  unfolding begin_of
  begin_became a =
      let z = sym (answers image (in_state image DIRTY) (first_of (writing_tests o image))) ∙ a in
      change_became DIRTY (lit≤ tt) z (accepted image (in_state image DIRTY) (first_of (writing_tests o image)) z)

  pub checkpoint_became : (checkpoint_of o image).answer ≡ 0 → Became o image (checkpoint_of o image).image CLEAN (value image F.generation)
  unfolding checkpoint_of
  checkpoint_became a =
      let z = sym (answers image (in_state image CLEAN) (first_of (writing_tests o image))) ∙ a in
      change_became CLEAN (lit≤ tt) z (accepted image (in_state image CLEAN) (first_of (writing_tests o image)) z)

  pub invalidate_became : (invalidate_of o image).answer ≡ 0 → Became o image (invalidate_of o image).image INVALIDATED (value image F.generation + 2)
  unfolding invalidate_of invalidate_tests published
  invalidate_became a =
      let changed : List ℕ = published image ((F.state, INVALIDATED) ∷ []) in
      let n : ℕ = first_of (invalidate_tests o image) in
      let zs : n ≡ 0 = sym (answers image changed n) ∙ a in
      let p = first_none (writing_tests o image) (generation_test image) (writing_named o image) zs in
      let long = passed_long o image p.0 in
      let even = passed_even o image p.0 in
      rw (accepted image changed n zs)
      (became_written o image (passed_header o image p.0) long bytes ((F.generation, value image F.generation + 2) ∷ (F.state, INVALIDATED) ∷ []) tt
      (next_fits image bytes long p.1 even, (lit< tt, tt)) refl refl (lit≤ tt) (omega arith))
