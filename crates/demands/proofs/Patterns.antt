-- The patterns that match takes and what it lists by them, and that it refuses the others.
-- Assumes nothing.
use Prim.Native.Nat.{ℕ, ◌+◌, ◌/◌, ◌<◌}
use mathlib.Core.Bool.{Bool, true, false}
use mathlib.Core.Path.{◌≡◌, refl}
use mathlib.Core.Logic.{◌⊎◌, inl, inr}
use mathlib.Core.List.{List}
use native.Mathlib.Omega.{arith}
use lib.Dec.{eqb}
use lib.ListN.{length}
use borrow.Author.Tests.{eqb-true, eqb-false, eq-eqb, ne_eqb, le-ltb}
use Rattle.header.specs.declared.options.Options.{Options}
use Rattle.header.specs.Answer.{invalid_input}
use Rattle.header.specs.HeaderTest.{header_test, shape_of}
use Rattle.listing.specs.Scan.{refused, matches, list}
use Rattle.listing.specs.Match.{agrees, bits_compared, pattern_wrong, match_in, match_of}
use Rattle.listing.proofs.Pattern.{compared_all, compared_asked, not_none, not_wrong}
use Rattle.demands.specs.Listings.{RightPattern}
use Rattle.demands.proofs.Shown.{same_key_size}

-- match answers 7 and lists nothing, whatever the skip, the limit and the list
abbrev pub NotTaken : Options → List ℕ → ℕ → ℕ → List ℕ → Type 0
NotTaken o image offset bits pattern =
    (skip limit : ℕ) (numbers : List ℕ)
    → match_of o image offset bits pattern skip limit numbers ≡ refused numbers invalid_input

module _ (o : Options) (image : List ℕ) (z : header_test o image ≡ 0) (offset bits : ℕ) (pattern : List ℕ) where
  abbrev compared : ℕ
  compared = bits_compared bits pattern

  -- the bits compared are some, and need the pattern's bytes
  needs_bytes : RightPattern o offset bits pattern → (0 < compared) × (length pattern ≡ (compared + 7) / 8)
  needs_bytes r = go (eqb bits 0) refl
    where
      go : (t : Bool) → eqb bits 0 ≡ t → (0 < compared) × (length pattern ≡ (compared + 7) / 8)
      go true e =
          let n = compared_all bits pattern (eqb-true bits 0 e) in
          (omega (arith, n, r.some_bytes), omega (arith, n))
      go false e =
          let some = eqb-false bits 0 e in
          let n = compared_asked bits pattern some in
          let b = r.bytes some in
          (omega (arith, n), omega (arith, n, b))

  right_taken : RightPattern o offset bits pattern → pattern_wrong (shape_of image) offset compared pattern ≡ false
  unfolding pattern_wrong
  right_taken r =
      let n = needs_bytes r in
      rw (same_key_size o image z, ne_eqb compared 0 (λ e. omega (arith, n.0)), eq-eqb (length pattern) ((compared + 7) / 8) n.1, le-ltb o.key_size (offset + length pattern) r.inside)
      refl

  taken_right : pattern_wrong (shape_of image) offset compared pattern ≡ false → RightPattern o offset bits pattern
  taken_right e =
      let some = not_none (shape_of image) offset compared pattern e in
      let fits = not_wrong (shape_of image) offset compared pattern e in
      record {
        some_bytes = omega (arith, fits.bytes);
        bytes = λ asked. let n = compared_asked bits pattern asked in omega (arith, fits.bytes, n);
        inside = rw (same_key_size o image z) at fits.inside;
      }

  -- match with a right pattern
  pub match_list : RightPattern o offset bits pattern → (skip limit : ℕ) (numbers : List ℕ)
      → match_of o image offset bits pattern skip limit numbers
      ≡ list (matches (shape_of image) image (agrees offset compared pattern)) skip limit numbers
  unfolding match_of match_in
  match_list right skip limit numbers = rw (z, right_taken right) refl

  -- and with any other
  wrong_refused : pattern_wrong (shape_of image) offset compared pattern ≡ true → NotTaken o image offset bits pattern
  unfolding match_of match_in
  wrong_refused e skip limit numbers = rw (z, e) refl

  pub right_or_refused : RightPattern o offset bits pattern ⊎ NotTaken o image offset bits pattern
  right_or_refused = go (pattern_wrong (shape_of image) offset compared pattern) refl
    where
      go : (t : Bool) → pattern_wrong (shape_of image) offset compared pattern ≡ t → RightPattern o offset bits pattern ⊎ NotTaken o image offset bits pattern
      go true e = inr (wrong_refused e)
      go false e = inl (taken_right e)

  pub match_refused : (RightPattern o offset bits pattern → ⊥) → NotTaken o image offset bits pattern
  match_refused wrong = go right_or_refused
    where
      go : RightPattern o offset bits pattern ⊎ NotTaken o image offset bits pattern → NotTaken o image offset bits pattern
      go (inl right) = absurd (wrong right)
      go (inr refusal) = refusal
