-- Match of 0 bits, and that nothing else moved.
-- Assumes nothing.
use Prim.Native.Nat.{ℕ, ◌+◌, ◌*◌, ◌-◌, ◌≤◌}
use mathlib.Core.Bool.{Bool, true, false, cond}
use mathlib.Core.Path.{◌≡◌, refl, sym, ◌∙◌, ap}
use mathlib.Core.Logic.{◌↔◌, ◌⊎◌, inl, inr}
use mathlib.Core.List.{List, []}
use native.Mathlib.Omega.{arith}
use lib.Dec.{ltb}
use lib.ListN.{length}
use Rattle.numbers.specs.Bytes.{Bytes, part}
use Rattle.probing.proofs.Keys.{same_eq, eq_same}
use Rattle.header.specs.declared.options.Options.{Options}
use Rattle.header.specs.Answer.{done, invalid_input, too_short}
use Rattle.header.specs.HeaderTest.{header_test, shape_of}
use Rattle.listing.specs.Scan.{Outcome, refused, matches, chosen, write, list}
use Rattle.listing.specs.Match.{agrees, bits_compared, pattern_wrong, match_in, match_of}
use Rattle.listing.proofs.Pattern.{compared_asked}
use Rattle.listing.proofs.SameBits.{agrees_bytes}
use Rattle.demands.specs.Listings.{RightPattern}
use Rattle.demands.specs.WholeLength.{WholeLength}
use Rattle.demands.proofs.Patterns.{NotTaken, match_list, right_or_refused, match_refused}

-- a listing is never answered 7
list_taken : (all : List ℕ) (skip limit : ℕ) (numbers : List ℕ) → (list all skip limit numbers).listed.answer ≡ invalid_input → ⊥
unfolding list write
list_taken all skip limit numbers = go (ltb (length numbers) (length (chosen all skip limit))) _ refl
  where
    go : (t : Bool) (x : Outcome) → x.listed.answer ≡ done → (cond t (refused numbers too_short) x).listed.answer ≡ invalid_input → ⊥
    go true x d e = omega (arith, e)
    go false x d e = omega (arith, d, e)

module _ (o : Options) (image : List ℕ) (offset : ℕ) (pattern : List ℕ) (skip limit : ℕ) (numbers : List ℕ) (z : header_test o image ≡ 0) where
  abbrev Taken : Type 0
  Taken = (match_of o image offset 0 pattern skip limit numbers).listed.answer ≡ invalid_input → ⊥

  abbrev Within : Type 0
  Within = (1 ≤ length pattern) × (length pattern ≤ o.key_size - offset)

  taken_within : Taken → Within
  taken_within taken = go (right_or_refused o image z offset 0 pattern)
    where
      go : RightPattern o offset 0 pattern ⊎ NotTaken o image offset 0 pattern → Within
      go (inl right) = (right.some_bytes, omega (arith, right.inside))
      go (inr refusal) = absurd (taken (ap (λ (x : Outcome). x.listed.answer) (refusal skip limit numbers)))

  within_taken : Within → Taken
  within_taken within e =
      let right : RightPattern o offset 0 pattern =
      record { some_bytes = within.0; bytes = λ some. absurd (some refl); inside = omega (arith, within.0, within.1) } in
      list_taken (matches (shape_of image) image (agrees offset (bits_compared 0 pattern) pattern)) skip limit numbers
      (ap (λ (x : Outcome). x.listed.answer) (sym (match_list o image z offset 0 pattern right skip limit numbers)) ∙ e)

-- a key agrees with all bits of a pattern where the pattern stands in it
stands : (offset : ℕ) (pattern key : List ℕ) → Bytes pattern → Bytes key → offset + length pattern ≤ length key
    → (agrees offset (8 * length pattern) pattern key ≡ true) ↔ (part key offset (length pattern) ≡ pattern)
stands offset pattern key bp bk h =
    let e = agrees_bytes offset pattern key bp bk h in
    (λ a. same_eq _ _ (sym e ∙ a), λ p. e ∙ eq_same _ _ p)

pub whole_length : WholeLength
unfolding match_of match_in bits_compared pattern_wrong
whole_length =
    record {
      refuses = λ o image offset pattern skip limit numbers z. rw z refl;
      whole = λ o image offset pattern skip limit numbers. refl;
      lengths = λ o image offset pattern skip limit numbers z.
          (taken_within o image offset pattern skip limit numbers z, within_taken o image offset pattern skip limit numbers z);
      empty = λ o image offset skip limit numbers z. match_refused o image z offset 0 [] (λ r. omega (arith, r.some_bytes)) skip limit numbers;
      others = λ o image offset bits pattern skip limit numbers some. rw (← compared_asked bits pattern some) refl;
      stands = stands;
    }
