-- `listing::matching::match_bits` meets its contract.
-- Assumes nothing.
use Prim.Native.Nat.{ℕ}
use mathlib.Core.List.{List}
use mathlib.Core.Path.{refl}
use Rattle.header.specs.declared.shape.Shape.{Shape}
use Rattle.header.specs.HeaderTest.{header_test}
use Rattle.header.proofs.After.{after_refusal}
use Rattle.image.proofs.Judging.{after_open}
use Rattle.listing.specs.Scan.{Outcome, refused}
use Rattle.listing.specs.Match.{bits_compared, match_in, match_of}
use Rattle.listing.proofs.Listing.{same_outcome, says_refused}
use Rattle.listing.proofs.matching.match_bits.Goals as goal

pub returns-in_err-image : goal.returns-in_err-image
unfolding match_of
returns-in_err-image c =
    let a = c.args in
    same_outcome _ (after_refusal (header_test a.o a.image.now) _ (refused a.numbers.now) _ c.in_err-image.ensures.numbered)
    (says_refused a.numbers.now _ _ c.from_residual.ensures.1 refl)

pub returns : goal.returns
unfolding match_of
returns c =
    let a = c.args in
    let go : Shape → List ℕ → Outcome =
    λ s bytes. match_in s bytes a.offset (bits_compared a.bits a.pattern.now) a.pattern.now a.skip a.limit a.numbers.now in
    let e = c.in_ok-image.ensures in
    same_outcome _ (after_open go (refused a.numbers.now) a.o a.image.now _ _ e.numbered e.bytes e.shape) c.match_in.ensures
