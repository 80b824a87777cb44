-- All numbers of a call, written to a lent list or refused, by what the call below gave; a revision as a word.
-- Assumes nothing.
use Prim.Native.Nat.{ℕ, ◌≤◌, ◌<◌}
use mathlib.Core.Path.{◌≡◌, refl, ap₂, subst, ◌∙◌}
use mathlib.Core.List.{List, [], ◌∷◌}
use native.Mathlib.Omega.{arith}
use borrow.Author.Tests.{lt-ltb, le-ltb}
use lib.IntN.{ℤ, pos, negsuc}
use lib.ListN.{length}
use Rattle.std.specs.Prelude.{Result, Ok, Err}
use Rattle.std.specs.Result.{result_unwrap_or}
use Rattle.std.specs.Int.{w64, cast_unsigned}
use Rattle.numbers.specs.Bytes.{put}
use Rattle.header.specs.declared.refusal.Refusal.{Refusal}
use Rattle.header.specs.Answer.{answer, too_short}
use Rattle.image.specs.declared.check.Counts.{Counts}
use Rattle.image.specs.declared.lookup.Entry.{Entry}
use Rattle.image.specs.declared.lookup.Found.{Found}
use Rattle.image.specs.Check.{Checked, checked}
use Rattle.image.specs.Lookup.{Lookup, looked}
use Rattle.listing.specs.declared.listed.Listing.{Listing}
use Rattle.listing.specs.Scan.{Listed, Outcome, told}
use Rattle.host.specs.Results.{Reports, report_of, word_of, lookup_report, check_report, listed_report, ReportsListing, listing_report}

-- what stands in the place of what a refused call does not give
abbrev pub no_counts : Counts
no_counts = record { live = 0; tombstones = 0; probes = 0 }

abbrev pub no_listing : Listing
no_listing = record { total = 0; written = 0 }

-- the numbers beside the answer
beside_checked : (r : Result Counts Refusal)
    → (result_unwrap_or r no_counts).live ∷ (result_unwrap_or r no_counts).tombstones ∷ (result_unwrap_or r no_counts).probes ∷ []
    ≡ (checked r).live ∷ (checked r).tombstones ∷ (checked r).probes ∷ []
beside_checked (Ok c) = refl
beside_checked (Err e) = refl

beside_told : (r : Result Listing Refusal)
    → (result_unwrap_or r no_listing).total ∷ (result_unwrap_or r no_listing).written ∷ [] ≡ (told r).total ∷ (told r).written ∷ []
beside_told (Ok l) = refl
beside_told (Err e) = refl

-- the answers of the full check and of a listing
pub checked_answer : (r : Result Counts Refusal) → answer r ≡ (checked r).answer
checked_answer (Ok c) = refl
checked_answer (Err e) = refl

pub told_answer : (r : Result Listing Refusal) → answer r ≡ (told r).answer
told_answer (Ok l) = refl
told_answer (Err e) = refl

module _ (results : List ℕ) where
  short : (answer : ℕ) (beside : List ℕ) {r : ℕ} → r ≡ too_short → length results < length (answer ∷ beside) → Reports (report_of answer beside results) r results
  unfolding report_of
  short answer beside e h = rw (lt-ltb (length results) (length (answer ∷ beside)) h) (e, refl)

  -- `r` is what the call answers, and `n` and `beside` are what it writes
  written : {answer : ℕ} {all : List ℕ} {r n : ℕ} {beside left : List ℕ} → r ≡ answer → n ≡ r → beside ≡ all → length (answer ∷ all) ≤ length results
      → left ≡ put results 0 (n ∷ beside) → Reports (report_of answer all results) r left
  unfolding report_of
  written {answer} {all} is same are h w =
      rw (le-ltb (length results) (length (answer ∷ all)) h) (is, w ∙ ap₂ (λ (m : ℕ) (l : List ℕ). put results 0 (m ∷ l)) (same ∙ is) are)

  pub lookup_short : (l : Lookup) {r : ℕ} → r ≡ too_short → length results < 4 → Reports (lookup_report l results) r results
  unfolding lookup_report
  lookup_short l e h = short _ _ e h

  pub lookup_written : (x : Result Found Refusal) {l : Lookup} {r n word buckets : ℕ} {e : Entry} {left : List ℕ} → looked x ≡ l → r ≡ (looked x).answer → n ≡ r
      → e ≡ record { slot = (looked x).slot; revision = (looked x).revision } → word ≡ word_of e.revision → buckets ≡ (looked x).buckets → 4 ≤ length results
      → left ≡ put results 0 (n ∷ e.slot ∷ word ∷ buckets ∷ []) → Reports (lookup_report l results) r left
  unfolding lookup_report
  lookup_written x {r = r} {left = left} is answered same entered word counted h w =
      subst (λ (l : Lookup). Reports (lookup_report l results) r left) is (written answered same (rw (word, entered, counted) refl) h w)

  pub check_short : (c : Checked) {r : ℕ} → r ≡ too_short → length results < 4 → Reports (check_report c results) r results
  unfolding check_report
  check_short c e h = short _ _ e h

  pub check_written : (x : Result Counts Refusal) {c : Checked} {r n : ℕ} {counts : Counts} {left : List ℕ} → checked x ≡ c → r ≡ answer x → n ≡ r
      → counts ≡ result_unwrap_or x no_counts → 4 ≤ length results
      → left ≡ put results 0 (n ∷ counts.live ∷ counts.tombstones ∷ counts.probes ∷ []) → Reports (check_report c results) r left
  unfolding check_report
  check_written x {r = r} {left = left} is answered same counted h w =
      subst (λ (c : Checked). Reports (check_report c results) r left) is
      (written (answered ∙ checked_answer x) same (rw counted (beside_checked x)) h w)

  pub listed_written : (x : Result Listing Refusal) {r n : ℕ} {l : Listing} {left : List ℕ} → r ≡ answer x → n ≡ r → l ≡ result_unwrap_or x no_listing
      → 3 ≤ length results → left ≡ put results 0 (n ∷ l.total ∷ l.written ∷ []) → Reports (listed_report (told x) results) r left
  unfolding listed_report
  listed_written x answered same listed h w = written (answered ∙ told_answer x) same (rw listed (beside_told x)) h w

  pub listing_short : (x : Outcome) (numbers : List ℕ) {r : ℕ} → r ≡ too_short → length results < 3 → ReportsListing (listing_report x numbers results) r numbers results
  unfolding listing_report listed_report
  listing_short x numbers e h = (short _ _ e h, rw (lt-ltb (length results) 3 h) refl)

  pub listing_written : {l : Listed} (x : Outcome) (numbers : List ℕ) {r : ℕ} {filled left : List ℕ} → (l ≡ x.listed) × (filled ≡ x.numbers) → 3 ≤ length results
      → Reports (listed_report l results) r left → ReportsListing (listing_report x numbers results) r filled left
  unfolding listing_report
  listing_written x numbers {r = r} {left = left} is h reported = (
    subst (λ (l : Listed). Reports (listed_report l results) r left) is.0 reported,
    rw (le-ltb (length results) 3 h) is.1,
  )

-- the bits of a signed number are that word
pub word_bits : (x : ℤ) → cast_unsigned w64 x ≡ word_of x
unfolding word_of
word_bits (pos n) = refl
word_bits (negsuc n) = omega arith
