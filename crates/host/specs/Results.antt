-- All numbers of a call at once, handed out to a lent list of 64-bit numbers.
-- Assumes nothing.
use Rattle.std.specs.Prelude.{ℕ, ◌-◌, cond, ◌≡◌, List, [], ◌∷◌, ltb, ℤ, pos, negsuc, length}
use Rattle.numbers.specs.Bytes.{put}
use Rattle.header.specs.Answer.{too_short}
use Rattle.image.specs.Check.{Checked}
use Rattle.image.specs.Lookup.{Lookup}
use Rattle.listing.specs.Scan.{Listed, Outcome}

-- what the call answers, and the list that it leaves
pub record Reported : Type 0 where
  pub answer : ℕ
  pub results : List ℕ

abbrev pub reported : ℕ → List ℕ → Reported
reported answer results = record { answer = answer; results = results }

-- the call answers what is said there, and leaves those numbers in the list
abbrev pub Reports : Reported → ℕ → List ℕ → Type 0
Reports x answer results = (answer ≡ x.answer) × (results ≡ x.results)

-- "lent output too short: 11"; else the answer and the numbers beside it, put over the start of the list whatever the answer is
unfoldable pub report_of : ℕ → List ℕ → List ℕ → Reported
report_of answer beside results =
    cond (ltb (length results) (length (answer ∷ beside))) (reported too_short results)
    (reported answer (put results 0 (answer ∷ beside)))

-- a signed number as a word of 64 bits, two's complement: −1 is all ones
unfoldable pub word_of : ℤ → ℕ
word_of (pos n) = n
word_of (negsuc n) = 18446744073709551615 - n

-- what each call hands out beside its answer
unfoldable pub lookup_report : Lookup → List ℕ → Reported
lookup_report l = report_of l.answer (l.slot ∷ word_of l.revision ∷ l.buckets ∷ [])

unfoldable pub check_report : Checked → List ℕ → Reported
check_report c = report_of c.answer (c.live ∷ c.tombstones ∷ c.probes ∷ [])

unfoldable pub listed_report : Listed → List ℕ → Reported
listed_report l = report_of l.answer (l.total ∷ l.written ∷ [])

-- what a listing reports, and the list of slot numbers that it leaves
pub record ReportedListing : Type 0 where
  pub report : Reported
  pub numbers : List ℕ

abbrev pub reported_listing : Reported → List ℕ → ReportedListing
reported_listing report numbers = record { report = report; numbers = numbers }

-- the call reports what is said there, and leaves those slot numbers in the list
abbrev pub ReportsListing : ReportedListing → ℕ → List ℕ → List ℕ → Type 0
ReportsListing x answer numbers results = Reports x.report answer results × (numbers ≡ x.numbers)

-- a listing made in a lent list; where there is no room for its three results, that list too is as it was
unfoldable pub listing_report : Outcome → List ℕ → List ℕ → ReportedListing
listing_report x numbers results =
    reported_listing (listed_report x.listed results) (cond (ltb (length results) 3) numbers x.numbers)
