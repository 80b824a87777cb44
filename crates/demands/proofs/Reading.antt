-- "all else returned is 0 or empty": laws of the calls that read, each of which makes the header test first.
-- Assumes nothing.
use Prim.Native.Nat.{ℕ, zero, suc}
use mathlib.Core.Bool.{Bool, true, false, cond}
use mathlib.Core.Logic.{inl, inr}
use mathlib.Core.Path.{◌≡◌, refl, ap, ◌∙◌}
use mathlib.Core.List.{List, ◌∷◌}
use lib.Dec.{eqb, ltb}
use lib.IntN.{pos}
use lib.ListN.{length}
use Rattle.probing.specs.Probe.{Probed, found, absent, broken}
use Rattle.header.specs.declared.options.Options.{Options}
use Rattle.header.specs.declared.shape.Shape.{Shape}
use Rattle.header.specs.Answer.{needs_rebuild, invalid_input, not_present, too_short}
use Rattle.header.specs.HeaderTest.{header_test, shape_of, after_test}
use Rattle.header.specs.Open.{Opened, no_fields, open_of}
use Rattle.image.specs.Lookup.{Lookup, nothing, probe_of, lookup_by, lookup_in, lookup_of}
use Rattle.image.specs.Check.{Checked, failed, passes, check_in, check_of}
use Rattle.listing.specs.Scan.{Outcome, refused, chosen, write, list, scan_of}
use Rattle.listing.specs.Match.{bits_compared, pattern_wrong, match_in, match_of}
use Rattle.host.specs.UserData.{Filled, filled, user_data_of}
use Rattle.header.proofs.After.{after_failed}
use Rattle.demands.specs.Demand1.{Among, header_numbers, Refuses, Judges}
use Rattle.demands.proofs.Numbered.{has, among, header_numbered}

-- What a call hands back: its number, the numbers that this can be, what it says that all else is 0 or empty, and what it
-- hands back that refuses.
pub record Result (A : Type 0) : Type 1 where
  pub number : A → ℕ
  pub numbers : List ℕ
  pub wider : (n : ℕ) → Among header_numbers n → Among numbers n
  pub Empty : A → Type 0
  pub refuse : ℕ → A
  pub same : (n : ℕ) → number (refuse n) ≡ n
  pub empties : (n : ℕ) → Empty (refuse n)

module _ {A : Type 0} (R : Result A) where
  -- one of the numbers, and with another than 0 all else empty
  record Fair (x : A) : Type 0 where
    numbered : Among R.numbers (R.number x)
    empty : Refuses (R.number x) → R.Empty x

  fair_done : {x : A} → R.number x ≡ 0 → Fair x
  fair_done {x} e = record { numbered = rw e (R.wider 0 (inl refl)); empty = λ h. absurd (h e) }

  fair_among : (n : ℕ) → Among R.numbers n → Fair (R.refuse n)
  fair_among n p = record { numbered = rw (R.same n) p; empty = λ h. R.empties n }

  fair_refused : (n : ℕ) → has R.numbers n ≡ true → Fair (R.refuse n)
  fair_refused n e = fair_among n (among R.numbers n e)

  fair_cond : (t : Bool) {x y : A} → Fair x → Fair y → Fair (cond t x y)
  fair_cond true p q = p
  fair_cond false p q = q

  fair_after : (n : ℕ) (go : A) → Among header_numbers n → Fair go → Fair (after_test n go R.refuse)
  fair_after zero go p q = q
  fair_after (suc n) go p q = fair_among (suc n) (R.wider (suc n) p)

  pub record Reads (call : Options → List ℕ → A) : Type 0 where
    pub judges : Judges R.numbers (λ o image. R.number (call o image))
    pub empty : (o : Options) (image : List ℕ) → Refuses (R.number (call o image)) → R.Empty (call o image)

  reads : (go : Options → List ℕ → A) → ((o : Options) (image : List ℕ) → Fair (go o image))
      → Reads (λ o image. after_test (header_test o image) (go o image) R.refuse)
  reads go fair =
      record {
        judges =
            record {
              numbered = λ o image. (whole o image).numbered;
              header = λ o image h.
                  ap R.number (after_failed (go o image) R.refuse (header_test o image) h) ∙ R.same (header_test o image);
            };
        empty = λ o image. (whole o image).empty;
      }
    where
      whole : (o : Options) (image : List ℕ) → Fair (after_test (header_test o image) (go o image) R.refuse)
      whole o image = fair_after (header_test o image) (go o image) (header_numbered o image) (fair o image)

-- "Open check is this test alone; with 0 it hands out the user fields."
abbrev pub opened : Result Opened
opened =
    record {
      number = λ x. x.answer;
      numbers = header_numbers;
      wider = λ n p. p;
      Empty = λ x. x.fields ≡ no_fields;
      refuse = λ n. record { answer = n; fields = no_fields };
      same = λ n. refl;
      empties = λ n. refl;
    }

pub open_reads : Reads opened open_of
unfolding open_of
open_reads = reads opened _ (λ o image. fair_done opened refl)

-- "save that 9 carries its bucket count"
abbrev pub looked : Result Lookup
looked =
    record {
      number = λ l. l.answer;
      numbers = not_present ∷ header_numbers;
      wider = λ n p. inr p;
      Empty = λ l. (l.slot ≡ 0) × (l.revision ≡ pos 0) × ((l.answer ≡ not_present → ⊥) → l.buckets ≡ 0);
      refuse = nothing;
      same = λ n. refl;
      empties = λ n. (refl, refl, λ g. refl);
    }

lookup_fair : (s : Shape) (image : List ℕ) (p : Probed) → Fair looked (lookup_by s image p)
lookup_fair s image (found n count) = fair_done looked refl
lookup_fair s image (absent count) = record { numbered = inl refl; empty = λ h. (refl, refl, λ g. absurd (g refl)) }
lookup_fair s image broken = fair_refused looked needs_rebuild refl

pub lookup_reads : (key : List ℕ) → Reads looked (λ o image. lookup_of o image key)
unfolding lookup_of lookup_in
lookup_reads key =
    reads looked _
    (λ o image.
    fair_cond looked (eqb (length key) (shape_of image).layout.key_size) (lookup_fair (shape_of image) image (probe_of (shape_of image) image key))
    (fair_refused looked invalid_input refl))

abbrev pub checked : Result Checked
checked =
    record {
      number = λ c. c.answer;
      numbers = header_numbers;
      wider = λ n p. p;
      Empty = λ c. c ≡ failed c.answer;
      refuse = failed;
      same = λ n. refl;
      empties = λ n. refl;
    }

pub check_reads : Reads checked check_of
unfolding check_of check_in
check_reads =
    reads checked _
    (λ o image.
    fair_cond checked (passes (shape_of image) image) (fair_done checked refl) (fair_refused checked needs_rebuild refl))

-- user data, handed out to a lent buffer
abbrev pub handed : List ℕ → Result Filled
handed out =
    record {
      number = λ x. x.answer;
      numbers = too_short ∷ header_numbers;
      wider = λ n p. inr p;
      Empty = λ x. x.bytes ≡ out;
      refuse = λ n. filled n out;
      same = λ n. refl;
      empties = λ n. refl;
    }

pub user_data_reads : (out : List ℕ) → Reads (handed out) (λ o image. user_data_of o image out)
unfolding user_data_of
user_data_reads out =
    reads (handed out) _
    (λ o image.
    fair_cond (handed out) (ltb (length out) 64) (fair_refused (handed out) too_short refl) (fair_done (handed out) refl))

-- numbers, written to a lent list
abbrev pub listing : List ℕ → Result Outcome
listing numbers =
    record {
      number = λ x. x.listed.answer;
      numbers = too_short ∷ header_numbers;
      wider = λ n p. inr p;
      Empty = λ x. x ≡ refused numbers x.listed.answer;
      refuse = refused numbers;
      same = λ n. refl;
      empties = λ n. refl;
    }

module _ (skip limit : ℕ) (numbers : List ℕ) where
  list_fair : (all : List ℕ) → Fair (listing numbers) (list all skip limit numbers)
  unfolding list write
  list_fair all =
      fair_cond (listing numbers) (ltb (length numbers) (length (chosen all skip limit)))
      (fair_refused (listing numbers) too_short refl) (fair_done (listing numbers) refl)

  pub scan_reads : Reads (listing numbers) (λ o image. scan_of o image skip limit numbers)
  unfolding scan_of
  scan_reads = reads (listing numbers) _ (λ o image. list_fair _)

  pub match_reads : (offset bits : ℕ) (pattern : List ℕ)
      → Reads (listing numbers) (λ o image. match_of o image offset bits pattern skip limit numbers)
  unfolding match_of match_in
  match_reads offset bits pattern =
      reads (listing numbers) _
      (λ o image.
      fair_cond (listing numbers) (pattern_wrong (shape_of image) offset (bits_compared bits pattern) pattern)
      (fair_refused (listing numbers) invalid_input refl) (list_fair _))
