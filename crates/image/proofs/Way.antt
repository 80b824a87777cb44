-- The probe of a key on its way through the buckets of an image, as the code goes.
-- Assumes nothing.
use Prim.Native.Nat.{ℕ, ◌+◌, ◌-◌, ◌%◌, ◌≤◌, ◌<◌}
use mathlib.Core.Path.{◌≡◌, refl, sym, ap, ◌∙◌}
use mathlib.Core.Bool.{Bool, true, false, cond}
use mathlib.Core.List.{List}
use lib.Dec.{eqb}
use native.Mathlib.Nat.{mod-lt}
use native.Mathlib.Omega.{arith}
use borrow.Author.Tests.{eq-eqb, ne_eqb}
use Rattle.std.specs.Prelude.{Option, Some, None}
use Rattle.std.specs.Option.{option_or, unwrap_or}
use Rattle.digests.specs.Fnv.{fnv1a64}
use Rattle.probing.specs.Table.{Bucket, Table, is_tombstone}
use Rattle.probing.specs.Probe.{Probed, broken, home, next, examine, probe, count_of}
use Rattle.probing.specs.Report.{or_tombstone, first_tombstone, report, free_by}
use Rattle.probing.proofs.Report as law
use Rattle.probing.proofs.Report.{OnWay}
use Rattle.probing.proofs.Reading.Walk.{walk}
use Rattle.header.specs.declared.shape.Shape.{Shape}
use Rattle.image.specs.declared.probe.Report.{Report}
use Rattle.image.specs.Table.{table_of, bucket_of}
use Rattle.image.specs.Told.{told, told_tombstone, told_report, told_broken, free_of, report_of}

-- n buckets are passed, o is the first TOMBSTONE among them, and bucket b comes next
pub record Passed (s : Shape) (image key : List ℕ) (b n : ℕ) (o : Option ℕ) : Type 0 where
  pub inside : b < s.layout.bucket_count
  pub way : OnWay (table_of s image) key b n (first_tombstone (table_of s image) (home (table_of s image) key) n)
  pub noted : o ≡ told_tombstone s.layout.bucket_count (first_tombstone (table_of s image) (home (table_of s image) key) n)

-- a TOMBSTONE noted, where none was before
noted_or : (t : Table) (p b : ℕ) → b < t.B → is_tombstone (t.bucket b) ≡ true
    → option_or (told_tombstone t.B p) (Some b) ≡ told_tombstone t.B (or_tombstone t p b)
noted_or t p b l is = rw is (go (eqb p t.B) refl)
  where
    other : eqb b t.B ≡ false
    other = ne_eqb b t.B (λ e. omega arith)

    go : (none : Bool) → eqb p t.B ≡ none → option_or (cond none None (Some p)) (Some b) ≡ told_tombstone t.B (cond none b p)
    go true e = rw other
    go false e = rw e

-- B stands for none
none_noted : (B : ℕ) → None ≡ told_tombstone B B
none_noted B = rw (eq-eqb B B refl)

module _ (s : Shape) (image key : List ℕ) where
  abbrev told_with : Probed → ℕ → Option ℕ → Report
  told_with end b o = record { end = told end; bucket = b; tombstone = o }

  -- what going on says after n buckets and one more
  abbrev pub onward : ℕ → Probed
  onward n = walk (table_of s image) key (s.layout.bucket_count - (n + 1)) (n + 1)

  -- the probe begins at the key's home
  pub at_home : (h hash : ℕ) → h ≡ hash % s.layout.bucket_count → hash ≡ fnv1a64 key → home (table_of s image) key ≡ h
  unfolding table_of
  at_home h hash e q = sym (rw q at e)

  module _ (h : ℕ) (at : home (table_of s image) key ≡ h) where
    pub starts : 0 < s.layout.bucket_count → Passed s image key h 0 None
    unfolding table_of first_tombstone
    starts some =
        rw (← at) (record { inside = mod-lt _ some; way = law.starts (table_of s image) key; noted = none_noted s.layout.bucket_count })

    -- the report of a broken table
    pub broke : probe (table_of s image) key ≡ broken → told_broken h ≡ report_of s image key
    unfolding report_of table_of
    broke e =
        ap told_broken (sym at)
        ∙ ap (told_with broken (home (table_of s image) key)) (none_noted s.layout.bucket_count)
        ∙ sym (ap (told_report s.layout.bucket_count) (law.reports_broken (table_of s image) key e))

  module _ {b n : ℕ} {o : Option ℕ} (passed : Passed s image key b n o) where
    -- no bucket is left
    pub runs_out : s.layout.bucket_count ≤ n → probe (table_of s image) key ≡ broken
    unfolding table_of
    runs_out l = law.runs_out (table_of s image) key passed.way l

    -- the report where bucket b ends the probe
    pub ended : (end : Probed) → probe (table_of s image) key ≡ end → count_of end ≡ n + 1 → told_with end b o ≡ report_of s image key
    unfolding report_of table_of
    ended end e counted =
        ap (told_with end b) passed.noted
        ∙ sym (ap (told_report s.layout.bucket_count) (law.reports (table_of s image) key passed.way end e counted))

    module _ (l : n < s.layout.bucket_count) (x : Bucket) (is : x ≡ bucket_of s.layout image b) where
      -- the probe ends as bucket b says
      pub turned : (end : Probed) → examine (table_of s image) key (n + 1) (onward n) x ≡ end → probe (table_of s image) key ≡ end
      unfolding table_of
      turned end e =
          law.turned (table_of s image) key passed.way l ∙ ap (examine (table_of s image) key (n + 1) (onward n)) (sym is) ∙ e

      module _ (e : examine (table_of s image) key (n + 1) (onward n) x ≡ onward n) where
        further : OnWay (table_of s image) key (next (table_of s image) b) (n + 1)
            (or_tombstone (table_of s image) (first_tombstone (table_of s image) (home (table_of s image) key) n) b)
        unfolding table_of
        further = law.goes_on (table_of s image) key passed.way l (turned _ e)

        -- it goes on, with what is noted then
        noting : (o' : Option ℕ)
            → o' ≡ told_tombstone s.layout.bucket_count (or_tombstone (table_of s image) (first_tombstone (table_of s image) (home (table_of s image) key) n) b)
            → Passed s image key (next (table_of s image) b) (n + 1) o'
        unfolding table_of
        noting o' q =
            record {
              inside = mod-lt _ (omega (arith, l));
              way = record { here = further.here; rest = further.rest; passed = refl };
              noted = q ∙ ap (told_tombstone s.layout.bucket_count) further.passed;
            }

        pub goes_on : is_tombstone x ≡ false → Passed s image key (next (table_of s image) b) (n + 1) o
        unfolding table_of
        goes_on not = noting o (passed.noted ∙ rw (ap is_tombstone (sym is) ∙ not) refl)

        pub goes_past : is_tombstone x ≡ true → Passed s image key (next (table_of s image) b) (n + 1) (option_or o (Some b))
        unfolding table_of
        goes_past marked =
            noting (option_or o (Some b))
            (ap (λ (o : Option ℕ). option_or o (Some b)) passed.noted
            ∙ noted_or (table_of s image) (first_tombstone (table_of s image) (home (table_of s image) key) n) b passed.inside (ap is_tombstone (sym is) ∙ marked))

-- the bucket that a report leaves is the one that the table's own report leaves
pub left_free : (s : Shape) (image key : List ℕ) (r : Report) → r ≡ report_of s image key
    → let told = report (table_of s image) key in free_of r ≡ free_by s.layout.bucket_count told.tombstone told.bucket
unfolding report_of
left_free s image key r e = ap free_of e ∙ go (eqb (report (table_of s image) key).tombstone s.layout.bucket_count)
  where
    go : (none : Bool) → let told = report (table_of s image) key in unwrap_or (cond none None (Some told.tombstone)) told.bucket ≡ cond none told.bucket told.tombstone
    go true = refl
    go false = refl
