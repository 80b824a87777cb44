-- "Full check."
-- Assumes nothing.
use Rattle.std.specs.Prelude.{ℕ, Bool, cond, List, Result, Ok, Err}
use Rattle.probing.specs.Check.{checks, probes}
use Rattle.header.specs.declared.refusal.Refusal.{Refusal}
use Rattle.header.specs.declared.options.Options.{Options}
use Rattle.header.specs.declared.shape.Shape.{Shape}
use Rattle.header.specs.Answer.{done, needs_rebuild, number}
use Rattle.header.specs.HeaderTest.{header_test, shape_of, after_test}
use Rattle.image.specs.declared.check.Counts.{Counts}
use Rattle.image.specs.Table.{table_of}

-- the number given back, and the numbers beside it
pub record Checked : Type 0 where
  pub answer : ℕ
  pub live : ℕ
  pub tombstones : ℕ
  pub probes : ℕ

-- "all else returned is 0"
abbrev pub failed : ℕ → Checked
failed answer = record { answer = answer; live = 0; tombstones = 0; probes = 0 }

-- the numbers of what the code returns
abbrev pub checked : Result Counts Refusal → Checked
checked (Ok c) = record { answer = done; live = c.live; tombstones = c.tombstones; probes = c.probes }
checked (Err r) = failed (number r)

-- whether every sentence of the full check's paragraph holds: live_count is bucket_used by the header test
unfoldable pub passes : Shape → List ℕ → Bool
passes s image = checks (table_of s image) s.layout.ordered s.live_count s.live_count s.bucket_tombstones

-- "Otherwise 1; where all this holds, 0. It returns live, tombstones and the sum of lookup counts over live keys."
unfoldable pub check_in : Shape → List ℕ → Checked
check_in s image =
    cond (passes s image)
    (record {
      answer = done;
      live = s.live_count;
      tombstones = s.bucket_tombstones;
      probes = probes (table_of s image);
    })
    (failed needs_rebuild)

unfoldable pub check_of : Options → List ℕ → Checked
check_of o image = after_test (header_test o image) (check_in (shape_of image) image) failed
