-- "Lookup."
-- Assumes nothing.
use Rattle.std.specs.Prelude.{ℕ, Bool, true, false, cond, List, [], eqb, ℤ, pos, length, Option, Some, None, Result, Ok, Err}
use Rattle.probing.specs.Probe.{Probed, found, absent, broken, probe}
use Rattle.header.specs.declared.refusal.Refusal.{Refusal}
use Rattle.header.specs.declared.options.Options.{Options}
use Rattle.header.specs.declared.shape.Shape.{Shape}
use Rattle.header.specs.Answer.{done, needs_rebuild, invalid_input, not_present, number}
use Rattle.header.specs.HeaderTest.{header_test, shape_of, after_test}
use Rattle.image.specs.declared.lookup.Entry.{Entry}
use Rattle.image.specs.declared.lookup.Found.{Found}
use Rattle.image.specs.Table.{table_of, revision_of, index_of}

-- the probe of a key in an image
unfoldable pub probe_of : Shape → List ℕ → List ℕ → Probed
probe_of s image key = probe (table_of s image) key

-- whether a key is live in an image
abbrev pub is_found : Probed → Bool
is_found (found s n) = true
is_found (absent n) = false
is_found broken = false

unfoldable pub is_live : Shape → List ℕ → List ℕ → Bool
is_live s image key = is_found (probe_of s image key)

-- the number given back, and the numbers beside it
pub record Lookup : Type 0 where
  pub answer : ℕ
  pub slot : ℕ
  pub revision : ℤ
  pub buckets : ℕ

-- "all else returned is 0"
abbrev pub nothing : ℕ → Lookup
nothing answer = record { answer = answer; slot = 0; revision = pos 0; buckets = 0 }

-- the numbers of what the code finds, and of what it returns
abbrev pub entered : Option Entry → ℕ → Lookup
entered (Some e) count = record { answer = done; slot = e.slot; revision = e.revision; buckets = count }
entered None count = record { answer = not_present; slot = 0; revision = pos 0; buckets = count }

abbrev pub looked : Result Found Refusal → Lookup
looked (Ok f) = entered f.entry f.buckets
looked (Err r) = nothing (number r)

-- "EMPTY: 9. ... found, else 1. B buckets without end: 1. The count includes the last bucket. Found gives slot, revision and
-- the index bytes"; "9 carries its bucket count"
abbrev pub lookup_by : Shape → List ℕ → Probed → Lookup
lookup_by s image (found n count) =
    record { answer = done; slot = n; revision = revision_of s.layout image n; buckets = count }
lookup_by s image (absent count) = record { answer = not_present; slot = 0; revision = pos 0; buckets = count }
lookup_by s image broken = nothing needs_rebuild

-- "Key length other than key_size: 7. Then probe."
unfoldable pub lookup_in : Shape → List ℕ → List ℕ → Lookup
lookup_in s image key =
    cond (eqb (length key) s.layout.key_size) (lookup_by s image (probe_of s image key)) (nothing invalid_input)

unfoldable pub lookup_of : Options → List ℕ → List ℕ → Lookup
lookup_of o image key = after_test (header_test o image) (lookup_in (shape_of image) image key) nothing

-- "the index bytes, which are the caller's own bytes in the image and no copy": empty unless found
abbrev pub index_by : Shape → List ℕ → Lookup → List ℕ
index_by s image l = cond (eqb l.answer done) (index_of s.layout image l.slot) []

unfoldable pub index_part : Options → List ℕ → List ℕ → List ℕ
index_part o image key = index_by (shape_of image) image (lookup_of o image key)
