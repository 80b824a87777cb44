-- A fresh image made in a buffer: zeros, the fields of the header, the CRC.
-- Assumes nothing.
use Prim.Native.Nat.{ℕ, ◌≤◌}
use mathlib.Core.Path.{◌≡◌, refl, sym, ap, ◌∙◌}
use mathlib.Core.List.{List, [], ◌∷◌, ◌++◌}
use native.Mathlib.Nat.{zero-add}
use native.Mathlib.Omega.{arith}
use lib.Dec.{ltb}
use lib.ListN.{length, take, drop, replicate, length-replicate}
use Rattle.numbers.specs.Bytes.{put}
use Rattle.header.specs.declared.options.Options.{Options}
use Rattle.header.specs.Answer.{done, too_short}
use Rattle.header.specs.FirstOf.{first_of}
use Rattle.header.specs.HeaderTest.{create_test1}
use Rattle.header.specs.Sizes.{buckets_offset, total, total_size}
use Rattle.writing.specs.Write.{with_fields, sealed}
use Rattle.writing.specs.Create.{create_tests, fresh_fields, fresh}
use Rattle.writing.proofs.FieldList.{fields_length, fields_append}
use Rattle.writing.proofs.Seal.{seal_append}
use Rattle.writing.proofs.Tests.{past}

-- a total holds a header
pub total_low : (o : Options) → 256 ≤ total_size o
unfolding total_size total buckets_offset
total_low o = omega arith

-- zeros put at the start
cleared : (n : ℕ) (s : List ℕ) → put s 0 (replicate n 0) ≡ replicate n 0 ++ drop n s
unfolding put
cleared n s = rw (zero-add, length-replicate n) refl

-- the fields in three groups
grouped : (o : Options) (image : List ℕ)
    → with_fields (with_fields (with_fields image (take 6 (fresh_fields o))) (take 4 (drop 6 (fresh_fields o)))) (drop 10 (fresh_fields o)) ≡ with_fields image (fresh_fields o)
unfolding with_fields fresh_fields
grouped o image = refl

pub made : (o : Options) (buffer : List ℕ) {total : ℕ} {a b c d e : List ℕ} → total ≡ total_size o
    → a ≡ put buffer 0 (replicate total 0) → b ≡ with_fields a (take 6 (fresh_fields o)) → c ≡ with_fields b (take 4 (drop 6 (fresh_fields o)))
    → d ≡ with_fields c (drop 10 (fresh_fields o)) → e ≡ sealed d → e ≡ fresh o ++ drop (total_size o) buffer
unfolding fresh
made o buffer {a = a} {d = d} t ea eb ec ed ee =
    let fs : List (ℕ × ℕ) = fresh_fields o in
    let zeros : List ℕ = replicate (total_size o) 0 in
    let rest : List ℕ = drop (total_size o) buffer in
    let long : 256 ≤ length zeros = omega (arith, length-replicate {A = ℕ} (total_size o) 0, total_low o) in
    let long' : 256 ≤ length (with_fields zeros fs) = omega (arith, fields_length fs zeros long) in
    let start : a ≡ zeros ++ rest = rw t at ea ∙ cleared (total_size o) buffer in
    let header : d ≡ with_fields a fs = cc (grouped o a) in
    let split : d ≡ with_fields zeros fs ++ rest = header ∙ ap (λ (l : List ℕ). with_fields l fs) start ∙ fields_append fs zeros rest long in
    ee ∙ ap sealed split ∙ seal_append (with_fields zeros fs) long' rest

-- past the test of the options, the buffer's length decides
pub by_length : (o : Options) (buffer : List ℕ) {total : ℕ} → done ≡ first_of (create_test1 o) → total ≡ total_size o
    → first_of (create_tests o buffer) ≡ first_of ((ltb (length buffer) total, too_short) ∷ [])
unfolding create_tests create_test1
by_length o buffer first e =
    past (create_test1 o) ((ltb (length buffer) (total_size o), too_short) ∷ []) tt (sym first)
    ∙ ap (λ (t : ℕ). first_of ((ltb (length buffer) t, too_short) ∷ [])) (sym e)
