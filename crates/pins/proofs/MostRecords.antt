-- A batch of the most records, all zero: deletes of one key, too many to compute with one by one.
-- Assumes nothing.
use Prim.Native.Nat.{ℕ, ◌+◌, ◌*◌, ◌/◌, ◌%◌, ◌≤◌, ◌<◌}
use mathlib.Core.Bool.{Bool, true, false, not, ◌||◌}
use mathlib.Core.Path.{◌≡◌, refl, sym, ap, ap₂, ◌∙◌}
use mathlib.Core.List.{List}
use native.Mathlib.Omega.{arith}
use lib.Dec.{eqb, ltb}
use lib.ListN.{length, get_or, drop, replicate, length-replicate, get_or-replicate}
use lib.Seq.{ext_get_or, get_or-take, get_or-drop}
use Rattle.numbers.specs.Bytes.{part, word, bytes_of, all_zero}
use Rattle.numbers.proofs.Put.{length_part}
use Rattle.probing.specs.Counting.{all_to}
use Rattle.probing.proofs.Counting.{all_of}
use Rattle.header.specs.Fields.{bytes_in, value}
use Rattle.header.specs.Sizes.{align8}
use Rattle.header.specs.HeaderTest.{layout_of, shape_of}
use Rattle.batch.specs.Batch.{most_records, record_count, record_at, meta_in, key_padding, revision_and_index, index_padding, malformed, some_malformed, batch_wrong}
use Rattle.pins.specs.Literal.{zeros}
use Rattle.pins.specs.Refusals.{s}

-- a part of zeros is zeros
zero_part : (m at n : ℕ) → at + n ≤ m → part (replicate m 0) at n ≡ replicate n 0
unfolding part
zero_part m at n inside =
    ext_get_or 0 (part (replicate m 0) at n) (replicate n 0) (long ∙ sym (length-replicate {A = ℕ} n 0))
    (λ i l. each i (omega (arith, l, long)))
  where
    long : length (part (replicate m 0) at n) ≡ n
    long = length_part (replicate m 0) at n (omega (arith, length-replicate {A = ℕ} m 0))

    each : (i : ℕ) → i < n → get_or (part (replicate m 0) at n) i 0 ≡ get_or (replicate n 0) i 0
    each i l =
        get_or-take n (drop at (replicate m 0)) i 0 l ∙ get_or-drop at (replicate m 0) i 0 ∙ get_or-replicate m (at + i) 0 0 (omega arith)
        ∙ sym (get_or-replicate n i 0 0 l)

abbrev batch : List ℕ
batch = replicate 32768 0

size : s.layout.slot_size ≡ 32
unfolding shape_of layout_of value bytes_in part word bytes_of
size = refl

count : record_count s.layout batch ≡ most_records
unfolding record_count
count = ap (λ (n : ℕ). length batch / n) size

-- a delete with zero key, revision and index is as it should be, and so is each record
zero_right : not (malformed s.layout (replicate 32 0)) ≡ true
unfolding malformed meta_in key_padding revision_and_index index_padding all_zero align8 shape_of layout_of value bytes_in part word bytes_of
zero_right = refl

abbrev right : ℕ → Bool
right i = not (malformed s.layout (record_at s.layout batch i))

each_right : (i : ℕ) → i < record_count s.layout batch → right i ≡ true
unfolding record_at
each_right i l =
    let here : record_at s.layout batch i ≡ replicate 32 0 = rw size (zero_part 32768 (i * 32) 32 (omega (arith, l, count))) in
    ap (λ (r : List ℕ). not (malformed s.layout r)) here ∙ zero_right

passes : batch_wrong s.layout batch ≡ false
unfolding batch_wrong some_malformed
passes =
    ap₂ (λ (n k : ℕ). not (eqb (length batch % n) 0) || ltb most_records k || not (all_to (record_count s.layout batch) right)) size count
    ∙ ap not (all_of (record_count s.layout batch) right each_right)

pub most_records_pass : batch_wrong s.layout (zeros 4096) ≡ false
unfolding bytes_of
most_records_pass = passes
