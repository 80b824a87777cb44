-- "A batch is our house form: records of one fixed size, no header, each laid out as a slot, meta 1 for put and 0 for
-- delete. Padding is zero; a delete has zero revision and index."
-- Assumes nothing.
use Rattle.std.specs.Prelude.{ℕ, ◌+◌, ◌*◌, ◌-◌, ◌/◌, ◌%◌, ◌<◌, ◌≡◌, Bool, not, ◌&&◌, ◌||◌, List, eqb, ltb, length, get_or}
use Rattle.numbers.specs.Bytes.{part, word, same, all_zero}
use Rattle.probing.specs.Counting.{all_to}
use Rattle.header.specs.declared.shape.Layout.{Layout}
use Rattle.header.specs.Sizes.{align8, slot_size}

-- a record is laid out as a slot: its size is that of meta, key, revision and index, with the padding
abbrev pub SlotSized : Layout → Type 0
SlotSized l = l.slot_size ≡ slot_size l.key_size l.index_size

-- the bytes of a record, laid out as a slot
abbrev pub RecordSized : Layout → List ℕ → Type 0
RecordSized l r = SlotSized l × (length r ≡ l.slot_size)

-- "batch 0 to 1,024 records" (CR 5)
abbrev pub most_records : ℕ
most_records = 1024

-- how many records a batch has, and record i
unfoldable pub record_count : Layout → List ℕ → ℕ
record_count l batch = length batch / l.slot_size

unfoldable pub record_at : Layout → List ℕ → ℕ → List ℕ
record_at l batch i = part batch (i * l.slot_size) l.slot_size

-- numbers of records
abbrev pub ByIndex : Layout → List ℕ → List ℕ → Type 0
ByIndex l batch records = (k : ℕ) → k < length records → get_or records k 0 < record_count l batch

-- the parts of a record
unfoldable pub meta_in : List ℕ → ℕ
meta_in r = word (part r 0 8)

unfoldable pub key_in : Layout → List ℕ → List ℕ
key_in l r = part r 8 l.key_size

unfoldable pub key_padding : Layout → List ℕ → List ℕ
key_padding l r = part r (8 + l.key_size) (align8 l.key_size - l.key_size)

unfoldable pub revision_and_index : Layout → List ℕ → List ℕ
revision_and_index l r = part r (8 + align8 l.key_size) (8 + l.index_size)

unfoldable pub index_padding : Layout → List ℕ → List ℕ
index_padding l r = part r (16 + align8 l.key_size + l.index_size) (align8 l.index_size - l.index_size)

-- meta neither 0 nor 1, a byte of padding that is not zero, or a delete whose revision or index is not zero
unfoldable pub malformed : Layout → List ℕ → Bool
malformed l r =
    ltb 1 (meta_in r) || not (all_zero (key_padding l r)) || not (all_zero (index_padding l r))
    || (eqb (meta_in r) 0 && not (all_zero (revision_and_index l r)))

unfoldable pub some_malformed : Layout → List ℕ → Bool
some_malformed l batch = not (all_to (record_count l batch) (λ i. not (malformed l (record_at l batch i))))

-- "batch length no multiple of slot_size, over 1,024 records, or a malformed record" (CR 5)
unfoldable pub batch_wrong : Layout → List ℕ → Bool
batch_wrong l batch =
    not (eqb (length batch % l.slot_size) 0) || ltb most_records (record_count l batch)
    || some_malformed l batch

-- the key of record i
unfoldable pub record_key : Layout → List ℕ → ℕ → List ℕ
record_key l batch i = key_in l (record_at l batch i)

-- "Only the last record for a key counts": no later record has the key of record i
unfoldable pub decides : Layout → List ℕ → ℕ → Bool
decides l batch i = all_to (record_count l batch) (λ j. not (ltb i j && same (record_key l batch j) (record_key l batch i)))
