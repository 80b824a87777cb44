-- "Sizes allowed", and the sizes and offsets of the layout.
-- Assumes nothing.
use Rattle.std.specs.Prelude.{ℕ, zero, suc, ◌+◌, ◌*◌, ◌/◌, ◌^◌, Bool, cond, ◌&&◌, eqb, leb}
use Rattle.header.specs.declared.options.Options.{Options}

abbrev pub most_key_size : ℕ
most_key_size = 64

abbrev pub most_index_size : ℕ
most_index_size = 256

abbrev pub most_slot_capacity : ℕ
most_slot_capacity = 1048576

abbrev pub most_bucket_count : ℕ
most_bucket_count = 4194304

-- "key_size 1 to 64, index_size 0 to 256, slot_capacity 1 to 1,048,576" (CR 5), and "Option capacity 0 now means 'as the
-- header says'" (CR 10): the sizes allowed to open an image
unfoldable pub sizes_to_open : Options → Bool
sizes_to_open o =
    leb 1 o.key_size && leb o.key_size most_key_size && leb o.index_size most_index_size
    && leb o.slot_capacity most_slot_capacity

-- "create ... answers 7 to capacity 0" (CR 10): the sizes allowed to create one
unfoldable pub sizes_to_create : Options → Bool
sizes_to_create o = sizes_to_open o && leb 1 o.slot_capacity

-- whether a header's capacity is as the option says: "Option capacity 0 now means 'as the header says', within 1 to 1,048,576"
-- (CR 10)
unfoldable pub capacity_fits : ℕ → ℕ → Bool
capacity_fits option capacity = cond (eqb option 0) (leb 1 capacity && leb capacity most_slot_capacity) (eqb capacity option)

-- the next multiple of 8
unfoldable pub align8 : ℕ → ℕ
align8 n = (n + 7) / 8 * 8

-- "A slot: meta u64, key, zeros to a multiple of 8, revision i64, index, zeros to a multiple of 8."
unfoldable pub slot_size : ℕ → ℕ → ℕ
slot_size key index = 8 + align8 key + 8 + align8 index

-- the smallest power of two that is at least n, from 2 ^ k on
unfoldable pub power_from : ℕ → ℕ → ℕ → ℕ
power_from zero k n = 2 ^ k
power_from (suc more) k n = cond (leb n (2 ^ k)) (2 ^ k) (power_from more (suc k) n)

-- "bucket_count B is the smallest power of two not below twice slot_capacity."
unfoldable pub bucket_count : ℕ → ℕ
bucket_count capacity = power_from 64 0 (2 * capacity)

-- the header, then the slots, then the buckets
unfoldable pub buckets_offset : ℕ → ℕ → ℕ
buckets_offset capacity slot = 256 + capacity * slot

-- "Total size: 256 + capacity x slot_size + 16 x B."
unfoldable pub total : ℕ → ℕ → ℕ → ℕ
total capacity slot buckets = buckets_offset capacity slot + 16 * buckets

-- of an image that is made for these options
unfoldable pub total_size : Options → ℕ
total_size o =
    total o.slot_capacity (slot_size o.key_size o.index_size) (bucket_count o.slot_capacity)
