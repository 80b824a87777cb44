-- "Bench examples ([P]: proved)", as one table.
-- Assumes nothing.
use Rattle.std.specs.Prelude.{ℕ, ◌-◌, ◌^◌, ◌≡◌, true, false, [], ◌∷◌, pos, negsuc}
use Rattle.numbers.specs.declared.age.Age.{Age}
use Rattle.numbers.specs.declared.age.Order.TheVariants.{Newer}
use Rattle.numbers.specs.Age.{age_of}
use Rattle.probing.specs.Overflow.{sum_of_homes}
use Rattle.header.specs.declared.options.Options.{Options}
use Rattle.header.specs.Bench.{bench_options}
use Rattle.header.specs.Sizes.{slot_size, bucket_count, buckets_offset, total_size}
use Rattle.listing.specs.Match.{agrees}

-- "Key 12, index 20 ...; capacity 512"
abbrev pub bench : Options
bench = bench_options 0

abbrev pub newer : ℕ → Age
newer n = record { order = Newer; distance = n }

pub record Examples : Type 0 where
  -- "Key 10, index 5: slot_size 40. Key 1, index 0: 24. Key 12, index 20: 56"
  pub slot_10_5 : slot_size 10 5 ≡ 40
  pub slot_1_0 : slot_size 1 0 ≡ 24
  pub slot_12_20 : slot_size 12 20 ≡ 56
  -- "capacity 512 gives B 1,024, buckets_offset 28,928, total 45,312"
  pub buckets_512 : bucket_count 512 ≡ 1024
  pub offset_512 : buckets_offset 512 (slot_size 12 20) ≡ 28928
  pub total_512 : total_size bench ≡ 45312
  -- "Capacity 1: B 2. Capacity 3: B 8."
  pub buckets_1 : bucket_count 1 ≡ 2
  pub buckets_3 : bucket_count 3 ≡ 8
  -- "Sums for B 8 and no tombstones, by homes: none 0; {3,3} 3; {7,7} 3; {2,2,3} 5; {7,7,0,0} 8."
  pub sum_none : sum_of_homes 8 [] ≡ 0
  pub sum_33 : sum_of_homes 8 (3 ∷ 3 ∷ []) ≡ 3
  pub sum_77 : sum_of_homes 8 (7 ∷ 7 ∷ []) ≡ 3
  pub sum_223 : sum_of_homes 8 (2 ∷ 2 ∷ 3 ∷ []) ≡ 5
  pub sum_7700 : sum_of_homes 8 (7 ∷ 7 ∷ 0 ∷ 0 ∷ []) ≡ 8
  -- "Ten bits of AB C0 match key AB FF and not AB 80."
  pub ten_bits : agrees 0 10 (0xAB ∷ 0xC0 ∷ []) (0xAB ∷ 0xFF ∷ []) ≡ true
  pub ten_bits_not : agrees 0 10 (0xAB ∷ 0xC0 ∷ []) (0xAB ∷ 0x80 ∷ []) ≡ false
  -- "Age from -2^63 to 2^63 - 1: newer by 2^64 - 1."
  pub age : age_of (negsuc (2 ^ 63 - 1)) (pos (2 ^ 63 - 1)) ≡ newer (2 ^ 64 - 1)
