-- The examples marked [P], computed.
-- Assumes nothing.
use mathlib.Core.Path.{refl}
use Rattle.numbers.specs.Age.{age_of}
use Rattle.probing.specs.Counting.{sum_to, all_to}
use Rattle.probing.specs.Overflow.{stretch, largest, overflow, lawful, homes_in, sum_of_homes}
use Rattle.header.specs.Sizes.{align8, slot_size, power_from, bucket_count, buckets_offset, total, total_size}
use Rattle.listing.specs.Match.{bit_at, agrees}
use Rattle.demands.specs.Examples.{Examples}

pub examples : Examples
unfolding align8 slot_size power_from bucket_count buckets_offset total total_size sum_of_homes lawful overflow largest stretch sum_to homes_in all_to bit_at agrees age_of
examples =
    record {
      slot_10_5 = refl;
      slot_1_0 = refl;
      slot_12_20 = refl;
      buckets_512 = refl;
      offset_512 = refl;
      total_512 = refl;
      buckets_1 = refl;
      buckets_3 = refl;
      sum_none = refl;
      sum_33 = refl;
      sum_77 = refl;
      sum_223 = refl;
      sum_7700 = refl;
      ten_bits = refl;
      ten_bits_not = refl;
      age = refl;
    }
