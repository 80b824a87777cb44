-- The pinned values, computed, and the rule of the bucket count.
-- Assumes nothing.
use Prim.Native.Nat.{ℕ, suc, ◌*◌, ◌^◌, ◌≤◌, ◌<◌}
use mathlib.Core.Path.{◌≡◌, refl}
use native.Mathlib.Decide.{dec_le}
use native.Mathlib.Nat.{two-pow-succ}
use native.Mathlib.Omega.{arith}
use lib.Pow.{pow_pos, pow_mono}
use Rattle.numbers.specs.Bytes.{word, bytes_of, put, below}
use Rattle.numbers.specs.Signed.{signed}
use Rattle.digests.specs.Fnv.{fnv_from, fnv1a64}
use Rattle.digests.specs.Crc.{crc_bit, crc_bits, crc_from, crc32c}
use Rattle.probing.specs.Counting.{all_to}
use Rattle.header.specs.FirstOf.{first_of}
use Rattle.header.specs.HeaderTest.{test1, create_test1}
use Rattle.header.specs.Sizes.{sizes_to_open, sizes_to_create, align8, slot_size, power_from, bucket_count}
use Rattle.header.proofs.SizeLaws.{bucket_count_power, bucket_count_low, bucket_count_high}
use Rattle.listing.specs.Match.{bit_at, agrees}
use Rattle.host.specs.Places.{total_of, slots_for, place_in, key_place, index_place}
use Rattle.host.specs.Results.{report_of, word_of, lookup_report, check_report, listed_report, listing_report}
use Rattle.pins.specs.Pins.{Pins}

-- a power of two below twice another is at most that one
at_most : (j k : ℕ) → 2 ^ j < 2 * 2 ^ k → 2 ^ j ≤ 2 ^ k
at_most j k h =
    elim (dec_le j k) [
      | yes l ↦ pow_mono {i = j} {j = k} l
      | no l ↦ absurd (let high : 2 ^ suc k ≤ 2 ^ j = pow_mono {i = suc k} {j = j} (omega arith) in omega (arith, rw two-pow-succ at high))
    ]

smallest : (capacity k : ℕ) → 2 * capacity ≤ 2 ^ k → bucket_count capacity ≤ 2 ^ k
unfolding bucket_count power_from
smallest capacity k h =
    elim (dec_le 1 capacity) [
      | yes l ↦ let p = bucket_count_power capacity in rw p.1 (at_most p.0 k (omega (arith, p.1, bucket_count_high capacity l)))
      | no l ↦ let none : capacity ≡ 0 = omega arith in rw none (pow_pos k)
    ]

pub pins : Pins
unfolding word bytes_of put below signed fnv_from fnv1a64 crc_bit crc_bits crc_from crc32c all_to first_of test1 create_test1 sizes_to_open sizes_to_create align8 slot_size bit_at agrees total_of slots_for place_in key_place index_place report_of word_of lookup_report check_report listed_report listing_report
pins =
    record {
      word_of_stands = refl;
      bytes_of_lem = refl;
      magic = refl;
      signed_most = refl;
      signed_least = refl;
      signed_ones = refl;
      unsigned = refl;
      unsigned_not = refl;
      second_byte = refl;
      first_byte = refl;
      itself = refl;
      fnv_foobar = refl;
      crc_digits = refl;
      power = bucket_count_power;
      not_below = bucket_count_low;
      smallest = smallest;
      key_place_stands = refl;
      index_place_stands = refl;
      last_place = refl;
      place_past = refl;
      total_0 = refl;
      offset_bits = refl;
      offset_bits_not = refl;
      results_found = refl;
      results_absent = refl;
      results_short = refl;
      results_checked = refl;
      results_listed = refl;
      results_unlisted = refl;
    }
