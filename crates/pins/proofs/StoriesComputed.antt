-- The calls of both stories, computed.
-- Assumes nothing.
use mathlib.Core.Path.{refl}
use Rattle.numbers.specs.Bytes.{part, word, bytes_of, put, same, below, all_zero}
use Rattle.numbers.specs.Signed.{signed}
use Rattle.digests.specs.Crc.{crc_bit, crc_bits, crc_from, crc32c, header_crc}
use Rattle.digests.specs.Fnv.{fnv_from, fnv1a64}
use Rattle.probing.specs.Counting.{sum_to, count_to, all_to}
use Rattle.probing.specs.Table.{live_count, full_count, tombstone_count}
use Rattle.probing.specs.Probe.{examine, probe_from, probe}
use Rattle.probing.specs.Check.{buckets_right, metas_right, each_found, counts_equal, never_fall, checks, probes}
use Rattle.probing.specs.Change.{place_from, place}
use Rattle.header.specs.Fields.{bytes_in, value}
use Rattle.header.specs.FirstOf.{first_of}
use Rattle.header.specs.Counters.{with_counters, with_slots}
use Rattle.header.specs.Sizes.{sizes_to_open, sizes_to_create, capacity_fits, align8, slot_size, power_from, bucket_count, buckets_offset, total, total_size}
use Rattle.header.specs.Extent.{extent_of}
use Rattle.header.specs.HeaderTest.{power_of_two, test1, create_test1, test2, test3, test4, test5, test6, test7, test8, test9, image_total, test10, test11, test12, header_tests, header_test, layout_of, shape_of}
use Rattle.image.specs.Table as T
use Rattle.image.specs.Table.{slot_at, revision_at, bucket_at, meta_of, revision_of, key_of, bucket_from, bucket_of, table_of}
use Rattle.image.specs.Lookup.{probe_of, is_live, lookup_in, lookup_of}
use Rattle.image.specs.Check.{passes, check_in, check_of}
use Rattle.writing.specs.Write.{with_field, with_fields, sealed}
use Rattle.writing.specs.Create.{create_tests, fresh_fields, fresh, create_of}
use Rattle.writing.specs.State.{writing_tests, clean_test, generation_test, in_state, begin_of, checkpoint_of, published, invalidate_tests, invalidate_of, user_tests, with_user_data, set_user_fields_of}
use Rattle.slots.specs.Slots.{removed, indexed, appended, rebuilt_to, rebuilt, counted}
use Rattle.batch.specs.Batch.{record_count, record_at, meta_in, key_in, key_padding, revision_and_index, index_padding, malformed, some_malformed, batch_wrong, record_key, decides}
use Rattle.batch.specs.NewKeys.{is_new, new_count, rank, first_to, new_at}
use Rattle.soundness.specs.Apply.{acted, acted_to, after_live, after_new, tidied, recounted, settled, committed}
use Rattle.soundness.specs.Commit.{falls_behind, sound_tests, room_tests, further_tests, commit_tests, commit_of}
use Rattle.pins.specs.Story.{Steps}
use Rattle.pins.specs.OrderedStory.{OrderedSteps}
use Rattle.pins.specs.PartnerStory.{PartnerSteps}
use Rattle.pins.specs.Refusals.{HeaderRefusals, FurtherRefusals, CheckRefusals}
use Rattle.pins.proofs.MostRecords.{most_records_pass}

-- all that is computed with
computed : Unit {0}
unfolding part word bytes_of put same all_zero crc_bit crc_bits crc_from crc32c header_crc fnv_from fnv1a64 sum_to count_to all_to live_count full_count tombstone_count examine probe_from probe buckets_right metas_right each_found counts_equal checks place_from place bytes_in value first_of sizes_to_open sizes_to_create capacity_fits align8 slot_size power_from bucket_count buckets_offset total total_size power_of_two test1 create_test1 test2 test3 test4 test5 test6 test7 test8 test9 image_total test10 test11 test12 header_tests header_test layout_of shape_of slot_at T.key_at bucket_at meta_of key_of bucket_from bucket_of table_of probe_of is_live passes with_field with_fields sealed create_tests fresh_fields fresh create_of writing_tests clean_test generation_test in_state begin_of checkpoint_of published user_tests removed indexed appended counted record_count record_at meta_in key_in key_padding revision_and_index index_padding malformed some_malformed batch_wrong record_key decides is_new new_count rank first_to new_at falls_behind sound_tests room_tests further_tests commit_tests acted acted_to after_live with_counters with_slots after_new tidied recounted settled committed commit_of invalidate_tests invalidate_of with_user_data set_user_fields_of rebuilt_to rebuilt never_fall below lookup_in lookup_of revision_at revision_of signed probes check_in check_of extent_of
computed = tt

pub steps : Steps
unfolding computed
steps =
    record {
      home_64 = refl;
      home_72 = refl;
      home_80 = refl;
      creates = refl;
      fresh = refl;
      begins = refl;
      puts = refl;
      marks = refl;
      deletes = refl;
      puts_again = refl;
      refuses = refl;
      closes = refl;
      writer_passes = refl;
      reader_passes = refl;
      invalidates = refl;
      given_up = refl;
    }

pub ordered_steps : OrderedSteps
unfolding computed
ordered_steps =
    record {
      hash_1 = refl;
      hash_2 = refl;
      home_1 = refl;
      home_2 = refl;
      creates = refl;
      fresh = refl;
      begins = refl;
      puts = refl;
      deletes = refl;
      refuses_order = refl;
      puts_last = refl;
      refuses_full = refl;
      rebuilds = refl;
      closes = refl;
      writer_passes = refl;
      reader_passes = refl;
      two_buckets = refl;
      one_bucket = refl;
    }

pub partner_steps : PartnerSteps
unfolding computed
partner_steps =
    record {
      home_64 = refl;
      home_72 = refl;
      told = refl;
      puts = refl;
      finds = refl;
      checks = refl;
      rebuilds = refl;
      passes = refl;
    }

pub header_refusals : HeaderRefusals
unfolding computed
header_refusals =
    record {
      key_0 = refl;
      key_65 = refl;
      index_257 = refl;
      capacity_0 = refl;
      create_capacity_0 = refl;
      create_capacity_1 = refl;
      capacity_1048577 = refl;
      ordered_2 = refl;
      role_3 = refl;
      largest = refl;
      length_0 = refl;
      length_1 = refl;
      length_255 = refl;
      length_256 = refl;
      magic = refl;
      version = refl;
      header_size = refl;
      hash_alg = refl;
      odd_0 = refl;
      odd_1 = refl;
      odd_2 = refl;
      crc = refl;
      flag = refl;
      reserved_first = refl;
      reserved_last = refl;
      state = refl;
      given_up = refl;
      another_key = refl;
      another_index = refl;
      another_slot = refl;
      another_capacity = refl;
      as_it_says = refl;
      says_0 = refl;
      says_1048576 = refl;
      says_1048577 = refl;
      another_version = refl;
      another_order = refl;
      buckets_0 = refl;
      buckets_1 = refl;
      buckets_2 = refl;
      buckets_4 = refl;
      buckets_6 = refl;
      buckets_16 = refl;
      buckets_4194304 = refl;
      buckets_4194305 = refl;
      buckets_8388608 = refl;
      buckets_most = refl;
      buckets_below = refl;
      slots_offset = refl;
      buckets_offset_field = refl;
      shorter = refl;
      longer = refl;
      half_of_another = refl;
      exact = refl;
      live = refl;
      tombstones = refl;
      highwater = refl;
      dirty_0 = refl;
      dirty_1 = refl;
      dirty_2 = refl;
    }

pub further_refusals : FurtherRefusals
unfolding computed
further_refusals =
    record {
      clean = refl;
      not_clean = refl;
      last_generation = refl;
      one_before = refl;
      empty = refl;
      a_put = refl;
      a_delete = refl;
      cut = refl;
      records_1024 = most_records_pass;
      records_1025 = refl;
      meta_2 = refl;
      key_padding_stands = refl;
      index_padding_stands = refl;
      delete_revision = refl;
      delete_index = refl;
      second_record = refl;
    }

pub check_refusals : CheckRefusals
unfolding computed
check_refusals =
    record {
      right = refl;
      past_highwater = refl;
      deleted_slot = refl;
      another_hash = refl;
      meta_2 = refl;
      twin = refl;
      tombstone_more = refl;
      right_ordered = refl;
      falling = refl;
      lookup_past = refl;
      lookup_dead = refl;
      lookup_long = refl;
      lookup_none = refl;
    }
