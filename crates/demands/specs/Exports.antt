-- The calls for C: of each, the definition that its number and every lent byte afterwards follow from.
-- Assumes nothing.
use Rattle.numbers.specs.Age.{age_of}
use Rattle.digests.specs.Fnv.{fnv1a64}
use Rattle.digests.specs.Crc.{crc32c}
use Rattle.header.specs.Open.{open_of}
use Rattle.header.specs.Extent.{extent_of}
use Rattle.image.specs.Lookup.{lookup_of}
use Rattle.image.specs.Check.{check_of}
use Rattle.listing.specs.Scan.{scan_of}
use Rattle.listing.specs.Match.{match_of}
use Rattle.writing.specs.Create.{create_of}
use Rattle.writing.specs.State.{begin_of, checkpoint_of, invalidate_of}
use Rattle.soundness.specs.Commit.{commit_of}
use Rattle.host.specs.Order.{order_number}
use Rattle.host.specs.Places.{total_of, key_place, index_place}
use Rattle.host.specs.Results.{reported, lookup_report, check_report, reported_listing, listing_report}
use Rattle.host.specs.UserData.{filled, user_data_of, set_user_fields_from}
use Rattle.host.proofs.sizes.slc1_total_size.Symbol as total_size
use Rattle.host.specs.contracts.sizes.slc1_total_size.{ended as total_size_ended}
use Rattle.host.proofs.sizes.slc1_key_offset.Symbol as key_offset
use Rattle.host.specs.contracts.sizes.slc1_key_offset.{ended as key_offset_ended}
use Rattle.host.proofs.sizes.slc1_index_offset.Symbol as index_offset
use Rattle.host.specs.contracts.sizes.slc1_index_offset.{ended as index_offset_ended}
use Rattle.host.proofs.open.slc1_open_check.Symbol as open_check
use Rattle.host.specs.contracts.open.slc1_open_check.{ended as open_check_ended}
use Rattle.host.proofs.open.slc1_user_flags.Symbol as user_flags
use Rattle.host.specs.contracts.open.slc1_user_flags.{ended as user_flags_ended}
use Rattle.host.proofs.open.slc1_user_data.Symbol as user_data
use Rattle.host.specs.contracts.open.slc1_user_data.{ended as user_data_ended}
use Rattle.host.proofs.extent.slc1_image_capacity.Symbol as image_capacity
use Rattle.host.specs.contracts.extent.slc1_image_capacity.{ended as image_capacity_ended}
use Rattle.host.proofs.extent.slc1_image_buckets.Symbol as image_buckets
use Rattle.host.specs.contracts.extent.slc1_image_buckets.{ended as image_buckets_ended}
use Rattle.host.proofs.extent.slc1_image_total.Symbol as image_total_call
use Rattle.host.specs.contracts.extent.slc1_image_total.{ended as image_total_call_ended}
use Rattle.host.proofs.lookup.slc1_lookup.Symbol as lookup
use Rattle.host.specs.contracts.lookup.slc1_lookup.{ended as lookup_ended}
use Rattle.host.proofs.lookup.slc1_lookup_slot.Symbol as lookup_slot
use Rattle.host.specs.contracts.lookup.slc1_lookup_slot.{ended as lookup_slot_ended}
use Rattle.host.proofs.lookup.slc1_lookup_revision.Symbol as lookup_revision
use Rattle.host.specs.contracts.lookup.slc1_lookup_revision.{ended as lookup_revision_ended}
use Rattle.host.proofs.lookup.slc1_lookup_buckets.Symbol as lookup_buckets
use Rattle.host.specs.contracts.lookup.slc1_lookup_buckets.{ended as lookup_buckets_ended}
use Rattle.host.proofs.lookup.slc1_lookup_results.Symbol as lookup_results
use Rattle.host.specs.contracts.lookup.slc1_lookup_results.{ended as lookup_results_ended}
use Rattle.host.proofs.check.slc1_full_check.Symbol as full_check
use Rattle.host.specs.contracts.check.slc1_full_check.{ended as full_check_ended}
use Rattle.host.proofs.check.slc1_full_check_live.Symbol as full_check_live
use Rattle.host.specs.contracts.check.slc1_full_check_live.{ended as full_check_live_ended}
use Rattle.host.proofs.check.slc1_full_check_tombstones.Symbol as full_check_tombstones
use Rattle.host.specs.contracts.check.slc1_full_check_tombstones.{ended as full_check_tombstones_ended}
use Rattle.host.proofs.check.slc1_full_check_probes.Symbol as full_check_probes
use Rattle.host.specs.contracts.check.slc1_full_check_probes.{ended as full_check_probes_ended}
use Rattle.host.proofs.check.slc1_full_check_results.Symbol as full_check_results
use Rattle.host.specs.contracts.check.slc1_full_check_results.{ended as full_check_results_ended}
use Rattle.host.proofs.list.slc1_scan.Symbol as scan
use Rattle.host.specs.contracts.list.slc1_scan.{ended as scan_ended}
use Rattle.host.proofs.list.slc1_scan_total.Symbol as scan_total
use Rattle.host.specs.contracts.list.slc1_scan_total.{ended as scan_total_ended}
use Rattle.host.proofs.list.slc1_scan_written.Symbol as scan_written
use Rattle.host.specs.contracts.list.slc1_scan_written.{ended as scan_written_ended}
use Rattle.host.proofs.list.slc1_scan_results.Symbol as scan_results
use Rattle.host.specs.contracts.list.slc1_scan_results.{ended as scan_results_ended}
use Rattle.host.proofs.list.slc1_match.Symbol as match
use Rattle.host.specs.contracts.list.slc1_match.{ended as match_ended}
use Rattle.host.proofs.list.slc1_match_total.Symbol as match_total
use Rattle.host.specs.contracts.list.slc1_match_total.{ended as match_total_ended}
use Rattle.host.proofs.list.slc1_match_written.Symbol as match_written
use Rattle.host.specs.contracts.list.slc1_match_written.{ended as match_written_ended}
use Rattle.host.proofs.list.slc1_match_results.Symbol as match_results
use Rattle.host.specs.contracts.list.slc1_match_results.{ended as match_results_ended}
use Rattle.host.proofs.write.slc1_create.Symbol as create
use Rattle.host.specs.contracts.write.slc1_create.{ended as create_ended}
use Rattle.host.proofs.write.slc1_begin.Symbol as begin
use Rattle.host.specs.contracts.write.slc1_begin.{ended as begin_ended}
use Rattle.host.proofs.write.slc1_checkpoint.Symbol as checkpoint
use Rattle.host.specs.contracts.write.slc1_checkpoint.{ended as checkpoint_ended}
use Rattle.host.proofs.write.slc1_invalidate.Symbol as invalidate
use Rattle.host.specs.contracts.write.slc1_invalidate.{ended as invalidate_ended}
use Rattle.host.proofs.write.slc1_set_user_fields.Symbol as set_user_fields
use Rattle.host.specs.contracts.write.slc1_set_user_fields.{ended as set_user_fields_ended}
use Rattle.host.proofs.write.slc1_commit.Symbol as commit
use Rattle.host.specs.contracts.write.slc1_commit.{ended as commit_ended}
use Rattle.host.proofs.age.slc1_revision_order.Symbol as revision_order
use Rattle.host.specs.contracts.age.slc1_revision_order.{ended as revision_order_ended}
use Rattle.host.proofs.age.slc1_revision_distance.Symbol as revision_distance
use Rattle.host.specs.contracts.age.slc1_revision_distance.{ended as revision_distance_ended}
use Rattle.host.proofs.digest.slc1_fnv1a64.Symbol as fnv1a64
use Rattle.host.specs.contracts.digest.slc1_fnv1a64.{ended as fnv1a64_ended}
use Rattle.host.proofs.digest.slc1_crc32c.Symbol as crc32c
use Rattle.host.specs.contracts.digest.slc1_crc32c.{ended as crc32c_ended}
use Rattle.demands.specs.Owes.{Owes, written, beside, one, host_options, arg1, arg2, arg7, arg8, arg9, arg10, arg11, arg12, arg13, arg14}

pub record Exports : Type 2 where
  pub total_size :
      Owes total_size_ended total_size.name total_size.code
      (λ κ x e. x)
      (λ κ a. total_of (host_options a))
  pub key_offset :
      Owes key_offset_ended key_offset.name key_offset.code
      (λ κ x e. x)
      (λ κ a. key_place (host_options a) (arg7 a))
  pub index_offset :
      Owes index_offset_ended index_offset.name index_offset.code
      (λ κ x e. x)
      (λ κ a. index_place (host_options a) (arg7 a))
  pub open_check :
      Owes open_check_ended open_check.name open_check.code
      (λ κ x e. x)
      (λ κ a. (open_of (host_options a.1) (arg1 a).now).answer)
  pub user_flags :
      Owes user_flags_ended user_flags.name user_flags.code
      (λ κ x e. x)
      (λ κ a. (open_of (host_options a.1) (arg1 a).now).fields.user_flags)
  pub user_data :
      Owes user_data_ended user_data.name user_data.code
      (λ κ x e. filled x (arg8 e).now)
      (λ κ a. user_data_of (host_options a.1) (arg1 a).now (arg8 a).now)
  pub image_capacity :
      Owes image_capacity_ended image_capacity.name image_capacity.code
      (λ κ x e. x)
      (λ κ a. (extent_of (host_options a.1) (arg1 a).now).capacity)
  pub image_buckets :
      Owes image_buckets_ended image_buckets.name image_buckets.code
      (λ κ x e. x)
      (λ κ a. (extent_of (host_options a.1) (arg1 a).now).buckets)
  pub image_total_call :
      Owes image_total_call_ended image_total_call.name image_total_call.code
      (λ κ x e. x)
      (λ κ a. (extent_of (host_options a.1) (arg1 a).now).total)
  pub lookup :
      Owes lookup_ended lookup.name lookup.code
      (λ κ x e. x)
      (λ κ a. (lookup_of (host_options a.1) (arg1 a).now (arg8 a).now).answer)
  pub lookup_slot :
      Owes lookup_slot_ended lookup_slot.name lookup_slot.code
      (λ κ x e. x)
      (λ κ a. (lookup_of (host_options a.1) (arg1 a).now (arg8 a).now).slot)
  pub lookup_revision :
      Owes lookup_revision_ended lookup_revision.name lookup_revision.code
      (λ κ x e. x)
      (λ κ a. (lookup_of (host_options a.1) (arg1 a).now (arg8 a).now).revision)
  pub lookup_buckets :
      Owes lookup_buckets_ended lookup_buckets.name lookup_buckets.code
      (λ κ x e. x)
      (λ κ a. (lookup_of (host_options a.1) (arg1 a).now (arg8 a).now).buckets)
  pub lookup_results :
      Owes lookup_results_ended lookup_results.name lookup_results.code
      (λ κ x e. reported x (arg9 e).now)
      (λ κ a. lookup_report (lookup_of (host_options a.1) (arg1 a).now (arg8 a).now) (arg9 a).now)
  pub full_check :
      Owes full_check_ended full_check.name full_check.code
      (λ κ x e. x)
      (λ κ a. (check_of (host_options a.1) (arg1 a).now).answer)
  pub full_check_live :
      Owes full_check_live_ended full_check_live.name full_check_live.code
      (λ κ x e. x)
      (λ κ a. (check_of (host_options a.1) (arg1 a).now).live)
  pub full_check_tombstones :
      Owes full_check_tombstones_ended full_check_tombstones.name full_check_tombstones.code
      (λ κ x e. x)
      (λ κ a. (check_of (host_options a.1) (arg1 a).now).tombstones)
  pub full_check_probes :
      Owes full_check_probes_ended full_check_probes.name full_check_probes.code
      (λ κ x e. x)
      (λ κ a. (check_of (host_options a.1) (arg1 a).now).probes)
  pub full_check_results :
      Owes full_check_results_ended full_check_results.name full_check_results.code
      (λ κ x e. reported x (arg8 e).now)
      (λ κ a. check_report (check_of (host_options a.1) (arg1 a).now) (arg8 a).now)
  pub scan :
      Owes scan_ended scan.name scan.code
      (λ κ x e. beside x (arg10 e).now)
      (λ κ a. one (λ l. l.answer) (scan_of (host_options a.1) (arg1 a).now (arg8 a) (arg9 a) (arg10 a).now))
  pub scan_total :
      Owes scan_total_ended scan_total.name scan_total.code
      (λ κ x e. beside x (arg10 e).now)
      (λ κ a. one (λ l. l.total) (scan_of (host_options a.1) (arg1 a).now (arg8 a) (arg9 a) (arg10 a).now))
  pub scan_written :
      Owes scan_written_ended scan_written.name scan_written.code
      (λ κ x e. beside x (arg10 e).now)
      (λ κ a. one (λ l. l.written) (scan_of (host_options a.1) (arg1 a).now (arg8 a) (arg9 a) (arg10 a).now))
  pub scan_results :
      Owes scan_results_ended scan_results.name scan_results.code
      (λ κ x e. reported_listing (reported x (arg11 e).now) (arg10 e).now)
      (λ κ a. listing_report (scan_of (host_options a.1) (arg1 a).now (arg8 a) (arg9 a) (arg10 a).now) (arg10 a).now (arg11 a).now)
  pub match :
      Owes match_ended match.name match.code
      (λ κ x e. beside x (arg13 e).now)
      (λ κ a. one (λ l. l.answer) (match_of (host_options a.1) (arg1 a).now (arg8 a) (arg9 a) (arg10 a).now (arg11 a) (arg12 a) (arg13 a).now))
  pub match_total :
      Owes match_total_ended match_total.name match_total.code
      (λ κ x e. beside x (arg13 e).now)
      (λ κ a. one (λ l. l.total) (match_of (host_options a.1) (arg1 a).now (arg8 a) (arg9 a) (arg10 a).now (arg11 a) (arg12 a) (arg13 a).now))
  pub match_written :
      Owes match_written_ended match_written.name match_written.code
      (λ κ x e. beside x (arg13 e).now)
      (λ κ a. one (λ l. l.written) (match_of (host_options a.1) (arg1 a).now (arg8 a) (arg9 a) (arg10 a).now (arg11 a) (arg12 a) (arg13 a).now))
  pub match_results :
      Owes match_results_ended match_results.name match_results.code
      (λ κ x e. reported_listing (reported x (arg14 e).now) (arg13 e).now)
      (λ κ a. listing_report (match_of (host_options a.1) (arg1 a).now (arg8 a) (arg9 a) (arg10 a).now (arg11 a) (arg12 a) (arg13 a).now) (arg13 a).now (arg14 a).now)
  pub create :
      Owes create_ended create.name create.code
      (λ κ x e. written x (arg1 e).now)
      (λ κ a. create_of (host_options a.1) (arg1 a).now)
  pub begin :
      Owes begin_ended begin.name begin.code
      (λ κ x e. written x (arg1 e).now)
      (λ κ a. begin_of (host_options a.1) (arg1 a).now)
  pub checkpoint :
      Owes checkpoint_ended checkpoint.name checkpoint.code
      (λ κ x e. written x (arg1 e).now)
      (λ κ a. checkpoint_of (host_options a.1) (arg1 a).now)
  pub invalidate :
      Owes invalidate_ended invalidate.name invalidate.code
      (λ κ x e. written x (arg1 e).now)
      (λ κ a. invalidate_of (host_options a.1) (arg1 a).now)
  pub set_user_fields :
      Owes set_user_fields_ended set_user_fields.name set_user_fields.code
      (λ κ x e. written x (arg1 e).now)
      (λ κ a. set_user_fields_from (host_options a.1) (arg1 a).now (arg8 a) (arg9 a).now)
  pub commit :
      Owes commit_ended commit.name commit.code
      (λ κ x e. written x (arg1 e).now)
      (λ κ a. commit_of (host_options a.1) (arg1 a).now (arg8 a).now)
  pub revision_order :
      Owes revision_order_ended revision_order.name revision_order.code
      (λ κ x e. x)
      (λ κ a. order_number (age_of (arg1 a) (arg2 a)).order)
  pub revision_distance :
      Owes revision_distance_ended revision_distance.name revision_distance.code
      (λ κ x e. x)
      (λ κ a. (age_of (arg1 a) (arg2 a)).distance)
  pub fnv1a64 :
      Owes fnv1a64_ended fnv1a64.name fnv1a64.code
      (λ κ x e. x)
      (λ κ a. fnv1a64 (arg1 a).now)
  pub crc32c :
      Owes crc32c_ended crc32c.name crc32c.code
      (λ κ x e. x)
      (λ κ a. crc32c (arg1 a).now)
