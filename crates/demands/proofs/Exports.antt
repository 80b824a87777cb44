-- Each call meets its contract, and its contract is the equation.
-- Assumes nothing.
use Rattle.host.proofs.sizes.slc1_total_size as total_size
use Rattle.host.proofs.sizes.slc1_key_offset as key_offset
use Rattle.host.proofs.sizes.slc1_index_offset as index_offset
use Rattle.host.proofs.open.slc1_open_check as open_check
use Rattle.host.proofs.open.slc1_user_flags as user_flags
use Rattle.host.proofs.open.slc1_user_data as user_data
use Rattle.host.proofs.extent.slc1_image_capacity as image_capacity
use Rattle.host.proofs.extent.slc1_image_buckets as image_buckets
use Rattle.host.proofs.extent.slc1_image_total as image_total_call
use Rattle.host.proofs.lookup.slc1_lookup as lookup
use Rattle.host.proofs.lookup.slc1_lookup_slot as lookup_slot
use Rattle.host.proofs.lookup.slc1_lookup_revision as lookup_revision
use Rattle.host.proofs.lookup.slc1_lookup_buckets as lookup_buckets
use Rattle.host.proofs.lookup.slc1_lookup_results as lookup_results
use Rattle.host.proofs.check.slc1_full_check as full_check
use Rattle.host.proofs.check.slc1_full_check_live as full_check_live
use Rattle.host.proofs.check.slc1_full_check_tombstones as full_check_tombstones
use Rattle.host.proofs.check.slc1_full_check_probes as full_check_probes
use Rattle.host.proofs.check.slc1_full_check_results as full_check_results
use Rattle.host.proofs.list.slc1_scan as scan
use Rattle.host.proofs.list.slc1_scan_total as scan_total
use Rattle.host.proofs.list.slc1_scan_written as scan_written
use Rattle.host.proofs.list.slc1_scan_results as scan_results
use Rattle.host.proofs.list.slc1_match as match
use Rattle.host.proofs.list.slc1_match_total as match_total
use Rattle.host.proofs.list.slc1_match_written as match_written
use Rattle.host.proofs.list.slc1_match_results as match_results
use Rattle.host.proofs.write.slc1_create as create
use Rattle.host.proofs.write.slc1_begin as begin
use Rattle.host.proofs.write.slc1_checkpoint as checkpoint
use Rattle.host.proofs.write.slc1_invalidate as invalidate
use Rattle.host.proofs.write.slc1_set_user_fields as set_user_fields
use Rattle.host.proofs.write.slc1_commit as commit
use Rattle.host.proofs.age.slc1_revision_order as revision_order
use Rattle.host.proofs.age.slc1_revision_distance as revision_distance
use Rattle.host.proofs.digest.slc1_fnv1a64 as fnv1a64
use Rattle.host.proofs.digest.slc1_crc32c as crc32c
use Rattle.demands.specs.Exports.{Exports}
use Rattle.demands.proofs.Owing.{owing}

pub exports : Exports
exports =
    record {
      total_size = owing total_size.Reads.Post (λ M. total_size.Met.met) (λ κ a x e p. p);
      key_offset = owing key_offset.Reads.Post (λ M. key_offset.Met.met) (λ κ a x e p. p);
      index_offset = owing index_offset.Reads.Post (λ M. index_offset.Met.met) (λ κ a x e p. p);
      open_check = owing open_check.Reads.Post (λ M. open_check.Met.met) (λ κ a x e p. p);
      user_flags = owing user_flags.Reads.Post (λ M. user_flags.Met.met) (λ κ a x e p. p);
      user_data = owing user_data.Reads.Post (λ M. user_data.Met.met) (λ κ a x e p. λ i. record { answer = p.0 i; bytes = p.1 i });
      image_capacity = owing image_capacity.Reads.Post (λ M. image_capacity.Met.met) (λ κ a x e p. p);
      image_buckets = owing image_buckets.Reads.Post (λ M. image_buckets.Met.met) (λ κ a x e p. p);
      image_total_call = owing image_total_call.Reads.Post (λ M. image_total_call.Met.met) (λ κ a x e p. p);
      lookup = owing lookup.Reads.Post (λ M. lookup.Met.met) (λ κ a x e p. p);
      lookup_slot = owing lookup_slot.Reads.Post (λ M. lookup_slot.Met.met) (λ κ a x e p. p);
      lookup_revision = owing lookup_revision.Reads.Post (λ M. lookup_revision.Met.met) (λ κ a x e p. p);
      lookup_buckets = owing lookup_buckets.Reads.Post (λ M. lookup_buckets.Met.met) (λ κ a x e p. p);
      lookup_results = owing lookup_results.Reads.Post (λ M. lookup_results.Met.met) (λ κ a x e p. λ i. record { answer = p.0 i; results = p.1 i });
      full_check = owing full_check.Reads.Post (λ M. full_check.Met.met) (λ κ a x e p. p);
      full_check_live = owing full_check_live.Reads.Post (λ M. full_check_live.Met.met) (λ κ a x e p. p);
      full_check_tombstones = owing full_check_tombstones.Reads.Post (λ M. full_check_tombstones.Met.met) (λ κ a x e p. p);
      full_check_probes = owing full_check_probes.Reads.Post (λ M. full_check_probes.Met.met) (λ κ a x e p. p);
      full_check_results = owing full_check_results.Reads.Post (λ M. full_check_results.Met.met) (λ κ a x e p. λ i. record { answer = p.0 i; results = p.1 i });
      scan = owing scan.Reads.Post (λ M. scan.Met.met) (λ κ a x e p. λ i. record { number = p.0 i; numbers = p.1 i });
      scan_total = owing scan_total.Reads.Post (λ M. scan_total.Met.met) (λ κ a x e p. λ i. record { number = p.0 i; numbers = p.1 i });
      scan_written = owing scan_written.Reads.Post (λ M. scan_written.Met.met) (λ κ a x e p. λ i. record { number = p.0 i; numbers = p.1 i });
      scan_results = owing scan_results.Reads.Post (λ M. scan_results.Met.met) (λ κ a x e p. λ i. record { report = record { answer = p.0.0 i; results = p.0.1 i }; numbers = p.1 i });
      match = owing match.Reads.Post (λ M. match.Met.met) (λ κ a x e p. λ i. record { number = p.0 i; numbers = p.1 i });
      match_total = owing match_total.Reads.Post (λ M. match_total.Met.met) (λ κ a x e p. λ i. record { number = p.0 i; numbers = p.1 i });
      match_written = owing match_written.Reads.Post (λ M. match_written.Met.met) (λ κ a x e p. λ i. record { number = p.0 i; numbers = p.1 i });
      match_results = owing match_results.Reads.Post (λ M. match_results.Met.met) (λ κ a x e p. λ i. record { report = record { answer = p.0.0 i; results = p.0.1 i }; numbers = p.1 i });
      create = owing create.Reads.Post (λ M. create.Met.met) (λ κ a x e p. λ i. record { answer = p.0 i; image = p.1 i });
      begin = owing begin.Reads.Post (λ M. begin.Met.met) (λ κ a x e p. λ i. record { answer = p.0 i; image = p.1 i });
      checkpoint = owing checkpoint.Reads.Post (λ M. checkpoint.Met.met) (λ κ a x e p. λ i. record { answer = p.0 i; image = p.1 i });
      invalidate = owing invalidate.Reads.Post (λ M. invalidate.Met.met) (λ κ a x e p. λ i. record { answer = p.0 i; image = p.1 i });
      set_user_fields = owing set_user_fields.Reads.Post (λ M. set_user_fields.Met.met) (λ κ a x e p. λ i. record { answer = p.0 i; image = p.1 i });
      commit = owing commit.Reads.Post (λ M. commit.Met.met) (λ κ a x e p. λ i. record { answer = p.0 i; image = p.1 i });
      revision_order = owing revision_order.Reads.Post (λ M. revision_order.Met.met) (λ κ a x e p. p);
      revision_distance = owing revision_distance.Reads.Post (λ M. revision_distance.Met.met) (λ κ a x e p. p);
      fnv1a64 = owing fnv1a64.Reads.Post (λ M. fnv1a64.Met.met) (λ κ a x e p. p);
      crc32c = owing crc32c.Reads.Post (λ M. crc32c.Met.met) (λ κ a x e p. p);
    }
