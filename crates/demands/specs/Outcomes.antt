-- "Prove that any two outcomes allowed by a promise coincide": of the calls, and of the public functions that they are made of.
-- Assumes nothing.
use Rattle.std.specs.Prelude.{ℕ, ◌≡◌, List, Result, Ok, Err}
use Rattle.std.specs.declared.clone.Clone.{Ghosts}
use mir.Syntax.{Dict}
use denote.RattleType.{RattleType}
use denote.Param.Laws.{Laws, IsCopy}
use denote.Triple.Entry.{Args, Res}
use denote.Triple.Clauses.{Ended, AtExit}
use Rattle.header.specs.declared.refusal.Refusal.{Refusal}
use Rattle.header.specs.declared.shape.Layout.{Layout}
use Rattle.header.specs.declared.shape.Shape.{Shape}
use Rattle.image.specs.declared.table.Image.{Image}
use Rattle.demands.specs.Owes.{Lifetimes, arg1}
use Rattle.numbers.proofs.parts.same_bytes.Reads as same_bytes_reads
use Rattle.numbers.proofs.parts.comes_before.Reads as comes_before_reads
use Rattle.numbers.proofs.parts.all_zero.Reads as all_zero_reads
use Rattle.numbers.proofs.parts.copy_to.Reads as copy_to_reads
use Rattle.numbers.proofs.parts.clear.Reads as clear_reads
use Rattle.numbers.proofs.words.u32_at.Reads as u32_at_reads
use Rattle.numbers.proofs.words.u64_at.Reads as u64_at_reads
use Rattle.numbers.proofs.words.signed_of.Reads as signed_of_reads
use Rattle.numbers.proofs.words.put_u32.Reads as put_u32_reads
use Rattle.numbers.proofs.words.put_u64.Reads as put_u64_reads
use Rattle.digests.proofs.crc.crc32c_of.Reads as crc32c_of_reads
use Rattle.digests.proofs.crc.header_crc.Reads as header_crc_reads
use Rattle.digests.proofs.fnv.fnv1a64_of.Reads as fnv1a64_of_reads
use Rattle.header.proofs.refusal.Refusal.number.Reads as number_reads
use Rattle.header.proofs.refusal.number_of.Reads as number_of_reads
use Rattle.header.proofs.refusal.refuse_if.Reads as refuse_if_reads
use Rattle.header.proofs.fields.field_of.Reads as field_of_reads
use Rattle.header.proofs.fields.bytes_in.Reads as bytes_in_reads
use Rattle.header.proofs.fields.read.Reads as read_reads
use Rattle.header.proofs.judge.judge.Reads as judge_reads
use Rattle.header.proofs.judge.options_test.Reads as options_test_reads
use Rattle.header.proofs.judge.create_options_test.Reads as create_options_test_reads
use Rattle.header.proofs.options.bench.Reads as bench_reads
use Rattle.header.proofs.sizes.sizes_to_open.Reads as sizes_to_open_reads
use Rattle.header.proofs.sizes.sizes_to_create.Reads as sizes_to_create_reads
use Rattle.header.proofs.sizes.capacity_fits.Reads as capacity_fits_reads
use Rattle.header.proofs.sizes.align8.Reads as align8_reads
use Rattle.header.proofs.sizes.slot_size.Reads as slot_size_reads
use Rattle.header.proofs.sizes.bucket_count.Reads as bucket_count_reads
use Rattle.header.proofs.sizes.buckets_offset.Reads as buckets_offset_reads
use Rattle.header.proofs.sizes.total_size.Reads as total_size_reads
use Rattle.image.proofs.table.slot_at.Reads as slot_at_reads
use Rattle.image.proofs.table.bucket_at.Reads as bucket_at_reads
use Rattle.image.proofs.table.meta_of.Reads as meta_of_reads
use Rattle.image.proofs.table.key_of.Reads as key_of_reads
use Rattle.image.proofs.table.revision_of.Reads as revision_of_reads
use Rattle.image.proofs.table.index_of.Reads as index_of_reads
use Rattle.image.proofs.table.hash64_of.Reads as hash64_of_reads
use Rattle.image.proofs.table.slot_plus1_of.Reads as slot_plus1_of_reads
use Rattle.image.proofs.table.home_bucket.Reads as home_bucket_reads
use Rattle.image.proofs.table.next_bucket.Reads as next_bucket_reads
use Rattle.image.proofs.table.Image.open.Reads as open_reads
use Rattle.image.proofs.table.Image.meta_of.Reads as image_meta_of_reads
use Rattle.image.proofs.table.Image.key_of.Reads as image_key_of_reads
use Rattle.image.proofs.table.Image.revision_of.Reads as image_revision_of_reads
use Rattle.image.proofs.table.Image.index_of.Reads as image_index_of_reads
use Rattle.image.proofs.table.Image.bucket_of.Reads as bucket_of_reads
use Rattle.image.proofs.table.Image.home_bucket.Reads as image_home_bucket_reads
use Rattle.image.proofs.table.Image.next_bucket.Reads as image_next_bucket_reads
use Rattle.image.proofs.table.Image.probe_hashed.Reads as probe_hashed_reads
use Rattle.image.proofs.table.Image.probe_for.Reads as probe_for_reads
use Rattle.image.proofs.table.Image.passes_check.Reads as passes_check_reads
use Rattle.image.proofs.probe.Report.free_bucket.Reads as free_bucket_reads
use Rattle.writing.proofs.fields.write.Reads as write_reads
use Rattle.writing.proofs.fields.seal.Reads as seal_reads
use Rattle.writing.proofs.judge.judge_writer.Reads as judge_writer_reads
use Rattle.writing.proofs.judge.judge_change.Reads as judge_change_reads
use Rattle.slots.proofs.slots.rewrite.Reads as rewrite_reads
use Rattle.slots.proofs.slots.remove.Reads as remove_reads
use Rattle.slots.proofs.slots.append.Reads as append_reads
use Rattle.slots.proofs.slots.rebuild.Reads as rebuild_reads
use Rattle.slots.proofs.slots.publish.Reads as publish_reads
use Rattle.batch.proofs.batch.Record.meta.Reads as meta_in_reads
use Rattle.batch.proofs.batch.Record.is_put.Reads as is_put_reads
use Rattle.batch.proofs.batch.Record.key.Reads as key_in_reads
use Rattle.batch.proofs.batch.Batch.record_count.Reads as record_count_reads
use Rattle.batch.proofs.batch.Batch.record.Reads as record_reads
use Rattle.batch.proofs.batch.Batch.record_key.Reads as record_key_reads
use Rattle.batch.proofs.batch.Batch.is_wrong.Reads as batch_wrong_reads
use Rattle.batch.proofs.batch.Batch.some_delete.Reads as some_delete_reads
use Rattle.batch.proofs.decided.hash_keys.Reads as hash_keys_reads
use Rattle.batch.proofs.decided.Hashed.flag_deciding.Reads as flag_deciding_reads
use Rattle.batch.proofs.listed.Listed.key.Reads as listed_key_reads
use Rattle.batch.proofs.listed.Listed.is_in_order.Reads as is_in_order_reads
use Rattle.batch.proofs.new_keys.Turn.is_live.Reads as is_live_reads
use Rattle.batch.proofs.new_keys.Turn.is_new.Reads as is_new_reads
use Rattle.batch.proofs.new_keys.Order.listed.Reads as listed_reads
use Rattle.batch.proofs.new_keys.order_new_keys.Reads as order_new_keys_reads
use Rattle.applying.proofs.apply.apply.Reads as apply_reads

-- A promise speaks of the arguments, the result and what is lent at the return; `outcome` picks what a caller sees.
abbrev pub One : {K : Type 0} {Arguments Result Exit : K → Type 0} {Outcome : Type 0}
    → ((κ : K) → Arguments κ → Result κ → Exit κ → Type 0) → ((κ : K) → Result κ → Exit κ → Outcome) → Type 0
One {K} {Arguments} {Result} {Exit} promise outcome =
    (κ : K) (a : Arguments κ) (x y : Result κ) (e f : Exit κ) → promise κ a x e → promise κ a y f → outcome κ x e ≡ outcome κ y f

-- an image that was opened, as a caller sees it: its bytes and its shape, or why it is refused
abbrev pub seen : Result Image Refusal → Result (List ℕ × Shape) Refusal
seen (Ok i) = Ok (i.bytes.now, i.shape)
seen (Err r) = Err r

pub record Outcomes : Type 2 where
  -- what a call owes (`Owes`): an outcome that is a definition's
  pub owed : {Outcome : Type 0} (f : Ended) (outcome : (κ : Lifetimes f) → Res f.signature κ → AtExit f κ → Outcome)
      (definition : (κ : Lifetimes f) → Args f.signature κ → Outcome)
      → One (λ κ a x e. outcome κ x e ≡ definition κ a) outcome
  -- numbers, parts
  pub same_bytes : One same_bytes_reads.Post (λ κ x e. x)
  pub comes_before : One comes_before_reads.Post (λ κ x e. x)
  pub all_zero_outcome : One all_zero_reads.Post (λ κ x e. x)
  pub copy_to :
      (T : RattleType) (laws : Laws T) (copied : IsCopy T) (clone : Ghosts T.Denot) (code : Dict)
      → One (copy_to_reads.Post T laws copied clone code) (λ κ x e. (arg1 e).now)
  pub clear : One clear_reads.Post (λ κ x e. (arg1 e).now)
  -- numbers, words
  pub u32_at : One u32_at_reads.Post (λ κ x e. x)
  pub u64_at : One u64_at_reads.Post (λ κ x e. x)
  pub signed_of : One signed_of_reads.Post (λ κ x e. x)
  pub put_u32 : One put_u32_reads.Post (λ κ x e. (arg1 e).now)
  pub put_u64 : One put_u64_reads.Post (λ κ x e. (arg1 e).now)
  -- digests, crc
  pub crc32c_of : One crc32c_of_reads.Post (λ κ x e. x)
  pub header_crc_outcome : One header_crc_reads.Post (λ κ x e. x)
  -- digests, fnv
  pub fnv1a64_of : One fnv1a64_of_reads.Post (λ κ x e. x)
  -- header, refusal
  pub number_outcome : One number_reads.Post (λ κ x e. x)
  pub number_of : (T : RattleType) (laws : Laws T) → One (number_of_reads.Post T laws) (λ κ x e. x)
  pub refuse_if : One refuse_if_reads.Post (λ κ x e. x)
  -- header, fields
  pub field_of_outcome : One field_of_reads.Post (λ κ x e. x)
  pub read : One read_reads.Post (λ κ x e. x)
  pub bytes_in_outcome : One bytes_in_reads.Post (λ κ x e. x.now)
  -- header, judge
  pub judge : One judge_reads.Post (λ κ x e. x)
  pub options_test_outcome : One options_test_reads.Post (λ κ x e. x)
  pub create_options_test : One create_options_test_reads.Post (λ κ x e. x)
  -- header, options
  pub bench : One bench_reads.Post (λ κ x e. x)
  -- header, sizes
  pub sizes_to_open_outcome : One sizes_to_open_reads.Post (λ κ x e. x)
  pub sizes_to_create_outcome : One sizes_to_create_reads.Post (λ κ x e. x)
  pub capacity_fits_outcome : One capacity_fits_reads.Post (λ κ x e. x)
  pub align8 : One align8_reads.Post (λ κ x e. x)
  pub slot_size_outcome : One slot_size_reads.Post (λ κ x e. x)
  pub bucket_count_outcome : One bucket_count_reads.Post (λ κ x e. x)
  pub buckets_offset_outcome : One buckets_offset_reads.Post (λ κ x e. x)
  pub total_size : One total_size_reads.Post (λ κ x e. x)
  -- image, table
  pub slot_at_outcome : One slot_at_reads.Post (λ κ x e. x)
  pub bucket_at_outcome : One bucket_at_reads.Post (λ κ x e. x)
  pub meta_of_outcome : One meta_of_reads.Post (λ κ x e. x)
  pub key_of_outcome : One key_of_reads.Post (λ κ x e. x.now)
  pub revision_of_outcome : One revision_of_reads.Post (λ κ x e. x)
  pub index_of : One index_of_reads.Post (λ κ x e. x.now)
  pub hash64_of : One hash64_of_reads.Post (λ κ x e. x)
  pub slot_plus1_of : One slot_plus1_of_reads.Post (λ κ x e. x)
  pub home_bucket : One home_bucket_reads.Post (λ κ x e. x)
  pub next_bucket : One next_bucket_reads.Post (λ κ x e. x)
  pub «open» : One open_reads.Post (λ κ x e. seen x)
  pub image_meta_of : One image_meta_of_reads.Post (λ κ x e. x)
  pub image_key_of : One image_key_of_reads.Post (λ κ x e. x.now)
  pub image_revision_of : One image_revision_of_reads.Post (λ κ x e. x)
  pub image_index_of : One image_index_of_reads.Post (λ κ x e. x.now)
  pub bucket_of_outcome : One bucket_of_reads.Post (λ κ x e. x)
  pub image_home_bucket : One image_home_bucket_reads.Post (λ κ x e. x)
  pub image_next_bucket : One image_next_bucket_reads.Post (λ κ x e. x)
  pub probe_hashed : One probe_hashed_reads.Post (λ κ x e. x)
  pub probe_for : One probe_for_reads.Post (λ κ x e. x)
  pub passes_check : One passes_check_reads.Post (λ κ x e. x)
  -- image, probe
  pub free_bucket : One free_bucket_reads.Post (λ κ x e. x)
  -- writing, fields
  pub write : One write_reads.Post (λ κ x e. (arg1 e).now)
  pub seal : One seal_reads.Post (λ κ x e. (arg1 e).now)
  -- writing, judge
  pub judge_writer : One judge_writer_reads.Post (λ κ x e. x)
  pub judge_change : One judge_change_reads.Post (λ κ x e. x)
  -- slots, slots
  pub rewrite : One rewrite_reads.Post (λ κ x e. (arg1 e).now)
  pub remove : One remove_reads.Post (λ κ x e. (arg1 e).now)
  pub append : One append_reads.Post (λ κ x e. (arg1 e).now)
  pub rebuild : One rebuild_reads.Post (λ κ x e. (arg1 e).now)
  pub publish : One publish_reads.Post (λ κ x e. (arg1 e).now)
  -- batch, batch
  pub meta_in_outcome : One meta_in_reads.Post (λ κ x e. x)
  pub is_put : One is_put_reads.Post (λ κ x e. x)
  pub key_in : One key_in_reads.Post (λ κ x e. x.now)
  pub record_count_outcome : One record_count_reads.Post (λ κ x e. x)
  pub «record» : One {Outcome = List ℕ × Layout} record_reads.Post (λ κ x e. (x.bytes.now, x.layout))
  pub record_key_outcome : One record_key_reads.Post (λ κ x e. x.now)
  pub batch_wrong_outcome : One batch_wrong_reads.Post (λ κ x e. x)
  pub some_delete_outcome : One some_delete_reads.Post (λ κ x e. x)
  -- batch, decided
  pub hash_keys : One hash_keys_reads.Post (λ κ x e. x)
  pub flag_deciding : One flag_deciding_reads.Post (λ κ x e. x)
  -- batch, listed
  pub listed_key : One listed_key_reads.Post (λ κ x e. x.now)
  pub is_in_order : One is_in_order_reads.Post (λ κ x e. x)
  -- batch, new_keys
  pub is_live : One is_live_reads.Post (λ κ x e. x)
  pub is_new : One is_new_reads.Post (λ κ x e. x)
  pub listed : One listed_reads.Post (λ κ x e. x.now)
  pub order_new_keys : One order_new_keys_reads.Post (λ κ x e. x)
  -- applying, apply
  pub apply : One apply_reads.Post (λ κ x e. (arg1 e).now)
