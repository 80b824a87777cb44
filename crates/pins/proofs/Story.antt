-- The stories as histories, and what lookup and open check then answer, by demand 2.
-- Assumes nothing.
use Prim.Native.Nat.{ℕ, zero, suc}
use mathlib.Core.Bool.{Bool, true, ◌&&◌, and-eq-true_iff}
use mathlib.Core.Path.{◌≡◌, refl, ap, subst}
use mathlib.Core.List.{List, [], ◌∷◌}
use native.Mathlib.Omega.{arith}
use borrow.Author.Tests.{ltb-true}
use lib.Dec.{lit<, ltb}
use lib.IntN.{pos, negsuc}
use Rattle.numbers.specs.Bytes.{part, word, bytes_of, same, Bytes}
use Rattle.numbers.specs.Signed.{signed}
use Rattle.header.specs.declared.options.Options.{Options}
use Rattle.header.specs.declared.open.UserFields.{UserFields}
use Rattle.header.specs.Answer.{done}
use Rattle.header.specs.Fields.{bytes_in, value}
use Rattle.header.specs.HeaderTest.{layout_of, shape_of}
use Rattle.header.specs.Open.{user_fields, no_fields, open_of}
use Rattle.header.specs.Sizes.{align8}
use Rattle.image.specs.Check.{Checked}
use Rattle.writing.specs.Write.{Written}
use Rattle.writing.specs.Create.{create_of}
use Rattle.writing.specs.State.{begin_of}
use Rattle.batch.specs.Batch.{record_count, record_at, meta_in, key_in}
use Rattle.soundness.specs.Commit.{commit_of}
use Rattle.maps.specs.Map.{Map, entry_in, acts_on, applied_to, applied}
use Rattle.demands.specs.Demand2.{ReadsBack}
use Rattle.demands.specs.History.{Word, writer, empty_map, read_by, fresh_in, History, created, adopted, begun, checkpointed, marked, committed, commit_refused}
use Rattle.demands.specs.Owes.{written}
use Rattle.pins.specs.Story as S
use Rattle.pins.specs.Story.{Story}
use Rattle.pins.specs.OrderedStory as O
use Rattle.pins.specs.OrderedStory.{OrderedStory}
use Rattle.pins.specs.PartnerStory as P
use Rattle.pins.specs.PartnerStory.{PartnerStory}
use Rattle.demands.proofs.Demand2.{demand2}
use Rattle.pins.proofs.StoriesComputed.{steps, ordered_steps, partner_steps}

-- what is written out is bytes, as each number in it shows
abbrev all_bytes : List ℕ → Bool
all_bytes [] = true
all_bytes (x ∷ xs) = ltb x 256 && all_bytes xs

are_bytes : (xs : List ℕ) → all_bytes xs ≡ true → Bytes xs
are_bytes [] e i = lit< tt
are_bytes (x ∷ xs) e zero = ltb-true x 256 ((and-eq-true_iff (ltb x 256) (all_bytes xs)).0 e).0
are_bytes (x ∷ xs) e (suc i) = are_bytes xs ((and-eq-true_iff (ltb x 256) (all_bytes xs)).0 e).1 i

answers : {x y : Written} → x ≡ y → x.answer ≡ y.answer
answers e = ap (λ (x : Written). x.answer) e

module _ {o : Options} where
  -- a history goes on to the image that its last call is known to leave
  leaves : {m : Map} {fields : UserFields} {x y : Written} → x ≡ y → History o x.image m fields → History o y.image m fields
  leaves {m} {fields} e h = subst (λ (x : Written). History o x.image m fields) e h

  begins : {image after : List ℕ} (buffer : List ℕ) → Word o.user_version → (create_of (writer o) buffer).answer ≡ done
      → fresh_in (writer o) buffer ≡ image → begin_of (writer o) image ≡ written done after → History o after empty_map no_fields
  begins buffer version a fresh e =
      leaves e (begun (subst (λ (i : List ℕ). History o i empty_map no_fields) fresh (created 2 buffer version a)))

  commits : {image after : List ℕ} {m : Map} {fields : UserFields} (batch : List ℕ) → Bytes batch
      → commit_of (writer o) image batch ≡ written done after → History o image m fields
      → History o after (applied (shape_of image) batch m) fields
  commits batch b e h = leaves e (committed batch b h (answers e))

history1 : History S.options S.image1 empty_map no_fields
history1 = begins S.buffer (lit< tt) (answers steps.creates) steps.fresh steps.begins

history2 : History S.options S.image2 S.map2 no_fields
unfolding bytes_of
history2 = commits S.batch1 (are_bytes S.batch1 refl) steps.puts history1

history3 : History S.options S.image3 S.map2 S.fields
unfolding bytes_of
history3 =
    leaves steps.marks
    (marked S.fields (record { flags = lit< tt; size = refl; bytes = are_bytes (S.fields).user_data refl }) history2 (answers steps.marks))

history4 : History S.options S.image4 S.map4 S.fields
unfolding bytes_of
history4 = commits S.batch2 (are_bytes S.batch2 refl) steps.deletes history3

history5 : History S.options S.image5 S.map5 S.fields
unfolding bytes_of
history5 = commits S.batch3 (are_bytes S.batch3 refl) steps.puts_again history4

history6 : History S.options S.image6 S.map5 S.fields
history6 =
    let answer = answers steps.refuses in
    let unchanged = leaves steps.refuses (commit_refused S.batch4 history5 (λ a. omega (arith, a))) in
    leaves steps.closes (checkpointed unchanged)

during : ReadsBack S.options S.image4 S.map4 S.fields
during = demand2.reads history4 2 steps.writer_passes

at_the_end : ReadsBack S.reader S.image6 S.map5 S.fields
at_the_end = demand2.reads history6 0 steps.reader_passes

-- a map that batches made, read at a key
read : Unit {0}
unfolding applied applied_to acts_on entry_in record_count record_at meta_in key_in shape_of layout_of value bytes_in part word bytes_of same signed align8
read = tt

pub story : Story
unfolding read open_of
story =
    record {
      steps = steps;
      history4 = history4;
      deleted = during.lacks (72 ∷ []) refl refl;
      behind = during.has (64 ∷ []) (record { revision = pos 1; index = 10 ∷ [] }) refl;
      history = history6;
      again = at_the_end.has (72 ∷ []) (record { revision = negsuc 2; index = 30 ∷ [] }) refl;
      collided = at_the_end.has (64 ∷ []) (record { revision = pos 1; index = 10 ∷ [] }) refl;
      never = at_the_end.lacks (80 ∷ []) refl refl;
      opens = at_the_end.opens;
      closed = rw steps.given_up refl;
    }

ordered1 : History O.options O.image1 empty_map no_fields
ordered1 = begins O.buffer (lit< tt) (answers ordered_steps.creates) ordered_steps.fresh ordered_steps.begins

ordered2 : History O.options O.image2 O.map2 no_fields
unfolding bytes_of
ordered2 = commits O.batch1 (are_bytes O.batch1 refl) ordered_steps.puts ordered1

ordered3 : History O.options O.image3 O.map3 no_fields
unfolding bytes_of
ordered3 = commits O.batch2 (are_bytes O.batch2 refl) ordered_steps.deletes ordered2

ordered4 : History O.options O.image4 O.map4 no_fields
unfolding bytes_of
ordered4 =
    let answer = answers ordered_steps.refuses_order in
    let unchanged = leaves ordered_steps.refuses_order (commit_refused O.below_tail ordered3 (λ a. omega (arith, a))) in
    commits O.batch3 (are_bytes O.batch3 refl) ordered_steps.puts_last unchanged

ordered6 : History O.options O.image6 O.map5 no_fields
unfolding bytes_of
ordered6 =
    let answer = answers ordered_steps.refuses_full in
    let unchanged = leaves ordered_steps.refuses_full (commit_refused O.one_more ordered4 (λ a. omega (arith, a))) in
    leaves ordered_steps.closes (checkpointed (commits O.batch4 (are_bytes O.batch4 refl) ordered_steps.rebuilds unchanged))

before_rebuild : ReadsBack O.options O.image4 O.map4 no_fields
before_rebuild = demand2.reads ordered4 2 ordered_steps.writer_passes

after_rebuild : ReadsBack O.reader O.image6 O.map5 no_fields
after_rebuild = demand2.reads ordered6 0 ordered_steps.reader_passes

pub ordered_story : OrderedStory
unfolding read
ordered_story =
    record {
      steps = ordered_steps;
      history4 = ordered4;
      last = before_rebuild.has (0x80 ∷ 0x08 ∷ []) (record { revision = pos 4; index = 40 ∷ [] }) refl;
      never = before_rebuild.lacks (0x80 ∷ 0x01 ∷ []) refl refl;
      history = ordered6;
      lasting = after_rebuild.has (0x7F ∷ 0x03 ∷ []) (record { revision = pos 2; index = 20 ∷ [] }) refl;
      first_gone = after_rebuild.lacks (0x01 ∷ 0x09 ∷ []) refl refl;
      last_gone = after_rebuild.lacks (0x80 ∷ 0x08 ∷ []) refl refl;
    }

-- the partner's image with both keys is where its history begins
partner2 : History P.partner P.image2 (applied (shape_of P.image1) P.deletes (read_by P.partner P.image1)) (user_fields P.image1)
unfolding bytes_of
partner2 =
    let told = ap (λ (c : Checked). c.answer) partner_steps.checks in
    commits P.deletes (are_bytes P.deletes refl) partner_steps.rebuilds (adopted 2 P.image1 (are_bytes P.image1 refl) told)

partner_read : ReadsBack P.partner P.image2 (applied (shape_of P.image1) P.deletes (read_by P.partner P.image1)) (user_fields P.image1)
partner_read = demand2.reads partner2 2 partner_steps.passes

pub partner_story : PartnerStory
unfolding read
partner_story =
    record {
      steps = partner_steps;
      history = partner2;
      first_gone = partner_read.lacks (72 ∷ []) refl refl;
      second_gone = partner_read.lacks (64 ∷ []) refl refl;
    }
