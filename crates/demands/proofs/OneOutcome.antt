-- One outcome: what follows from the inputs alone coincides.
-- Assumes nothing.
use Prim.Native.Nat.{ℕ}
use mathlib.Core.Bool.{cond}
use mathlib.Core.Path.{◌≡◌, refl, sym, ap, subst, ◌∙◌}
use mathlib.Core.List.{List}
use lib.Dec.{eqb}
use Rattle.std.specs.Prelude.{Result, Ok, Err, IfOk}
use Rattle.probing.specs.Table.{Bucket, EMPTY, TOMBSTONE, FULL}
use Rattle.header.specs.declared.refusal.Refusal.{Refusal}
use Rattle.header.specs.declared.refusal.Refusal.TheVariants as refusals
use Rattle.header.specs.declared.refusal.Refusal.TheVariants.{NeedsRebuild, Incompatible, Invalidated, Busy, OutOfOrder, InvalidInput, NotPresent, CreateIt, TooShort}
use Rattle.header.specs.declared.shape.Shape.{Shape}
use Rattle.header.specs.Answer.{needs_rebuild, incompatible, invalidated, busy, full, out_of_order, invalid_input, not_present, create_it, number, answer}
use Rattle.header.proofs.Firsts.{number_not_done}
use Rattle.image.specs.declared.table.Bucket as code
use Rattle.image.specs.declared.table.Bucket.TheVariants.{Empty, Tombstone, Full}
use Rattle.image.specs.declared.table.Image.{Image}
use Rattle.image.specs.Told.{bucket_read}
use Rattle.batch.specs.declared.new_keys.Order.{Order}
use Rattle.batch.specs.Notes.{NotedAs, Noted}
use Rattle.batch.proofs.Noted.{noted_same}
use Rattle.batch.proofs.Orders.{order_same}
use Rattle.demands.specs.Outcomes.{One, seen, Outcomes}

-- outcomes that are one definition's coincide
follows_one :
    {K : Type 0} {Arguments Result Exit : K → Type 0} {Outcome : Type 0}
    {promise : (κ : K) → Arguments κ → Result κ → Exit κ → Type 0} {outcome : (κ : K) → Result κ → Exit κ → Outcome}
    {definition : (κ : K) → Arguments κ → Outcome}
    → ((κ : K) (a : Arguments κ) (x : Result κ) (e : Exit κ) → promise κ a x e → outcome κ x e ≡ definition κ a)
    → One promise outcome
follows_one follows κ a x y e f p q = follows κ a x e p ∙ sym (follows κ a y f q)

-- lists in which the same is noted coincide
noted_one :
    {X : Type 0} {none : X} {K : Type 0} {Arguments Exit : K → Type 0} {after : (κ : K) → Arguments κ → List X → Exit κ → Type 0}
    {f : (κ : K) → Arguments κ → ℕ → X} {n : (κ : K) → Arguments κ → ℕ}
    → ((κ : K) (a : Arguments κ) (x : List X) (e : Exit κ) → after κ a x e → NotedAs none (f κ a) (n κ a) x)
    → One after (λ κ x e. x)
noted_one notes κ a x y e g p q = noted_same (notes κ a x e p) (notes κ a y g q)

-- and so do orders of so many records
ordered_one :
    {K : Type 0} {Arguments Exit : K → Type 0} {after : (κ : K) → Arguments κ → Order → Exit κ → Type 0}
    {f : (κ : K) → Arguments κ → ℕ → ℕ} {n : (κ : K) → Arguments κ → ℕ}
    → ((κ : K) (a : Arguments κ) (x : Order) (e : Exit κ) → after κ a x e → (x.count ≡ n κ a) × Noted (f κ a) x.count x.records)
    → One after (λ κ x e. x)
ordered_one {f} orders κ a x y e g p q =
    let u = orders κ a x e p in
    let v = orders κ a y g q in
    let count = u.0 ∙ sym v.0 in
    order_same x y count (noted_same (subst (λ (n : ℕ). Noted (f κ a) n x.records) count u.1) v.1)

-- a refusal is told by its number
abbrev refusal_of : ℕ → Refusal
refusal_of n =
    cond (eqb n needs_rebuild) NeedsRebuild
    (cond (eqb n incompatible) Incompatible
    (cond (eqb n invalidated) Invalidated
    (cond (eqb n busy) Busy
    (cond (eqb n full) refusals.Full
    (cond (eqb n out_of_order) OutOfOrder
    (cond (eqb n invalid_input) InvalidInput
    (cond (eqb n not_present) NotPresent
    (cond (eqb n create_it) CreateIt TooShort))))))))

numbered_back : (r : Refusal) → refusal_of (number r) ≡ r
numbered_back NeedsRebuild = refl
numbered_back Incompatible = refl
numbered_back Invalidated = refl
numbered_back Busy = refl
numbered_back refusals.Full = refl
numbered_back OutOfOrder = refl
numbered_back InvalidInput = refl
numbered_back NotPresent = refl
numbered_back CreateIt = refl
numbered_back TooShort = refl

same_refusal : (r s : Refusal) → number r ≡ number s → r ≡ s
same_refusal r s e = sym (numbered_back r) ∙ ap refusal_of e ∙ numbered_back s

-- results with the same number, which give the same where they are done, coincide
same_result : {A : Type 0} (a : A) (x y : Result A Refusal) → answer x ≡ answer y → IfOk x (λ b. b ≡ a) → IfOk y (λ b. b ≡ a) → x ≡ y
same_result a (Ok b) (Ok c) e p q = ap Ok (p ∙ sym q)
same_result a (Ok b) (Err s) e p q = absurd (number_not_done s (sym e))
same_result a (Err r) (Ok c) e p q = absurd (number_not_done r e)
same_result a (Err r) (Err s) e p q = ap Err (same_refusal r s e)

given_one :
    {A K : Type 0} {Arguments Exit : K → Type 0} {after : (κ : K) → Arguments κ → Result A Refusal → Exit κ → Type 0}
    {n : (κ : K) → Arguments κ → ℕ} {given : (κ : K) → Arguments κ → A}
    → ((κ : K) (a : Arguments κ) (x : Result A Refusal) (e : Exit κ) → after κ a x e → (answer x ≡ n κ a) × IfOk x (λ b. b ≡ given κ a))
    → One after (λ κ x e. x)
given_one {given} told κ a x y e g p q =
    let u = told κ a x e p in
    let v = told κ a y g q in
    same_result (given κ a) x y (u.0 ∙ sym v.0) u.1 v.1

-- of a test, the number is all
tested : (x : Result Unit Refusal) → IfOk x (λ b. b ≡ tt)
tested (Ok b) = refl
tested (Err r) = tt

answered_one :
    {K : Type 0} {Arguments Exit : K → Type 0} {after : (κ : K) → Arguments κ → Result Unit Refusal → Exit κ → Type 0}
    {n : (κ : K) → Arguments κ → ℕ}
    → ((κ : K) (a : Arguments κ) (x : Result Unit Refusal) (e : Exit κ) → after κ a x e → answer x ≡ n κ a)
    → One after (λ κ x e. x)
answered_one told κ a x y e g p q = same_result tt x y (told κ a x e p ∙ sym (told κ a y g q)) (tested x) (tested y)

-- an image that was opened
seen_as : (bytes : List ℕ) (s : Shape) (x : Result Image Refusal) → IfOk x (λ i. i.bytes.now ≡ bytes) → IfOk x (λ i. i.shape ≡ s)
    → IfOk (seen x) (λ b. b ≡ (bytes, s))
seen_as bytes s (Ok i) p q = λ j. (p j, q j)
seen_as bytes s (Err r) p q = tt

seen_answer : (x : Result Image Refusal) → answer (seen x) ≡ answer x
seen_answer (Ok i) = refl
seen_answer (Err r) = refl

seen_one :
    {K : Type 0} {Arguments Exit : K → Type 0} {after : (κ : K) → Arguments κ → Result Image Refusal → Exit κ → Type 0}
    {n : (κ : K) → Arguments κ → ℕ} {bytes : (κ : K) → Arguments κ → List ℕ} {s : (κ : K) → Arguments κ → Shape}
    → ((κ : K) (a : Arguments κ) (x : Result Image Refusal) (e : Exit κ) → after κ a x e
    → (answer x ≡ n κ a) × (IfOk x (λ i. i.bytes.now ≡ bytes κ a) × IfOk x (λ i. i.shape ≡ s κ a)))
    → One after (λ κ x e. seen x)
seen_one {bytes} {s} told κ a x y e g p q =
    let u = told κ a x e p in
    let v = told κ a y g q in
    same_result (bytes κ a, s κ a) (seen x) (seen y) (seen_answer x ∙ u.0 ∙ sym v.0 ∙ sym (seen_answer y)) (seen_as _ _ x u.1.0 u.1.1) (seen_as _ _ y v.1.0 v.1.1)

-- a bucket that was read is that one
abbrev bucket_back : Bucket → code.Bucket
bucket_back EMPTY = Empty
bucket_back TOMBSTONE = Tombstone
bucket_back (FULL hash64 slot) = Full hash64 slot

read_back : (b : code.Bucket) → bucket_back (bucket_read b) ≡ b
read_back Empty = refl
read_back Tombstone = refl
read_back (Full hash64 slot) = refl

bucket_one :
    {K : Type 0} {Arguments Exit : K → Type 0} {after : (κ : K) → Arguments κ → code.Bucket → Exit κ → Type 0}
    {given : (κ : K) → Arguments κ → Bucket}
    → ((κ : K) (a : Arguments κ) (x : code.Bucket) (e : Exit κ) → after κ a x e → bucket_read x ≡ given κ a)
    → One after (λ κ x e. x)
bucket_one told κ a x y e g p q = sym (read_back x) ∙ ap bucket_back (told κ a x e p ∙ sym (told κ a y g q)) ∙ read_back y

pub outcomes : Outcomes
outcomes =
    record {
      owed = λ f outcome definition. follows_one (λ κ a x e p. p);
      same_bytes = follows_one (λ κ a x e p. p);
      comes_before = follows_one (λ κ a x e p. p);
      all_zero_outcome = follows_one (λ κ a x e p. p);
      copy_to = λ T laws copied clone code. follows_one (λ κ a x e p. p);
      clear = follows_one (λ κ a x e p. p);
      u32_at = follows_one (λ κ a x e p. p);
      u64_at = follows_one (λ κ a x e p. p);
      signed_of = follows_one (λ κ a x e p. p);
      put_u32 = follows_one (λ κ a x e p. p);
      put_u64 = follows_one (λ κ a x e p. p);
      crc32c_of = follows_one (λ κ a x e p. p);
      header_crc_outcome = follows_one (λ κ a x e p. p);
      fnv1a64_of = follows_one (λ κ a x e p. p);
      number_outcome = follows_one (λ κ a x e p. p);
      number_of = λ T laws. follows_one (λ κ a x e p. p);
      refuse_if = answered_one (λ κ a x e p. p);
      field_of_outcome = follows_one (λ κ a x e p. p);
      read = follows_one (λ κ a x e p. p);
      bytes_in_outcome = follows_one (λ κ a x e p. p.0);
      judge = given_one (λ κ a x e p. p);
      options_test_outcome = answered_one (λ κ a x e p. p);
      create_options_test = answered_one (λ κ a x e p. p);
      bench = follows_one (λ κ a x e p. p);
      sizes_to_open_outcome = follows_one (λ κ a x e p. p);
      sizes_to_create_outcome = follows_one (λ κ a x e p. p);
      capacity_fits_outcome = follows_one (λ κ a x e p. p);
      align8 = follows_one (λ κ a x e p. p);
      slot_size_outcome = follows_one (λ κ a x e p. p);
      bucket_count_outcome = follows_one (λ κ a x e p. p);
      buckets_offset_outcome = follows_one (λ κ a x e p. p);
      total_size = follows_one (λ κ a x e p. p);
      slot_at_outcome = follows_one (λ κ a x e p. p);
      bucket_at_outcome = follows_one (λ κ a x e p. p);
      meta_of_outcome = follows_one (λ κ a x e p. p);
      key_of_outcome = follows_one (λ κ a x e p. p);
      revision_of_outcome = follows_one (λ κ a x e p. p);
      index_of = follows_one (λ κ a x e p. p);
      hash64_of = follows_one (λ κ a x e p. p);
      slot_plus1_of = follows_one (λ κ a x e p. p);
      home_bucket = follows_one (λ κ a x e p. p);
      next_bucket = follows_one (λ κ a x e p. p);
      «open» = seen_one (λ κ a x e p. p);
      image_meta_of = follows_one (λ κ a x e p. p);
      image_key_of = follows_one (λ κ a x e p. p);
      image_revision_of = follows_one (λ κ a x e p. p);
      image_index_of = follows_one (λ κ a x e p. p);
      bucket_of_outcome = bucket_one (λ κ a x e p. p);
      image_home_bucket = follows_one (λ κ a x e p. p);
      image_next_bucket = follows_one (λ κ a x e p. p);
      probe_hashed = follows_one (λ κ a x e p. p);
      probe_for = follows_one (λ κ a x e p. p);
      passes_check = follows_one (λ κ a x e p. p);
      free_bucket = follows_one (λ κ a x e p. p);
      write = follows_one (λ κ a x e p. p);
      seal = follows_one (λ κ a x e p. p);
      judge_writer = given_one (λ κ a x e p. p);
      judge_change = given_one (λ κ a x e p. p);
      rewrite = follows_one (λ κ a x e p. p);
      remove = follows_one (λ κ a x e p. p);
      append = follows_one (λ κ a x e p. p);
      rebuild = follows_one (λ κ a x e p. p);
      publish = follows_one (λ κ a x e p. p);
      meta_in_outcome = follows_one (λ κ a x e p. p);
      is_put = follows_one (λ κ a x e p. p);
      key_in = follows_one (λ κ a x e p. p);
      record_count_outcome = follows_one (λ κ a x e p. p);
      «record» = follows_one (λ κ a x e p. λ i. (p.0 i, p.1 i));
      record_key_outcome = follows_one (λ κ a x e p. p);
      batch_wrong_outcome = follows_one (λ κ a x e p. p);
      some_delete_outcome = follows_one (λ κ a x e p. p);
      hash_keys = noted_one (λ κ a x e p. p);
      flag_deciding = noted_one (λ κ a x e p. p);
      listed_key = follows_one (λ κ a x e p. p);
      is_in_order = follows_one (λ κ a x e p. p);
      is_live = follows_one (λ κ a x e p. p);
      is_new = follows_one (λ κ a x e p. p);
      listed = follows_one (λ κ a x e p. p);
      order_new_keys = ordered_one (λ κ a x e p. p);
      apply = follows_one (λ κ a x e p. p);
    }
