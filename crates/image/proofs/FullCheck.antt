-- What the full check's answer 0 means: the header test passes and the table is well formed, which the laws of probing start
-- from; and what it returns beside.
-- Assumes nothing.
use Prim.Native.Nat.{ℕ, zero, suc, ◌+◌, ◌<◌}
use mathlib.Core.Path.{◌≡◌, refl, sym, ap, ◌∙◌}
use mathlib.Core.Bool.{true}
use mathlib.Core.Logic.{◌↔◌}
use mathlib.Core.List.{List}
use native.Mathlib.Omega.{arith}
use Rattle.probing.specs.Table.{Table, live_count, full_count, tombstone_count}
use Rattle.probing.specs.Check.{never_fall, probes}
use Rattle.probing.specs.Sound.{Sound}
use Rattle.probing.specs.Overflow.{homes_of, lawful}
use Rattle.probing.proofs.Checks.{passed_sound, sound_checks}
use Rattle.probing.proofs.Checks.Sentences.{ZeroOrOne, checks_passed}
use Rattle.probing.proofs.SumLaw.{sum_law}
use Rattle.header.specs.declared.options.Options.{Options}
use Rattle.header.specs.HeaderTest.{header_test, shape_of, after_test}
use Rattle.header.specs.Shaped.{Shaped}
use Rattle.header.proofs.Fit.{fit_shaped}
use Rattle.image.specs.Table.{table_of}
use Rattle.image.specs.Check.{Checked, failed, passes, check_in, check_of}
use Rattle.image.proofs.Passes.{check_passed, answer_passes}

-- the table of an image, by its own header
abbrev pub its_table : List ℕ → Table
its_table image = table_of (shape_of image) image

-- An image whose header passes the test and whose table is well formed, with the header's counts.
pub record Whole (o : Options) (image : List ℕ) : Type 0 where
  pub header : header_test o image ≡ 0
  pub sound : Sound (its_table image)
  pub metas : (n : ℕ) → n < (shape_of image).slot_highwater → ZeroOrOne (its_table image) n
  pub lives : live_count (its_table image) ≡ (shape_of image).live_count
  pub fulls : full_count (its_table image) ≡ (shape_of image).live_count
  pub tombs : tombstone_count (its_table image) ≡ (shape_of image).bucket_tombstones
  pub order : (shape_of image).layout.ordered ≡ true → never_fall (its_table image) ≡ true

-- the number of a refusal is not 0
header_passed : (n : ℕ) (c : Checked) → (after_test n c failed).answer ≡ 0 → n ≡ 0
header_passed zero c e = refl
header_passed (suc n) c e = e

module _ (o : Options) (image : List ℕ) where
  -- where the header test and every sentence pass, the image is whole
  pub passes_whole : header_test o image ≡ 0 → passes (shape_of image) image ≡ true → Whole o image
  unfolding passes table_of
  passes_whole h e =
      let s = shape_of image in
      let p = checks_passed (its_table image) s.layout.ordered s.live_count s.live_count s.bucket_tombstones e in
      let few = fewer (fit_shaped o image h) in
      record {
        header = h;
        sound = passed_sound (its_table image) s.layout.ordered s.live_count s.live_count s.bucket_tombstones p refl few;
        metas = p.metas;
        lives = p.lives;
        fulls = p.fulls;
        tombs = p.tombs;
        order = p.order;
      }
    where
      fewer : Shaped (shape_of image) image → (shape_of image).live_count + (shape_of image).bucket_tombstones < (shape_of image).layout.bucket_count
      fewer fit = omega (arith, fit.counters, fit.highwater, fit.laid.room)

  -- and the other way
  pub whole_passes : Whole o image → passes (shape_of image) image ≡ true
  unfolding passes table_of
  whole_passes w =
      let s = shape_of image in
      sound_checks (its_table image) s.layout.ordered s.live_count s.live_count s.bucket_tombstones
      w.sound w.metas w.lives w.fulls w.tombs w.order

  -- where the header test passes, buckets and slots decide
  after_passed : header_test o image ≡ 0 → check_of o image ≡ check_in (shape_of image) image
  unfolding check_of
  after_passed h = rw h

  -- Of a whole image the full check answers 0 and returns live, tombstones and the sum of lookup counts over live keys.
  pub whole_told :
      Whole o image
      → check_of o image
      ≡ record {
        answer = 0;
        live = live_count (its_table image);
        tombstones = tombstone_count (its_table image);
        probes = probes (its_table image);
      }
  whole_told w = after_passed w.header ∙ sym (check_passed (shape_of image) image (whole_passes w)) ∙ simp (w.lives, w.tombs)

  -- The full check answers 0 just for the images that are whole.
  pub full_check_law : ((check_of o image).answer ≡ 0) ↔ Whole o image
  unfolding check_of
  full_check_law = (λ e. whole e, λ w. ap (λ (c : Checked). c.answer) (whole_told w))
    where
      whole : (check_of o image).answer ≡ 0 → Whole o image
      whole e =
          let h = header_passed (header_test o image) (check_in (shape_of image) image) e in
          let z : (check_in (shape_of image) image).answer ≡ 0 = ap (λ (c : Checked). c.answer) (sym (after_passed h)) ∙ e in
          passes_whole h (sym (answer_passes (shape_of image) image) ∙ rw z)

  -- Without tombstones the sum that it returns is the number of live keys and every bucket's overflow.
  pub full_check_sum :
      (check_of o image).answer ≡ 0 → (check_of o image).tombstones ≡ 0
      → (check_of o image).probes ≡ lawful (its_table image).B (check_of o image).live (homes_of (its_table image))
  full_check_sum e clear =
      let w = full_check_law.0 e in
      let told = whole_told w in
      rw told (sum_law (its_table image) w.sound (rw told at clear))
