-- What is noted of a record, by what it depends on: its turn, and the bucket for its key.
-- Assumes nothing.
use Prim.Native.Nat.{ℕ}
use mathlib.Core.Path.{◌≡◌, refl, ap, ap₂, ◌∙◌}
use mathlib.Core.Bool.{Bool, true, false, cond, not}
use mathlib.Core.List.{List}
use lib.Dec.{eqb}
use Rattle.header.specs.declared.shape.Layout.{Layout}
use Rattle.header.specs.declared.shape.Shape.{Shape}
use Rattle.image.specs.declared.probe.Probe.{Probe}
use Rattle.image.specs.declared.probe.Report.{Report}
use Rattle.image.specs.Lookup.{is_found, is_live}
use Rattle.image.specs.Told.{report_of}
use Rattle.image.proofs.Looked.{heard, reported_end}
use Rattle.batch.specs.Batch.{record_at, meta_in, key_in, record_key, decides}
use Rattle.batch.specs.NewKeys.{is_new}
use Rattle.batch.specs.declared.new_keys.Turn.{Turn}
use Rattle.batch.specs.declared.new_keys.Turn.TheVariants.{Superseded, Live, New}
use Rattle.batch.specs.Notes.{turn_of, some_delete}
use Rattle.applying.specs.Prepared.{kept_place, noted_place}

-- record i, read by a layout that is that of the image: whether it is a put, and its key
module _ {l of_image : Layout} (same : l ≡ of_image) (batch : List ℕ) (i : ℕ) {r : List ℕ} (made : r ≡ record_at l batch i) where
  pub put_by : {put : Bool} → put ≡ eqb (meta_in r) 1 → put ≡ eqb (meta_in (record_at of_image batch i)) 1
  put_by e = e ∙ ap (λ (r : List ℕ). eqb (meta_in r) 1) (made ∙ ap (λ (l : Layout). record_at l batch i) same)

  pub key_by : {read : Layout} {key : List ℕ} → read ≡ l → key ≡ key_in read r → key ≡ record_key of_image batch i
  unfolding record_key
  key_by by e = e ∙ ap₂ key_in by made ∙ ap (λ (l : Layout). record_key l batch i) same

module _ (s : Shape) (image batch : List ℕ) (i : ℕ) where
  -- the turn of record i, and the bucket noted for it
  abbrev pub Noting : Turn → ℕ → Type 0
  Noting turn place = (turn ≡ turn_of s.layout (is_live s image) batch i) × (place ≡ noted_place s image batch i)

  -- what is equal to these is so too
  pub noting_as : {turn turn' : Turn} {place place' : ℕ} → (turn ≡ turn') × (place ≡ place') → Noting turn' place' → Noting turn place
  noting_as same noting = (same.0 ∙ noting.0, same.1 ∙ noting.1)

  -- a later record has the key
  pub not_deciding : decides s.layout batch i ≡ false → Noting Superseded 0
  unfolding turn_of noted_place is_new
  not_deciding e = (rw e, rw e)

  -- the record is no put
  pub no_put : decides s.layout batch i ≡ true → eqb (meta_in (record_at s.layout batch i)) 1 ≡ false → Noting Live 0
  unfolding turn_of noted_place is_new
  no_put e d = (rw (e, d), rw (e, d))

  -- else the report of its key's probe says it
  module _ (decide : decides s.layout batch i ≡ true) (put : eqb (meta_in (record_at s.layout batch i)) 1 ≡ true)
      (key : List ℕ) (k : key ≡ record_key s.layout batch i) (r : Report) (told : r ≡ report_of s image key) where
    pub by_report :
        (end : Probe) → r.end ≡ end → (place : ℕ) → place ≡ kept_place s.layout.bucket_count r (some_delete s.layout batch)
        → Noting (cond (is_found (heard end)) Live New) (cond (is_found (heard end)) 0 place)
    unfolding turn_of noted_place is_new is_live
    by_report end is place e =
        let ended = reported_end s image key r told end is in (
          rw (decide, put, ← k, ended) (either_turn (is_found (heard end))),
          rw (decide, put, ← k, ended, ← told) (either_place (is_found (heard end))),
        )
      where
        either_turn : (live : Bool) → cond live Live New ≡ cond (not live) New Live
        either_turn true = refl
        either_turn false = refl

        either_place : (live : Bool) → cond live 0 place ≡ cond (not live) (kept_place s.layout.bucket_count r (some_delete s.layout batch)) 0
        either_place true = refl
        either_place false = e
