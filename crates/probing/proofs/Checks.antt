-- The full check and sound tables: a table that passes it and has an EMPTY bucket is sound, and a sound table passes it.
-- Assumes nothing.
use Prim.Native.Nat.{ℕ, suc, ◌+◌, ◌-◌, ◌<◌}
use mathlib.Core.Path.{◌≡◌}
use mathlib.Core.Bool.{Bool, true}
use native.Mathlib.Omega.{arith}
use Rattle.probing.specs.Table.{Table, live_count, full_count, tombstone_count}
use Rattle.probing.specs.Probe.{found, probe}
use Rattle.probing.specs.Check.{never_fall, checks}
use Rattle.probing.specs.Sound.{Reached, Sound}
use Rattle.probing.proofs.Reading.{probe_live}
use Rattle.probing.proofs.Reading.Ends.{found_run}
use Sentences.{ZeroOrOne, Finds, Passed, checks_passed, passed_checks}
use Stands.{reached_stands, one_bucket, has_empty}
pub mod Sentences
pub mod Stands

-- a slot whose key a probe finds there is reached from its key's home
pub found_reached : (t : Table) (s n : ℕ) → probe t (t.key s) ≡ found s n → Reached t s
found_reached t s n e =
    let r = found_run t (t.key s) s n e in
    record {
      distance = n - 1;
      within = omega (arith, r.some, r.bounded);
      stands = r.last.stands;
      way = r.run;
    }

-- The sentences, with live_count equal to bucket_used and with fewer FULL and TOMBSTONE buckets than all, come to a sound table.
pub passed_sound :
    (t : Table) (ordered : Bool) (live_count_field used tombstones : ℕ)
    → Passed t ordered live_count_field used tombstones → live_count_field ≡ used → used + tombstones < t.B → Sound t
passed_sound t ordered live_count_field used tombstones p equal few =
    record {
      full = λ b h s l. p.full b l h s;
      different = λ s s' l l' a a' e. same s s' (p.each s l a) (p.each s' l' a') e;
      reached = reached;
      single = one_bucket t (λ s l a. reached_stands t s (reached s l a)) (omega (arith, p.lives, p.fulls));
      vacant = has_empty t (omega (arith, p.fulls, p.tombs));
    }
  where
    reached : (s : ℕ) → s < t.highwater → t.meta s ≡ 1 → Reached t s
    reached s l a = let f = p.each s l a in found_reached t s f.0 f.1

    same : (s s' : ℕ) → Finds (probe t (t.key s)) s → Finds (probe t (t.key s')) s' → t.key s ≡ t.key s' → s ≡ s'
    same s s' f f' e = cc (f.1, f'.1)

-- A table that passes the full check, with live_count equal to bucket_used and with fewer FULL and TOMBSTONE buckets than all, is
-- sound.
pub checks_sound :
    (t : Table) (ordered : Bool) (live_count_field used tombstones : ℕ)
    → checks t ordered live_count_field used tombstones ≡ true → live_count_field ≡ used → used + tombstones < t.B → Sound t
checks_sound t ordered live_count_field used tombstones e =
    passed_sound t ordered live_count_field used tombstones (checks_passed t ordered live_count_field used tombstones e)

-- A sound table with metas 0 or 1, the header's counts, and keys that never fall if ordered, passes the full check.
pub sound_checks :
    (t : Table) (ordered : Bool) (live_count_field used tombstones : ℕ) → Sound t → ((s : ℕ) → s < t.highwater → ZeroOrOne t s)
    → live_count t ≡ live_count_field → full_count t ≡ used → tombstone_count t ≡ tombstones → (ordered ≡ true → never_fall t ≡ true)
    → checks t ordered live_count_field used tombstones ≡ true
sound_checks t ordered live_count_field used tombstones sound metas lives fulls tombs order =
    passed_checks t ordered live_count_field used tombstones (record {
      full = λ b l h s. sound.full b h s l;
      metas = metas;
      each = λ s l a. (suc (sound.reached s l a).distance, probe_live t sound s l a);
      lives = lives;
      fulls = fulls;
      tombs = tombs;
      order = order;
    })
