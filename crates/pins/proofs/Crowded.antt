-- The reports of a crowded table, computed.
-- Assumes nothing.
use mathlib.Core.Path.{refl}
use Rattle.numbers.specs.Bytes.{word, same}
use Rattle.probing.specs.Probe.{examine, probe_from, probe}
use Rattle.probing.specs.Report.{first_tombstone, report}
use Rattle.probing.specs.Change.{update, deleted, place_from, place}
use Rattle.pins.specs.Crowded.{Crowded}

pub crowded_reports : Crowded
unfolding word same examine probe_from probe first_tombstone report update deleted place_from place
crowded_reports = record { lacking = refl; round = refl; at_home = refl; before_a_delete = refl; after_a_delete = refl }
