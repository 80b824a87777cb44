-- `host::list::slc1_scan_results` meets its contract.
-- Assumes nothing.
use native.Mathlib.Omega.{arith}
use Rattle.listing.specs.Scan.{told}
use Rattle.host.specs.Results.{Reports, listed_report}
use Rattle.host.proofs.ResultLaws.{listing_short, listing_written}
use Rattle.host.proofs.list.slc1_scan_results.Goals as goal

pub returns-then-results-lt-LISTING_RESULTS : goal.returns-then-results-lt-LISTING_RESULTS
returns-then-results-lt-LISTING_RESULTS c =
    let a = c.args in
    listing_short a.results.now _ a.numbers.now c.number.ensures (omega (arith, c.if-results-lt-LISTING_RESULTS.true))

pub returns : goal.returns
returns c =
    let a = c.args in
    let reported : Reports (listed_report (told c.scan-scanned.result) a.results.now) c.report_listing.result c.report_listing.new.results =
    c.report_listing.ensures in
    listing_written a.results.now _ a.numbers.now c.scan-scanned.ensures c.if-results-lt-LISTING_RESULTS.false reported
