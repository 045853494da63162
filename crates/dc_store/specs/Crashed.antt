-- What a crash leaves of the leaves and their devices.
use Rattle.std.specs.Prelude.{ℕ, List, length}
use Rattle.codec.specs.declared.dc_record.DcRecord.{DcRecord}
use Rattle.stable.specs.PagesState.{Pages}
use Rattle.stable.specs.Usage.{Usage}
use Rattle.framed_log.specs.Beginning.{beginning}
use Rattle.dc_recovery.specs.Recovery.{recover}
use Rattle.dc_store.specs.Devices.{pages_of}
use Rattle.dc_store.specs.SystemView.{SystemView}

-- the leaves that the pages and these records give; the records are stable
abbrev pub found : Pages → Usage → Usage → List DcRecord → SystemView
found pages log_usage page_usage log = record {
  leaves = recover (pages_of pages) log;
  log = log;
  stable = length log;
  pages = pages;
  log_usage = log_usage;
  page_usage = page_usage;
}

-- those that the first records, so many, give
abbrev pub crashed : SystemView → ℕ → SystemView
crashed v n = found v.pages v.log_usage v.page_usage (beginning v.log n)
