-- What holds of the leaves and their devices goes on to hold.
use Rattle.std.proofs.Common.{ℕ, ◌<◌, length, arith}
use Rattle.codec.specs.declared.dc_record.DcRecord.TheVariants as is
use Rattle.codec.specs.DcRecords.{FitsFrame}
use Rattle.stable.specs.Usage.{Usage}
use Rattle.dc_store.specs.SystemView.{SystemView, with_usage}
use Rattle.dc_store.specs.Changes.{accepted, forced}
use Rattle.dc_store.specs.Kept.{IsSystem}

-- it holds however the devices were used
pub keeps_usage : (v : SystemView) (log_usage page_usage : Usage) → IsSystem v
    → IsSystem (with_usage v log_usage page_usage)
keeps_usage v log_usage page_usage h = record {
  leaves = h.leaves;
  numbers = h.numbers;
  records = h.records;
  numbered = h.numbered;
  named = h.named;
  pages = h.pages;
}

-- the log is forced
pub keeps_forced : (v : SystemView) → IsSystem v → IsSystem (forced v)
keeps_forced v h = record {
  leaves = h.leaves;
  numbers = h.numbers;
  records = h.records;
  numbered = h.numbered;
  named = h.named;
  pages = h.pages;
}

-- a session is accepted
pub keeps_accepted : (v : SystemView) (session : ℕ) → IsSystem v → length v.log < 281474976710655
    → FitsFrame (is.Accept session) → IsSystem (accepted v session)
keeps_accepted v session h room fits = record {
  leaves = h.leaves;
  numbers = h.numbers;
  records = (fits, h.records);
  numbered = omega (arith, room);
  named = h.named;
  pages = h.pages;
}
