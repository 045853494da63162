-- What is seen of the leaves, and of the devices that outlive them.
use Rattle.std.specs.Prelude.{ℕ, List, [], ◌∷◌}
use Rattle.std.specs.FinMap as map
use Rattle.std.specs.Coded.{Coded, coded_ℕ, coded_list}
use Rattle.record_key.specs.declared.refusal.Refusal.{Refusal}
use Rattle.codec.specs.declared.dc_record.DcRecord.{DcRecord}
use Rattle.stable.specs.PagesState.{Pages}
use Rattle.stable.specs.Usage.{Usage, failing_in}
use Rattle.dc_leaf.specs.Leaf.{LeafView, first}
use Rattle.dc_store.specs.declared.devices.Device.{Device}
use Rattle.dc_store.specs.declared.devices.Device.TheVariants as device
use Rattle.framed_log.specs.Refused.{refused_use}

-- the leaves in key order; the records of their log, the newest first, and how many of these are stable; the
-- bytes of each page that was written; and how each device was used
pub record SystemView : Type 0 where
  pub leaves : List LeafView
  pub log : List DcRecord
  pub stable : ℕ
  pub pages : Pages
  pub log_usage : Usage
  pub page_usage : Usage

-- pages by the list of their bytes
abbrev pub pages_code : Coded Pages
pages_code = map.code coded_ℕ (coded_list coded_ℕ)

-- one leaf for all keys, nothing logged and nothing written
abbrev pub fresh_system : Usage → Usage → SystemView
fresh_system log_usage page_usage = record {
  leaves = first ∷ [];
  log = [];
  stable = 0;
  pages = map.empty;
  log_usage = log_usage;
  page_usage = page_usage;
}

-- the same with devices that were used so
abbrev pub with_usage : SystemView → Usage → Usage → SystemView
with_usage v log_usage page_usage = record v { log_usage = log_usage; page_usage = page_usage }

-- a call of the log's device was refused so, or one of the pages', and nothing else has changed
abbrev pub log_refused : SystemView → Refusal → SystemView
log_refused v r = record v { log_usage = refused_use v.log_usage r }

abbrev pub pages_refused : SystemView → Refusal → SystemView
pages_refused v r = record v { page_usage = refused_use v.page_usage r }

-- the n-th call from now of this device is set to fail
abbrev pub failing_at : Device → ℕ → SystemView → SystemView
failing_at device.Log n v = record v { log_usage = failing_in n v.log_usage }
failing_at device.Pages n v = record v { page_usage = failing_in n v.page_usage }
