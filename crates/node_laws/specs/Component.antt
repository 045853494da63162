-- What is seen of each component by the node that has it, and what a crash and a restart do to it.
use Rattle.std.specs.Prelude.{◌≡◌, ◌⊎◌, ℕ, ◌+◌, ◌≤◌, Bool, true, false, List, Option, Some, None, Result, Ok, Err, length, nat_lt, if◌then◌else◌}
use Rattle.record_key.specs.declared.refusal.Refusal.{Refusal}
use Rattle.record_key.specs.declared.refusal.Refusal.TheVariants.{NoMemory}
use Rattle.record_key.specs.declared.refusal.Refusal.TheVariants as refusal
use Rattle.codec.specs.declared.dc_record.DcRecord.{DcRecord}
use Rattle.history.specs.declared.record.Record.{Record}
use Rattle.stable.specs.Usage.{Usage, called_often, failing_in}
use Rattle.stable.specs.PagesState.{Pages}
use Rattle.framed_log.specs.Beginning.{beginning}
use Rattle.tc_log.specs.Spelled as records
use Rattle.dc_core.specs.dc_store.specs.declared.devices.Device.{Device}
use Rattle.dc_core.specs.dc_store.specs.SystemView.{with_usage, failing_at}
use Rattle.dc_core.specs.dc_store.specs.Uses.{StopsOpening, page_calls}
use Rattle.dc_core.specs.dc_store.specs.Devices.{spelled}
use Rattle.dc_core.specs.dc_store.specs.Crashed.{found, crashed}
use Rattle.dc_core.specs.DcView.{DcView, leaves}
use Rattle.dc_core.specs.Restarting.{restarted}
use Rattle.dc_core.specs.Serves.{with_system}
use Rattle.tc_log.specs.Opening.{UsedToOpen}
use Rattle.tc_core.specs.TcView.{TcView, used_so}
use Rattle.tc_core.specs.Opened.{crashed as crashed_tc, UsedByOpening, IsOpenedAgain}

-- whether it runs, and what it is, or where it doesn't run will be once it is restarted
pub record TcSide : Type 0 where
  pub up : Bool
  pub tc : TcView

-- the same of the data component
pub record DcSide : Type 0 where
  pub up : Bool
  pub dc : DcView

-- room or a device is refused
abbrev pub LacksDevice : Refusal → Type 0
LacksDevice r = (r ≡ NoMemory) ⊎ (r ≡ refusal.Device)

abbrev pub lesser : ℕ → ℕ → ℕ
lesser a b = if nat_lt a b then a else b

-- how many bytes a crash leaves of a log, by how many its first records have: those of the stable ones and of the first
-- others, so many, and so many of the next one, or all where there are no more
abbrev pub bytes_left : (ℕ → ℕ) → ℕ → ℕ → ℕ → ℕ → ℕ
bytes_left size stable_end records more bytes =
    lesser (size (lesser (stable_end + more) records) + bytes) (size (lesser (stable_end + more + 1) records))

-- the records whose frames are whole there: no stable one is lost
pub record Keeps (size : ℕ → ℕ) (stable_end records more bytes n : ℕ) : Type 0 where
  pub stable : stable_end ≤ n
  pub within : n ≤ records
  pub whole : size n ≤ bytes_left size stable_end records more bytes
  pub most : (m : ℕ) → m ≤ records → size m ≤ bytes_left size stable_end records more bytes → m ≤ n

-- ---- the transaction component

-- how many bytes the first records have, so many
abbrev pub tc_size : List Record → ℕ → ℕ
tc_size log n = length (records.spelled (beginning log n))

-- a crash that is asked for so many whole records and so many bytes of the next one leaves the first bytes of what isn't
-- stable, so many, or all of it
abbrev pub LeavesBytes : TcView → ℕ → ℕ → ℕ → Type 0
LeavesBytes old kept more bytes =
    bytes_left (tc_size old.log) old.stable (length old.log) more bytes
    ≡ lesser (tc_size old.log old.stable + kept) (tc_size old.log (length old.log))

-- what isn't on the device is gone
abbrev pub TcCrashesTo : TcSide → ℕ → ℕ → Bool → TcSide → Type 0
TcCrashesTo old more bytes true new =
    (old.up ≡ true) × ((n : ℕ) × Keeps (tc_size old.tc.log) old.tc.stable (length old.tc.log) more bytes n
    × (new ≡ record { up = false; tc = crashed_tc old.tc n }))
TcCrashesTo old more bytes false new = (old.up ≡ false) × (new ≡ old)

abbrev pub TcRestartsTo : TcSide → Result (Option ℕ) Refusal → TcSide → Type 0
TcRestartsTo old (Ok (Some count)) new =
    (old.up ≡ false) × (count ≡ length old.tc.log) × IsOpenedAgain old.tc new.tc
    × (new ≡ record { up = true; tc = new.tc })
TcRestartsTo old (Ok None) new = (old.up ≡ true) × (new ≡ old)
TcRestartsTo old (Err r) new =
    (old.up ≡ false) × LacksDevice r × (new ≡ record { up = false; tc = used_so old.tc new.tc.usage })
    × UsedToOpen old.tc.usage r new.tc.usage

-- the call of this number from now is set to fail, if there is one
abbrev pub TcFailsTo : TcSide → ℕ → Bool → TcSide → Type 0
TcFailsTo old call true new =
    (1 ≤ call) × (new ≡ record old { tc = used_so old.tc (failing_in call old.tc.usage) })
TcFailsTo old call false new = (call ≡ 0) × (new ≡ old)

-- ---- the data component

-- the component that these pages give, where these records are the log's and the devices were used so
abbrev pub found_on : Pages → Usage → Usage → List DcRecord → DcView
found_on pages log_usage page_usage log = restarted (found pages log_usage page_usage log)

-- how many bytes the first records have, so many
abbrev pub dc_size : List DcRecord → ℕ → ℕ
dc_size log n = length (spelled (beginning log n))

abbrev pub DcCrashesTo : DcSide → ℕ → ℕ → Bool → DcSide → Type 0
DcCrashesTo old more bytes true new =
    (old.up ≡ true)
    × ((n : ℕ) × Keeps (dc_size old.dc.system.log) old.dc.system.stable (length old.dc.system.log) more bytes n
    × (new ≡ record { up = false; dc = restarted (crashed old.dc.system n) }))
DcCrashesTo old more bytes false new = (old.up ≡ false) × (new ≡ old)

-- the same, its devices used so
abbrev pub dc_used : DcView → Usage → Usage → DcView
dc_used w log pages = with_system w (with_usage w.system log pages)

-- it is opened as what it was seen as, and its devices were called as that takes
pub record IsUp (old new : DcView) : Type 0 where
  pub is : new ≡ dc_used old new.system.log_usage new.system.page_usage
  pub log : UsedByOpening old.system.log_usage new.system.log_usage
  pub pages : new.system.page_usage ≡ called_often (page_calls old.system.pages) old.system.page_usage

-- it isn't opened, and but for the calls of its devices nothing changes
pub record IsDownWith (old : DcView) (r : Refusal) (new : DcView) : Type 0 where
  pub lacks : LacksDevice r
  pub is : new ≡ dc_used old new.system.log_usage new.system.page_usage
  pub used : StopsOpening r old.system.pages old.system.log_usage new.system.log_usage old.system.page_usage
      new.system.page_usage

abbrev pub DcRestartsTo : DcSide → Result (Option ℕ) Refusal → DcSide → Type 0
DcRestartsTo old (Ok (Some count)) new =
    (old.up ≡ false) × (count ≡ length (leaves old.dc)) × (new ≡ record { up = true; dc = new.dc })
    × IsUp old.dc new.dc
DcRestartsTo old (Ok None) new = (old.up ≡ true) × (new ≡ old)
DcRestartsTo old (Err r) new =
    (old.up ≡ false) × (new ≡ record { up = false; dc = new.dc }) × IsDownWith old.dc r new.dc

abbrev pub DcFailsTo : DcSide → Device → ℕ → Bool → DcSide → Type 0
DcFailsTo old device call true new =
    (1 ≤ call) × (new ≡ record old { dc = with_system old.dc (failing_at device call old.dc.system) })
DcFailsTo old device call false new = (call ≡ 0) × (new ≡ old)
