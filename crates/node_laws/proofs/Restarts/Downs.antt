-- What a crash leaves of the data component's devices, and what they give again.
use Rattle.std.proofs.Common.{true, false, ◌≡◌, ℕ, Bool, ◌+◌, ◌-◌, ◌≤◌, List, [], ◌++◌, length, take, refl, sym, ap, ◌∙◌, subst, arith, inl, inr}
use Rattle.std.proofs.lemmas.List.{length-append}
use Rattle.std.specs.Prelude.{nat_lt, if◌then◌else◌}
use Rattle.record_key.specs.declared.refusal.Refusal.{Refusal}
use Rattle.codec.specs.declared.dc_record.DcRecord.{DcRecord}
use Rattle.stable.specs.Crash.{BeginsWith, MayLeave}
use Rattle.stable.specs.LogState.{LogState, with_bytes}
use Rattle.stable.specs.Usage.{Usage, called_often}
use Rattle.stable.specs.PagesState.{Pages}
use Rattle.framed_log.specs.Beginning.{beginning}
use Rattle.framed_log.proofs.Beginning.{everything}
use Rattle.dc_core.specs.dc_store.specs.SystemView.{SystemView}
use Rattle.dc_core.specs.dc_store.specs.Devices.{framing, spelled}
use Rattle.dc_core.specs.dc_store.specs.Kept.{IsSystem, IsRecoverable}
use Rattle.dc_core.specs.dc_store.specs.Recovering.{HoldsFrames, Recovers, RefusesRecovery}
use Rattle.dc_core.specs.dc_store.specs.Crashed.{found, crashed}
use Rattle.dc_core.specs.dc_store.proofs.AfterCrash.{crashed_kept}
use Rattle.dc_core.specs.dc_store.proofs.Crashed.{crashes_leave_frames}
use Rattle.dc_core.specs.dc_store.proofs.ReadOnce.{frames_read_once}
use Rattle.dc_core.specs.dc_store.proofs.Restarting.{restarts, never_bad}
use Rattle.dc_core.specs.DcView.{DcView}
use Rattle.dc_core.specs.Kept.{IsDc}
use Rattle.dc_core.proofs.KeepsSystems.{usage_keeps}
use Rattle.dc_core.specs.Restarting.{restarted}
use Rattle.dc_core.specs.dc_store.specs.Uses.{StopsOpening, log_calls, page_calls}
use Rattle.tc_core.specs.Opened.{UsedByOpening}
use Rattle.node_laws.specs.Component.{bytes_left, Keeps, dc_size, found_on, dc_used, IsUp, IsDownWith}
use Rattle.node_laws.proofs.Restarts.Keeping.{left_stable, left_within, keeps_of, cut_to, may_leave}
use Rattle.node_laws.proofs.Restarts.Crashes.{restarted_kept}
use Rattle.framed_log.proofs.Spelled.{spelled_longer}

-- ---- what is opened

-- the system that these devices give, but for how they were used
opened_system : (bytes : List ℕ) (pages : Pages) (log_usage page_usage : Usage) (log : List DcRecord) (v : SystemView)
    → IsRecoverable (found pages log_usage page_usage log) → HoldsFrames bytes log
    → Recovers bytes pages v → v ≡ found pages v.log_usage v.page_usage log
opened_system bytes pages log_usage page_usage log v r holds recovers =
    let is = restarts bytes pages log (length log) v r.legal r.fit holds recovers in
    let stable : v.stable ≡ length log = recovers.stable ∙ ap length is.log_is in
    λ i. record {
      leaves = is.leaves_are i;
      log = is.log_is i;
      stable = stable i;
      pages = recovers.pages_are i;
      log_usage = v.log_usage;
      page_usage = v.page_usage;
    }

-- the log's device was read, and perhaps cut
by_opening : (cut : Bool) (old new : Usage) → new ≡ called_often (if cut then 2 else 1) old → UsedByOpening old new
by_opening true old new h = inr h
by_opening false old new h = inl h

-- the component is the one that was seen while it was down
pub opened_is : (bytes : List ℕ) (pages : Pages) (log_usage page_usage : Usage) (log : List DcRecord) (dc : DcView)
    → HoldsFrames bytes log
    → IsRecoverable (found pages log_usage page_usage log) → Recovers bytes pages dc.system
    → dc ≡ restarted dc.system
    → dc.system.log_usage ≡ called_often (log_calls (length (spelled dc.system.log)) (length bytes)) log_usage
    → dc.system.page_usage ≡ called_often (page_calls pages) page_usage
    → IsUp (found_on pages log_usage page_usage log) dc
opened_is bytes pages log_usage page_usage log dc holds r recovers is logged paged = record {
  is = is ∙ ap restarted (opened_system bytes pages log_usage page_usage log dc.system r holds recovers);
  log = by_opening (nat_lt (length (spelled dc.system.log)) (length bytes)) log_usage dc.system.log_usage logged;
  pages = paged;
}

-- ---- what isn't opened

-- the same records stand on the device
same_records : (old new : List ℕ) (log later : List DcRecord) → HoldsFrames old log → new ≡ old
    → HoldsFrames new later → later ≡ log
same_records old new log later holds left again =
    frames_read_once.once old later log (subst (λ b. HoldsFrames b later) left again) holds

-- what was opened in vain: the bytes of the log, the pages, and how both devices were used
module _ (bytes bytes' : List ℕ) (pages pages' : Pages) (log_usage log_usage' page_usage page_usage' : Usage)
    (log later : List DcRecord) (holds : HoldsFrames bytes log) (left : bytes' ≡ bytes)
    (again : HoldsFrames bytes' later) (same : pages' ≡ pages) where
  abbrev old : DcView
  old = found_on pages log_usage page_usage log

  same_down : found_on pages' log_usage' page_usage' later ≡ dc_used old log_usage' page_usage'
  same_down =
      let records = same_records bytes bytes' log later holds left again in
      λ i. restarted (found (same i) log_usage' page_usage' (records i))

  pub down_with : (r : Refusal) → IsDc old → IsRecoverable old.system
      → StopsOpening r pages log_usage log_usage' page_usage page_usage' → RefusesRecovery bytes pages r
      → IsDownWith old r (found_on pages' log_usage' page_usage' later)
  down_with r is rec stops refuses = record {
    lacks = never_bad bytes pages log (length log) r rec.legal rec.fit is.system.pages is.system.numbered holds refuses;
    is = same_down;
    used = stops;
  }

  pub down_kept : IsDc old → IsDc (found_on pages' log_usage' page_usage' later)
  down_kept is = subst IsDc (sym same_down) (usage_keeps old log_usage' page_usage' is)

-- ---- a crash

-- the devices of a component that stopped
pub record IsStopped (v : SystemView) (log : LogState) (pages : Pages) (page_usage : Usage) : Type 0 where
  pub holds : log.forced ++ log.pending ≡ spelled v.log
  pub forced : BeginsWith log.forced (spelled (beginning v.log v.stable))
  pub just : log.forced ≡ spelled (beginning v.log v.stable)
  pub pages_are : pages ≡ v.pages
  pub log_usage : log.usage ≡ v.log_usage
  pub page_used : page_usage ≡ v.page_usage

-- what is left on the log's device: the frames of a beginning that the crash may keep
pub record IsLeft (v : SystemView) (more bytes : ℕ) (left : List ℕ) : Type 0 where
  pub count : ℕ
  pub keeps : Keeps (dc_size v.log) v.stable (length v.log) more bytes count
  pub holds : HoldsFrames left (beginning v.log count)

whole_length : (v : SystemView) → length (spelled (beginning v.log (length v.log))) ≡ length (spelled v.log)
whole_length v = ap (λ log. length (spelled log)) (everything v.log)

-- what is seen once it has crashed
crash_seen : (v : SystemView) (more bytes : ℕ) (log log' : LogState) (pages : Pages) (page_usage : Usage)
    (later : List DcRecord) → IsStopped v log pages page_usage → log'.usage ≡ log.usage
    → (l : IsLeft v more bytes log'.forced) → HoldsFrames log'.forced later
    → found_on pages log'.usage page_usage later ≡ restarted (crashed v l.count)
crash_seen v more bytes log log' pages page_usage later stopped same l again =
    let records : later ≡ beginning v.log l.count =
    frames_read_once.once log'.forced later (beginning v.log l.count) again l.holds in
    let usage : log'.usage ≡ v.log_usage = same ∙ stopped.log_usage in
    λ i. restarted (found (stopped.pages_are i) (usage i) (stopped.page_used i) (records i))

-- the component crashed so
pub record IsCrash (v : SystemView) (more bytes kept : ℕ) (log log' : LogState) (pages : Pages) (page_usage : Usage)
    : Type 0 where
  pub stopped : IsStopped v log pages page_usage
  pub left : log' ≡ with_bytes log (log.forced ++ take (kept - length log.forced) log.pending) []
  pub law : MayLeave log.forced log.pending log'.forced
  pub kept_is : kept ≡ bytes_left (dc_size v.log) v.stable (length v.log) more bytes

-- so many bytes has the log
pub log_length : (v : SystemView) (log : LogState) (end records : ℕ) → log.forced ++ log.pending ≡ spelled v.log
    → records ≡ length v.log → end ≡ length (spelled (beginning v.log records))
    → end ≡ length log.forced + length log.pending
log_length v log end records holds all is =
    is ∙ ap (λ n. length (spelled (beginning v.log n))) all ∙ whole_length v ∙ sym (ap length holds)
    ∙ length-append log.forced log.pending

pub crash_of : (v : SystemView) (more bytes kept end cut : ℕ) (log log' : LogState) (pages : Pages) (page_usage : Usage)
    → end ≡ length log.forced + length log.pending → cut ≡ kept - (end - length log.pending)
    → IsStopped v log pages page_usage → log' ≡ with_bytes log (log.forced ++ take cut log.pending) []
    → kept ≡ bytes_left (dc_size v.log) v.stable (length v.log) more bytes
    → IsCrash v more bytes kept log log' pages page_usage
crash_of v more bytes kept end cut log log' pages page_usage all is stopped left kept_is =
    let so : cut ≡ kept - length log.forced = omega (arith, all, is) in
    let May : List ℕ → Type 0 = λ forced. MayLeave log.forced log.pending forced in
    record {
      stopped = stopped;
      left = left ∙ ap (λ n. with_bytes log (log.forced ++ take n log.pending) []) so;
      law = subst May (sym (ap (λ (l : LogState). l.forced) left)) (may_leave log.forced log.pending cut);
      kept_is = kept_is;
    }

-- as many bytes are left as the crash is to keep
left_length : (v : SystemView) (more bytes kept : ℕ) (log log' : LogState) (pages : Pages) (page_usage : Usage)
    → v.stable ≤ length v.log → IsCrash v more bytes kept log log' pages page_usage → length log'.forced ≡ kept
left_length v more bytes kept log log' pages page_usage within c =
    let some : length log.forced ≡ dc_size v.log v.stable = ap length c.stopped.just in
    let all : length log.forced + length log.pending ≡ dc_size v.log (length v.log) =
    sym (length-append log.forced log.pending) ∙ ap length c.stopped.holds ∙ sym (whole_length v) in
    let low = left_stable (dc_size v.log) (spelled_longer framing v.log) v.stable (length v.log) more bytes within in
    let high = left_within (dc_size v.log) (spelled_longer framing v.log) v.stable (length v.log) more bytes in
    ap (λ (l : LogState). length l.forced) c.left
    ∙ cut_to kept log.forced log.pending (omega (arith, some, low, c.kept_is)) (omega (arith, all, high, c.kept_is))

pub crash_leaves : (v : SystemView) (more bytes kept : ℕ) (log log' : LogState) (pages : Pages) (page_usage : Usage)
    → IsSystem v → IsRecoverable v → IsCrash v more bytes kept log log' pages page_usage
    → IsLeft v more bytes log'.forced
crash_leaves v more bytes kept log log' pages page_usage is rec c =
    let l = crashes_leave_frames true v.log v.stable log.forced log.pending log'.forced is.records
    (record {
      within = rec.fit.kept;
      stored = c.stopped.holds;
      covered = c.stopped.forced;
      just = λ _. c.stopped.just;
    }) c.law in
    let whole : dc_size v.log l.count ≤ length log'.forced =
    omega (arith, ap length l.is.parts, length-append (spelled (beginning v.log l.count)) l.is.left) in
    record {
      count = l.count;
      keeps = keeps_of (dc_size v.log) v.stable (length v.log) more bytes (length log'.forced) l.count
          (left_length v more bytes kept log log' pages page_usage rec.fit.kept c ∙ c.kept_is) l.stable_left l.within whole l.most;
      holds = l.is;
    }

pub crash_is : (v : SystemView) (more bytes kept : ℕ) (log log' : LogState) (pages : Pages) (page_usage : Usage)
    (later : List DcRecord) → IsSystem v → IsRecoverable v → IsCrash v more bytes kept log log' pages page_usage
    → HoldsFrames log'.forced later
    → (n : ℕ) × Keeps (dc_size v.log) v.stable (length v.log) more bytes n
    × (found_on pages log'.usage page_usage later ≡ restarted (crashed v n))
crash_is v more bytes kept log log' pages page_usage later is rec c again =
    let l = crash_leaves v more bytes kept log log' pages page_usage is rec c in (
      l.count,
      l.keeps,
      crash_seen v more bytes log log' pages page_usage later c.stopped (ap (λ (l : LogState). l.usage) c.left) l again,
    )

pub crash_found : (v : SystemView) (more bytes kept : ℕ) (log log' : LogState) (pages : Pages) (page_usage : Usage)
    (later : List DcRecord) → IsSystem v → IsRecoverable v → IsCrash v more bytes kept log log' pages page_usage
    → HoldsFrames log'.forced later → IsDc (found_on pages log'.usage page_usage later)
crash_found v more bytes kept log log' pages page_usage later is rec c again =
    let x = crash_is v more bytes kept log log' pages page_usage later is rec c again in
    subst IsDc (sym x.2) (restarted_kept (crashed v x.0) (crashed_kept v x.0 is rec x.1.stable) refl)
