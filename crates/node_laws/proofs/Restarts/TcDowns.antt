-- What a crash leaves of the transaction component's device, and what it opens as.
use Rattle.std.proofs.Common.{◌≡◌, ℕ, ◌+◌, ◌-◌, ◌≤◌, List, [], ◌++◌, length, take, sym, ap, ◌∙◌, subst, arith}
use Rattle.std.proofs.lemmas.List.{length-append}
use Rattle.history.specs.declared.record.Record.{Record}
use Rattle.stable.specs.Crash.{BeginsWith, MayLeave}
use Rattle.stable.specs.LogState.{LogState, with_bytes}
use Rattle.stable.specs.Usage.{Usage}
use Rattle.framed_log.specs.Beginning.{beginning}
use Rattle.framed_log.proofs.Beginning.{everything}
use Rattle.framed_log.proofs.Spelled.{spelled_longer}
use Rattle.tc_log.specs.Opening.{IsLogOf}
use Rattle.tc_log.specs.Spelled.{framing, spelled, AreRecords}
use Rattle.tc_log.proofs.Crashed.{crash_leaves, opens_once}
use Rattle.tc_core.specs.TcView.{TcView, used_so}
use Rattle.tc_core.specs.Kept.{IsTc}
use Rattle.tc_core.specs.Opened.{opens_as, crashed}
use Rattle.node_laws.specs.Component.{bytes_left, Keeps, tc_size}
use Rattle.node_laws.proofs.Restarts.Keeping.{left_stable, left_within, keeps_of, cut_to, may_leave}

-- ---- a crash

-- the device of a component that stopped
pub record IsHalted (w : TcView) (device : LogState) : Type 0 where
  pub holds : device.forced ++ device.pending ≡ spelled w.log
  pub forced : BeginsWith device.forced (spelled (beginning w.log w.stable))
  pub just : device.forced ≡ spelled (beginning w.log w.stable)
  pub spellable : AreRecords w.log
  pub usage : device.usage ≡ w.usage

-- what is left on the device: the frames of a beginning that the crash may keep
pub record IsKeptOf (w : TcView) (more bytes : ℕ) (left : List ℕ) : Type 0 where
  pub count : ℕ
  pub keeps : Keeps (tc_size w.log) w.stable (length w.log) more bytes count
  pub holds : IsLogOf left (beginning w.log count)

-- the component crashed so
pub record IsTcCrash (w : TcView) (more bytes kept : ℕ) (device device' : LogState) : Type 0 where
  pub halted : IsHalted w device
  pub left : device' ≡ with_bytes device (device.forced ++ take (kept - length device.forced) device.pending) []
  pub law : MayLeave device.forced device.pending device'.forced
  pub kept_is : kept ≡ bytes_left (tc_size w.log) w.stable (length w.log) more bytes

module _ (w : TcView) (device : LogState) where
  -- so many bytes has the log
  pub device_length : (end records : ℕ) → device.forced ++ device.pending ≡ spelled w.log → records ≡ length w.log
      → end ≡ length (spelled (beginning w.log records)) → end ≡ length device.forced + length device.pending
  device_length end records holds all is =
      is ∙ ap (λ n. length (spelled (beginning w.log n))) all
      ∙ ap (λ l. length (spelled l)) (everything w.log)
      ∙ sym (ap length holds) ∙ length-append device.forced device.pending

  pub tc_crash_of : (more bytes kept end cut : ℕ) (device' : LogState)
      → end ≡ length device.forced + length device.pending → cut ≡ kept - (end - length device.pending)
      → IsHalted w device
      → device' ≡ with_bytes device (device.forced ++ take cut device.pending) []
      → kept ≡ bytes_left (tc_size w.log) w.stable (length w.log) more bytes
      → IsTcCrash w more bytes kept device device'
  tc_crash_of more bytes kept end cut device' all is halted left kept_is =
      let so : cut ≡ kept - length device.forced = omega (arith, all, is) in
      let May : List ℕ → Type 0 = λ forced. MayLeave device.forced device.pending forced in
      record {
        halted = halted;
        left = left ∙ ap (λ n. with_bytes device (device.forced ++ take n device.pending) []) so;
        law = subst May (sym (ap (λ (l : LogState). l.forced) left))
            (may_leave device.forced device.pending cut);
        kept_is = kept_is;
      }

  -- as many bytes are left as the crash is to keep
  left_length : (more bytes kept : ℕ) (device' : LogState) → w.stable ≤ length w.log
      → IsTcCrash w more bytes kept device device' → length device'.forced ≡ kept
  left_length more bytes kept device' within c =
      let some : length device.forced ≡ tc_size w.log w.stable = ap length c.halted.just in
      let all : length device.forced + length device.pending ≡ tc_size w.log (length w.log) =
      sym (length-append device.forced device.pending) ∙ ap length c.halted.holds
      ∙ sym (ap (λ l. length (spelled l)) (everything w.log)) in
      let low = left_stable (tc_size w.log) (spelled_longer framing w.log) w.stable (length w.log) more bytes within in
      let high = left_within (tc_size w.log) (spelled_longer framing w.log) w.stable (length w.log) more bytes in
      ap (λ (l : LogState). length l.forced) c.left
      ∙ cut_to kept device.forced device.pending (omega (arith, some, low, c.kept_is))
      (omega (arith, all, high, c.kept_is))

  pub kept_left : (more bytes kept : ℕ) (device' : LogState) → IsTc w → IsTcCrash w more bytes kept device device'
      → IsKeptOf w more bytes device'.forced
  kept_left more bytes kept device' is c =
      let left = crash_leaves w.log w.stable device.forced device.pending device'.forced is.legal c.halted.spellable
      (omega (arith, is.few.records)) is.within c.halted.holds c.halted.forced c.law in
      let whole : tc_size w.log left.count ≤ length device'.forced =
      omega (
        arith,
        ap length left.is.frames.parts,
        length-append (spelled (beginning w.log left.count)) left.is.frames.left,
      ) in
      record {
        count = left.count;
        keeps = keeps_of (tc_size w.log) w.stable (length w.log) more bytes (length device'.forced) left.count
            (left_length more bytes kept device' is.within c ∙ c.kept_is) left.stable_left left.within whole left.most;
        holds = left.is;
      }

  -- what is seen of it then
  pub tc_crash_is : (more bytes kept : ℕ) (device' : LogState) (later : List Record) → IsTc w
      → IsTcCrash w more bytes kept device device' → IsLogOf device'.forced later
      → (n : ℕ) × Keeps (tc_size w.log) w.stable (length w.log) more bytes n
      × (opens_as later device'.usage ≡ crashed w n)
  tc_crash_is more bytes kept device' later is c again =
      let left = kept_left more bytes kept device' is c in
      let same : later ≡ beginning w.log left.count =
      opens_once device'.forced later (beginning w.log left.count) again left.holds in
      let usage : device'.usage ≡ w.usage = ap (λ (l : LogState). l.usage) c.left ∙ c.halted.usage in
      (left.count, left.keeps, λ i. opens_as (same i) (usage i))

-- ---- what isn't opened

pub tc_unopened : (bytes bytes' : List ℕ) (usage usage' : Usage) (log later : List Record) → IsLogOf bytes log
    → bytes' ≡ bytes → IsLogOf bytes' later
    → opens_as later usage' ≡ used_so (opens_as log usage) usage'
tc_unopened bytes bytes' usage usage' log later holds left again =
    let same : later ≡ log = opens_once bytes later log (subst (λ b. IsLogOf b later) left again) holds in
    ap (λ l. opens_as l usage') same
