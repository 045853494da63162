-- A crash of the transaction component is a crash of the list machine, its restart no step, and both keep what holds of
-- a
-- node.
use Rattle.std.proofs.Common.{◌≡◌, ℕ, ◌-◌, ◌≤◌, Bool, true, false, List, length, take, Option, Some, None, refl, sym, ap, ◌∙◌, subst, arith, inl, inr, true≢false}
use Rattle.std.specs.Prelude.{◌&&◌, not}
use Rattle.std.proofs.lemmas.Bool.{cases_Bool}
use Rattle.std.proofs.lemmas.List.{length-drop, take-append-drop}
use Rattle.history.specs.declared.record.Record.{Record}
use Rattle.history.specs.declared.record.Record.TheVariants as is
use Rattle.history.specs.Log.{record_at, has_ended, IsOpen}
use Rattle.history.specs.Spans.{Span}
use Rattle.history.specs.ListMachine.{Machine, Crashes}
use Rattle.log_laws.proofs.LegalLogs.{begun_number}
use Rattle.log_laws.proofs.Records.{within}
use Rattle.framed_log.specs.Beginning.{beginning}
use Rattle.tc_locks.specs.Locks.{spans_of}
use Rattle.tc_core.specs.tc_restart.specs.Losers.{txns, IsLoser}
use Rattle.simulation.specs.View.{View, StandsFor, is_begin, is_left_open, opened}
use Rattle.simulation.specs.Running.{LeadsOn as LeadsTo}
use Rattle.simulation.specs.Views.{IsUncommitting}
use Rattle.simulation.proofs.Crash.{crash_is_a_step}
use Rattle.simulation.proofs.Leftovers.{leftovers_are_no_step, rebuilt_spans_are_no_step}
use Rattle.tc_core.specs.Locking.{is_listed}
use Rattle.stable.specs.Usage.{Usage}
use Rattle.tc_core.specs.TcView.{TcView, used_so}
use Rattle.tc_core.specs.Kept.{IsTc}
use Rattle.tc_core.specs.Opening.{opened as opened_tc, IsOpened}
use Rattle.tc_core.specs.Opened.{opens_as, crashed, losers_of, IsOpenedAgain}
use Rattle.tc_core.proofs.CrashedTc.{crashed_kept, opens_again, same_are_lost}
use Rattle.tc_core.proofs.Losers.{listed_loser, loser_listed}
use Rattle.tc_core.proofs.OpenedLog.{opened_kept}
use Rattle.node_laws.specs.Component.{TcSide}
use Rattle.node_laws.specs.Fallen.{IsFallen}
use Rattle.node_laws.specs.Kept.{IsKept}
use Rattle.stable.specs.Usage.{failing_in}
use Rattle.node_laws.specs.Node.{NodeView, with_tc, CrashesTcTo, RestartsTcTo, FailsTcTo}
use Rattle.node_laws.specs.Simulation.{clients}
use Rattle.node_laws.specs.declared.event.Event.TheVariants as event
use Rattle.node_laws.specs.declared.event.Out.{Out}
use Rattle.node_laws.specs.declared.event.Out.TheVariants as out
use Rattle.node_laws.proofs.Restarts.Crashes.{keeps_up}
use Rattle.framed_log.proofs.Beginning.{everything}
use Rattle.node_laws.proofs.Restarts.Fallen.{fallen_is_kept}
use Rattle.node_laws.proofs.Machine.Follows.{Follows, IsLeft, at_new, no_line, one_line, unchanged, kept_left, stands_left}

-- ---- what a log opens as

-- whoever is left open is listed as a loser
listed_open : (log : List Record) (usage : Usage) → IsTc (opens_as log usage) → (t : ℕ)
    → is_left_open log t ≡ is_listed (txns (losers_of log)) t
listed_open log usage k t =
    elim (cases_Bool (is_listed (txns (losers_of log)) t)) [
      | inl listed ↦
          let loser = listed_loser log (losers_of log) k.lost.losers t listed in
          (λ i. is_begin (loser.open_txn.begun i) && not (loser.open_txn.goes_on i)) ∙ sym listed
      | inr unlisted ↦ by unlisted (is_begin (record_at log t)) refl (has_ended log t) refl ∙ sym unlisted
    ]
  where
    begins : (r : Option Record) → is_begin r ≡ true → r ≡ Some is.Begin
    begins None is = absurd (cc)
    begins (Some is.Begin) is = refl
    begins (Some (is.Op u p o)) is = absurd (cc)
    begins (Some (is.Answer n a)) is = absurd (cc)
    begins (Some (is.Comp u n x i)) is = absurd (cc)
    begins (Some (is.Commit u)) is = absurd (cc)
    begins (Some (is.End u)) is = absurd (cc)
    begins (Some (is.Checkpoint l)) is = absurd (cc)
    begins (Some is.Session) is = absurd (cc)

    by : is_listed (txns (losers_of log)) t ≡ false → (b : Bool) → is_begin (record_at log t) ≡ b → (e : Bool)
        → has_ended log t ≡ e → (b && not e) ≡ false
    by unlisted false begins e ended = refl
    by unlisted true begin true ended = refl
    by unlisted true begin false ended =
        let begun : record_at log t ≡ Some is.Begin = begins (record_at log t) begin in
        let open_txn : IsOpen log t = record { begun = begun; goes_on = ended } in
        let loser : IsLoser log (losers_of log).below t =
        record { open_txn = open_txn; early = omega (arith, (begun_number log t begun).bounded) } in
        absurd (true≢false (sym (loser_listed log (losers_of log) k.lost.losers t loser) ∙ unlisted))

-- so clients see of it what the list machine's crash leaves
stands_opened : (log : List Record) (usage : Usage) (m : Machine) → IsTc (opens_as log usage)
    → StandsFor (opened log) m → StandsFor (clients (opens_as log usage)) m
stands_opened log usage m k stands =
    let w : TcView = opens_as log usage in
    let spans : ℕ → List Span = λ t. spans_of w.locks t in
    let same : (t : ℕ) → is_left_open log t ≡ is_listed (txns (losers_of log)) t = listed_open log usage k in
    let path : record (opened log) { spans = spans } ≡ clients w =
    λ i. record (opened log) { spans = spans; loses = λ t. same t i } in
    subst (λ (v : View). StandsFor v m) path (rebuilt_spans_are_no_step log m spans stands)

-- no Commit waits for a force where all is stable
all_forced : (w : TcView) → w.stable ≡ length w.log → (t : ℕ) → IsUncommitting (clients w) t
all_forced w all t n at =
    let number = within (λ r. r ≡ Some (is.Commit t)) (λ none. cc) w.log n at in omega (arith, number.bounded, all)

-- the same log opened twice
stands_again : (old new : TcView) (m : Machine) → IsTc old → IsTc new → IsOpenedAgain old new
    → StandsFor (clients old) m → StandsFor (clients new) m
stands_again old new m k is again stands =
    let was : TcView = opened_tc old.log old.usage old.checkpointed old.losers old.locks in
    let now : TcView = opened_tc old.log new.usage old.checkpointed new.losers new.locks in
    let spans : ℕ → List Span = λ t. spans_of new.locks t in
    let same : (t : ℕ) → is_listed (txns new.losers) t ≡ is_listed (txns old.losers) t =
    same_are_lost old new k is again in
    let path : record (clients was) { spans = spans } ≡ clients now =
    λ i. record (clients was) { spans = spans; loses = λ t. sym (same t) i } in
    let there : StandsFor (clients was) m = subst (λ x. StandsFor (clients x) m) again.was stands in
    let moved : StandsFor (record (clients was) { spans = spans }) m =
    leftovers_are_no_step (clients was) m (clients was).saves spans there (λ t. inl refl)
    (λ t. inr (refl, all_forced was refl t)) in
    subst (λ x. StandsFor (clients x) m) (sym again.is) (subst (λ (v : View). StandsFor v m) path moved)

-- a component that was opened on any bytes stands for what one that is opened on the log's own order stands for
pub stands_over : (bytes : List ℕ) (usage : Usage) (w : TcView) (m : Machine) → IsTc w → IsOpened bytes usage w
    → StandsFor (opened w.log) m → StandsFor (clients w) m
stands_over bytes usage w m k is stands =
    let other : TcView = opens_as w.log usage in
    let is_tc : IsTc other = opened_kept w.log usage k.legal k.few.records in
    stands_again other w m is_tc k (opens_again bytes w.log usage w is.log is k)
    (stands_opened w.log usage m is_tc stands)

-- ---- a crash

-- whatever records it keeps, with all that are stable
crash_leads : (w : TcView) (m : Machine) (n : ℕ) → IsTc w → IsTc (crashed w n) → w.stable ≤ n → n ≤ length w.log
    → StandsFor (clients w) m → LeadsTo (clients w) m Crashes (clients (crashed w n))
crash_leads w m n k is le within stands =
    let older : List Record = beginning w.log n in
    let count : length older ≡ n = omega (arith, length-drop (length w.log - n) w.log, within) in
    let step = crash_is_a_step (clients w) m (take (length w.log - n) w.log) older k.legal stands
    (sym (take-append-drop (length w.log - n) w.log)) (omega (arith, le, count)) in
    (step.0, step.1, stands_opened older w.usage step.0 is step.2)

crash_falls : (w : TcView) (n : ℕ) → IsTc w → w.stable ≤ n → n ≤ length w.log → IsFallen w (crashed w n)
crash_falls w n k le within = record {
  kept = n;
  stable = le;
  within = within;
  log = refl;
  all = omega (arith, length-drop (length w.log - n) w.log, within);
  session = refl;
  unconnected = refl;
  nobody = refl;
  checkpointed = (crashed_kept w n k within).1;
}

pub follows_tc_crash : (old new : NodeView) (frames bytes : ℕ) (output : Out) → IsKept old
    → CrashesTcTo old frames bytes output new → Follows old (event.CrashTc frames bytes) output new
follows_tc_crash old new frames bytes out.Down k h =
    let n : ℕ = h.0.1.0 in
    let may = h.0.1.1 in
    let tc : TcView = crashed old.tc n in
    let is : IsTc tc = (crashed_kept old.tc n k.tc may.within).0 in
    let next : NodeView = record old { tc_up = false; tc = tc } in
    let same : new ≡ next = h.1 ∙ ap (λ (s : TcSide). record old { tc_up = s.up; tc = s.tc }) h.0.1.2 in
    at_new old new next (event.CrashTc frames bytes) out.Down same (record {
      leads = one_line old next (event.CrashTc frames bytes) out.Down Crashes refl
          (λ m stands. crash_leads old.tc m n k.tc is may.stable may.within stands);
      kept = keeps_up (with_tc old tc) false old.dc_up
          (fallen_is_kept old tc k (crash_falls old.tc n k.tc may.stable may.within) is);
    })
follows_tc_crash old new frames bytes out.Nothing k h =
    unchanged old new (event.CrashTc frames bytes) out.Nothing k
    (h.1 ∙ ap (λ (s : TcSide). record old { tc_up = s.up; tc = s.tc }) h.0.1) refl
follows_tc_crash old new frames bytes _ k h = absurd h

-- ---- a restart

-- it loses nothing more
restart_falls : (old new : TcView) → IsOpenedAgain old new → old.stable ≤ length old.log → IsFallen old new
restart_falls old new again le = record {
  kept = length old.log;
  stable = le;
  within = omega arith;
  log = ap (λ (w : TcView). w.log) again.is ∙ sym (everything old.log);
  all = ap (λ (w : TcView). w.stable) again.is;
  session = ap (λ (w : TcView). w.session) again.is;
  unconnected = ap (λ (w : TcView). w.phase) again.is;
  nobody = ap (λ (w : TcView). w.open_txns) again.is;
  checkpointed = let same : new.checkpointed ≡ old.checkpointed = ap (λ (w : TcView). w.checkpointed) again.is in
      omega (arith, same);
}

pub follows_tc_restart : (old new : NodeView) (output : Out) → IsKept old → IsTc new.tc → RestartsTcTo old output new
    → Follows old event.RestartTc output new
follows_tc_restart old new (out.Up count) k is h =
    let again : IsOpenedAgain old.tc new.tc = h.0.2 in
    let next : NodeView = record old { tc_up = true; tc = new.tc } in
    let same : new ≡ next = h.1 ∙ ap (λ (s : TcSide). record old { tc_up = s.up; tc = s.tc }) h.0.3 in
    at_new old new next event.RestartTc (out.Up count) same (record {
      leads = no_line old next event.RestartTc (out.Up count) refl
          (λ m stands. stands_again old.tc new.tc m k.tc is again stands);
      kept = keeps_up (with_tc old new.tc) true old.dc_up
          (fallen_is_kept old new.tc k (restart_falls old.tc new.tc again k.tc.within) is);
    })
follows_tc_restart old new out.Nothing k is h =
    unchanged old new event.RestartTc out.Nothing k
    (h.1 ∙ ap (λ (s : TcSide). record old { tc_up = s.up; tc = s.tc }) h.0.1) refl
follows_tc_restart old new (out.Refused r) k is h =
    let tc : TcView = used_so old.tc new.tc.usage in
    let next : NodeView = record old { tc_up = false; tc = tc } in
    let left : IsLeft old.tc tc = (new.tc.usage, refl) in
    let same : new ≡ next = h.1 ∙ ap (λ (s : TcSide). record old { tc_up = s.up; tc = s.tc }) h.0.2 in
    at_new old new next event.RestartTc (out.Refused r) same (record {
      leads = no_line old next event.RestartTc (out.Refused r) refl (λ m stands. stands_left old.tc tc m left stands);
      kept = keeps_up (with_tc old tc) false old.dc_up (kept_left old (with_tc old tc) k refl left);
    })
follows_tc_restart old new _ k is h = absurd h

-- ---- a failure that is set

pub follows_tc_fail : (old new : NodeView) (call : ℕ) (output : Out) → IsKept old → FailsTcTo old call output new
    → Follows old (event.FailTc call) output new
follows_tc_fail old new call out.Set k h =
    let tc : TcView = used_so old.tc (failing_in call old.tc.usage) in
    let left : IsLeft old.tc tc = (failing_in call old.tc.usage, refl) in
    let same : new ≡ with_tc old tc = h.1 ∙ ap (λ (s : TcSide). record old { tc_up = s.up; tc = s.tc }) h.0.1 in
    at_new old new (with_tc old tc) (event.FailTc call) out.Set same (record {
      leads = no_line old (with_tc old tc) (event.FailTc call) out.Set refl
          (λ m stands. stands_left old.tc tc m left stands);
      kept = kept_left old (with_tc old tc) k refl left;
    })
follows_tc_fail old new call out.Nothing k h =
    unchanged old new (event.FailTc call) out.Nothing k
    (h.1 ∙ ap (λ (s : TcSide). record old { tc_up = s.up; tc = s.tc }) h.0.1) refl
follows_tc_fail old new call _ k h = absurd h
