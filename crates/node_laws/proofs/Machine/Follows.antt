-- What a call of the transaction component may do is a step of the list machine, and keeps what holds.
use Rattle.std.proofs.Common.{◌≡◌, ℕ, ◌+◌, ◌≤◌, Bool, true, false, List, [], ◌∷◌, length, Option, Some, None, refl, sym, ap, ◌∙◌, subst, arith, inl, inr, true≢false}
use Rattle.std.specs.Prelude.{◌&&◌, not, Result, Ok, Err, nat_le}
use Rattle.std.proofs.lemmas.Bool.Decides.{nat_tests}
use Rattle.std.proofs.lemmas.Bool.{cases_Bool}
use Rattle.record_key.specs.declared.op.Op.{Op}
use Rattle.record_key.specs.Table.{Bytes}
use Rattle.record_key.specs.declared.refusal.Refusal.{Refusal}
use Rattle.record_key.specs.declared.refusal.Refusal.TheVariants.{Full, BadSavepoint, BadRange, NumbersSpent}
use Rattle.record_key.specs.FirstCause.{first_of}
use Rattle.tc_locks.specs.Meant.{range_of}
use Rattle.history.specs.Spans.{Span, changed_span}
use Rattle.record_key.specs.Order.{ends_above, HasKeys}
use Rattle.history.specs.declared.record.Record.{Record}
use Rattle.history.specs.declared.record.Record.TheVariants as is
use Rattle.history.specs.Log.{record_at}
use Rattle.history.specs.ListMachine.{Machine, Line, Call, ToBegin, ToAct, ToRead, ToSave, ToGoBack, ToRollBack, ToCommit, IsRefused, Begins, Acts as acts, Reads, Saves as saves_line, GoesBack as goes_back, RollsBack as rolls_back_line, Commits, TellsRolledBack, TellsBack, asked_range, asked_span, Steps}
use Rattle.simulation.specs.View.{StandsFor}
use Rattle.simulation.specs.Running.{LeadsOn as LeadsTo}
use Rattle.tc_locks.specs.declared.span.Span.{Span as Keys}
use Rattle.tc_locks.specs.declared.span.Span.TheVariants.{Key, Range}
use Rattle.tc_locks.specs.Locks.{IsGrantable}
use Rattle.tc_core.specs.declared.open_txn.OpenTxn.{OpenTxn}
use Rattle.tc_core.specs.declared.open_txn.Read.{Read}
use Rattle.tc_core.specs.declared.open_txn.Rollback.{Rollback}
use Rattle.tc_core.specs.declared.told.UndoStep.{UndoStep}
use Rattle.tc_core.specs.declared.told.UndoStep.TheVariants as undo
use Rattle.tc_log.specs.LogView.{is_spent, spent_refusal}
use Rattle.dc_core.specs.dc_store.specs.Checked.{IsChecked}
use Rattle.tc_core.specs.OpenTxns.{find, replace}
use Rattle.stable.specs.Usage.{Usage, failed}
use Rattle.tc_core.specs.TcView.{TcView, used_so}
use Rattle.tc_core.specs.Refusing.{Refuses}
use Rattle.tc_core.specs.Causes.{serving_refusal, begin_refusal, commit_refusal, idle_refusal, read_refusal, save_refusal, saves_of, back_refusal, has_savepoint, undo_refusal, answered_refusal, undo_logs, RefusesTaking}
use Rattle.tc_log.specs.Undoing.{inverse_at, next_at}
use Rattle.tc_core.specs.Changes.{begun, acted, acted_txn, asked_read, reading_txn, shared, saved, saved_txn, going_back, going_back_txn, rolled, rolling_txn, committed, compensated, compensated_txn, wholly_undone, is_back, back_txn, forced}
use Rattle.tc_core.specs.Calls.{IsAt, Acts, AsksRead, Saves, GoesBack, RollsBack, ReadGives, UndoGives, UndoesStep, Undoes}
use Rattle.tc_core.specs.Kept.{IsTc}
use Rattle.tc_core.specs.Locking.{is_listed}
use Rattle.tc_core.proofs.Finding.{found_number}
use Rattle.log_laws.proofs.LegalLogs.{begun_number}
use Rattle.log_laws.proofs.Named.{ended_begun}
use Rattle.tc_core.proofs.KeepsTc.{keeps_used as tc_used}
use Rattle.tc_core.proofs.Committing.{committing_ended}
use Rattle.node_laws.specs.declared.event.Event.{Event}
use Rattle.node_laws.specs.declared.event.Event.TheVariants as event
use Rattle.node_laws.specs.declared.event.Out.{Out}
use Rattle.node_laws.specs.declared.event.Out.TheVariants as out
use Rattle.node_laws.specs.Node.{NodeView, with_tc, Calls, BeginsTo, ActsTo, ReadsTo, SavesTo, GoesBackTo, RollsBackTo, CommitsTo, UndoesTo, ForcesTo}
use Rattle.node_laws.specs.Kept.{IsKept}
use Rattle.node_laws.specs.Simulation.{Leads, NodeStandsFor, StepsIf, lines_of, clients, query_of, told_committed}
use Rattle.node_laws.proofs.Machine.Undone.{undone_above}
use Rattle.node_laws.proofs.Invariant.CallsKeep.{commit_found, begin_keeps, act_keeps, read_keeps, save_keeps, back_keeps, rollback_keeps, commit_keeps, undo_keeps, force_keeps}
use Rattle.node_laws.proofs.Machine.Standing.{stands_begun, stands_acted, stands_asked, stands_saved, stands_going_back, stands_rolled, stands_committed, stands_compensated, stands_ended, stands_back, stands_forced}
use Rattle.node_laws.proofs.Machine.Refused.{RefusesSo, begin_refused, act_refused, read_refused, same_span, save_refused, back_refused, rollback_refused, commit_refused}
use Rattle.tc_core.proofs.Refused.{at_number}
use Rattle.node_laws.proofs.Machine.Idle.{both_none, one_false, idle_found, waits_for_none, serves_serving, serves_idle, serves_undo}
use Rattle.node_laws.proofs.Machine.Readers.{NoneAnew, ReadsOnly, none_same, none_begun, none_replaced, none_without, reads_same}
use Rattle.node_laws.proofs.Invariant.Keeps.{still_captured, asked_captured, keeps_appended, keeps_same_log, logs_on, same_waiting, serving_on}

pub record Follows (old : NodeView) (e : Event) (output : Out) (new : NodeView) : Type 0 where
  pub leads : Leads old e output new
  pub kept : IsKept new

pub at_new : (old new next : NodeView) (e : Event) (output : Out) → new ≡ next → Follows old e output next
    → Follows old e output new
at_new old new next e output same h = subst (Follows old e output) (sym same) h

-- only the transaction component changed, to this
pub at_tc : (old new : NodeView) (tc : TcView) (e : Event) (output : Out) → new ≡ with_tc old new.tc → new.tc ≡ tc
    → Follows old e output (with_tc old tc) → Follows old e output new
at_tc old new tc e output left same h = at_new old new (with_tc old tc) e output (left ∙ ap (with_tc old) same) h

-- an event without a line, after which the node stands for what it stood for
pub no_line : (old new : NodeView) (e : Event) (output : Out) → lines_of e output ≡ Some []
    → ((m : Machine) → NodeStandsFor old m → NodeStandsFor new m) → Leads old e output new
no_line old new e output none h m stands = (m, subst (λ x. StepsIf m x m) (sym none) refl, h m stands)

-- an event with one line
pub one_line : (old new : NodeView) (e : Event) (output : Out) (line : Line) → lines_of e output ≡ Some (line ∷ [])
    → ((m : Machine) → NodeStandsFor old m → LeadsTo (clients old.tc) m line (clients new.tc)) → Leads old e output new
one_line old new e output line is h m stands =
    let l = h m stands in (l.0, subst (λ x. StepsIf m x l.0) (sym is) (l.0, l.1, refl), l.2)

-- nothing changes
pub unchanged : (old new : NodeView) (e : Event) (output : Out) → IsKept old → new ≡ old → lines_of e output ≡ Some []
    → Follows old e output new
unchanged old new e output k same none =
    at_new old new old e output same (record { leads = no_line old old e output none (λ m stands. stands); kept = k })

-- that a device was called is no matter
pub keeps_used : (w : NodeView) (usage : Usage) → IsKept w → IsKept (with_tc w (used_so w.tc usage))
keeps_used w usage k = keeps_same_log w (used_so w.tc usage) k (tc_used w.tc usage k.tc) k.checked refl (omega arith)
    (inl refl)
    (omega arith) (none_same w.tc.reads w.tc.open_txns) (same_waiting w k (used_so w.tc usage) refl refl) k.sessions

-- what a refused call leaves: all as it was, but that the device was called
abbrev pub IsLeft : TcView → TcView → Type 0
IsLeft old new = (usage : Usage) × (new ≡ used_so old usage)

pub left_refused : (cause : Option Refusal) (memory device : Bool) (old : TcView) (r : Refusal) (new : TcView)
    → Refuses cause memory device old r new → IsLeft old new
left_refused (Some c) memory device old r new h = (old.usage, h.1)
left_refused None memory device old r new (inl h) = (old.usage, h.2)
left_refused None memory device old r new (inr h) = (failed old.usage, h.2)

left_taking : (cause spent : Option Refusal) (device : Bool) (old : TcView) (t : ℕ) (s : Span) (r : Refusal)
    (new : TcView)
    → RefusesTaking cause spent device old t s r new → IsLeft old new
left_taking (Some c) spent device old t s r new h = (old.usage, h.1)
left_taking None spent device old t s r new (inl h) = (old.usage, h.3)
left_taking None spent device old t s r new (inr h) = left_refused spent true device old r new h.1

pub kept_left : (old new : NodeView) → IsKept old → new ≡ with_tc old new.tc → IsLeft old.tc new.tc → IsKept new
kept_left old new k left which = subst IsKept (sym (left ∙ ap (with_tc old) which.1)) (keeps_used old which.0 k)

-- so a refused call follows
refused : (old new : NodeView) (e : Event) (call : Call) (r : Refusal) → IsKept old
    → lines_of e (out.Refused r) ≡ Some (IsRefused call r ∷ []) → new ≡ with_tc old new.tc
    → IsLeft old.tc new.tc → ((m : Machine) → NodeStandsFor old m → RefusesSo m call r new.tc)
    → Follows old e (out.Refused r) new
refused old new e call r k line left which h = record {
  leads = one_line old new e (out.Refused r) (IsRefused call r) line
      (λ m stands. let s = h m stands in (m, s.line, s.stands));
  kept = kept_left old new k left which;
}

-- the next number is nobody's
next_unfound : (w : TcView) → IsTc w → find (length w.log + 1) w.open_txns ≡ None
next_unfound w k = by (find (length w.log + 1) w.open_txns) refl
  where
    by : (x : Option OpenTxn) → find (length w.log + 1) w.open_txns ≡ x → x ≡ None
    by None none = refl
    by (Some o) some =
        let bounded = (begun_number w.log (length w.log + 1)
        (subst (λ (t : ℕ). record_at w.log t ≡ Some is.Begin) (found_number (length w.log + 1) w.open_txns o some)
        (k.open_txns.each (length w.log + 1) o some).is.begun)).bounded in
        absurd (omega (arith, bounded))

next_unlisted : (w : TcView) → IsTc w → is_listed w.committing (length w.log + 1) ≡ false
next_unlisted w k = elim (cases_Bool (is_listed w.committing (length w.log + 1))) [
  | inl listed ↦
      let over = committing_ended w.log w.stable (length w.log + 1)
      (sym (ap (λ (ts : List ℕ). is_listed ts (length w.log + 1)) k.committing) ∙ listed) in
      let bounded = (begun_number w.log (length w.log + 1)
      (ended_begun w.log (length w.log + 1) k.legal over)).bounded in
      absurd (omega (arith, bounded))
  | inr free ↦ free
]

-- begin
pub follows_begin : (old new : NodeView) (output : Out) → IsKept old → BeginsTo old output new
    → Follows old event.Begin output new
follows_begin old new (out.Begun t) k h =
    let number : ℕ = length old.tc.log + 1 in
    let serves = serves_serving old.tc (both_none (serving_refusal old.tc) _ h.0.0).0 in
    let after : IsTc (begun old.tc) = subst IsTc h.0.2 (begin_keeps old.tc new.tc (Ok t) k.tc h.0) in
    at_tc old new (begun old.tc) event.Begin (out.Begun t) h.1 h.0.2 (record {
      leads = one_line old (with_tc old (begun old.tc)) event.Begin (out.Begun t) (Begins t) refl
          (λ m stands. subst (λ (x : ℕ). LeadsTo (clients old.tc) m (Begins x) (clients (begun old.tc))) (sym h.0.1)
          (stands_begun old.tc m k.tc (next_unfound old.tc k.tc) (next_unlisted old.tc k.tc) stands));
      kept = keeps_appended old (begun old.tc) is.Begin k after k.checked refl (omega arith) (inl refl) (omega arith)
          (none_begun old.tc.reads old.tc.open_txns number) (serving_on old k (begun old.tc) refl serves)
          (logs_on old (begun old.tc).log k serves) k.right
          (λ some. still_captured old is.Begin (λ o h. cc) (λ m. refl));
    })
follows_begin old new (out.Refused r) k h =
    refused old new event.Begin ToBegin r k refl h.1 (left_refused (begin_refusal old.tc) true true old.tc r new.tc h.0)
    (λ m stands. begin_refused old.tc new.tc m r k.tc stands h.0)
follows_begin old new _ k h = absurd h

-- act
pub follows_act : (old new : NodeView) (t : ℕ) (op : Op) (output : Out) → IsKept old → ActsTo old t op output new
    → Follows old (event.Act t op) output new
follows_act old new t op (out.Logged n) k h =
    let a : Acts old.tc t op n new.tc = h.0 in
    let o : OpenTxn = a.open_txn in
    let tc : TcView = acted old.tc o op in
    let idle = idle_found old.tc t o a.at a.allowed in
    let free : IsGrantable old.tc.locks o.txn (changed_span op) =
    subst (λ (x : ℕ). IsGrantable old.tc.locks x (changed_span op)) (sym a.at.number) a.free in
    let after : IsTc tc = subst IsTc a.acted (act_keeps old.tc new.tc t op (Ok n) k.tc a) in
    at_tc old new tc (event.Act t op) (out.Logged n) h.1 a.acted (record {
      leads = one_line old (with_tc old tc) (event.Act t op) (out.Logged n) (acts t op n) refl
          (λ m stands. subst (λ (x : ℕ). LeadsTo (clients old.tc) m (acts t op x) (clients tc)) (sym a.number_is)
          (subst (λ (x : ℕ). LeadsTo (clients old.tc) m (acts x op (length old.tc.log + 1)) (clients tc)) a.at.number
          (stands_acted old.tc m o k.tc a.at.is stands op idle after free)));
      kept = keeps_appended old tc (is.Op o.txn o.last op) k after k.checked refl (omega arith) (inl refl) (omega arith)
          (none_replaced old.tc.reads old.tc.open_txns o (acted_txn o (length old.tc.log + 1)) a.at.is
          (reads_same old.tc.reads o (acted_txn o (length old.tc.log + 1)) refl))
          (serving_on old k tc refl (serves_idle old.tc t a.allowed))
          (logs_on old tc.log k (serves_idle old.tc t a.allowed)) k.right
          (λ some. asked_captured old (is.Op o.txn o.last op) k (λ m. refl));
    })
follows_act old new t op (out.Refused r) k h =
    refused old new (event.Act t op) (ToAct t op) r k refl h.1
    (left_taking (idle_refusal old.tc t) _ true old.tc t (changed_span op) r new.tc h.0)
    (λ m stands. act_refused old.tc new.tc m t op r k.tc stands h.0)
follows_act old new t op _ k h = absurd h

-- a call of a transaction that logs nothing: one line, and the same log
module _ (old : NodeView) (k : IsKept old) (o : OpenTxn) (new : OpenTxn) (tc : TcView)
    (at : find new.txn old.tc.open_txns ≡ Some o) (after : IsTc tc)
    (only : ReadsOnly old.tc.reads o new) where
  kept_same : tc.log ≡ old.tc.log → tc.stable ≡ old.tc.stable → tc.session ≡ old.tc.session → tc.phase ≡ old.tc.phase
      → tc.checkpointed ≡ old.tc.checkpointed → old.tc.reads ≤ tc.reads
      → tc.open_txns ≡ replace new old.tc.open_txns → IsKept (with_tc old tc)
  kept_same log stable session phases checkpointed reads opens =
      keeps_same_log old tc k after (subst (λ (l : ℕ). IsChecked l old.dc.system) (sym checkpointed) k.checked) log
      (omega (arith, stable)) (inl session) reads
      (subst (NoneAnew old.tc.reads old.tc.open_txns) (sym opens)
      (none_replaced old.tc.reads old.tc.open_txns o new at only))
      (same_waiting old k tc phases log)
      (rw (log, stable, session, phases) k.sessions)

-- get, scan
follows_read : (old new : NodeView) (t : ℕ) (s : Keys) (n : ℕ) (e : Event) → IsKept old
    → lines_of e (out.Asked n) ≡ Some (Reads t (query_of s) ∷ [])
    → Calls (ReadGives old.tc t s (Ok n)) old new → Follows old e (out.Asked n) new
follows_read old new t s n e k line h =
    let a : AsksRead old.tc t s n new.tc = h.0 in
    let o : OpenTxn = a.open_txn in
    let tc : TcView = asked_read old.tc o s in
    let mine : OpenTxn = reading_txn o (old.tc.reads + 1) s in
    let allowed = both_none (first_of ((not (ends_above (range_of s).hi (range_of s).lo), BadRange) ∷ []))
    (idle_refusal old.tc t) a.allowed in
    let idle = idle_found old.tc t o a.at allowed.1 in
    let is_range : HasKeys (asked_range (query_of s)) =
    ap (λ (x : Span). ends_above x.range.hi x.range.lo) (same_span s)
    ∙ not_not (ends_above (range_of s).hi (range_of s).lo)
    (one_false (not (ends_above (range_of s).hi (range_of s).lo)) BadRange allowed.0) in
    let free : IsGrantable old.tc.locks o.txn (asked_span (query_of s)) =
    subst (λ (x : Span). IsGrantable old.tc.locks o.txn x) (sym (same_span s))
    (subst (λ (x : ℕ). IsGrantable old.tc.locks x (shared s)) (sym a.at.number) a.free) in
    let after : IsTc tc = subst IsTc a.asked (read_keeps old.tc new.tc t s (Ok n) k.tc a) in
    at_tc old new tc e (out.Asked n) h.1 a.asked (record {
      leads = one_line old (with_tc old tc) e (out.Asked n) (Reads t (query_of s)) line
          (λ m stands. subst (λ (x : ℕ). LeadsTo (clients old.tc) m (Reads x (query_of s)) (clients tc)) a.at.number
          (stands_asked old.tc m o k.tc a.at.is stands s idle is_range free (same_span s)));
      kept = kept_same old k o mine tc a.at.is after (reads_later o) refl refl refl refl refl (omega arith) refl;
    })
  where
    not_not : (b : Bool) → not b ≡ false → b ≡ true
    not_not true h = refl
    not_not false h = absurd (true≢false h)

    -- the number of the read is above all before it
    reads_later : (o : OpenTxn) → ReadsOnly old.tc.reads o (reading_txn o (old.tc.reads + 1) s)
    reads_later o m q reading most =
        let same : Some (record { number = old.tc.reads + 1; span = s }) ≡ Some (record { number = m; span = q }) =
        reading in
        let number : old.tc.reads + 1 ≡ m = ap (λ (x : Option Read). number_of x) same in
        absurd (omega (arith, number, most))
      where
        number_of : Option Read → ℕ
        number_of None = 0
        number_of (Some r) = r.number

refused_read : (old new : NodeView) (t : ℕ) (s : Keys) (r : Refusal) (e : Event) → IsKept old
    → lines_of e (out.Refused r) ≡ Some (IsRefused (ToRead t (query_of s)) r ∷ [])
    → Calls (ReadGives old.tc t s (Err r)) old new → Follows old e (out.Refused r) new
refused_read old new t s r e k line h =
    refused old new e (ToRead t (query_of s)) r k line h.1
    (left_taking (read_refusal old.tc t (range_of s)) _ false old.tc t (shared s) r new.tc h.0)
    (λ m stands. read_refused old.tc new.tc m t s r k.tc stands h.0)

pub follows_get : (old new : NodeView) (t : ℕ) (key : Bytes) (output : Out) → IsKept old
    → ReadsTo old t (Key key) output new → Follows old (event.Get t key) output new
follows_get old new t key (out.Asked n) k h = follows_read old new t (Key key) n (event.Get t key) k refl h
follows_get old new t key (out.Refused r) k h = refused_read old new t (Key key) r (event.Get t key) k refl h
follows_get old new t key _ k h = absurd h

pub follows_scan : (old new : NodeView) (t : ℕ) (low : Bytes) (high : Option Bytes) (output : Out) → IsKept old
    → ReadsTo old t (Range low high) output new
    → Follows old (event.Scan t low high) output new
follows_scan old new t low high (out.Asked n) k h =
    follows_read old new t (Range low high) n (event.Scan t low high) k refl h
follows_scan old new t low high (out.Refused r) k h =
    refused_read old new t (Range low high) r (event.Scan t low high) k refl h
follows_scan old new t low high _ k h = absurd h

-- save
few_saves : (n : ℕ) → nat_le 16 n ≡ false → n + 1 ≤ 16
few_saves n h = grind (arith, nat_tests, h)

pub follows_save : (old new : NodeView) (t : ℕ) (output : Out) → IsKept old → SavesTo old t output new
    → Follows old (event.Save t) output new
follows_save old new t (out.Saved s) k h =
    let a : Saves old.tc t s new.tc = h.0 in
    let o : OpenTxn = a.open_txn in
    let tc : TcView = saved old.tc o in
    let mine : OpenTxn = saved_txn o (length old.tc.log) in
    let allowed = both_none (idle_refusal old.tc t)
    (first_of ((nat_le 16 (length (saves_of (find t old.tc.open_txns))), Full) ∷ [])) a.allowed in
    let idle = idle_found old.tc t o a.at allowed.0 in
    let few : nat_le 16 (length o.saves) ≡ false =
    sym (ap (λ (x : Option OpenTxn). nat_le 16 (length (saves_of x))) (at_number old.tc t o a.at))
    ∙ one_false (nat_le 16 (length (saves_of (find t old.tc.open_txns)))) Full allowed.1 in
    let after : IsTc tc = subst IsTc a.saved (save_keeps old.tc new.tc t (Ok s) k.tc a) in
    at_tc old new tc (event.Save t) (out.Saved s) h.1 a.saved (record {
      leads = one_line old (with_tc old tc) (event.Save t) (out.Saved s) (saves_line t s) refl
          (λ m stands. subst (λ (x : ℕ). LeadsTo (clients old.tc) m (saves_line x s) (clients tc)) a.at.number
          (stands_saved old.tc m o k.tc a.at.is stands s idle (sym a.number_is)
          (omega (arith, few_saves (length o.saves) few, a.number_is))));
      kept = kept_same old k o mine tc a.at.is after (reads_same old.tc.reads o mine refl) refl refl refl refl refl
          (omega arith) refl;
    })
follows_save old new t (out.Refused r) k h =
    refused old new (event.Save t) (ToSave t) r k refl h.1
    (left_refused (save_refusal old.tc t) true false old.tc r new.tc h.0)
    (λ m stands. save_refused old.tc new.tc m t r k.tc stands h.0)
follows_save old new t _ k h = absurd h

-- back to a savepoint
from_one : (n s : ℕ) → not (nat_le 1 s && nat_le s n) ≡ false → 1 ≤ s
from_one n s h = by (nat_le 1 s) refl h
  where
    by : (a : Bool) → nat_le 1 s ≡ a → not (a && nat_le s n) ≡ false → 1 ≤ s
    by true e g = grind (arith, nat_tests, e)
    by false e g = absurd (true≢false g)

pub follows_go_back : (old new : NodeView) (t s : ℕ) (output : Out) → IsKept old → GoesBackTo old t s output new
    → Follows old (event.GoBack t s) output new
follows_go_back old new t s out.RollingBack k h =
    let a : GoesBack old.tc t s new.tc = h.0 in
    let o : OpenTxn = a.open_txn in
    let tc : TcView = going_back old.tc o s a.end in
    let mine : OpenTxn = going_back_txn o s a.end in
    let allowed = both_none (idle_refusal old.tc t)
    (first_of ((not (has_savepoint (saves_of (find t old.tc.open_txns)) s), BadSavepoint) ∷ [])) a.allowed in
    let idle = idle_found old.tc t o a.at allowed.0 in
    let some = from_one (length (saves_of (find t old.tc.open_txns))) s
    (one_false (not (has_savepoint (saves_of (find t old.tc.open_txns)) s)) BadSavepoint allowed.1) in
    let after : IsTc tc = subst IsTc a.going (back_keeps old.tc new.tc t s (Ok tt) k.tc a) in
    at_tc old new tc (event.GoBack t s) out.RollingBack h.1 a.going (record {
      leads = one_line old (with_tc old tc) (event.GoBack t s) out.RollingBack (goes_back t s) refl
          (λ m stands. subst (λ (x : ℕ). LeadsTo (clients old.tc) m (goes_back x s) (clients tc)) a.at.number
          (stands_going_back old.tc m o k.tc a.at.is stands s a.end idle some a.savepoint));
      kept = kept_same old k o mine tc a.at.is after (reads_same old.tc.reads o mine refl) refl refl refl refl refl
          (omega arith) refl;
    })
follows_go_back old new t s (out.Refused r) k h =
    refused old new (event.GoBack t s) (ToGoBack t s) r k refl h.1
    (left_refused (back_refusal old.tc t s) false false old.tc r new.tc h.0)
    (λ m stands. back_refused old.tc new.tc m t s r k.tc stands h.0)
follows_go_back old new t s _ k h = absurd h

-- roll back
pub follows_rollback : (old new : NodeView) (t : ℕ) (output : Out) → IsKept old → RollsBackTo old t output new
    → Follows old (event.Rollback t) output new
follows_rollback old new t out.RollingBack k h =
    let a : RollsBack old.tc t new.tc = h.0 in
    let o : OpenTxn = a.open_txn in
    let tc : TcView = rolled old.tc o in
    let mine : OpenTxn = rolling_txn o in
    let idle = idle_found old.tc t o a.at a.allowed in
    let after : IsTc tc = subst IsTc a.rolled (rollback_keeps old.tc new.tc t (Ok tt) k.tc a) in
    at_tc old new tc (event.Rollback t) out.RollingBack h.1 a.rolled (record {
      leads = one_line old (with_tc old tc) (event.Rollback t) out.RollingBack (rolls_back_line t) refl
          (λ m stands. subst (λ (x : ℕ). LeadsTo (clients old.tc) m (rolls_back_line x) (clients tc)) a.at.number
          (stands_rolled old.tc m o k.tc a.at.is stands idle));
      kept = kept_same old k o mine tc a.at.is after (reads_same old.tc.reads o mine refl) refl refl refl refl refl
          (omega arith) refl;
    })
follows_rollback old new t (out.Refused r) k h =
    refused old new (event.Rollback t) (ToRollBack t) r k refl h.1
    (left_refused (idle_refusal old.tc t) false false old.tc r new.tc h.0)
    (λ m stands. rollback_refused old.tc new.tc m t r k.tc stands h.0)
follows_rollback old new t _ k h = absurd h

-- commit
pub follows_commit : (old new : NodeView) (t : ℕ) (output : Out) → IsKept old → CommitsTo old t output new
    → Follows old (event.Commit t) output new
follows_commit old new t (out.CommitLogged n) k h =
    let tc : TcView = committed old.tc t in
    let found = commit_found old.tc t h.0.0 in
    let o : OpenTxn = found.open_txn in
    let after : IsTc tc = subst IsTc h.0.2 (commit_keeps old.tc new.tc t (Ok n) k.tc h.0) in
    let serves = serves_idle old.tc t (both_none (idle_refusal old.tc t) (spent_refusal old.tc.log) h.0.0).0 in
    let r : Record = is.Commit t in
    at_tc old new tc (event.Commit t) (out.CommitLogged n) h.1 h.0.2 (record {
      leads = one_line old (with_tc old tc) (event.Commit t) (out.CommitLogged n) (Commits t) refl
          (λ m stands. subst (λ (x : ℕ). LeadsTo (clients old.tc) m (Commits x) (clients (committed old.tc x)))
          found.at.number
          (stands_committed old.tc m o k.tc found.at.is stands found.idle
          (subst (λ (x : ℕ). IsTc (committed old.tc x)) (sym found.at.number) after)));
      kept = keeps_appended old tc r k after k.checked refl (omega arith) (inl refl) (omega arith)
          (none_without old.tc.reads old.tc.open_txns t)
          (serving_on old k tc refl serves) (logs_on old tc.log k serves) k.right
          (λ some. still_captured old r (λ q asks. cc) (λ m. refl));
    })
follows_commit old new t (out.Refused r) k h =
    refused old new (event.Commit t) (ToCommit t) r k refl h.1
    (left_refused (commit_refusal old.tc t) true true old.tc r new.tc h.0)
    (λ m stands. commit_refused old.tc new.tc m t r k.tc stands h.0)
follows_commit old new t _ k h = absurd h

-- force
pub follows_force : (old new : NodeView) (output : Out) → IsKept old → ForcesTo old output new
    → Follows old event.Force output new
follows_force old new (out.Stable end cs) k h =
    let tc : TcView = forced old.tc in
    let after : IsTc tc = subst IsTc h.0.2
    (force_keeps old.tc new.tc (Ok (record { end = end; committed = cs })) k.tc h.0) in
    at_tc old new tc event.Force (out.Stable end cs) h.1 h.0.2 (record {
      leads = λ m stands. let l = stands_forced old.tc m k.tc stands in
          (l.0, subst (λ (ts : List ℕ). Steps m (told_committed ts) l.0) (sym h.0.1) l.1, l.2);
      kept = keeps_same_log old tc k after k.checked refl k.tc.within (inl refl) (omega arith)
          (none_same old.tc.reads old.tc.open_txns) (same_waiting old k tc refl refl)
          (record {
            begun = record {
              recorded = omega (arith, k.sessions.begun.recorded, k.tc.within);
              most = k.sessions.begun.most;
            };
            served = k.sessions.served;
          });
    })
follows_force old new (out.Refused r) k h = record {
  leads = no_line old new event.Force (out.Refused r) refl
      (λ m stands. subst (λ x. StandsFor (clients x) m) (sym h.0.1) stands);
  kept = kept_left old new k h.1 (failed old.tc.usage, h.0.1);
}
follows_force old new _ k h = absurd h

-- a component that was left so stands for what it stood for
pub stands_left : (old new : TcView) (m : Machine) → IsLeft old new → StandsFor (clients old) m
    → StandsFor (clients new) m
stands_left old new m left stands = subst (λ x. StandsFor (clients x) m) (sym left.1) stands

-- undo: of a rollback the next compensation, or its end
module _ (old : NodeView) (t : ℕ) (k : IsKept old) where
  kept_undo : (new : NodeView) (x : Result UndoStep Refusal) → UndoGives old.tc t x new.tc → IsTc new.tc
  kept_undo new x h = undo_keeps old.tc new.tc t x k.tc h

  undoes_idle : (new : NodeView) (o : OpenTxn) (x : Option Rollback) → Undoes old.tc o x undo.Idle new.tc
      → new.tc ≡ old.tc
  undoes_idle new o None h = h
  undoes_idle new o (Some r) h = absurd h

  -- a compensation
  compensates : (new : NodeView) (n : ℕ) (o : OpenTxn) (r : Rollback) → IsAt old.tc t o
      → answered_refusal old.tc t ≡ None → o.rolling ≡ Some r → new ≡ with_tc old new.tc → IsTc new.tc
      → Undoes old.tc o (Some r) (undo.Compensated n) new.tc → Follows old (event.Undo t) (out.Compensated n) new
  compensates new n o r at allowed rolling left is_tc h =
      let tc : TcView = compensated old.tc o in
      let mine : OpenTxn = compensated_txn o (length old.tc.log + 1) (next_at old.tc.log o.undo)
      (inverse_at old.tc.log o.undo) in
      let after : IsTc tc = subst IsTc h.2 is_tc in
      let c : Record = is.Comp o.txn o.undo (next_at old.tc.log o.undo) (inverse_at old.tc.log o.undo) in
      at_tc old new tc (event.Undo t) (out.Compensated n) left h.2 (record {
        leads = no_line old (with_tc old tc) (event.Undo t) (out.Compensated n) refl
            (λ m stands. stands_compensated old.tc m o k.tc at.is stands r rolling h.0 after);
        kept = keeps_appended old tc c k after k.checked refl (omega arith) (inl refl) (omega arith)
            (none_replaced old.tc.reads old.tc.open_txns o mine at.is (reads_same old.tc.reads o mine refl))
            (serving_on old k tc refl (serves_undo old.tc t allowed))
            (logs_on old tc.log k (serves_undo old.tc t allowed)) k.right (λ some. asked_captured old c k (λ m. refl));
      })

  -- the end of a whole rollback
  ends : (new : NodeView) (u : ℕ) (o : OpenTxn) (r : Rollback) → IsAt old.tc t o → answered_refusal old.tc t ≡ None
      → o.rolling ≡ Some r → new ≡ with_tc old new.tc → IsTc new.tc
      → Undoes old.tc o (Some r) (undo.RolledBack u) new.tc → Follows old (event.Undo t) (out.RolledBack u) new
  ends new u o r at allowed rolling left is_tc h =
      let tc : TcView = wholly_undone old.tc o.txn in
      let after : IsTc tc = subst IsTc h.3 is_tc in
      let e : Record = is.End o.txn in
      at_tc old new tc (event.Undo t) (out.RolledBack u) left h.3 (record {
        leads = one_line old (with_tc old tc) (event.Undo t) (out.RolledBack u) (TellsRolledBack u) refl
            (λ m stands. subst (λ (x : ℕ). LeadsTo (clients old.tc) m (TellsRolledBack x) (clients tc)) (sym h.2)
            (stands_ended old.tc m o k.tc at.is stands r rolling h.1 after));
        kept = keeps_appended old tc e k after k.checked refl (omega arith) (inl refl) (omega arith)
            (none_without old.tc.reads old.tc.open_txns o.txn)
            (serving_on old k tc refl (serves_undo old.tc t allowed))
            (logs_on old tc.log k (serves_undo old.tc t allowed)) k.right
            (λ some. still_captured old e (λ q asks. cc) (λ m. refl));
      })

  -- the end of a rollback to a savepoint
  is_back_there : (new : NodeView) (u s : ℕ) (o : OpenTxn) (r : Rollback) → IsAt old.tc t o
      → answered_refusal old.tc t ≡ None → o.rolling ≡ Some r → new ≡ with_tc old new.tc → IsTc new.tc
      → Undoes old.tc o (Some r) (undo.Back u s) new.tc → Follows old (event.Undo t) (out.Back u s) new
  is_back_there new u s o r at allowed rolling left is_tc h =
      let tc : TcView = is_back old.tc o in
      let mine : OpenTxn = back_txn o in
      let none = waits_for_none old.tc t o at allowed in
      let after : IsTc tc = subst IsTc h.3 is_tc in
      at_tc old new tc (event.Undo t) (out.Back u s) left h.3 (record {
        leads = one_line old (with_tc old tc) (event.Undo t) (out.Back u s) (TellsBack u s) refl
            (λ m stands. subst (λ (x : ℕ). LeadsTo (clients old.tc) m (TellsBack x s) (clients tc)) (sym h.2)
            (stands_back old.tc m o k.tc at.is stands r s rolling h.1 none.0 none.1
            (undone_above old.tc o r k.tc at.is h.0)));
        kept = kept_same old k o mine tc at.is after (reads_same old.tc.reads o mine refl) refl refl refl refl refl
            (omega arith) refl;
      })

answered_first : (w : TcView) (t : ℕ) → undo_refusal w t ≡ None → answered_refusal w t ≡ None
answered_first w t h = (both_none (answered_refusal w t)
    (first_of ((undo_logs (find t w.open_txns) && is_spent w.log, NumbersSpent) ∷ [])) h).0

pub follows_undo : (old new : NodeView) (t : ℕ) (output : Out) → IsKept old → UndoesTo old t output new
    → Follows old (event.Undo t) output new
follows_undo old new t out.Nothing k h =
    let u : UndoesStep old.tc t undo.Idle new.tc = h.0 in
    unchanged old new (event.Undo t) out.Nothing k
    (h.1 ∙ ap (with_tc old) (undoes_idle old t k new u.open_txn u.open_txn.rolling u.undoes)) refl
follows_undo old new t (out.Compensated n) k h = by h.0.open_txn.rolling refl h.0.undoes
  where
    by : (x : Option Rollback) → h.0.open_txn.rolling ≡ x → Undoes old.tc h.0.open_txn x (undo.Compensated n) new.tc
        → Follows old (event.Undo t) (out.Compensated n) new
    by None is u = absurd u
    by (Some r) is u = compensates old t k new n h.0.open_txn r h.0.at (answered_first old.tc t h.0.allowed) is h.1
        (kept_undo old t k new (Ok (undo.Compensated n)) h.0) u
follows_undo old new t (out.RolledBack v) k h = by h.0.open_txn.rolling refl h.0.undoes
  where
    by : (x : Option Rollback) → h.0.open_txn.rolling ≡ x → Undoes old.tc h.0.open_txn x (undo.RolledBack v) new.tc
        → Follows old (event.Undo t) (out.RolledBack v) new
    by None is u = absurd u
    by (Some r) is u = ends old t k new v h.0.open_txn r h.0.at (answered_first old.tc t h.0.allowed) is h.1
        (kept_undo old t k new (Ok (undo.RolledBack v)) h.0) u
follows_undo old new t (out.Back v s) k h = by h.0.open_txn.rolling refl h.0.undoes
  where
    by : (x : Option Rollback) → h.0.open_txn.rolling ≡ x → Undoes old.tc h.0.open_txn x (undo.Back v s) new.tc
        → Follows old (event.Undo t) (out.Back v s) new
    by None is u = absurd u
    by (Some r) is u = is_back_there old t k new v s h.0.open_txn r h.0.at (answered_first old.tc t h.0.allowed) is h.1
        (kept_undo old t k new (Ok (undo.Back v s)) h.0) u
follows_undo old new t (out.Refused r) k h =
    let which = left_refused (undo_refusal old.tc t) (undo_logs (find t old.tc.open_txns))
    (undo_logs (find t old.tc.open_txns)) old.tc r new.tc h.0 in
    record {
      leads = no_line old new (event.Undo t) (out.Refused r) refl
          (λ m stands. stands_left old.tc new.tc m which stands);
      kept = kept_left old new k h.1 which;
    }
follows_undo old new t _ k h = absurd h
