-- Each change of the transaction component is a step of the list machine, or none.
use Rattle.std.proofs.Common.{◌≡◌, ◌≢◌, ℕ, ◌+◌, ◌-◌, ◌<◌, ◌≤◌, true, false, List, [], ◌∷◌, ◌++◌, length, Option, Some, None, refl, sym, ap, ◌∙◌, subst, arith, inl, inr, ◌⊎◌, take, true≢false, eq-eqb, ne_eqb}
use Rattle.std.specs.Prelude.{◌||◌, ◌==◌, is_some, slice_get, if◌then◌else◌}
use Rattle.std.specs.FinMap.{get}
use Rattle.std.proofs.lemmas.Bool.{cases_Bool, cases_eq}
use Rattle.std.proofs.lemmas.Bool.Decides.{nat_tests}
use Rattle.record_key.specs.declared.op.Op.{Op}
use Rattle.record_key.specs.declared.op.Answer.{Answer}
use Rattle.record_key.specs.Table.{Bytes}
use Rattle.history.specs.declared.record.Record.{Record}
use Rattle.history.specs.declared.record.Record.TheVariants as is
use Rattle.history.specs.History.{plain}
use Rattle.record_key.specs.Order.{HasKeys, rows_in}
use Rattle.history.specs.Spans.{Span, changed_span}
use Rattle.history.specs.Log.{record_at, IsOpBy, IsOpen}
use Rattle.history.specs.Legal.{Stands, IsLegal}
use Rattle.history.specs.Values.{HasRightAnswers}
use Rattle.history.specs.ListMachine.{Machine, OfKey, OfRange, asked_range, asked_span, Begins, Acts, TellsAnswer, Reads, TellsRow, TellsRows, Saves, GoesBack, TellsBack, RollsBack, TellsRolledBack, Commits, TellsLost, IsFree, Steps}
use Rattle.log_laws.proofs.Records.{op_step, newest_at, older_at}
use Rattle.log_laws.proofs.Strict.{end_number, end_ends}
use Rattle.simulation.specs.View.{View, Doing, Ready, Awaits, Looks, Rolls, is_to_undo, IsCommitAt, AreItsKeys, StandsFor}
use Rattle.simulation.specs.Laws.{after_lost}
use Rattle.simulation.specs.Views.{HasTrueSpans, IsUncommitting}
use Rattle.simulation.specs.Running.{put, LeadsOn, does, after_begin, after_act, after_answer, after_save, after_go_back, after_read}
use Rattle.simulation.proofs.Calling.{begin_is_a_step, act_is_a_step}
use Rattle.simulation.proofs.Answering.{answer_is_told}
use Rattle.simulation.proofs.Saving.{save_is_a_step, go_back_is_a_step}
use Rattle.simulation.proofs.Looking.{read_is_a_step, row_is_told, rows_are_told}
use Rattle.simulation.proofs.Undoing.{rollback_is_a_step, comp_is_no_step, undone_is_no_step}
use Rattle.simulation.proofs.Ending.{commit_is_a_step, rolled_back_is_told, back_is_told}
use Rattle.simulation.proofs.Told.{commits_are_told, losers_are_told}
use Rattle.simulation.proofs.Viewing.{neutral_is_no_step}
use Rattle.simulation.proofs.Spanning.{free_by_true_spans}
use Rattle.simulation.proofs.Leftovers.{leftovers_are_no_step, let_go_is_no_step}
use Rattle.simulation.proofs.Equal.{stands_along}
use Rattle.tc_locks.specs.declared.span.Span.{Span as Keys}
use Rattle.tc_locks.specs.declared.span.Span.TheVariants.{Key, Range}
use Rattle.tc_locks.specs.Locks.{spans_of}
use Rattle.tc_locks.specs.Locks as locks
use Rattle.tc_core.specs.declared.open_txn.OpenTxn.{OpenTxn}
use Rattle.tc_core.specs.declared.open_txn.Read.{Read}
use Rattle.tc_core.specs.declared.open_txn.Rollback.{Rollback}
use Rattle.tc_core.specs.OpenTxns.{find, without}
use Rattle.tc_core.specs.TcView.{TcView}
use Rattle.tc_core.specs.tc_restart.specs.Losers.{LosersView, txns, IsLoser}
use Rattle.tc_core.specs.Causes.{saves_of}
use Rattle.tc_log.specs.Undoing.{inverse_at, next_at}
use Rattle.tc_core.specs.Changes.{let_go, forced, logged_session, reconnected, begun_txn, begun, acted_txn, acted, reading_txn, shared, asked_read, told_txn, was_told, saved_txn, saved, rolling_txn, rolled, going_back_txn, going_back, committed, compensated_txn, compensated, wholly_undone, back_txn, is_back, answered_txn, answered, answered_lost, lost_comp, lost_compensated, lost_ended, checkpointed}
use Rattle.tc_core.specs.Locking.{is_listed, is_holder}
use Rattle.tc_core.specs.Kept.{IsTc, IsOwedAnswer, commits_in}
use Rattle.tc_core.proofs.Finding.{find_here, find_there, found_number, without_same}
use Rattle.node_laws.specs.Simulation.{query_of, doing_of, doing_in, clients, told_committed}
use Rattle.node_laws.proofs.Machine.Clients.{put_is, doing_now, doing_kept, saves_replaced, saves_kept, doing_without, saves_without, spans_put, rests, awaits, looks, rolls}
use Rattle.tc_core.specs.tc_restart.specs.declared.loser.Loser.{Loser}
use Rattle.tc_core.specs.tc_restart.proofs.Losing.{loser_kept, loser_had}
use Rattle.tc_core.proofs.Committing.{open_unlisted, holder_more}
use Rattle.tc_core.proofs.KeepsSteps.{ends}
use Rattle.tc_core.proofs.Losers.{listed_loser, loser_listed, same_listed, unlisted_late}
use Rattle.node_laws.proofs.Restarts.LosersHold.{losers_hold, its_keys}
use Rattle.tc_core.proofs.LettingGo.{let_go_other}
use Rattle.node_laws.proofs.Machine.Committing.{listed_commit, told_commits}
use Rattle.node_laws.proofs.Machine.Idle.{IsIdleTxn}

-- whoever isn't open does nothing
does_nothing : (x : Option OpenTxn) → doing_in x ≡ None → x ≡ None
does_nothing None h = refl
does_nothing (Some o) h = absurd (cc)

-- the lock table says what each transaction holds, and of whoever is over that it holds nothing
pub true_spans : (w : TcView) → IsTc w → HasTrueSpans (clients w)
true_spans w k = record {
  let_go = λ t none stays told. k.locks.others t
      (holder_more w.open_txns w.committing (txns w.losers) t
      ∙ rw (unheld t (does_nothing (find t w.open_txns) none) told, stays) refl);
  losers = λ t loses. let P : List Span → Type 0 = AreItsKeys w.log t in
      subst P (sym (losers_hold w k t loses)) (its_keys w.log t);
}
  where
    unlisted : (t : ℕ) → IsUncommitting (clients w) t → is_listed w.committing t ≡ false
    unlisted t told = elim (cases_Bool (is_listed w.committing t)) [
      | inl listed ↦
          let c = listed_commit w.log w.stable t (sym (ap (λ (ts : List ℕ). is_listed ts t) k.committing) ∙ listed) in
          absurd (omega (arith, told c.number c.is, c.above))
      | inr free ↦ free
    ]

    unheld : (t : ℕ) → find t w.open_txns ≡ None → IsUncommitting (clients w) t
        → is_holder w.open_txns w.committing t ≡ false
    unheld t none told = ap (λ (x : Option OpenTxn). is_some x || is_listed w.committing t) none ∙ unlisted t told

-- what is free by the locks is free for the machine
pub free_there : (w : TcView) (m : Machine) (t : ℕ) (s : Span) → IsTc w → StandsFor (clients w) m
    → locks.IsGrantable w.locks t s → IsFree m t s
free_there w m t s k stands free = free_by_true_spans (clients w) m t s stands (true_spans w k) free

-- a transaction that does this
does_this : (w : TcView) (o : OpenTxn) (d : Doing) → find o.txn w.open_txns ≡ Some o → doing_of o ≡ d
    → (clients w).doing o.txn ≡ Some d
does_this w o d at is = ap doing_in at ∙ ap Some is

pub idle_rests : (o : OpenTxn) → IsIdleTxn o → doing_of o ≡ Ready
idle_rests o i = rests o i.rolling i.reading i.waiting

-- a transaction begins
pub stands_begun : (w : TcView) (m : Machine) → IsTc w → find (length w.log + 1) w.open_txns ≡ None
    → is_listed w.committing (length w.log + 1) ≡ false
    → StandsFor (clients w) m → LeadsOn (clients w) m (Begins (length w.log + 1)) (clients (begun w))
stands_begun w m k unfound unlisted stands =
    let t : ℕ = length w.log + 1 in
    let new : OpenTxn = begun_txn t in
    let l = begin_is_a_step (clients w) m k.legal stands in
    let here : find t (new ∷ w.open_txns) ≡ Some new = find_here new w.open_txns t refl in
    let there : (u : ℕ) → u ≢ t → find u (new ∷ w.open_txns) ≡ find u w.open_txns =
    λ u apart. find_there new w.open_txns u (λ e. apart (sym e)) in (
      l.0,
      l.1,
      stands_along (after_begin (clients w)) (clients (begun w)) l.0 refl refl (λ u. refl)
          (put_is (clients w).doing (clients (begun w)).doing t (Some Ready) (ap doing_in here)
          (λ u apart. ap doing_in (there u apart)))
          (put_is (clients w).saves (clients (begun w)).saves t [] (ap saves_of here)
          (λ u apart. ap saves_of (there u apart)))
          (put_is (clients w).spans (clients (begun w)).spans t []
          (k.locks.others t (holder_more w.open_txns w.committing (txns w.losers) t
          ∙ rw (unfound, unlisted, unlisted_late w.log w.losers k.lost.losers t k.lost.losers.bound) refl))
          (λ u apart. refl)) l.2,
    )

-- no Commit of an open transaction stands, nor does its End make one
no_commit : (log : List Record) (t n : ℕ) → IsOpen log t → IsCommitAt (is.End t ∷ log) t n → ⊥
no_commit log t n is_open is_commit = elim (cases_eq n (length log + 1)) [
  | inl e ↦ let last : Some (is.End t) ≡ Some (is.Commit t) =
      newest_at (λ x. x ≡ Some (is.Commit t)) (is.End t) log n e is_commit in cc
  | inr apart ↦
      let older = older_at (λ x. x ≡ Some (is.Commit t)) (is.End t) log n apart is_commit in
      true≢false (sym (end_ends log t n (inl older)) ∙ is_open.goes_on)
]

-- a transaction that was found
module _ (w : TcView) (m : Machine) (o : OpenTxn) (k : IsTc w) (at : find o.txn w.open_txns ≡ Some o)
    (stands : StandsFor (clients w) m) where
  -- acts
  pub stands_acted : (op : Op) → IsIdleTxn o → IsTc (acted w o op)
      → locks.IsGrantable w.locks o.txn (changed_span op)
      → LeadsOn (clients w) m (Acts o.txn op (length w.log + 1)) (clients (acted w o op))
  stands_acted op idle after free =
      let s : Span = changed_span op in
      let n : ℕ = length w.log + 1 in
      let new : OpenTxn = acted_txn o n in
      let l = act_is_a_step (clients w) m o.txn o.last op after.legal stands
      (does_this w o Ready at (idle_rests o idle)) (free_there w m o.txn s k stands free) in (
        l.0,
        l.1,
        stands_along (after_act (clients w) o.txn o.last op) (clients (acted w o op)) l.0 refl refl (λ u. refl)
            (doing_now w.open_txns new o at (Awaits n) (awaits new n idle.rolling idle.reading refl))
            (saves_kept w.open_txns new o at refl)
            (spans_put w.locks o.txn (s ∷ spans_of w.locks o.txn) k.locks.table) l.2,
      )

  -- asks for a read
  pub stands_asked : (s : Keys) → IsIdleTxn o → HasKeys (asked_range (query_of s))
      → locks.IsGrantable w.locks o.txn (asked_span (query_of s)) → asked_span (query_of s) ≡ shared s
      → LeadsOn (clients w) m (Reads o.txn (query_of s)) (clients (asked_read w o s))
  stands_asked s idle range free same =
      let n : ℕ = w.reads + 1 in
      let new : OpenTxn = reading_txn o n s in
      let l = read_is_a_step (clients w) m o.txn (query_of s) stands (does_this w o Ready at (idle_rests o idle)) range
      (free_there w m o.txn (asked_span (query_of s)) k stands free) in (
        l.0,
        l.1,
        stands_along (after_read (clients w) o.txn (query_of s)) (clients (asked_read w o s)) l.0 refl refl (λ u. refl)
            (doing_now w.open_txns new o at (Looks (query_of s))
            (looks new (record { number = n; span = s }) idle.rolling refl)) (saves_kept w.open_txns new o at refl)
            (λ u. ap (λ (x : Span). put (λ t. spans_of w.locks t) o.txn (x ∷ spans_of w.locks o.txn) u) same
            ∙ spans_put w.locks o.txn (shared s ∷ spans_of w.locks o.txn) k.locks.table u) l.2,
      )

  -- is told what it read
  told_view : (n : Machine) → IsIdleTxn (told_txn o) → StandsFor (does (clients w) o.txn (Some Ready)) n
      → StandsFor (clients (was_told w o)) n
  told_view n idle told =
      stands_along (does (clients w) o.txn (Some Ready)) (clients (was_told w o)) n refl refl (λ u. refl)
      (doing_now w.open_txns (told_txn o) o at Ready (idle_rests (told_txn o) idle))
      (saves_kept w.open_txns (told_txn o) o at refl) (λ u. refl) told

  pub stands_row : (r : Read) (key : Bytes) (value : Option Bytes) → o.rolling ≡ None → o.waiting ≡ None
      → o.reading ≡ Some r → r.span ≡ Key key → value ≡ get (plain m.h) key
      → LeadsOn (clients w) m (TellsRow o.txn value) (clients (was_told w o))
  stands_row r key value flat still reads is right =
      let l = row_is_told (clients w) m o.txn key value stands
      (does_this w o (Looks (OfKey key)) at (looks o r flat reads ∙ ap (λ s. Looks (query_of s)) is)) right in
      (l.0, l.1, told_view l.0 (record { rolling = flat; waiting = still; reading = refl }) l.2)

  pub stands_rows : (r : Read) (lo : Bytes) (hi : Option Bytes) (rows : List (Bytes × Bytes)) → o.rolling ≡ None
      → o.waiting ≡ None → o.reading ≡ Some r → r.span ≡ Range lo hi
      → rows ≡ rows_in (asked_range (OfRange lo hi)) (plain m.h)
      → LeadsOn (clients w) m (TellsRows o.txn rows) (clients (was_told w o))
  stands_rows r lo hi rows flat still reads is right =
      let l = rows_are_told (clients w) m o.txn lo hi rows stands
      (does_this w o (Looks (OfRange lo hi)) at (looks o r flat reads ∙ ap (λ s. Looks (query_of s)) is)) right in
      (l.0, l.1, told_view l.0 (record { rolling = flat; waiting = still; reading = refl }) l.2)

  -- sets a savepoint
  pub stands_saved : (s : ℕ) → IsIdleTxn o → length o.saves + 1 ≡ s → s ≤ 16
      → LeadsOn (clients w) m (Saves o.txn s) (clients (saved w o))
  stands_saved s idle number few =
      let new : OpenTxn = saved_txn o (length w.log) in
      let mine : saves_of (find o.txn w.open_txns) ≡ o.saves = ap saves_of at in
      let l = save_is_a_step (clients w) m o.txn s stands (does_this w o Ready at (idle_rests o idle))
      (ap (λ (x : List ℕ). length x + 1) mine ∙ number) few in (
        l.0,
        l.1,
        stands_along (after_save (clients w) o.txn) (clients (saved w o)) l.0 refl refl (λ u. refl)
            (doing_kept w.open_txns new o at refl)
            (λ u. ap (λ (x : List ℕ). put (λ t. saves_of (find t w.open_txns)) o.txn (x ++ length w.log ∷ []) u) mine
            ∙ saves_replaced w.open_txns new o at u) (λ u. refl) l.2,
      )

  -- goes back to a savepoint
  pub stands_going_back : (s end : ℕ) → IsIdleTxn o → 1 ≤ s → slice_get o.saves (s - 1) ≡ Some end
      → LeadsOn (clients w) m (GoesBack o.txn s) (clients (going_back w o s end))
  stands_going_back s end idle some found =
      let new : OpenTxn = going_back_txn o s end in
      let mine : saves_of (find o.txn w.open_txns) ≡ o.saves = ap saves_of at in
      let l = go_back_is_a_step (clients w) m o.txn s end stands (does_this w o Ready at (idle_rests o idle)) some
      (ap (λ (x : List ℕ). slice_get x (s - 1)) mine ∙ found) in (
        l.0,
        l.1,
        stands_along (after_go_back (clients w) o.txn s end) (clients (going_back w o s end)) l.0 refl refl (λ u. refl)
            (doing_now w.open_txns new o at (Rolls (Some s) end)
            (rolls new (record { savepoint = Some s; above = end }) refl))
            (λ u. ap (λ (x : List ℕ). put (λ t. saves_of (find t w.open_txns)) o.txn (take s x) u) mine
            ∙ saves_replaced w.open_txns new o at u) (λ u. refl) l.2,
      )

  -- rolls back wholly
  pub stands_rolled : IsIdleTxn o → LeadsOn (clients w) m (RollsBack o.txn) (clients (rolled w o))
  stands_rolled idle =
      let new : OpenTxn = rolling_txn o in
      let l = rollback_is_a_step (clients w) m o.txn stands (does_this w o Ready at (idle_rests o idle)) in (
        l.0,
        l.1,
        stands_along (does (clients w) o.txn (Some (Rolls None 0))) (clients (rolled w o)) l.0 refl refl (λ u. refl)
            (doing_now w.open_txns new o at (Rolls None 0) (rolls new (record { savepoint = None; above = 0 }) refl))
            (saves_kept w.open_txns new o at refl) (λ u. refl) l.2,
      )

  -- one that is open no more: its savepoints are forgotten
  gone_view : (r : Record) (n : Machine)
      → StandsFor (record (clients w) { log = r ∷ w.log; doing = put (clients w).doing o.txn None }) n
      → StandsFor (record (clients w) {
        log = r ∷ w.log;
        doing = λ t. doing_in (find t (without o.txn w.open_txns));
        saves = λ t. saves_of (find t (without o.txn w.open_txns));
      }) n
  gone_view r n left =
      let gone : View = record (clients w) {
        log = r ∷ w.log;
        doing = λ t. doing_in (find t (without o.txn w.open_txns));
      } in
      leftovers_are_no_step gone n (λ t. saves_of (find t (without o.txn w.open_txns))) (clients w).spans
      (stands_along (record (clients w) { log = r ∷ w.log; doing = put (clients w).doing o.txn None }) gone n refl refl
      (λ u. refl) (doing_without w.open_txns o.txn) (λ u. refl) (λ u. refl) left)
      (λ u. elim (saves_without w.open_txns o.txn u) [
        | inl same ↦ inl same
        | inr e ↦
            inr (ap (λ (t : ℕ). doing_in (find t (without o.txn w.open_txns))) e
            ∙ ap doing_in (without_same o.txn w.open_txns))
      ]) (λ u. inl refl)

  -- logs its Commit
  pub stands_committed : IsIdleTxn o → IsTc (committed w o.txn)
      → LeadsOn (clients w) m (Commits o.txn) (clients (committed w o.txn))
  stands_committed idle after =
      let l = commit_is_a_step (clients w) m o.txn after.legal stands (does_this w o Ready at (idle_rests o idle))
      k.within in
      (l.0, l.1, gone_view (is.Commit o.txn) l.0 l.2)

  -- has a compensation
  pub stands_compensated : (r : Rollback) → o.rolling ≡ Some r → r.above < o.undo → IsTc (compensated w o)
      → StandsFor (clients (compensated w o)) m
  stands_compensated r rolling above after =
      let u : ℕ = o.undo in
      let new : OpenTxn = compensated_txn o (length w.log + 1) (next_at w.log u) (inverse_at w.log u) in
      let undoes : is_to_undo ((clients w).doing o.txn) u ≡ true =
      ap (λ d. is_to_undo d u) (does_this w o (Rolls r.savepoint r.above) at (rolls o r rolling))
      ∙ grind (arith, nat_tests) in
      stands_along (record (clients w) { log = is.Comp o.txn u (next_at w.log u) (inverse_at w.log u) ∷ w.log })
      (clients (compensated w o)) m refl refl (λ t. refl)
      (doing_kept w.open_txns new o at (rolls new r rolling ∙ sym (rolls o r rolling)))
      (saves_kept w.open_txns new o at refl) (λ t. refl)
      (comp_is_no_step (clients w) m o.txn u (next_at w.log u) (inverse_at w.log u) after.legal stands (inr undoes))

  -- is rolled back
  pub stands_ended : (r : Rollback) → o.rolling ≡ Some r → r.savepoint ≡ None → IsTc (wholly_undone w o.txn)
      → LeadsOn (clients w) m (TellsRolledBack o.txn) (clients (wholly_undone w o.txn))
  stands_ended r rolling whole after =
      let l = rolled_back_is_told (clients w) m o.txn r.above after.legal stands
      (does_this w o (Rolls None r.above) at (rolls o r rolling ∙ ap (λ s. Rolls s r.above) whole)) in
      let left : View = record (clients w) {
        log = is.End o.txn ∷ w.log;
        doing = λ t. doing_in (find t (without o.txn w.open_txns));
        saves =
            λ t. saves_of (find t (without o.txn w.open_txns));
      } in (
        l.0,
        l.1,
        stands_along (record left { spans = put (clients w).spans o.txn [] }) (clients (wholly_undone w o.txn)) l.0 refl refl
            (λ u. refl) (λ u. refl) (λ u. refl)
            (spans_put w.locks o.txn [] k.locks.table)
            (let_go_is_no_step left l.0 o.txn (gone_view (is.End o.txn) l.0 l.2)
            (ap doing_in (without_same o.txn w.open_txns))
            (λ n is_commit. absurd (no_commit w.log o.txn n (k.open_txns.each o.txn o at).is is_commit))),
      )

  -- is back at its savepoint
  pub stands_back : (r : Rollback) (s : ℕ) → o.rolling ≡ Some r → r.savepoint ≡ Some s → o.waiting ≡ None
      → o.reading ≡ None → ((n : ℕ) → Stands w.log o.txn n → n ≤ r.above)
      → LeadsOn (clients w) m (TellsBack o.txn s) (clients (is_back w o))
  stands_back r s rolling to still unread undone =
      let new : OpenTxn = back_txn o in
      let l = back_is_told (clients w) m o.txn s r.above stands
      (does_this w o (Rolls (Some s) r.above) at (rolls o r rolling ∙ ap (λ x. Rolls x r.above) to)) undone in (
        l.0,
        l.1,
        stands_along (does (clients w) o.txn (Some Ready)) (clients (is_back w o)) l.0 refl refl (λ u. refl)
            (doing_now w.open_txns new o at Ready (rests new refl unread still)) (saves_kept w.open_txns new o at refl)
            (λ u. refl) l.2,
      )

  -- has its answer
  pub stands_answered : (n : ℕ) (a : Answer) → o.rolling ≡ None → o.reading ≡ None → o.waiting ≡ Some n
      → IsLegal (is.Answer n a ∷ w.log) → HasRightAnswers (is.Answer n a ∷ w.log)
      → LeadsOn (clients w) m (TellsAnswer o.txn a) (clients (answered w o n a))
  stands_answered n a flat none waiting legal right =
      let new : OpenTxn = answered_txn o in
      let l = answer_is_told (clients w) m o.txn n a legal right stands
      (does_this w o (Awaits n) at (awaits o n flat none waiting)) in (
        l.0,
        l.1,
        stands_along (after_answer (clients w) o.txn n a) (clients (answered w o n a)) l.0 refl refl (λ u. refl)
            (doing_now w.open_txns new o at Ready (rests new flat none refl)) (saves_kept w.open_txns new o at refl)
            (λ u. refl) l.2,
      )

  -- the answer of its compensation comes
  pub stands_undone : (r : Rollback) (n : ℕ) (a : Answer) → o.rolling ≡ Some r → IsLegal (is.Answer n a ∷ w.log)
      → ((t : ℕ) (q : Op) → IsOpBy w.log n t q → ⊥) → StandsFor (clients (answered w o n a)) m
  stands_undone r n a rolling legal no_op =
      let new : OpenTxn = answered_txn o in
      stands_along (record (clients w) { log = is.Answer n a ∷ w.log }) (clients (answered w o n a)) m refl refl
      (λ u. refl)
      (doing_kept w.open_txns new o at (rolls new r rolling ∙ sym (rolls o r rolling)))
      (saves_kept w.open_txns new o at refl) (λ u. refl)
      (undone_is_no_step (clients w) m n a legal stands (λ t q by. absurd (no_op t q by)))

-- a loser's operation has a compensation
pub stands_lost_compensated : (w : TcView) (m : Machine) (x : Loser) (l : LosersView) → IsTc w
    → IsTc (lost_compensated w x l) → l.below ≡ w.losers.below → IsLoser w.log w.losers.below x.txn
    → StandsFor (clients w) m → StandsFor (clients (lost_compensated w x l)) m
stands_lost_compensated w m x l k after same loser stands =
    let comp : Record = lost_comp w.log x in
    let listed : (u : ℕ) → is_listed (txns l) u ≡ is_listed (txns w.losers) u =
    λ u. same_listed w.log (comp ∷ w.log) w.losers l k.lost.losers after.lost.losers u
    (λ was. let P : ℕ → Type 0 = λ b. IsLoser (comp ∷ w.log) b u in
    subst P (sym same) (loser_kept comp w.log after.legal w.losers.below u (λ e. cc) (λ e. cc) was))
    (λ now. let P : ℕ → Type 0 = λ b. IsLoser (comp ∷ w.log) b u in
    loser_had comp w.log after.legal w.losers.below u k.lost.losers.bound (subst P same now)) in
    stands_along (record (clients w) { log = comp ∷ w.log }) (clients (lost_compensated w x l)) m refl refl
    (λ u. sym (listed u)) (λ u. refl) (λ u. refl) (λ u. refl)
    (comp_is_no_step (clients w) m x.txn x.left (next_at w.log x.left) (inverse_at w.log x.left) after.legal stands
    (inl (loser_listed w.log w.losers k.lost.losers x.txn loser)))

-- its End is logged
pub stands_lost_ended : (w : TcView) (m : Machine) (t : ℕ) (l : LosersView) → IsTc w → IsTc (lost_ended w t l)
    → l.below ≡ w.losers.below → IsLoser w.log w.losers.below t
    → StandsFor (clients w) m → LeadsOn (clients w) m (TellsLost t) (clients (lost_ended w t l))
stands_lost_ended w m t l k after same loser stands =
    let end : Record = is.End t in
    let listed = loser_listed w.log w.losers k.lost.losers t loser in
    let told = losers_are_told (clients w) m t after.legal stands listed in (
      told.0,
      told.1,
      stands_along (record (after_lost (clients w) t) { spans = put (clients w).spans t [] })
          (clients (lost_ended w t l)) told.0 refl refl loses (λ u. refl) (λ u. refl)
          (spans_put w.locks t [] k.locks.table)
          (let_go_is_no_step (after_lost (clients w) t) told.0 t told.2 (ap doing_in not_open)
          (λ n is_commit. absurd (no_commit w.log t n loser.open_txn is_commit))),
    )
  where
    not_open : find t w.open_txns ≡ None
    not_open = by (find t w.open_txns) refl
      where
        by : (x : Option OpenTxn) → find t w.open_txns ≡ x → x ≡ None
        by None none = refl
        by (Some o) some = absurd (omega (arith, k.open_txns.late t o some, loser.early))

    gone : is_listed (txns l) t ≡ false
    gone = elim (cases_Bool (is_listed (txns l) t)) [
      | inl listed ↦
          let still = listed_loser (is.End t ∷ w.log) l after.lost.losers t listed in
          absurd ((ends w.log t t still.open_txn).0 refl)
      | inr unlisted ↦ unlisted
    ]

    others : (u : ℕ) → u ≢ t → is_listed (txns l) u ≡ is_listed (txns w.losers) u
    others u apart = same_listed w.log (is.End t ∷ w.log) w.losers l k.lost.losers after.lost.losers u
        (λ was. let P : ℕ → Type 0 = λ b. IsLoser (is.End t ∷ w.log) b u in
        subst P (sym same) (loser_kept (is.End t) w.log after.legal w.losers.below u (λ e. cc) (λ e. apart (cc)) was))
        (λ now. let P : ℕ → Type 0 = λ b. IsLoser (is.End t ∷ w.log) b u in
        loser_had (is.End t) w.log after.legal w.losers.below u k.lost.losers.bound (subst P same now))

    loses : (u : ℕ) → (if u == t then false else is_listed (txns w.losers) u) ≡ is_listed (txns l) u
    loses u = elim (cases_eq u t) [
      | inl e ↦ rw (eq-eqb u t e) (sym (ap (is_listed (txns l)) e ∙ gone))
      | inr apart ↦ rw (ne_eqb u t apart) (sym (others u apart))
    ]

-- a loser's request has its answer, of which nobody is told
pub stands_lost_answered : (w : TcView) (m : Machine) (n : ℕ) (a : Answer) → IsTc w → IsLegal (is.Answer n a ∷ w.log)
    → IsOwedAnswer w.log w.losers.below n → StandsFor (clients w) m
    → StandsFor (clients (answered_lost w n a)) m
stands_lost_answered w m n a k legal due stands =
    undone_is_no_step (clients w) m n a legal stands
    (λ t q by. loser_listed w.log w.losers k.lost.losers t
    (let P : ℕ → Type 0 = IsLoser w.log w.losers.below in
    subst P (let both : Some due.txn ≡ Some t = sym due.step ∙ op_step t q (record_at w.log n) by in cc) due.loser))

-- more is stable: who was committing is told so
pub stands_forced : (w : TcView) (m : Machine) → IsTc w → StandsFor (clients w) m
    → (n : Machine) × Steps m (told_committed w.committing) n × StandsFor (clients (forced w)) n
stands_forced w m k stands =
    let more : ℕ = length w.log - w.stable in
    let end : w.stable + more ≡ length w.log = omega (arith, k.within) in
    let l = commits_are_told more (clients w) m k.legal stands (omega (arith, end)) in
    let lines = told_commits w.log w.stable more end ∙ ap told_committed (sym k.committing) in
    let all : View = record (clients w) { stable = length w.log } in (
      l.0,
      subst (λ x. Steps m x l.0) lines l.1,
      leftovers_are_no_step all l.0 (clients w).saves (λ t. spans_of (let_go w.committing w.locks) t)
          (subst (λ (s : ℕ). StandsFor (record (clients w) { stable = s }) l.0) end l.2) (λ t. inl refl)
          (λ t. freed t (find t w.open_txns) refl),
    )
  where
    unlisted : (t : ℕ) (o : OpenTxn) → find t w.open_txns ≡ Some o → is_listed w.committing t ≡ false
    unlisted t o at =
        let is_open = (k.open_txns.each t o at).is in
        ap (λ (ts : List ℕ). is_listed ts t) k.committing
        ∙ ap (λ (u : ℕ). is_listed (commits_in w.log w.stable) u) (sym (found_number t w.open_txns o at))
        ∙ open_unlisted w.log w.stable o.txn is_open.goes_on

    freed : (t : ℕ) (x : Option OpenTxn) → find t w.open_txns ≡ x
        → (spans_of (let_go w.committing w.locks) t ≡ spans_of w.locks t)
        ⊎ ((doing_in (find t w.open_txns) ≡ None) × IsUncommitting (record (clients w) { stable = length w.log }) t)
    freed t None none = inr (ap doing_in none, λ n is_commit. (end_number w.log t n (inl is_commit)).bounded)
    freed t (Some o) at = inl (let_go_other w.committing w.locks t k.locks.table (unlisted t o at))

-- a session is logged, and is stable at once
pub stands_logged : (w : TcView) (m : Machine) → StandsFor (clients w) m → StandsFor (clients (logged_session w)) m
stands_logged w m stands = neutral_is_no_step (clients w) m is.Session 0 stands (inl refl)

-- a checkpoint is logged
pub stands_checkpointed : (w : TcView) (l : ℕ) (m : Machine) → StandsFor (clients w) m
    → StandsFor (clients (checkpointed w l)) m
stands_checkpointed w l m stands = neutral_is_no_step (clients w) m (is.Checkpoint l) l stands (inr refl)

pub stands_reconnected : (w : TcView) (m : Machine) → IsTc (logged_session w) → StandsFor (clients w) m
    → (n : Machine) × Steps m (told_committed w.committing) n × StandsFor (clients (reconnected w)) n
stands_reconnected w m after stands =
    let l = stands_forced (logged_session w) m after (stands_logged w m stands) in (l.0, l.1, l.2)
