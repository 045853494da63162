-- A settled node holds what the plain map holds.
use Rattle.std.proofs.Common.{◌≡◌, ℕ, ◌<◌, ◌≤◌, true, false, length, Option, Some, None, is_some, refl, sym, ap, ◌∙◌, subst, arith, inl, inr, true≢false}
use Rattle.std.specs.Prelude.{◌||◌}
use Rattle.std.specs.FinMap.{get}
use Rattle.std.proofs.lemmas.Bool.{cases_eq, cases_Bool}
use Rattle.record_key.specs.declared.op.Op.{Op}
use Rattle.record_key.specs.Table.{Bytes, key_of}
use Rattle.record_key.proofs.Tables.{same_table}
use Rattle.history.specs.History.{plain}
use Rattle.history.specs.ListMachine.{Machine}
use Rattle.simulation.specs.View.{is_to_undo}
use Rattle.simulation.specs.Views.{IsCalm}
use Rattle.simulation.proofs.Viewing.{calm_entries}
use Rattle.history.specs.Log.{answer_of, request_in, op_in, Requests, hist}
use Rattle.history.specs.Honest.{numbered_on, value_of}
use Rattle.log_laws.specs.Laws.{OnlyOperationsWait}
use Rattle.log_laws.proofs.Waiting.{answered_is_plain}
use Rattle.dc_tree.specs.Leaves.{rows_of}
use Rattle.dc_tree.proofs.Together.{one_table}
use Rattle.dc_core.specs.DcView.{leaves, captures_at}
use Rattle.dc_leaf.proofs.OnKey.{all_done, value_alike}
use Rattle.tc_core.specs.declared.open_txn.OpenTxn.{OpenTxn}
use Rattle.tc_core.specs.declared.phase.Phase.{Phase}
use Rattle.tc_core.specs.declared.phase.Phase.TheVariants as phase
use Rattle.tc_core.specs.OpenTxns.{find}
use Rattle.tc_core.specs.TcView.{TcView, is_none_lost, rolls_back, is_rolling, is_waiting}
use Rattle.tc_core.proofs.KeepsTc.{open_at, waits_at}
use Rattle.node_laws.specs.Node.{NodeView, AreUp}
use Rattle.node_laws.specs.Kept.{IsKept, IsServed}
use Rattle.node_laws.specs.Promises.{IsPlainByLog}
use Rattle.node_laws.proofs.Invariant.Running.{past_is}
use Rattle.tc_core.specs.Kept.{IsPhase, IsPhaseOf, IsTc}
use Rattle.dc_core.specs.Tends.{may_merge}
use Rattle.node_laws.specs.Simulation.{NodeStandsFor, IsSettled, AreUnrolled, clients, doing_in}
use Rattle.node_laws.specs.Rounds.{AreIdle, IsAtRest, IsApart, AreRunning}
use Rattle.simulation.proofs.Answering.{plain_uncrossed}
use Rattle.node_laws.proofs.Machine.Awaited.{IsOpOf, op_waited}
use Rattle.node_laws.proofs.Machine.Idle.{none_rolls}
use Rattle.node_laws.proofs.Machine.Reading.{flat_undoes_none}
use Rattle.node_laws.specs.Source.{IsWaiting, own}
use Rattle.node_laws.proofs.Invariant.AtKeys.{honest_at, answered_captured}
use Rattle.node_laws.proofs.Invariant.Sources.{live}
use Rattle.node_laws.proofs.Restarts.LosersHold.{running_unlost, nobody_listed}
use Rattle.node_laws.proofs.Machine.Waited.{IsAwaited, answered_or}

-- a settled node is past redo
settled_past : (w : NodeView) → IsKept w → IsSettled w → may_merge w.dc ≡ true
settled_past w k settled =
    let P : Phase → Type 0 = λ p. IsServed p w.tc.session w.tc.log w.dc in
    let Q : Phase → Type 0 = IsPhase w.tc.checkpointed w.tc.session in
    let some : 0 < w.tc.session = subst Q settled.running k.tc.phase in
    past_is w.dc w.tc.session (λ zero. absurd (omega (arith, some, zero))) settled.session
    ((subst P settled.running k.sessions.served).1 settled.session)

-- so its cached leaves go on from the log itself
settled_live : (w : NodeView) (k : IsKept w) → IsSettled w → k.source ≡ own w.tc
settled_live w k settled = live w k (λ waits. subst IsWaiting settled.running waits)

-- once the component runs nobody is left whom a crash found open
none_left : (w : NodeView) → IsKept w → w.tc.phase ≡ phase.Running → is_none_lost w.tc.losers ≡ true
none_left w k running = subst (IsPhaseOf w.tc.losers) running k.tc.lost.phase_of

-- only operations wait for an answer: nobody undoes anything
comp_answered : (w : NodeView) → IsKept w → IsSettled w → OnlyOperationsWait w.tc.log
comp_answered w k settled n t u x i is_comp =
    elim (answered_or w.tc n i k.tc (none_left w k settled.running) (ap request_in is_comp)) [
      | inl some ↦ some
      | inr a ↦
          let o : OpenTxn = a.open_txn in
          let flat : rolls_back o ≡ false = sym (ap is_rolling a.is) ∙ settled.unrolled o.txn in
          let found : IsOpOf w.tc.log o n =
          op_waited w.tc.log o n flat (waits_at w.tc.log o n (open_at w.tc o k.tc a.is) a.waiting).request in
          let none : ◌≡◌ {A = Option (ℕ × Op)} None (Some (o.txn, found.op)) = ap op_in (sym is_comp) ∙ found.is in
          absurd (cc)
    ]

-- what is answered was performed, and what is performed is answered
captured_answered : (w : NodeView) → IsKept w → IsSettled w → (key : Bytes) (n : ℕ) (o : Op)
    → Requests w.tc.log n o → key_of o ≡ key → captures_at w.dc key n ≡ is_some (answer_of w.tc.log n)
captured_answered w k settled key n o asks on =
    elim (cases_Bool (is_some (answer_of w.tc.log n))) [
      | inl some ↦ subst (λ (q : Bytes). captures_at w.dc q n ≡ true) on
          (answered_captured w k (settled_live w k settled) (settled_past w k settled) n o asks some) ∙ sym some
      | inr none ↦ elim (cases_Bool (captures_at w.dc key n)) [
        | inl captured ↦ absurd (true≢false
            (sym (settled.answered n o asks) ∙ none))
        | inr uncaptured ↦ uncaptured ∙ sym none
      ]
    ]

-- so at each key
settled_value : (w : NodeView) → IsKept w → IsSettled w → (key : Bytes)
    → value_of (captures_at w.dc key) (numbered_on key w.tc.log) ≡ get (plain (hist w.tc.log)) key
settled_value w k settled key =
    value_alike (captures_at w.dc key) (λ n. is_some (answer_of w.tc.log n)) (numbered_on key w.tc.log)
    (all_done (λ n. captures_at w.dc key n ≡ is_some (answer_of w.tc.log n)) key w.tc.log
    (captured_answered w k settled key))
    ∙ answered_is_plain w.tc.log k.tc.legal k.right (comp_answered w k settled) key

-- nobody rolls back, and nobody loses
pub calm : (w : NodeView) → IsTc w.tc → w.tc.phase ≡ phase.Running → AreUnrolled w.tc.open_txns → IsCalm (clients w.tc)
calm w k running unrolled =
    record {
      stays = nobody_listed w.tc (running_unlost w.tc k running);
      unrolled = λ t n. by t n (find t w.tc.open_txns) refl;
    }
  where
    flat : (o : OpenTxn) → rolls_back o ≡ false → o.rolling ≡ None
    flat o unrolling = none_rolls o.rolling unrolling

    by : (t n : ℕ) (x : Option OpenTxn) → find t w.tc.open_txns ≡ x
        → is_to_undo (doing_in (find t w.tc.open_txns)) n ≡ false
    by t n None none = ap (λ y. is_to_undo (doing_in y) n) none
    by t n (Some o) some = ap (λ y. is_to_undo (doing_in y) n) some
        ∙ flat_undoes_none o n (flat o (sym (ap is_rolling some) ∙ unrolled t))

-- a settled node holds what a plain map holds after the operations that stand in its log
pub settled_by_log : (w : NodeView) → IsKept w → IsSettled w → IsPlainByLog w
settled_by_log w k settled =
    same_table (rows_of (leaves w.dc)) (plain (hist w.tc.log))
    (λ q. (one_table (leaves w.dc) k.dc.system.leaves).value q ∙ (honest_at w q k (settled_live w k settled)).right
    ∙ settled_value w k settled q)

-- and in whatever machine it stands for
pub settled_rows : (w : NodeView) (m : Machine) → IsKept w → NodeStandsFor w m → IsSettled w
    → rows_of (leaves w.dc) ≡ plain m.h
settled_rows w m k stands settled =
    settled_by_log w k settled
    ∙ sym (sym (plain_uncrossed m.h)
    ∙ ap plain (calm_entries (clients w.tc) m stands (calm w k.tc settled.running settled.unrolled))
    ∙ plain_uncrossed (hist w.tc.log))

-- nothing is left to do
nobody_waits : (w : TcView) (n : ℕ) → AreIdle w.open_txns → IsAwaited w n → ⊥
nobody_waits w n idle a =
    true≢false (sym (ap is_waiting a.is ∙ ap (λ (m : Option ℕ). is_some m || is_some a.open_txn.reading) a.waiting)
    ∙ idle a.open_txn.txn)

pub at_rest : (w : NodeView) → IsKept w → w.tc.phase ≡ phase.Running → AreUp w → w.dc.session ≡ w.tc.session
    → AreUnrolled w.tc.open_txns → AreIdle w.tc.open_txns → length w.tc.log ≤ w.tc.stable
    → IsAtRest w
at_rest w k running up session unrolled idle stable = record {
  settled = record {
    running = running;
    up = up;
    session = session;
    unrolled = unrolled;
    answered = λ n o asks. elim (answered_or w.tc n o k.tc (none_left w k running) asks)
        [ inl some ↦ some | inr a ↦ absurd (nobody_waits w.tc n idle a) ];
  };
  idle = idle;
  stable = omega (arith, stable, k.tc.within);
}

-- the components have a session in common: redo goes on in it, or clients are served
same_session : (w : NodeView) → (IsApart w → ⊥) → w.dc.session ≡ w.tc.session
same_session w together =
    elim (cases_eq w.dc.session w.tc.session) [ inl e ↦ e | inr apart ↦ absurd (together (inr (inr apart))) ]

pub serving : (w : NodeView) → AreUp w → (IsApart w → ⊥) → w.tc.phase ≡ phase.Running → AreRunning w
serving w up together running = record { running = running; up = up; session = same_session w together }
