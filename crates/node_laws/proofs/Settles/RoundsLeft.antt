-- How many rounds are left after a step of the transaction component.
use Rattle.std.proofs.Common.{◌≡◌, ℕ, ◌+◌, ◌*◌, ◌<◌, ◌≤◌, Bool, true, false, List, [], ◌∷◌, length, Option, Some, None, IsSome, is_some, refl, sym, ap, ◌∙◌, subst, arith, inl, inr, true≢false, eq-eqb}
use Rattle.std.specs.Prelude.{◌==◌, ◌||◌, not, nat_lt, if◌then◌else◌}
use Rattle.std.specs.List.{list_any}
use Rattle.std.proofs.Math.Bool.{or-true}
use Rattle.record_key.specs.declared.op.Op.{Op}
use Rattle.record_key.specs.declared.op.Answer.{Answer}
use Rattle.history.specs.declared.record.Record.{Record}
use Rattle.history.specs.declared.record.Record.TheVariants as is
use Rattle.history.specs.Log.{record_at, answer_of, Requests}
use Rattle.tc_core.specs.declared.open_txn.OpenTxn.{OpenTxn}
use Rattle.tc_core.specs.declared.open_txn.Read.{Read}
use Rattle.tc_core.specs.declared.open_txn.Rollback.{Rollback}
use Rattle.tc_core.specs.declared.phase.Phase.{Phase}
use Rattle.tc_core.specs.declared.phase.Phase.TheVariants as phase
use Rattle.tc_core.specs.OpenTxns.{find}
use Rattle.tc_core.specs.TcView.{TcView, rolls_back, is_none_lost, is_running}
use Rattle.tc_core.proofs.KeepsLost.{fits_lacking}
use Rattle.node_laws.proofs.Machine.Waited.{lost_if}
use Rattle.tc_core.specs.tc_restart.specs.declared.loser.Loser.{Loser}
use Rattle.tc_log.specs.Undoing.{inverse_at, next_at}
use Rattle.tc_core.specs.Changes.{waits_for, compensated_txn, compensated, wholly_undone, is_back, back_txn, answered_txn, answered, answered_lost, forced, told_txn, was_told, undoing_or_running, lost_compensated, lost_ended}
use Rattle.tc_core.specs.Replies.{awaiting, lacks, next_phase, on_awaited}
use Rattle.tc_core.specs.Recovery.{redoing, CompensatesLatest, LosesLeast}
use Rattle.tc_core.specs.Kept.{IsTc, AreOpen}
use Rattle.tc_core.proofs.Finding.{found_number, found_own}
use Rattle.tc_core.proofs.KeepsTc.{open_at, waits_at, awaited_is}
use Rattle.tc_core.specs.Calls.{UndoesStep, Undoes}
use Rattle.tc_core.specs.declared.told.UndoStep.{UndoStep}
use Rattle.tc_core.specs.declared.told.UndoStep.TheVariants as undo
use Rattle.history.specs.Legal.{IsLatestOrNone, Stands}
use Rattle.tc_core.proofs.KeepsUndo.{undo_found}
use Rattle.node_laws.proofs.Machine.Readers.{some_txn}
use Rattle.node_laws.specs.declared.event.Out.{Out}
use Rattle.node_laws.specs.declared.event.Out.TheVariants as out
use Rattle.node_laws.specs.Node.{NodeView, UndoesTo, ForcesTo}
use Rattle.node_laws.specs.Kept.{IsKept}
use Rattle.node_laws.specs.Rounds.{IsDone, IsDue, IsRolling, IsForced, AreIdle}
use Rattle.node_laws.specs.Bound.{requests_in, left_in, waiting_rounds, rolling_rounds, reading_rounds, txn_rounds, total, phase_rounds, lost_rounds, undo_rounds, is_busy, is_apart, without_session, down_rounds, tc_rounds, rounds_left, steps_in, most_rounds}
use Rattle.node_laws.specs.Simulation.{AreUnrolled}
use Rattle.node_laws.proofs.Settles.Totals.{total_most, total_one, total_step, total_end}
use Rattle.node_laws.proofs.Settles.Counting.{one_fewer, none_above, one_less_left, requests_are_steps}
use Rattle.node_laws.proofs.Settles.Shares.{bound_of, worth, left_are_steps, HaveBegun, are_begun}
use Rattle.node_laws.proofs.Settles.LostRounds.{lost_later, lost_comp, lost_less}
use Rattle.node_laws.proofs.Invariant.Keeps.{awaited_number}
use Rattle.node_laws.proofs.Settles.TxnRounds.{unstable_now, stable_now, txn_forced, txn_later, rolling_later, txn_waiting, txn_reading, txn_rolling, some_round, busy_waiting, busy_reading, busy_rolling, nobody_busy, waiting_bound, txn_bound}

-- fewer rounds are left of the same session, which goes on
pub record FallsTo (old new : TcView) : Type 0 where
  pub fewer : tc_rounds new < tc_rounds old
  pub session : new.session ≡ old.session
  pub goes_on : is_apart new.phase ≡ false

pub falls_by : (old a b : TcView) → a ≡ b → tc_rounds b < tc_rounds old → b.session ≡ old.session
    → is_apart b.phase ≡ false → FallsTo old a
falls_by old a b e fewer session on =
    subst (FallsTo old) (sym e) (record { fewer = fewer; session = session; goes_on = on })

-- a force: for the answer that is waited for, or the last one
force_due : (w : TcView) (t n : ℕ) → IsTc w → w.phase ≡ phase.Running → IsDue w t n → w.stable < n → n ≤ length w.log
    → tc_rounds (forced w) < tc_rounds w
force_due w t n k running due less most =
    let o : OpenTxn = due.open_txn in
    let busy = busy_waiting w.open_txns t n o due.is due.waiting in
    let was = txn_waiting w.log w.stable n o due.waiting
    ∙ ap (λ (b : Bool). rolling_rounds w.log o + (if b then 2 else 1) + reading_rounds o.reading)
    (unstable_now w.stable n less) in
    let will = txn_waiting w.log (length w.log) n o due.waiting
    ∙ ap (λ (b : Bool). rolling_rounds w.log o + (if b then 2 else 1) + reading_rounds o.reading)
    (stable_now (length w.log) n most) in
    let one = total_one (txn_rounds w.log (length w.log)) (txn_rounds w.log w.stable) o w.open_txns k.open_txns.order
    (found_own t w.open_txns o due.is)
    (λ p. txn_forced w.log w.stable (length w.log) p k.within) in
    rw (running, busy) (omega (arith, one, was, will))

force_idle : (w : TcView) → IsTc w → w.phase ≡ phase.Running → AreUnrolled w.open_txns → AreIdle w.open_txns
    → w.stable < length w.log → tc_rounds (forced w) < tc_rounds w
force_idle w k running flat idle less =
    let none = nobody_busy w.open_txns k.open_txns.order flat idle in
    let all = total_most (txn_rounds w.log (length w.log)) (txn_rounds w.log w.stable) w.open_txns
    (λ p. txn_forced w.log w.stable (length w.log) p k.within) in
    rw (
      running,
      none,
      unstable_now w.stable (length w.log) less,
      stable_now (length w.log) (length w.log) (omega arith),
    ) (omega (arith, all))

pub falls_force : (old new : NodeView) (output : Out) → IsKept old → old.tc.phase ≡ phase.Running → IsForced old.tc
    → ForcesTo old output new → IsDone output → FallsTo old.tc new.tc
falls_force old new (out.Stable n cs) k running is_forced h d =
    falls_by old.tc new.tc (forced old.tc) h.0.2 (elim is_forced [
      | inl due ↦ force_due old.tc due.0 due.1 k.tc running due.2 due.3
          (awaited_number old.tc k.tc due.0 due.2.open_txn due.1 due.2.is due.2.waiting).bounded
      | inr idle ↦ force_idle old.tc k.tc running idle.0 idle.1 idle.2
    ]) refl (ap is_apart running)
falls_force old new (out.Refused r) k running is_forced h d = absurd d
falls_force old new _ k running is_forced h d = absurd h

-- a rollback
-- a compensation: one operation less is left
falls_comp : (w : TcView) (o : OpenTxn) (b : Rollback) → IsTc w → w.phase ≡ phase.Running
    → find o.txn w.open_txns ≡ Some o → o.rolling ≡ Some b → b.above < o.undo
    → tc_rounds (compensated w o) < tc_rounds w
falls_comp w o b k running at rolling above = by (undo_found w o k at)
  where
    by : IsLatestOrNone (Stands w.log o.txn) o.undo → tc_rounds (compensated w o) < tc_rounds w
    by (inr none) = absurd (omega (arith, none.0, above))
    by (inl latest) =
        let follows : ℕ = next_at w.log o.undo in
        let inverse : Option Op = inverse_at w.log o.undo in
        let r : Record = is.Comp o.txn o.undo follows inverse in
        let new : OpenTxn = compensated_txn o (length w.log + 1) follows inverse in
        let fewer = one_less_left w.log o.txn b.above o.undo follows inverse latest.is.op latest.is.is
        latest.is.uncrossed above in
        let was = txn_rolling w.log w.stable o b rolling in
        let will = txn_rolling (r ∷ w.log) w.stable new b rolling in
        let step = total_step (txn_rounds (r ∷ w.log) w.stable) (txn_rounds w.log w.stable) new o w.open_txns
        k.open_txns.order at refl
        (λ p. txn_later r w.log w.stable w.stable p refl (omega arith)) in
        let bound = waiting_bound w.stable new.waiting in
        let flag = worth (list_any is_busy (compensated w o).open_txns || nat_lt w.stable (length (r ∷ w.log))) in
        let lost = lost_later r w.log w.losers.below refl refl in
        rw (running, busy_rolling w.open_txns o.txn o at (ap is_some rolling))
        (omega (arith, fewer, was, will, step, bound, flag, lost))

-- an end: there is no transaction of this number any more
falls_end : (w : TcView) (o : OpenTxn) (b : Rollback) → IsTc w → w.phase ≡ phase.Running
    → find o.txn w.open_txns ≡ Some o → o.rolling ≡ Some b → tc_rounds (wholly_undone w o.txn) < tc_rounds w
falls_end w o b k running at rolling =
    let r : Record = is.End o.txn in
    let was = txn_rolling w.log w.stable o b rolling in
    let end = total_end (txn_rounds (r ∷ w.log) w.stable) (txn_rounds w.log w.stable) o w.open_txns k.open_txns.order at
    (λ p. txn_later r w.log w.stable w.stable p refl (omega arith)) in
    let flag = worth (list_any is_busy (wholly_undone w o.txn).open_txns || nat_lt w.stable (length (r ∷ w.log))) in
    let lost = lost_later r w.log w.losers.below refl refl in
    rw (running, busy_rolling w.open_txns o.txn o at (ap is_some rolling)) (omega (arith, was, end, flag, lost))

-- back at a savepoint: nothing is rolled back any more
falls_back : (w : TcView) (o : OpenTxn) (b : Rollback) → IsTc w → w.phase ≡ phase.Running
    → find o.txn w.open_txns ≡ Some o → o.rolling ≡ Some b → tc_rounds (is_back w o) < tc_rounds w
falls_back w o b k running at rolling =
    let new : OpenTxn = back_txn o in
    let was = txn_rolling w.log w.stable o b rolling in
    let will : txn_rounds w.log w.stable new ≡ waiting_rounds w.stable o.waiting + reading_rounds o.reading =
    omega arith in
    let step = total_step (txn_rounds w.log w.stable) (txn_rounds w.log w.stable) new o w.open_txns k.open_txns.order at
    refl (λ p. omega arith) in
    let flag = worth (list_any is_busy (is_back w o).open_txns || nat_lt w.stable (length w.log)) in
    rw (running, busy_rolling w.open_txns o.txn o at (ap is_some rolling)) (omega (arith, was, will, step, flag))

-- whoever is undone for rolls back, and each step of it takes a round
module _ (old new : NodeView) (t : ℕ) (k : IsKept old) (running : old.tc.phase ≡ phase.Running)
    (next : IsRolling old.tc t) where
  falls_step : (step : UndoStep) → UndoesStep old.tc t step new.tc → FallsTo old.tc new.tc
  falls_step step u = by u.open_txn.rolling refl step u.undoes
    where
      same : next.open_txn ≡ u.open_txn
      same = some_txn (find t old.tc.open_txns) next.open_txn u.open_txn next.is
          (subst (λ (v : ℕ). find v old.tc.open_txns ≡ Some u.open_txn) u.at.number u.at.is)

      by : (x : Option Rollback) → u.open_txn.rolling ≡ x → (step : UndoStep) → Undoes old.tc u.open_txn x step new.tc
          → FallsTo old.tc new.tc
      by None flat step h = absurd (true≢false (sym next.rolling ∙ ap rolls_back same ∙ ap is_some flat))
      by (Some b) rolling (undo.Compensated n) h =
          falls_by old.tc new.tc _ h.2 (falls_comp old.tc u.open_txn b k.tc running u.at.is rolling h.0) refl
          (ap is_apart running)
      by (Some b) rolling (undo.RolledBack v) h =
          falls_by old.tc new.tc _ h.3 (falls_end old.tc u.open_txn b k.tc running u.at.is rolling) refl
          (ap is_apart running)
      by (Some b) rolling (undo.Back v s) h =
          falls_by old.tc new.tc _ h.3 (falls_back old.tc u.open_txn b k.tc running u.at.is rolling) refl
          (ap is_apart running)
      by (Some b) rolling undo.Idle h = absurd h

pub falls_undo : (old new : NodeView) (t : ℕ) (output : Out) → IsKept old → old.tc.phase ≡ phase.Running
    → IsRolling old.tc t → UndoesTo old t output new → IsDone output → FallsTo old.tc new.tc
falls_undo old new t (out.Compensated n) k running next h d =
    falls_step old new t k running next (undo.Compensated n) h.0
falls_undo old new t (out.RolledBack v) k running next h d = falls_step old new t k running next (undo.RolledBack v) h.0
falls_undo old new t (out.Back v s) k running next h d = falls_step old new t k running next (undo.Back v s) h.0
falls_undo old new t out.Nothing k running next h d = falls_step old new t k running next undo.Idle h.0
falls_undo old new t (out.Refused r) k running next h d = absurd d
falls_undo old new t _ k running next h d = absurd h

-- a reply without an answer comes only where the log has the answer
abbrev pub IsSound : TcView → ℕ → Option Answer → Type 0
IsSound w n a = a ≡ None → IsSome (answer_of w.log n)

not_unanswered : (w : TcView) (o : OpenTxn) (n : ℕ) → IsTc w → find o.txn w.open_txns ≡ Some o → o.waiting ≡ Some n
    → IsSome (answer_of w.log n) → ⊥
not_unanswered w o n k at some h =
    true≢false (sym h ∙ ap is_some (waits_at w.log o n (open_at w o k at) some).unanswered)

-- an answer: the transaction waits no more
falls_answer : (w : TcView) (o : OpenTxn) (p : Phase) (n : ℕ) (a : Answer) → IsTc w → find o.txn w.open_txns ≡ Some o
    → o.waiting ≡ Some n
    → phase_rounds (is.Answer n a ∷ w.log) w.session p ≤ phase_rounds w.log w.session w.phase
    → undo_rounds w.stable p ≤ undo_rounds w.stable w.phase
    → tc_rounds (record (answered w o n a) { phase = p }) < tc_rounds w
falls_answer w o p n a k at some most undo =
    let r : Record = is.Answer n a in
    let new : OpenTxn = answered_txn o in
    let was = txn_waiting w.log w.stable n o some in
    let step = total_step (txn_rounds (r ∷ w.log) w.stable) (txn_rounds w.log w.stable) new o w.open_txns
    k.open_txns.order at refl
    (λ q. txn_later r w.log w.stable w.stable q refl (omega arith)) in
    let flag = worth (not (is_running p)
    || (list_any is_busy (answered w o n a).open_txns || nat_lt w.stable (length (r ∷ w.log)))) in
    let lost = lost_later r w.log w.losers.below refl refl in
    rw (busy_waiting w.open_txns o.txn n o at some, or-true (not (is_running w.phase)))
    (omega (arith, most, undo, was, step, rolling_later r w.log o refl, some_round w.stable n, flag, lost))

-- a loser's answer, which leads to a phase that has less to do
falls_lost : (w : TcView) (p : Phase) (n : ℕ) (a : Answer) → is_running w.phase ≡ false
    → phase_rounds (is.Answer n a ∷ w.log) w.session p + undo_rounds w.stable p < phase_rounds w.log w.session w.phase
    + undo_rounds w.stable w.phase
    → tc_rounds (record (answered_lost w n a) { phase = p }) < tc_rounds w
falls_lost w p n a goes_on less =
    let r : Record = is.Answer n a in
    let txns = total_most (txn_rounds (r ∷ w.log) w.stable) (txn_rounds w.log w.stable) w.open_txns
    (λ o. txn_later r w.log w.stable w.stable o refl (omega arith)) in
    let flag = worth (not (is_running p) || (list_any is_busy w.open_txns || nat_lt w.stable (length (r ∷ w.log)))) in
    let lost = lost_later r w.log w.losers.below refl refl in
    rw (goes_on) (omega (arith, less, txns, flag, lost))

-- nobody's, which has been answered before
falls_passed : (w : TcView) (p : Phase) → is_running w.phase ≡ false
    → phase_rounds w.log w.session p + undo_rounds w.stable p < phase_rounds w.log w.session w.phase
    + undo_rounds w.stable w.phase
    → tc_rounds (record w { phase = p }) < tc_rounds w
falls_passed w p goes_on less =
    let flag = worth (not (is_running p) || (list_any is_busy w.open_txns || nat_lt w.stable (length w.log))) in
    rw (goes_on) (omega (arith, less, flag))

-- redo goes past a number
module _ (w : TcView) (next : ℕ) (ending : Bool) (n : ℕ) (op : Op) (k : IsTc w)
    (at : w.phase ≡ phase.Redoing next ending) (most : next ≤ n) (less : n < w.session)
    (asks : Requests w.log n op) where
  fewer_requests : (log : List Record) → requests_in (n + 1) w.session log ≤ requests_in (n + 1) w.session w.log
      → phase_rounds log w.session (phase.Redoing (n + 1) false) + undo_rounds w.stable (phase.Redoing (n + 1) false)
      < phase_rounds w.log w.session w.phase + undo_rounds w.stable w.phase
  fewer_requests log same = let fewer = one_fewer next n w.session op w.log most less asks in
      rw at (omega (arith, fewer, same))

  above_session : (a : Answer)
      → requests_in (n + 1) w.session (is.Answer n a ∷ w.log) ≤ requests_in (n + 1) w.session w.log
  above_session a = let above =
      none_above (n + 1) w.session (is.Answer n a) w.log (omega (arith, k.session, k.within)) in omega (arith, above)

  redone_lost : (a : Option Answer) (b : Bool) → lacks w n ≡ b → IsSound w n a
      → tc_rounds (lost_if (redoing w n false) n a b).1 < tc_rounds w
  redone_lost a false none sound =
      falls_passed w (phase.Redoing (n + 1) false) (ap is_running at) (fewer_requests w.log (omega arith))
  redone_lost None true lacking sound =
      absurd (true≢false (sym (sound refl) ∙ ap is_some (fits_lacking w n lacking).unanswered))
  redone_lost (Some a) true lacking sound =
      falls_lost w (phase.Redoing (n + 1) false) n a (ap is_running at)
      (fewer_requests (is.Answer n a ∷ w.log) (above_session a))

  pub falls_redone : (a : Option Answer) (x : Option OpenTxn) → awaiting w n ≡ x → IsSound w n a
      → tc_rounds (on_awaited (redoing w n false) n a x).1 < tc_rounds w
  falls_redone a None none sound = redone_lost a (lacks w n) refl sound
  falls_redone None (Some o) some sound = let waits = awaited_is w n o some in
      absurd (not_unanswered w o n k waits.0 waits.1 (sound refl))
  falls_redone (Some a) (Some o) some sound =
      let waits = awaited_is w n o some in
      let fewer = fewer_requests (is.Answer n a ∷ w.log) (above_session a) in
      let none : undo_rounds w.stable w.phase ≡ 0 = ap (undo_rounds w.stable) at in
      falls_answer w o (phase.Redoing (n + 1) false) n a k waits.0 waits.1 (omega (arith, fewer, none)) (omega arith)

-- redo ends
pub falls_redo_ended : (w : TcView) (next : ℕ) (ending : Bool) → w.phase ≡ phase.Redoing next ending
    → tc_rounds (record w { phase = undoing_or_running w.losers }) < tc_rounds w
falls_redo_ended w next ending at =
    falls_passed w (undoing_or_running w.losers) (ap is_running at) (by (is_none_lost w.losers))
  where
    by : (b : Bool)
        → phase_rounds w.log w.session (if b then phase.Running else phase.Undoing None)
        + undo_rounds w.stable (if b then phase.Running else phase.Undoing None)
        < phase_rounds w.log w.session w.phase + undo_rounds w.stable w.phase
    by true = rw at (omega arith)
    by false = rw at (omega arith)

-- the undo of losers
module _ (w : TcView) (n : ℕ) (k : IsTc w) (at : w.phase ≡ phase.Undoing (Some n)) where
  waits_no_more : next_phase w.phase n ≡ phase.Undoing None
  waits_no_more = ap (λ p. next_phase p n) at
      ∙ ap (λ (b : Bool). phase.Undoing (if b then None else Some n)) (eq-eqb n n refl)

  less_undo : (log : List Record)
      → phase_rounds log w.session (phase.Undoing None) + undo_rounds w.stable (phase.Undoing None)
      < phase_rounds w.log w.session w.phase + undo_rounds w.stable w.phase
  less_undo log = let some = some_round w.stable n in rw at (omega (arith, some))

  undone_lost : (a : Option Answer) (b : Bool) → lacks w n ≡ b → IsSound w n a
      → tc_rounds (lost_if w n a b).1 < tc_rounds w
  undone_lost a false none sound =
      let P : Phase → Type 0 = λ p. tc_rounds (record w { phase = p }) < tc_rounds w in
      subst P (sym waits_no_more) (falls_passed w (phase.Undoing None) (ap is_running at) (less_undo w.log))
  undone_lost None true lacking sound =
      absurd (true≢false (sym (sound refl) ∙ ap is_some (fits_lacking w n lacking).unanswered))
  undone_lost (Some a) true lacking sound =
      let P : Phase → Type 0 = λ p. tc_rounds (record (answered_lost w n a) { phase = p }) < tc_rounds w in
      subst P (sym waits_no_more)
      (falls_lost w (phase.Undoing None) n a (ap is_running at) (less_undo (is.Answer n a ∷ w.log)))

  -- the compensation that is awaited is answered
  pub falls_compensated : (a : Option Answer) (x : Option OpenTxn) → awaiting w n ≡ x → IsSound w n a
      → tc_rounds (on_awaited w n a x).1 < tc_rounds w
  falls_compensated a None none sound = undone_lost a (lacks w n) refl sound
  falls_compensated None (Some o) some sound = let waits = awaited_is w n o some in
      absurd (not_unanswered w o n k waits.0 waits.1 (sound refl))
  falls_compensated (Some a) (Some o) some sound =
      let waits = awaited_is w n o some in
      let P : Phase → Type 0 = λ p. tc_rounds (record (answered w o n a) { phase = p }) < tc_rounds w in
      subst P (sym waits_no_more)
      (falls_answer w o (phase.Undoing None) n a k waits.0 waits.1 (omega arith) (omega arith))

  -- the log is forced for it
  pub falls_force_lost : w.stable < n → n ≤ length w.log → tc_rounds (forced w) < tc_rounds w
  falls_force_lost less most =
      let all = total_most (txn_rounds w.log (length w.log)) (txn_rounds w.log w.stable) w.open_txns
      (λ p. txn_forced w.log w.stable (length w.log) p k.within) in
      rw (at, unstable_now w.stable n less, stable_now (length w.log) n most) (omega (arith, all))

-- the next compensation is logged
pub falls_latest : (w new : TcView) (n : ℕ) → CompensatesLatest w n new → tc_rounds new < tc_rounds w
falls_latest w new n h =
    let x : Loser = h.loser in
    let stands = h.next.at.left.is in
    let follows : ℕ = next_at w.log x.left in
    let inverse : Option Op = inverse_at w.log x.left in
    let r : Record = is.Comp x.txn x.left follows inverse in
    let txns = total_most (txn_rounds (r ∷ w.log) w.stable) (txn_rounds w.log w.stable) w.open_txns
    (λ o. txn_later r w.log w.stable w.stable o refl (omega arith)) in
    let lost = lost_comp w.log w.losers.below x.txn x.left follows inverse stands.op h.next.loser stands.is
    stands.uncrossed in
    let bound = waiting_bound w.stable (waits_for (length w.log + 1) inverse) in
    let fewer : tc_rounds (lost_compensated w x new.losers) < tc_rounds w =
    let same = ap (lost_rounds (r ∷ w.log)) h.same in rw (h.undoing) (omega (arith, txns, lost, bound, same)) in
    subst (λ v. tc_rounds v < tc_rounds w) (sym h.left) fewer

-- of the losers one has ended
pub falls_ended : (w new : TcView) (t : ℕ) → LosesLeast w t new → tc_rounds new < tc_rounds w
falls_ended w new t h = subst (λ v. tc_rounds v < tc_rounds w) (sym h.left) (by (is_none_lost new.losers))
  where
    txns : total (txn_rounds (is.End t ∷ w.log) w.stable) w.open_txns ≤ total (txn_rounds w.log w.stable) w.open_txns
    txns = total_most (txn_rounds (is.End t ∷ w.log) w.stable) (txn_rounds w.log w.stable) w.open_txns
        (λ o. txn_later (is.End t) w.log w.stable w.stable o refl (omega arith))

    lost : lost_rounds (is.End t ∷ w.log) new.losers.below + 1 ≤ lost_rounds w.log w.losers.below
    lost = let same = ap (lost_rounds (is.End t ∷ w.log)) h.same in
        omega (arith, same, lost_less w.log w.losers.below t h.least.is.loser)

    by : (b : Bool)
        → tc_rounds (record (lost_ended w t new.losers) { phase = if b then phase.Running else phase.Undoing None })
        < tc_rounds w
    by true = let flag = worth (list_any is_busy w.open_txns || nat_lt w.stable (length (is.End t ∷ w.log))) in
        rw (h.undoing) (omega (arith, txns, lost, flag))
    by false = rw (h.undoing) (omega (arith, txns, lost))

-- an answer while clients are served
pub falls_answered : (w : TcView) (n : ℕ) (a : Option Answer) (o : OpenTxn) → IsTc w → w.phase ≡ phase.Running
    → find o.txn w.open_txns ≡ Some o → o.waiting ≡ Some n → IsSound w n a
    → tc_rounds (on_awaited w n a (Some o)).1 < tc_rounds w
falls_answered w n None o k running at some sound = absurd (not_unanswered w o n k at some (sound refl))
falls_answered w n (Some a) o k running at some sound =
    falls_answer w o (next_phase w.phase n) n a k at some (rw running (omega arith)) (rw running (omega arith))

-- a read: the transaction was told
pub falls_told : (w : TcView) (o : OpenTxn) (r : Read) → IsTc w → find o.txn w.open_txns ≡ Some o → o.reading ≡ Some r
    → tc_rounds (was_told w o) < tc_rounds w
falls_told w o r k at some =
    let new : OpenTxn = told_txn o in
    let was = txn_reading w.log w.stable r o some in
    let will : txn_rounds w.log w.stable new ≡ rolling_rounds w.log o + waiting_rounds w.stable o.waiting =
    omega arith in
    let step = total_step (txn_rounds w.log w.stable) (txn_rounds w.log w.stable) new o w.open_txns k.open_txns.order at
    refl (λ p. omega arith) in
    let flag = worth (not (is_running w.phase)
    || (list_any is_busy (was_told w o).open_txns || nat_lt w.stable (length w.log))) in
    rw (busy_reading w.open_txns o.txn r o at some, or-true (not (is_running w.phase)))
    (omega (arith, was, will, step, flag))

-- no more are left than the bound
phase_bound : (log : List Record) (s : ℕ) (p : Phase) → phase_rounds log s p ≤ steps_in log + 2
phase_bound log s phase.Unconnected = omega (arith, requests_are_steps 1 (length log + 1) log)
phase_bound log s phase.Connecting = omega (arith, requests_are_steps 1 (length log + 1) log)
phase_bound log s (phase.Redoing next ending) = omega (arith, requests_are_steps next s log)
phase_bound log s (phase.Undoing waiting) = omega arith
phase_bound log s phase.Running = omega arith

total_bound : (log : List Record) (stable : ℕ) (os : List OpenTxn)
    → total (txn_rounds log stable) os ≤ 3 * total (λ (o : OpenTxn). left_in log o.txn (bound_of o.rolling) log) os
    + 4 * length os
total_bound log stable [] = omega arith
total_bound log stable (o ∷ os) = let here = txn_bound log stable o in omega (arith, here, total_bound log stable os)

have_begun : (w : TcView) → AreOpen w.log w.losers.below w.open_txns → HaveBegun w.log w.open_txns
have_begun w k t o h = let P : ℕ → Type 0 = λ u. record_at w.log u ≡ Some is.Begin in
    subst P (found_number t w.open_txns o h) (k.each t o h).is.begun

undo_bound : (stable : ℕ) (p : Phase) → undo_rounds stable p ≤ 2
undo_bound stable phase.Unconnected = omega arith
undo_bound stable phase.Connecting = omega arith
undo_bound stable (phase.Redoing next ending) = omega arith
undo_bound stable (phase.Undoing waiting) = waiting_bound stable waiting
undo_bound stable phase.Running = omega arith

tc_bound : (w : TcView) → AreOpen w.log w.losers.below w.open_txns → tc_rounds w + 2 < most_rounds w.log
tc_bound w k =
    omega (
      arith,
      phase_bound w.log w.session w.phase,
      total_bound w.log w.stable w.open_txns,
      left_are_steps w.log w.log w.losers.below w.open_txns k.order k.late,
      are_begun w.log w.log w.losers.below w.open_txns k.order k.late (have_begun w k),
      undo_bound w.stable w.phase,
      worth (not (is_running w.phase) || (list_any is_busy w.open_txns || nat_lt w.stable (length w.log))),
    )

down_bound : (b : Bool) → down_rounds b ≤ 1
down_bound true = omega arith
down_bound false = omega arith

pub rounds_bound : (w : NodeView) → IsTc w.tc → rounds_left w < most_rounds w.tc.log
rounds_bound w k = by (is_apart w.tc.phase || not (w.dc.session == w.tc.session))
  where
    by : (b : Bool)
        → down_rounds w.tc_up + down_rounds w.dc_up + (if b then tc_rounds (without_session w.tc) else tc_rounds w.tc)
        < most_rounds w.tc.log
    by true = omega (arith, down_bound w.tc_up, down_bound w.dc_up, tc_bound (without_session w.tc) k.open_txns)
    by false = omega (arith, down_bound w.tc_up, down_bound w.dc_up, tc_bound w.tc k.open_txns)
