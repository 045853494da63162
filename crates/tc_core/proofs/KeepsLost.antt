-- The steps of a session up to the undo of losers, and the answers that no client waits for.
use Rattle.std.proofs.Common.{◌≡◌, ℕ, ◌+◌, ◌<◌, ◌≤◌, Bool, true, false, cond, ◌∷◌, Option, Some, None, IsSome, is_some, refl, sym, ap, ◌∙◌, subst, arith, inl, inr, ne_eqb, true≢false}
use Rattle.std.specs.Prelude.{◌&&◌, not, if◌then◌else◌}
use Rattle.std.proofs.lemmas.Bool.{cases_lt}
use Rattle.record_key.specs.declared.op.Op.{Op}
use Rattle.record_key.specs.declared.op.Answer.{Answer}
use Rattle.history.specs.declared.record.Record.{Record}
use Rattle.history.specs.declared.record.Record.TheVariants as is
use Rattle.history.specs.Log.{record_at, answer_of, request_in, Requests}
use Rattle.history.specs.Legal.{FitsAnswer}
use Rattle.tc_log.specs.LogView.{is_spent}
use Rattle.tc_restart.specs.Losers.{LosersView}
use Rattle.tc_core.specs.declared.open_txn.OpenTxn.{OpenTxn}
use Rattle.tc_core.specs.declared.phase.Phase.{Phase}
use Rattle.tc_core.specs.declared.phase.Phase.TheVariants as phase
use Rattle.tc_core.specs.OpenTxns.{find}
use Rattle.tc_core.specs.TcView.{TcView, is_none_lost}
use Rattle.tc_core.specs.Changes.{answered_lost, undoing_or_running}
use Rattle.tc_core.specs.Replies.{takes, lacks, awaiting, next_phase, passed}
use Rattle.tc_core.specs.Recovery.{redoing}
use Rattle.tc_core.specs.Undo.{AsksNothing}
use Rattle.tc_core.specs.Kept.{IsOpenTxn, IsPhase, IsPhaseOf, MayLack, IsOwedAnswer, closing, IsTc}
use Rattle.tc_core.proofs.Low.{may_all, low_longer}
use Rattle.tc_core.proofs.Losers.{lost_answered}
use Rattle.tc_core.proofs.Keeps.{open_was}
use Rattle.tc_core.proofs.KeepsIdle.{leaves_open}
use Rattle.tc_core.proofs.KeepsOpen.{same_open}
use Rattle.tc_core.proofs.KeepsTc.{one_more, awaits, phase_passed}
use Rattle.tc_core.proofs.LocksHeld.{longer}

-- where nothing is lacking what is asked for is answered
pub not_lacking : (w : TcView) (n : ℕ) → lacks w n ≡ false → (o : Op) → Requests w.log n o → IsSome (answer_of w.log n)
not_lacking w n none o asks =
    pick (is_some (answer_of w.log n)) (sym (ap (λ q. is_some q && not (is_some (answer_of w.log n))) asks) ∙ none)
  where
    pick : (b : Bool) → (true && not b) ≡ false → b ≡ true
    pick true h = refl
    pick false h = absurd (true≢false h)

-- else its answer fits
pub fits_lacking : (w : TcView) (n : ℕ) → lacks w n ≡ true → FitsAnswer w.log n
fits_lacking w n lacking = asked (request_in (record_at w.log n)) refl (answer_of w.log n) refl
  where
    test : (q : Option Op) (a : Option Answer) → (is_some q && not (is_some a)) ≡ true
        → request_in (record_at w.log n) ≡ q
        → answer_of w.log n ≡ a → FitsAnswer w.log n
    test None a h is none = absurd (cc)
    test (Some o) (Some a) h is none = absurd (cc)
    test (Some o) None h is none = record { op = o; requested = is; unanswered = none }

    asked : (q : Option Op) → request_in (record_at w.log n) ≡ q → (a : Option Answer) → answer_of w.log n ≡ a
        → FitsAnswer w.log n
    asked q is a none = test q a (rw (← is, ← none) lacking) is none

module _ (w : TcView) (k : IsTc w) where
  pub keeps_lost_answer : (n : ℕ) (a : Answer) → lacks w n ≡ true → awaiting w n ≡ None
      → takes w.session w.phase n ≡ true
      → is_spent w.log ≡ false → IsTc (passed (answered_lost w n a) n)
  keeps_lost_answer n a lacking nobody taken unspent =
      let r : Record = is.Answer n a in
      let fits : FitsAnswer w.log n = fits_lacking w n lacking in
      record {
        legal = (fits, k.legal);
        within = omega (arith, k.within);
        few = record { records = omega (arith, one_more w.log unspent); reads = k.few.reads };
        session = k.session;
        asking = λ l is. ap (λ p. next_phase p n) (k.asking l is);
        phase = phase_passed w.checkpointed w.session n w.phase taken k.phase;
        low = low_longer w k r refl;
        open_txns = same_open w.log (r ∷ w.log) w.losers.below w.open_txns k.open_txns leaves
            (open_was r w.log (λ e. cc));
        committing = k.committing;
        lost = lost_answered w.log w.session w.phase w.losers n a k.lost taken (fits, k.legal);
        locks = longer w.log w.open_txns (closing w) w.locks k.locks r refl;
        early = k.early;
        reading = k.reading;
      }
    where
      leaves : (o : OpenTxn) → find o.txn w.open_txns ≡ Some o → IsOpenTxn w.log o → IsOpenTxn (is.Answer n a ∷ w.log) o
      leaves o at h =
          leaves_open (is.Answer n a) w.log o (record { no_step = λ s. cc; ends_not = refl })
          (λ m waiting. ap (λ b. cond b (Some a) (answer_of w.log m)) (ne_eqb m n (λ same.
          let mine : o.waiting ≡ Some n = waiting ∙ ap Some same in
          let clash : None ≡ Some o = sym nobody ∙ awaits w o n k at mine in cc))) h

  -- the session runs
  pub keeps_connected : w.phase ≡ phase.Connecting
      → IsTc (record w { phase = phase.Redoing (w.checkpointed + 1) false })
  keeps_connected connecting = record {
    legal = k.legal;
    within = k.within;
    few = record { records = k.few.records; reads = k.few.reads };
    session = k.session;
    asking = λ l is. absurd (let clash : phase.Connecting ≡ phase.Running = sym connecting ∙ k.asking l is in cc);
    phase =
        let P : Phase → Type 0 = IsPhase w.checkpointed w.session in
        let above : w.checkpointed < w.session = subst P connecting k.phase in
        (omega arith, omega (arith, above), λ e. absurd (true≢false (sym e)));
    low = k.low;
    open_txns = k.open_txns;
    committing = k.committing;
    lost = record {
      losers = k.lost.losers;
      phase_of = tt;
      lacking = λ n due.
          let P : Phase → Type 0 = λ p. MayLack w.session p n in
          (past n due, subst P connecting (k.lost.lacking n due));
      due = λ n e. absurd (cc);
    };
    locks = k.locks;
    early = k.early;
    reading = k.reading;
  }
    where
      past : (n : ℕ) → IsOwedAnswer w.log w.losers.below n → w.checkpointed + 1 ≤ n
      past n due = elim (cases_lt w.checkpointed n) [
        | inl later ↦ omega (arith, later)
        | inr below ↦
            let some : IsSome (answer_of w.log n) =
            (may_all w.log w.stable w.checkpointed k.low.checked).answered n due.op below due.requests in
            absurd (true≢false (sym some ∙ ap is_some due.unanswered))
      ]

  -- redo goes on to this number
  pub keeps_redoing : (next : ℕ) (was : Bool) (n : ℕ) (ending : Bool) → w.phase ≡ phase.Redoing next was → next ≤ n
      → n ≤ w.session
      → (ending ≡ true → n ≡ w.session) → AsksNothing w.log next n → IsTc (redoing w n ending)
  keeps_redoing next was n ending at from up_to at_end none = record {
    legal = k.legal;
    within = k.within;
    few = record { records = k.few.records; reads = k.few.reads };
    session = k.session;
    asking = λ l is. absurd (let clash : phase.Redoing next was ≡ phase.Running = sym at ∙ k.asking l is in cc);
    phase =
        let P : Phase → Type 0 = IsPhase w.checkpointed w.session in
        let h : IsPhase w.checkpointed w.session (phase.Redoing next was) = subst P at k.phase in
        (omega (arith, h.0, from), up_to, at_end);
    low = k.low;
    open_txns = k.open_txns;
    committing = k.committing;
    lost = record {
      losers = k.lost.losers;
      phase_of = tt;
      lacking = λ m due.
          let P : Phase → Type 0 = λ p. MayLack w.session p m in
          let h : MayLack w.session (phase.Redoing next was) m = subst P at (k.lost.lacking m due) in (
            elim (cases_lt m n) [ inl below ↦ absurd (none m due.op h.0 below due.requests) | inr later ↦ later ],
            h.1,
          );
      due = λ m e. absurd (cc);
    };
    locks = k.locks;
    early = k.early;
    reading = k.reading;
  }

-- losers are undone then, or the component runs
pub phase_ended : (c s : ℕ) (l : LosersView) → 0 < s → IsPhase c s (undoing_or_running l)
phase_ended c s l positive = pick (is_none_lost l)
  where
    pick : (b : Bool) → IsPhase c s (if b then phase.Running else phase.Undoing None)
    pick true = positive
    pick false = positive

pub phase_of_ended : (l : LosersView) → IsPhaseOf l (undoing_or_running l)
phase_of_ended l = pick (is_none_lost l) refl
  where
    pick : (b : Bool) → is_none_lost l ≡ b → IsPhaseOf l (if b then phase.Running else phase.Undoing None)
    pick true h = h
    pick false h = h

pub none_awaited : (l : LosersView) (n : ℕ) → undoing_or_running l ≡ phase.Undoing (Some n) → ⊥
none_awaited l n e = pick (is_none_lost l) e
  where
    pick : (b : Bool) → (if b then phase.Running else phase.Undoing None) ≡ phase.Undoing (Some n) → ⊥
    pick true h = cc
    pick false h = let clash : None ≡ Some n = cc in cc

pub keeps_redo_ended : (w : TcView) → IsTc w → (next : ℕ) → w.phase ≡ phase.Redoing next true
    → IsTc (record w { phase = undoing_or_running w.losers })
keeps_redo_ended w k next at =
    let P : Phase → Type 0 = IsPhase w.checkpointed w.session in
    let h : IsPhase w.checkpointed w.session (phase.Redoing next true) = subst P at k.phase in
    let end : next ≡ w.session = h.2 refl in
    record {
      legal = k.legal;
      within = k.within;
      few = record { records = k.few.records; reads = k.few.reads };
      session = k.session;
      asking = λ l is. absurd (let clash : phase.Redoing next true ≡ phase.Running = sym at ∙ k.asking l is in cc);
      phase = phase_ended w.checkpointed w.session w.losers (omega (arith, h.0, end));
      low = k.low;
      open_txns = k.open_txns;
      committing = k.committing;
      lost = record {
        losers = k.lost.losers;
        phase_of = phase_of_ended w.losers;
        lacking = λ n due. absurd (
            let Q : Phase → Type 0 = λ p. MayLack w.session p n in
            let lack : MayLack w.session (phase.Redoing next true) n = subst Q at (k.lost.lacking n due) in
            omega (arith, lack.0, lack.1, end)
            );
        due = λ n e. absurd (none_awaited w.losers n e);
      };
      locks = k.locks;
      early = k.early;
      reading = k.reading;
    }
