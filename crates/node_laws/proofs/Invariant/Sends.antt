-- What is sent stands, and sending changes nothing for clients.
use Rattle.std.proofs.Common.{◌≡◌, ◌⊎◌, ℕ, ◌+◌, ◌<◌, ◌≤◌, IsTrue, Bool, true, false, List, [], ◌∷◌, ◌++◌, length, Option, Some, None, is_some, refl, sym, ap, ◌∙◌, subst, arith, inl, inr}
use Rattle.std.specs.Prelude.{Ok, not, if◌then◌else◌}
use Rattle.record_key.specs.declared.refusal.Refusal.{Refusal}
use Rattle.record_key.specs.declared.refusal.Refusal.TheVariants.{Device}
use Rattle.history.specs.ListMachine.{Machine, TellsLost, Steps}
use Rattle.simulation.specs.View.{StandsFor}
use Rattle.std.proofs.lemmas.Bool.{cases_lt}
use Rattle.std.specs.Prelude.{IsSome}
use Rattle.record_key.specs.Table.{Bytes}
use Rattle.record_key.specs.declared.op.Op.{Op}
use Rattle.history.specs.declared.record.Record.{Record}
use Rattle.history.specs.Log.{answer_of, Requests}
use Rattle.log_laws.proofs.Records.{ARequest, older_at, newest_at, since}
use Rattle.log_laws.proofs.LegalLogs.{answered_push, request_number}
use Rattle.log_laws.proofs.Strict.{one_at_a_time}
use Rattle.log_laws.proofs.Cancel.{adds_request}
use Rattle.dc_core.specs.DcView.{DcView, captures_at}
use Rattle.dc_core.specs.Serves.{runs}
use Rattle.tc_core.specs.Causes.{open_refusal}
use Rattle.history.specs.declared.record.Record.TheVariants as is
use Rattle.codec.specs.declared.request.Request.{Request}
use Rattle.codec.specs.declared.request.Request.TheVariants as asks
use Rattle.tc_core.specs.declared.phase.Phase.{Phase}
use Rattle.tc_core.specs.declared.phase.Phase.TheVariants as phase
use Rattle.stable.specs.Usage.{is_due, failed as failed_use}
use Rattle.tc_core.specs.TcView.{TcView, failed, is_serving, is_none_lost}
use Rattle.tc_locks.specs.declared.span.Span.{Span}
use Rattle.tc_locks.specs.declared.span.Span.TheVariants.{Key, Range}
use Rattle.tc_core.specs.declared.open_txn.OpenTxn.{OpenTxn}
use Rattle.tc_core.specs.declared.open_txn.Read.{Read}
use Rattle.tc_core.specs.OpenTxns.{find}
use Rattle.tc_log.specs.LogView.{spent_refusal}
use Rattle.tc_core.specs.Refusing.{Refuses}
use Rattle.tc_core.specs.Changes.{logged_session, reconnected, announced, asked_checkpoint, lost_comp, lost_compensated, lost_ended}
use Rattle.tc_core.specs.Calls.{read_request, IsRequestOf}
use Rattle.tc_core.specs.Recovery.{SendsAt, CompensatesLatest, LosesLeast, redo_request, redo_place, redoing, recover_refusal, undo_logs_at}
use Rattle.tc_core.specs.Undo.{AsksNothing, FindsRequest}
use Rattle.tc_core.specs.Kept.{IsPhase, IsTc}
use Rattle.node_laws.specs.declared.event.Event.TheVariants as event
use Rattle.node_laws.specs.declared.event.Out.{Out}
use Rattle.node_laws.specs.declared.event.Out.TheVariants as out
use Rattle.node_laws.specs.Node.{NodeView, with_tc, next_connect, ReconnectsTo, RecoversTo, SendsTo, LowersTo, AsksCheckpoint, TellsTo}
use Rattle.node_laws.specs.Kept.{IsKept, IsAnsweredBy, IsReadTrue, InSession, IsNext, IsSent, IsServed, AreSessions, AreBefore, AllAreCaptured, AnsweredAreCaptured, EarlierAreCaptured}
use Rattle.node_laws.specs.Source.{Source, IsWaiting, own}
use Rattle.node_laws.proofs.Invariant.AtKeys.{answered_captured}
use Rattle.node_laws.proofs.Invariant.Sources.{unwaited, live, run_live, of_source}
use Rattle.node_laws.specs.Simulation.{NodeStandsFor, clients, told_committed}
use Rattle.node_laws.proofs.Invariant.CallsKeep.{reconnect_keeps, session_keeps, recover_keeps, low_water_keeps, checkpoint_keeps}
use Rattle.node_laws.proofs.Machine.Standing.{stands_logged, stands_reconnected, stands_lost_compensated, stands_lost_ended}
use Rattle.tc_core.proofs.KeepsTc.{reading_at}
use Rattle.node_laws.proofs.Machine.Readers.{none_same}
use Rattle.node_laws.proofs.Machine.Idle.{both_none, serves_open, serves_clients}
use Rattle.node_laws.proofs.Invariant.Keeps.{still_captured, asked_captured, quiet_served, served_so, same_waiting, none_waiting, keeps_appended, keeps_same_log, with_request, keeps_sent, IsPastRedo, past_redo}
use Rattle.node_laws.proofs.Invariant.Running.{run_is, past_is}
use Rattle.node_laws.proofs.Machine.Follows.{Follows, at_new, at_tc, no_line, one_line, unchanged, left_refused, kept_left, keeps_used, stands_left}

-- every request so far is before the next record
all_before : (log : List Record) → AreBefore log (length log + 1)
all_before log n o asks = let number = request_number log n o asks in omega (arith, number.bounded)

-- a session begins
begins : (w : NodeView) → IsKept w → IsTc (reconnected w.tc) → IsKept (with_tc w (reconnected w.tc))
begins w k after =
    let before : AreBefore (is.Session ∷ w.tc.log) (length w.tc.log + 1) =
    λ n o asks. all_before w.tc.log n o (older_at (ARequest o) is.Session w.tc.log n
    (λ e. let none : ARequest o (Some is.Session) = newest_at (ARequest o) is.Session w.tc.log n e asks in cc) asks) in
    keeps_appended w (reconnected w.tc) is.Session k after k.checked refl (omega (arith, k.tc.within))
    (inr (omega (arith, k.tc.within))) (omega arith) (none_same w.tc.reads w.tc.open_txns)
    (record { untaken = λ h. (tt, inr refl); waits = λ h. inr (omega (arith, k.tc.within), omega arith) })
    (record {
      begun = record {
        recorded = omega (arith, k.sessions.begun.recorded, k.tc.within);
        most = λ some. omega (arith, k.sessions.begun.recorded, k.tc.within);
      };
      served = before;
    })
    k.right (λ some. still_captured w is.Session (λ o h. cc) (λ m. refl))

-- or only its record is logged, since the force failed
logs_session : (w : NodeView) → IsKept w → IsTc (logged_session w.tc) → IsKept (with_tc w (logged_session w.tc))
logs_session w k after =
    keeps_appended w (logged_session w.tc) is.Session k after k.checked refl (omega arith) (inl refl) (omega arith)
    (none_same w.tc.reads w.tc.open_txns)
    (record { untaken = λ h. (h.waits, inr refl); waits = λ h. inl (h, inr refl) })
    (record {
      begun = k.sessions.begun;
      served = quiet_served w.tc.phase w.tc.session is.Session w.tc.log w.dc (λ o h. cc) k.sessions.served;
    })
    k.right (λ some. still_captured w is.Session (λ o h. cc) (λ m. refl))

-- why no session was started
module _ (old new : NodeView) (r : Refusal) (k : IsKept old) (left : new ≡ with_tc old new.tc) where
  not_logged : Refuses (spent_refusal old.tc.log) true true old.tc r new.tc
      → Follows old event.Reconnect (out.Refused r) new
  not_logged h =
      let which = left_refused (spent_refusal old.tc.log) true true old.tc r new.tc h in
      record {
        leads = no_line old new event.Reconnect (out.Refused r) refl
            (λ m stands. stands_left old.tc new.tc m which stands);
        kept = kept_left old new k left which;
      }

  was_logged : spent_refusal old.tc.log ≡ None → new.tc ≡ failed (logged_session old.tc)
      → Follows old event.Reconnect (out.Refused r) new
  was_logged unspent same = record {
    leads = no_line old new event.Reconnect (out.Refused r) refl
        (λ m stands. subst (λ x. StandsFor (clients x) m) (sym same) (stands_logged old.tc m stands));
    kept = subst IsKept (sym (left ∙ ap (with_tc old) same))
        (keeps_used (with_tc old (logged_session old.tc)) (failed_use (logged_session old.tc).usage)
        (logs_session old k (session_keeps old.tc k.tc unspent)));
  }

pub follows_reconnect : (old new : NodeView) (output : Out) → IsKept old → ReconnectsTo old output new
    → Follows old event.Reconnect output new
follows_reconnect old new (out.Connects i cs) k h =
    let q : Request = next_connect old.tc in
    let tc : TcView = reconnected old.tc in
    let after : IsTc tc = subst IsTc h.0.3
    (reconnect_keeps old.tc new.tc (Ok (record { request = q; committed = cs })) k.tc h.0) in
    let same : new ≡ with_request (with_tc old tc) q =
    h.1.left ∙ ap (λ x. record old { tc = x; requests = old.requests ++ q ∷ [] }) h.0.3 in
    at_new old new (with_request (with_tc old tc) q) event.Reconnect (out.Connects i cs) same (record {
      leads = λ m stands.
          let l = stands_reconnected old.tc m (session_keeps old.tc k.tc h.0.0) stands in
          (l.0, subst (λ (ts : List ℕ). Steps m (told_committed ts) l.0) (sym h.0.2) l.1, l.2);
      kept = keeps_sent (with_tc old tc) q (begins old k after)
          (record { begun = record { recorded = omega arith; most = λ some. omega arith }; next = λ less. (tt, refl) });
    })
follows_reconnect old new (out.Refused r) k h = by h.0
  where
    by : Refuses (spent_refusal old.tc.log) true true old.tc r new.tc
        ⊎ ((spent_refusal old.tc.log ≡ None) × (r ≡ Device) × (new.tc ≡ failed (logged_session old.tc))
        × IsTrue (is_due (logged_session old.tc).usage))
        → Follows old event.Reconnect (out.Refused r) new
    by (inl c) = not_logged old new r k h.1 c
    by (inr c) = was_logged old new r k h.1 c.0 c.2
follows_reconnect old new _ k h = absurd h

-- redo goes on in the session that the data component took last
pub redo_served : (w : NodeView) (next : ℕ) (ending : Bool) → IsKept w → w.tc.phase ≡ phase.Redoing next ending
    → IsServed (phase.Redoing next ending) w.tc.session w.tc.log w.dc
redo_served w next ending k at = let P : Phase → Type 0 = λ p. IsServed p w.tc.session w.tc.log w.dc in
    subst P at k.sessions.served

-- in redo the transaction component doesn't wait
redo_unwaiting : (w : NodeView) (next : ℕ) (ending : Bool) → w.tc.phase ≡ phase.Redoing next ending
    → IsWaiting w.tc.phase → ⊥
redo_unwaiting w next ending at waits = subst IsWaiting at waits

-- redo stands at a number up to the session's
pub keeps_redoing : (w : NodeView) (next : ℕ) (was : Bool) (n : ℕ) (ending : Bool) → IsKept w
    → w.tc.phase ≡ phase.Redoing next was → IsTc (redoing w.tc n ending)
    → (w.dc.session ≡ w.tc.session → AllAreCaptured w.tc.log w.dc n) → IsKept (with_tc w (redoing w.tc n ending))
keeps_redoing w next was n ending k at tc captured =
    let was_served = redo_served w next was k at in
    keeps_same_log w (redoing w.tc n ending) k tc k.checked refl (omega arith) (inl refl) (omega arith)
    (none_same w.tc.reads w.tc.open_txns)
    (none_waiting w k (redoing w.tc n ending) (redo_unwaiting w next was at) (λ waits. waits))
    (record { begun = k.sessions.begun; served = (was_served.0, was_served.1, captured) })

-- the place of redo, and what it sends
pub record IsRedo (w : NodeView) (x : Source) (found : Option (ℕ × Op)) : Type 0 where
  pub some : 0 < redo_place w.tc.session found
  pub most : redo_place w.tc.session found ≤ w.tc.session
  pub captured : w.dc.session ≡ w.tc.session → AllAreCaptured w.tc.log w.dc (redo_place w.tc.session found)
  pub sent : IsSent w.tc w.dc x (redo_request w.tc found)

-- nothing is asked for between the two
all_further : (w : NodeView) (next n : ℕ) → AsksNothing w.tc.log next n → AllAreCaptured w.tc.log w.dc next
    → AllAreCaptured w.tc.log w.dc n
all_further w next n nothing all m o asks below = elim (cases_lt m next) [
  | inl before ↦ all m o asks before
  | inr from ↦ absurd (nothing m o from below asks)
]

pub redo_found : (w : NodeView) (next : ℕ) (ending : Bool) (found : Option (ℕ × Op)) (k : IsKept w)
    → w.tc.phase ≡ phase.Redoing next ending → 0 < next → next ≤ w.tc.session
    → FindsRequest w.tc.log next w.tc.session found → IsRedo w k.source found
redo_found w next ending None k at some most h =
    let served = redo_served w next ending k at in
    let captured : w.dc.session ≡ w.tc.session → AllAreCaptured w.tc.log w.dc w.tc.session =
    λ runs. all_further w next w.tc.session h (served.2 runs) in
    record {
      some = omega (arith, some, most);
      most = omega arith;
      captured = captured;
      sent = record {
        begun = omega (arith, served.1);
        holds = λ r. of_source w.tc k.source (λ (x : Source). AnsweredAreCaptured x.log w.dc)
            (live w k (redo_unwaiting w next ending at))
            (λ n o asks answered. captured (run_is w.dc w.tc.session r).is n o asks (served.0 n o asks));
      };
    }
redo_found w next ending (Some x) k at some most h =
    let served = redo_served w next ending k at in
    let unwaiting = redo_unwaiting w next ending at in
    let captured : w.dc.session ≡ w.tc.session → AllAreCaptured w.tc.log w.dc x.0 =
    λ runs. all_further w next x.0 h.3 (served.2 runs) in
    record {
      some = omega (arith, some, h.0);
      most = omega (arith, h.1);
      captured = captured;
      sent = (
        record { some = omega (arith, some, most); older = λ waits. absurd (unwaiting waits) },
        record {
          begun = omega (arith, served.1);
          holds = λ r. of_source w.tc k.source (λ (y : Source). IsNext y w.dc x.0 w.tc.stable x.1) (live w k unwaiting)
              (record {
                sure = omega arith;
                requests = h.2;
                earlier = λ m o asks below on. inl (subst (λ (z : Bytes). captures_at w.dc z m ≡ true) on
                    (captured (run_is w.dc w.tc.session r).is m o asks below));
              });
        },
      );
    }

pub redoing_phase : (w : NodeView) (next : ℕ) (ending : Bool) → IsKept w → w.tc.phase ≡ phase.Redoing next ending
    → (w.tc.checkpointed < next) × (next ≤ w.tc.session)
redoing_phase w next ending k at =
    let P : Phase → Type 0 = IsPhase w.tc.checkpointed w.tc.session in let h = subst P at k.tc.phase in (h.0, h.1)

-- what is sent past redo: the earlier requests on its key are answered, so captured, unless both are Adds
earlier_captured : (w : NodeView) (n : ℕ) (o : Op) (k : IsKept w) → k.source ≡ own w.tc → IsPastRedo w
    → Requests w.tc.log n o → runs w.dc w.tc.session ≡ true
    → EarlierAreCaptured w.tc.log w.dc n o
earlier_captured w n o k live past_redo asks r m p earlier below on =
    let run = run_is w.dc w.tc.session r in
    let past = past_is w.dc w.tc.session run.some run.is (past_redo.past run.is) in
    elim (one_at_a_time w.tc.log k.tc.legal m n p o earlier below asks (sym on)) [
      | inl both ↦ inr (
        adds_request w.tc.log n o k.tc.legal k.right asks ∙ both.1,
        adds_request w.tc.log m p k.tc.legal k.right earlier ∙ both.0,
      )
      | inr answered ↦ inl (subst (λ (z : Bytes). captures_at w.dc z m ≡ true) on
          (answered_captured w k live past m p earlier
          (since (λ x. IsSome (answer_of x m)) (answered_push m) w.tc.log n answered)))
    ]

sent_past : (w : NodeView) (n : ℕ) (o : Op) (k : IsKept w) → is_serving w.tc.phase ≡ true → Requests w.tc.log n o
    → IsSent w.tc w.dc k.source (asks.Perform w.tc.session n w.tc.stable o)
sent_past w n o k serves requests =
    let past = past_redo w k serves in
    let unwaiting = unwaited w.tc.phase serves in
    let own_log = live w k unwaiting in (
      record { some = past.some; older = λ waits. absurd (unwaiting waits) },
      record {
        begun = omega (arith, past.stored);
        holds = λ runs. of_source w.tc k.source (λ (x : Source). IsNext x w.dc n w.tc.stable o) own_log
            (record {
              sure = omega arith;
              requests = requests;
              earlier = earlier_captured w n o k own_log past requests runs;
            });
      },
    )

-- what recovery sends, by its phase
pub recovers : (old new : NodeView) (q : Request) (p : Phase) → old.tc.phase ≡ p → IsKept old
    → SendsAt old.tc p q new.tc
    → IsTc new.tc → new ≡ record old { tc = new.tc; requests = old.requests ++ q ∷ [] }
    → IsKept new × ((m : Machine) → NodeStandsFor old m → NodeStandsFor new m)
recovers old new q phase.Unconnected at k h after left = absurd h
recovers old new q phase.Connecting at k h after left =
    let same : new ≡ with_request old q =
    left ∙ ap (λ tc. record old { tc = tc; requests = old.requests ++ q ∷ [] }) h.1 in
    let P : Request → Type 0 = IsSent old.tc old.dc k.source in (
      subst IsKept (sym same)
          (keeps_sent old q k (subst P (sym h.0) (record {
            begun = record { recorded = k.tc.session; most = λ some. omega arith };
            next = λ less. (subst IsWaiting (sym at) tt, refl);
          }))),
      λ m stands. subst (λ x. StandsFor (clients x) m) (sym h.1) stands,
    )
recovers old new q (phase.Redoing next ending) at k h after left =
    let place : ℕ = redo_place old.tc.session h.found in
    let sent_end : Bool = not (is_some h.found) in
    let bounds = redoing_phase old next ending k at in
    let redo = redo_found old next ending h.found k at (omega (arith, bounds.0)) bounds.1 h.finds in
    let mid : NodeView = with_request old q in
    let same : new ≡ with_tc mid (redoing old.tc place sent_end) =
    left ∙ ap (λ tc. record old { tc = tc; requests = old.requests ++ q ∷ [] }) h.left in
    let P : Request → Type 0 = IsSent old.tc old.dc k.source in (
      subst IsKept (sym same)
          (keeps_redoing mid next ending place sent_end (keeps_sent old q k (subst P (sym h.request_is) redo.sent)) at
          (subst IsTc h.left after) redo.captured),
      λ m stands. subst (λ x. StandsFor (clients x) m) (sym h.left) stands,
    )
recovers old new q (phase.Undoing None) at k h after left = absurd h
recovers old new q (phase.Undoing (Some n)) at k h after left =
    let same : new ≡ with_request old q =
    left ∙ ap (λ tc. record old { tc = tc; requests = old.requests ++ q ∷ [] }) h.unchanged in
    let P : Request → Type 0 = IsSent old.tc old.dc k.source in (
      subst IsKept (sym same) (keeps_sent old q k
          (subst P (sym h.request_is) (sent_past old n h.op k (ap is_serving at) h.requests))),
      λ m stands. subst (λ x. StandsFor (clients x) m) (sym h.unchanged) stands,
    )
recovers old new q phase.Running at k h after left = absurd h

-- where losers are undone a record more leaves the sessions as they were
losing_on : (w : NodeView) (waiting : Option ℕ) (next : Phase) (log : List Record) → IsKept w
    → w.tc.phase ≡ phase.Undoing waiting → is_serving next ≡ true
    → AreSessions w.tc.stable w.tc.session next log w.dc
losing_on w waiting next log k at serves =
    record { begun = k.sessions.begun; served = served_so w log next (past_redo w k (ap is_serving at)) serves }

-- while losers are undone the transaction component doesn't wait
losing_unwaiting : (w : NodeView) (waiting : Option ℕ) → w.tc.phase ≡ phase.Undoing waiting → IsWaiting w.tc.phase → ⊥
losing_unwaiting w waiting at waits = subst IsWaiting at waits

-- a compensation of a loser's operation
lost_compensates : (old new : NodeView) (n : ℕ) → IsKept old → IsTc new.tc → CompensatesLatest old.tc n new.tc
    → new ≡ with_tc old new.tc
    → Follows old event.Recover (out.Compensated n) new
lost_compensates old new n k is_tc h left =
    let tc : TcView = lost_compensated old.tc h.loser new.tc.losers in
    let after : IsTc tc = subst IsTc h.left is_tc in
    let c : Record = lost_comp old.tc.log h.loser in
    at_tc old new tc event.Recover (out.Compensated n) left h.left (record {
      leads = no_line old (with_tc old tc) event.Recover (out.Compensated n) refl
          (λ m stands. stands_lost_compensated old.tc m h.loser new.tc.losers k.tc after h.same h.next.loser stands);
      kept = keeps_appended old tc c k after k.checked refl (omega arith) (inl refl) (omega arith)
          (none_same old.tc.reads old.tc.open_txns)
          (none_waiting old k tc (losing_unwaiting old None h.undoing) (λ waits. waits))
          (losing_on old None tc.phase tc.log k h.undoing refl) k.right (λ some. asked_captured old c k (λ m. refl));
    })

-- its End
lost_ends : (old new : NodeView) (t : ℕ) → IsKept old → IsTc new.tc → LosesLeast old.tc t new.tc
    → new ≡ with_tc old new.tc
    → Follows old event.Recover (out.Lost t) new
lost_ends old new t k is_tc h left =
    let tc : TcView = lost_ended old.tc t new.tc.losers in
    let after : IsTc tc = subst IsTc h.left is_tc in
    let e : Record = is.End t in
    at_tc old new tc event.Recover (out.Lost t) left h.left (record {
      leads = one_line old (with_tc old tc) event.Recover (out.Lost t) (TellsLost t) refl
          (λ m stands. stands_lost_ended old.tc m t new.tc.losers k.tc after h.same h.least.is.loser stands);
      kept = keeps_appended old tc e k after k.checked refl (omega arith) (inl refl) (omega arith)
          (none_same old.tc.reads old.tc.open_txns)
          (none_waiting old k tc (losing_unwaiting old None h.undoing)
          (unwaited tc.phase (serves (is_none_lost new.tc.losers))))
          (losing_on old None tc.phase tc.log k h.undoing (serves (is_none_lost new.tc.losers))) k.right
          (λ some. still_captured old e (λ q asks. cc) (λ m. refl));
    })
  where
    serves : (b : Bool) → is_serving (if b then phase.Running else phase.Undoing None) ≡ true
    serves true = refl
    serves false = refl

pub follows_recover : (old new : NodeView) (output : Out) → IsKept old → IsTc new.tc → RecoversTo old output new
    → Follows old event.Recover output new
follows_recover old new out.Nothing k is h =
    unchanged old new event.Recover out.Nothing k (h.1 ∙ ap (with_tc old) h.0.1.1) refl
follows_recover old new (out.Sent i) k is h =
    let both = recovers old new h.0 old.tc.phase refl k h.1.1 (recover_keeps old.tc new.tc h.0 k.tc h.1) h.2.left in
    record { leads = no_line old new event.Recover (out.Sent i) refl both.1; kept = both.0 }
follows_recover old new (out.Compensated n) k is h = lost_compensates old new n k is h.0.1 h.1
follows_recover old new (out.Lost t) k is h = lost_ends old new t k is h.0.1 h.1
follows_recover old new (out.Refused r) k is (inl h) = unchanged old new event.Recover (out.Refused r) k h.1 refl
follows_recover old new (out.Refused r) k is (inr h) =
    let logs : Bool = undo_logs_at old.tc.phase in
    let which = left_refused (recover_refusal old.tc) logs logs old.tc r new.tc h.0 in
    record {
      leads = no_line old new event.Recover (out.Refused r) refl (λ m stands. stands_left old.tc new.tc m which stands);
      kept = kept_left old new k h.1 which;
    }
follows_recover old new _ k is h = absurd h

-- a read is of who waits for it: nobody else waits for its number
read_of : (w : TcView) (o : OpenTxn) (r : Read) → IsTc w → 0 < w.session → find o.txn w.open_txns ≡ Some o
    → o.reading ≡ Some r
    → IsReadTrue w w.session r.number (λ q. q ≡ r.span)
read_of w o r k some at reads = record {
  some = some;
  begun = k.session;
  asked = λ is. (reading_at w o r k at reads).asked;
  holds = λ is t p q found reading.
      let same : o.txn ≡ t = k.reading.apart o.txn t o p r (record { number = r.number; span = q }) at found reads
      reading refl in
      let F : ℕ → Type 0 = λ u. find u w.open_txns ≡ Some o in
      let one : Some o ≡ Some p = sym (subst F same at) ∙ found in
      let both : Some r ≡ Some (record { number = r.number; span = q }) =
      sym reads ∙ ap (λ (x : OpenTxn). x.reading) (let e : o ≡ p = cc in e) ∙ reading in
      sym (span_same (Some r) (Some (record { number = r.number; span = q })) both);
}
  where
    span_in : Option Read → Span
    span_in None = r.span
    span_in (Some x) = x.span

    span_same : (x y : Option Read) → x ≡ y → span_in x ≡ span_in y
    span_same x y e = ap span_in e

sent_read : (w : TcView) (dc : DcView) (x : Source) (n : ℕ) (s : Span) → IsReadTrue w w.session n (λ q. q ≡ s)
    → IsSent w dc x (read_request w.session n s)
sent_read w dc x n (Key key) h = h
sent_read w dc x n (Range low high) h = h

-- what clients wait for is sent while they are served
sent_of : (old : NodeView) (t : ℕ) (q : Request) (k : IsKept old) → is_serving old.tc.phase ≡ true
    → IsRequestOf old.tc t q → IsSent old.tc old.dc k.source q
sent_of old t q k serves (inl r) =
    let P : Request → Type 0 = IsSent old.tc old.dc k.source in
    subst P (sym r.is) (sent_past old r.number r.op k serves r.requests)
sent_of old t q k serves (inr r) =
    let P : Request → Type 0 = IsSent old.tc old.dc k.source in
    subst P (sym r.is) (sent_read old.tc old.dc k.source r.read.number r.read.span
    (read_of old.tc r.open_txn r.read k.tc (past_redo old k serves).some r.at.is r.reading))

pub follows_send : (old new : NodeView) (t : ℕ) (output : Out) → IsKept old → SendsTo old t output new
    → Follows old (event.Send t) output new
follows_send old new t (out.Sent i) k h =
    at_new old new (with_request old h.0) (event.Send t) (out.Sent i) h.2.left
    (record {
      leads = no_line old (with_request old h.0) (event.Send t) (out.Sent i) refl (λ m stands. stands);
      kept = keeps_sent old h.0 k
          (sent_of old t h.0 k (serves_open old.tc t (both_none (open_refusal old.tc t) _ h.1.0).0) h.1.1);
    })
follows_send old new t (out.Refused r) k h = unchanged old new (event.Send t) (out.Refused r) k h.1 refl
follows_send old new t _ k h = absurd h

-- a number up to which all is answered, in the session that both run
sent_low : (w : NodeView) (l : ℕ) (k : IsKept w) → w.tc.phase ≡ phase.Running → IsAnsweredBy w.tc.log w.tc.stable l
    → InSession w.dc w.tc.session (IsAnsweredBy k.source.log k.source.sure l)
sent_low w l k running to =
    let past = past_redo w k (ap is_serving running) in
    record {
      begun = omega (arith, past.stored);
      holds = λ r. of_source w.tc k.source (λ (x : Source). IsAnsweredBy x.log x.sure l)
          (run_live w w.tc.session k r refl) to;
    }

-- how much of the log is stable, in the session that both run
sent_stable : (w : NodeView) (k : IsKept w) → w.tc.phase ≡ phase.Running
    → IsSent w.tc w.dc k.source (asks.StableEnd w.tc.session w.tc.stable)
sent_stable w k running =
    let past = past_redo w k (ap is_serving running) in
    record {
      begun = omega (arith, past.stored);
      holds = λ r. of_source w.tc k.source (λ (x : Source). w.tc.stable ≤ x.sure)
          (run_live w w.tc.session k r refl) (omega arith);
    }

-- what was announced and asked for is nobody's but the transaction component's
announces : (w : NodeView) (announced : ℕ) (asked : Option ℕ) → IsKept w
    → IsTc (record w.tc { announced = announced; checkpointing = asked })
    → IsKept (with_tc w (record w.tc { announced = announced; checkpointing = asked }))
announces w announced asked k after =
    let tc : TcView = record w.tc { announced = announced; checkpointing = asked } in
    keeps_same_log w tc k after k.checked refl (omega arith) (inl refl) (omega arith)
    (none_same w.tc.reads w.tc.open_txns) (same_waiting w k tc refl refl) k.sessions

pub follows_low_water : (old new : NodeView) (l : ℕ) (output : Out) → IsKept old → LowersTo old l output new
    → Follows old (event.LowWater l) output new
follows_low_water old new l (out.Sent i) k h =
    let q : Request = asks.LowWater old.tc.session l in
    let tc : TcView = announced old.tc l in
    let same : new ≡ with_request (with_tc old tc) q =
    h.1.left ∙ ap (λ x. record old { tc = x; requests = old.requests ++ q ∷ [] }) h.0.2 in
    let after : IsTc tc = subst IsTc h.0.2 (low_water_keeps old.tc new.tc l (Ok q) k.tc h.0) in
    at_new old new (with_request (with_tc old tc) q) (event.LowWater l) (out.Sent i) same (record {
      leads = no_line old (with_request (with_tc old tc) q) (event.LowWater l) (out.Sent i) refl (λ m stands. stands);
      kept = announces (with_request old q) (announced old.tc l).announced old.tc.checkpointing
          (keeps_sent old q k (sent_low old l k (serves_clients old.tc h.0.0.running) h.0.0.allowed)) after;
    })
follows_low_water old new l (out.Refused r) k h = unchanged old new (event.LowWater l) (out.Refused r) k h.1 refl
follows_low_water old new l _ k h = absurd h

pub follows_checkpoint : (old new : NodeView) (output : Out) → IsKept old → AsksCheckpoint old output new
    → Follows old event.Checkpoint output new
follows_checkpoint old new (out.Sent i) k h =
    let q : Request = asks.Checkpoint old.tc.session old.tc.announced in
    let tc : TcView = asked_checkpoint old.tc in
    let same : new ≡ with_request (with_tc old tc) q =
    h.1.left ∙ ap (λ x. record old { tc = x; requests = old.requests ++ q ∷ [] }) h.0.2 in
    let after : IsTc tc = subst IsTc h.0.2 (checkpoint_keeps old.tc new.tc (Ok q) k.tc h.0) in
    at_new old new (with_request (with_tc old tc) q) event.Checkpoint (out.Sent i) same (record {
      leads = no_line old (with_request (with_tc old tc) q) event.Checkpoint (out.Sent i) refl (λ m stands. stands);
      kept = announces (with_request old q) old.tc.announced (Some old.tc.announced)
          (keeps_sent old q k (sent_low old old.tc.announced k (serves_clients old.tc h.0.0) k.tc.low.announced)) after;
    })
follows_checkpoint old new (out.Refused r) k h = unchanged old new event.Checkpoint (out.Refused r) k h.1 refl
follows_checkpoint old new _ k h = absurd h

pub follows_tell : (old new : NodeView) (output : Out) → IsKept old → TellsTo old output new
    → Follows old event.Tell output new
follows_tell old new (out.Sent i) k h =
    let q : Request = asks.StableEnd old.tc.session old.tc.stable in
    at_new old new (with_request old q) event.Tell (out.Sent i) h.1.left
    (record {
      leads = no_line old (with_request old q) event.Tell (out.Sent i) refl (λ m stands. stands);
      kept = keeps_sent old q k (sent_stable old k (serves_clients old.tc h.0.0));
    })
follows_tell old new (out.Refused r) k h = unchanged old new event.Tell (out.Refused r) k h.1 refl
follows_tell old new _ k h = absurd h
