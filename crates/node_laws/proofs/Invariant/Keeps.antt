-- What the transaction component does by itself keeps what holds of a node.
use Rattle.std.proofs.Common.{◌≡◌, ◌≢◌, ℕ, ◌+◌, ◌<◌, ◌≤◌, Bool, true, false, cond, List, [], ◌∷◌, ◌++◌, length, Some, None, IsSome, is_some, refl, sym, ap, arith, ◌∙◌, subst, inl, inr, true≢false, ne_eqb}
use Rattle.std.specs.List.{AllByRecursion}
use Rattle.std.proofs.lemmas.Bool.{cases_eq}
use Rattle.record_key.specs.declared.op.Op.{Op}
use Rattle.record_key.specs.declared.op.Answer.{Answer}
use Rattle.record_key.specs.Table.{key_of}
use Rattle.history.specs.declared.record.Record.{Record}
use Rattle.history.specs.declared.record.Record.TheVariants as is
use Rattle.history.specs.Log.{answer_of, Requests}
use Rattle.history.specs.Values.{HasRightAnswers}
use Rattle.log_laws.proofs.Records.{ARequest, newest_at, older_at, IsNumber}
use Rattle.log_laws.proofs.LegalLogs.{step_number}
use Rattle.codec.specs.declared.request.Request.{Request}
use Rattle.codec.specs.declared.reply.Reply.{Reply}
use Rattle.dc_leaf.proofs.Performing.{one_request}
use Rattle.dc_core.specs.dc_store.specs.Checked.{IsChecked}
use Rattle.dc_core.specs.DcView.{DcView, captures_at}
use Rattle.tc_core.specs.declared.phase.Phase.{Phase}
use Rattle.tc_core.specs.declared.phase.Phase.TheVariants as phase
use Rattle.tc_core.specs.declared.open_txn.OpenTxn.{OpenTxn}
use Rattle.tc_core.specs.OpenTxns.{find}
use Rattle.tc_core.specs.TcView.{TcView, is_serving}
use Rattle.tc_core.specs.Kept.{IsTc, IsPhase}
use Rattle.tc_core.proofs.KeepsTc.{open_at, waits_at, none_next}
use Rattle.tc_core.proofs.KeepsIdle.{own_request}
use Rattle.tc_core.proofs.Finding.{found_own}
use Rattle.node_laws.specs.Node.{NodeView, with_tc}
use Rattle.node_laws.specs.Kept.{IsKept, IsSent, StaysTrue, IsServed, AreSessions, AnsweredAreCaptured, AreBefore, AllAreCaptured}
use Rattle.node_laws.proofs.Invariant.ByNumber.{all_push}
use Rattle.node_laws.proofs.Machine.Readers.{NoneAnew}
use Rattle.node_laws.specs.Source.{Source, IsWaiting, IsAsking, own}
use Rattle.node_laws.proofs.Invariant.Grows.{IsLater, LogsSession, WaitsOn, IsGrown, GoesOn, Captures, keeps_on}
use Rattle.node_laws.proofs.Invariant.Running.{stored_recorded}
use Rattle.node_laws.proofs.Invariant.Sources.{unwaited, of_source, sure_within}

-- a record that neither asks nor answers leaves what is answered captured
pub still_captured : (w : NodeView) (r : Record) → ((o : Op) → ARequest o (Some r) → ⊥)
    → ((m : ℕ) → answer_of (r ∷ w.tc.log) m ≡ answer_of w.tc.log m)
    → AnsweredAreCaptured w.tc.log w.dc → AnsweredAreCaptured (r ∷ w.tc.log) w.dc
still_captured w r none same captured m o asks some =
    elim (cases_eq m (length w.tc.log + 1)) [
      | inl e ↦ absurd (none o (newest_at (ARequest o) r w.tc.log m e asks))
      | inr e ↦ captured m o (older_at (ARequest o) r w.tc.log m e asks) (subst IsSome (same m) some)
    ]

-- one that asks isn't answered yet
pub asked_captured : (w : NodeView) (r : Record) → IsKept w
    → ((m : ℕ) → answer_of (r ∷ w.tc.log) m ≡ answer_of w.tc.log m)
    → AnsweredAreCaptured w.tc.log w.dc → AnsweredAreCaptured (r ∷ w.tc.log) w.dc
asked_captured w r k same captured m o asks some =
    elim (cases_eq m (length w.tc.log + 1)) [
      | inl e ↦
          let none : answer_of (r ∷ w.tc.log) m ≡ None =
          same m ∙ ap (answer_of w.tc.log) e ∙ none_next w.tc.log k.tc.legal in
          absurd (true≢false (sym some ∙ ap is_some none))
      | inr e ↦ captured m o (older_at (ARequest o) r w.tc.log m e asks) (subst IsSome (same m) some)
    ]

-- an answer is of a captured number
pub answer_captured : (w : NodeView) (n : ℕ) (a : Answer) (p : Op) → Requests w.tc.log n p
    → captures_at w.dc (key_of p) n ≡ true
    → AnsweredAreCaptured w.tc.log w.dc → AnsweredAreCaptured (is.Answer n a ∷ w.tc.log) w.dc
answer_captured w n a p requests there captured m o asks some =
    let r : Record = is.Answer n a in
    elim (cases_eq m (length w.tc.log + 1)) [
      | inl e ↦ let none : ARequest o (Some r) = newest_at (ARequest o) r w.tc.log m e asks in absurd (cc)
      | inr e ↦
          let older : Requests w.tc.log m o = older_at (ARequest o) r w.tc.log m e asks in
          elim (cases_eq m n) [
            | inl same ↦
                let one : p ≡ o = one_request w.tc.log n o p (subst (λ (z : ℕ). Requests w.tc.log z o) same older)
                requests in
                subst (λ (z : ℕ). captures_at w.dc (key_of o) z ≡ true) (sym same)
                (subst (λ (q : Op). captures_at w.dc (key_of q) n ≡ true) one there)
            | inr apart ↦ captured m o older
                (subst (λ (b : Bool). IsSome (cond b (Some a) (answer_of w.tc.log m))) (ne_eqb m n apart) some)
          ]
    ]

-- a record that asks for nothing leaves what was asked before, and what of it is captured
pub before_on : (r : Record) (log : List Record) (s : ℕ) → ((o : Op) → ARequest o (Some r) → ⊥) → AreBefore log s
    → AreBefore (r ∷ log) s
before_on r log s none before n o asks =
    before n o (older_at (ARequest o) r log n (λ e. absurd (none o (newest_at (ARequest o) r log n e asks))) asks)

pub all_on : (r : Record) (log : List Record) (dc : DcView) (next : ℕ) → ((o : Op) → ARequest o (Some r) → ⊥)
    → AllAreCaptured log dc next → AllAreCaptured (r ∷ log) dc next
all_on r log dc next none all n o asks =
    all n o (older_at (ARequest o) r log n (λ e. absurd (none o (newest_at (ARequest o) r log n e asks))) asks)

pub quiet_served : (p : Phase) (s : ℕ) (r : Record) (log : List Record) (dc : DcView)
    → ((o : Op) → ARequest o (Some r) → ⊥) → IsServed p s log dc → IsServed p s (r ∷ log) dc
quiet_served phase.Unconnected s r log dc none h = tt
quiet_served phase.Connecting s r log dc none h = before_on r log s none h
quiet_served (phase.Redoing next ending) s r log dc none h =
    (before_on r log s none h.0, h.1, λ runs. all_on r log dc next none (h.2 runs))
quiet_served (phase.Undoing waiting) s r log dc none h = h
quiet_served phase.Running s r log dc none h = h

-- whatever is waited for is a number of the log
pub awaited_number : (w : TcView) → IsTc w → (t : ℕ) (o : OpenTxn) (n : ℕ) → find t w.open_txns ≡ Some o
    → o.waiting ≡ Some n → IsNumber w.log n
awaited_number w k t o n found some =
    let own = own_request w.log o n
    (waits_at w.log o n (open_at w o k (found_own t w.open_txns o found)) some).request in
    step_number w.log n o.txn own.step

-- ---- the transaction component logs a record, or none

-- what it logs stands above what the source and the log have in common
asks_on : (stored : ℕ) (x : Source) (old new : TcView) → stored ≤ old.stable → old.stable ≤ new.stable
    → IsLater old new → WaitsOn stored old new → IsAsking old stored x → IsAsking new stored x
asks_on stored x old new taken stable session waits h =
    let a = waits.untaken h.untaken in record {
      common = h.common;
      lost = h.lost;
      since = (above a.1).0;
      source_is = h.source_is;
      log_is = (above a.1).1;
      count = h.count;
      stable = omega (arith, h.stable, stable);
      sessions = (above a.1).2;
      untaken = record {
        waits = a.0;
        later = λ some. elim session [
          | inl same ↦ omega (arith, same, h.untaken.later (omega (arith, some, same)))
          | inr later ↦ omega (arith, later, taken)
        ];
      };
    }
  where
    above : LogsSession old.log new.log
        → (since : List Record) × (new.log ≡ since ++ h.common) × AllByRecursion (λ r. r ≡ is.Session) since
    above (inl same) = (h.since, same ∙ h.log_is, h.sessions)
    above (inr more) = (
      is.Session ∷ h.since,
      more ∙ ap (λ (log : List Record). is.Session ∷ log) h.log_is,
      (refl, h.sessions),
    )

abbrev pub Waits : (w : NodeView) → IsKept w → TcView → Type 0
Waits w k tc = WaitsOn w.dc.stored w.tc tc

-- neither phase nor log changes
pub same_waiting : (w : NodeView) (k : IsKept w) (tc : TcView) → tc.phase ≡ w.tc.phase → tc.log ≡ w.tc.log
    → Waits w k tc
same_waiting w k tc same log = record {
  untaken = λ h. (subst IsWaiting (sym same) h.waits, inl log);
  waits = λ h. inl (subst IsWaiting same h, inl log);
}

-- it doesn't wait
pub none_waiting : (w : NodeView) (k : IsKept w) (tc : TcView) → (IsWaiting w.tc.phase → ⊥) → (IsWaiting tc.phase → ⊥)
    → Waits w k tc
none_waiting w k tc old new = record { untaken = λ h. absurd (old h.waits); waits = λ h. absurd (new h) }

-- since it serves clients
pub serving_on : (w : NodeView) (k : IsKept w) (tc : TcView) → tc.phase ≡ w.tc.phase → is_serving w.tc.phase ≡ true
    → Waits w k tc
serving_on w k tc same serves =
    none_waiting w k tc (unwaited w.tc.phase serves) (λ h. unwaited w.tc.phase serves (subst IsWaiting same h))

-- one record more, or none
keeps_going : (w : NodeView) (tc : TcView) (k : IsKept w) → IsTc tc → GoesOn w.tc tc → Waits w k tc
    → AreSessions tc.stable tc.session tc.phase tc.log w.dc → HasRightAnswers tc.log
    → Captures w.tc.log tc.log w.dc → IsChecked tc.checkpointed w.dc.system → IsKept (with_tc w tc)
keeps_going w tc k is on waits sessions right captured checked =
    elim k.from [
      | inl live ↦
          keeps_on w tc k (own tc) is on waits (inl refl)
          (of_source w.tc k.source (λ (x : Source). IsGrown x (own tc)) live on.grown) sessions right
          (of_source w.tc k.source (λ (x : Source). Captures x.log tc.log w.dc) live captured) checked
      | inr asks ↦
          let within = sure_within w.tc w.dc.stored k.source k.tc.within k.from in
          keeps_on w tc k k.source is on waits
          (inr (asks_on w.dc.stored k.source w.tc tc (stored_recorded w k) on.grown.sure on.session waits asks))
          (record { within = within; log = inl refl; sure = omega arith; now_within = within }) sessions right
          (λ some h. h) checked
    ]

-- one record more
pub keeps_appended : (w : NodeView) (tc : TcView) (r : Record) (k : IsKept w) → IsTc tc
    → IsChecked tc.checkpointed w.dc.system → tc.log ≡ r ∷ w.tc.log → w.tc.stable ≤ tc.stable → IsLater w.tc tc
    → w.tc.reads ≤ tc.reads
    → NoneAnew w.tc.reads w.tc.open_txns tc.open_txns → Waits w k tc
    → AreSessions tc.stable tc.session tc.phase tc.log w.dc → HasRightAnswers (r ∷ w.tc.log)
    → (w.dc.session ≢ 0 → AnsweredAreCaptured w.tc.log w.dc → AnsweredAreCaptured (r ∷ w.tc.log) w.dc)
    → IsKept (with_tc w tc)
keeps_appended w tc r k is checked log stable session reads none_anew waits sessions right captured =
    keeps_going w tc k is (record {
      grown = record { within = k.tc.within; log = inr (r, log); sure = stable; now_within = is.within };
      session = session;
      waits = waits.waits;
      reads = reads;
      none_anew = none_anew;
    }) waits sessions (subst HasRightAnswers (sym log) right)
    (λ some h. subst (λ (log : List Record). AnsweredAreCaptured log w.dc) (sym log) (captured some h)) checked

-- the same log
pub keeps_same_log : (w : NodeView) (tc : TcView) (k : IsKept w) → IsTc tc → IsChecked tc.checkpointed w.dc.system
    → tc.log ≡ w.tc.log → w.tc.stable ≤ tc.stable → IsLater w.tc tc → w.tc.reads ≤ tc.reads
    → NoneAnew w.tc.reads w.tc.open_txns tc.open_txns → Waits w k tc
    → AreSessions tc.stable tc.session tc.phase tc.log w.dc → IsKept (with_tc w tc)
keeps_same_log w tc k is checked log stable session reads none_anew waits sessions =
    keeps_going w tc k is (record {
      grown = record { within = k.tc.within; log = inl log; sure = stable; now_within = is.within };
      session = session;
      waits = waits.waits;
      reads = reads;
      none_anew = none_anew;
    }) waits sessions (subst HasRightAnswers (sym log) k.right)
    (λ some h. subst (λ (log : List Record). AnsweredAreCaptured log w.dc) (sym log) h) checked

-- where clients are served both components run in one session, past redo
pub record IsPastRedo (w : NodeView) : Type 0 where
  pub stored : w.dc.stored ≡ w.tc.session
  pub past : w.dc.session ≡ w.tc.session → w.dc.redo ≡ false
  pub some : 0 < w.tc.session

pub past_redo : (w : NodeView) → IsKept w → is_serving w.tc.phase ≡ true → IsPastRedo w
past_redo w k serves = by w.tc.phase serves k.tc.phase k.sessions.served
  where
    by : (p : Phase) → is_serving p ≡ true → IsPhase w.tc.checkpointed w.tc.session p
        → IsServed p w.tc.session w.tc.log w.dc → IsPastRedo w
    by phase.Unconnected serves some h = absurd (true≢false (sym serves))
    by phase.Connecting serves some h = absurd (true≢false (sym serves))
    by (phase.Redoing next ending) serves some h = absurd (true≢false (sym serves))
    by (phase.Undoing waiting) serves some h = record { stored = h.0; past = h.1; some = some }
    by phase.Running serves some h = record { stored = h.0; past = h.1; some = some }

-- that is all that is said of them then
pub served_so : (w : NodeView) (log : List Record) (p : Phase) → IsPastRedo w → is_serving p ≡ true
    → IsServed p w.tc.session log w.dc
served_so w log phase.Unconnected h serves = absurd (true≢false (sym serves))
served_so w log phase.Connecting h serves = absurd (true≢false (sym serves))
served_so w log (phase.Redoing next ending) h serves = absurd (true≢false (sym serves))
served_so w log (phase.Undoing waiting) h serves = (h.stored, h.past)
served_so w log phase.Running h serves = (h.stored, h.past)

-- where clients are served the sessions stand, whatever is logged
pub logs_on : (w : NodeView) (log : List Record) → IsKept w → is_serving w.tc.phase ≡ true
    → AreSessions w.tc.stable w.tc.session w.tc.phase log w.dc
logs_on w log k serves = record {
  begun = k.sessions.begun;
  served = served_so w log w.tc.phase (past_redo w k serves) serves;
}

-- messages that were sent and given stand beside it
keeps_messages : (w : NodeView) (requests : List Request) (replies : List Reply) (k : IsKept w)
    → AllByRecursion (IsSent w.tc w.dc k.source) requests → AllByRecursion (StaysTrue w.tc w.dc k.source) replies
    → IsKept (record w { requests = requests; replies = replies })
keeps_messages w requests replies k sent given = record {
  tc = k.tc;
  right = k.right;
  dc = k.dc;
  recoverable = k.recoverable;
  source = k.source;
  from = k.from;
  true_to = k.true_to;
  performed = k.performed;
  answered = k.answered;
  sent = sent;
  given = given;
  sessions = k.sessions;
  checked = k.checked;
  known = k.known;
  opened = k.opened;
  quiet = k.quiet;
}

-- one request more
abbrev pub with_request : NodeView → Request → NodeView
with_request w q = record w { requests = w.requests ++ q ∷ [] }

pub keeps_sent : (w : NodeView) (q : Request) (k : IsKept w) → IsSent w.tc w.dc k.source q → IsKept (with_request w q)
keeps_sent w q k sent = keeps_messages w (w.requests ++ q ∷ []) w.replies k
    (all_push (IsSent w.tc w.dc k.source) w.requests q k.sent sent) k.given

-- one reply more
abbrev pub with_reply : NodeView → Reply → NodeView
with_reply w reply = record w { replies = w.replies ++ reply ∷ [] }

pub keeps_given : (w : NodeView) (reply : Reply) (k : IsKept w) → StaysTrue w.tc w.dc k.source reply
    → IsKept (with_reply w reply)
keeps_given w reply k given =
    keeps_messages w w.requests (w.replies ++ reply ∷ []) k k.sent
    (all_push (StaysTrue w.tc w.dc k.source) w.replies reply k.given given)
