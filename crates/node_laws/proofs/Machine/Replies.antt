-- A reply is a told line or nothing to the list machine.
use Rattle.std.proofs.Common.{◌≡◌, ◌≢◌, ◌⊎◌, ℕ, ◌+◌, ◌<◌, ◌≤◌, Bool, true, false, List, [], ◌∷◌, length, Option, Some, None, is_some, refl, sym, ap, ◌∙◌, subst, arith, inl, inr, true≢false, eqb-true}
use Rattle.std.specs.Prelude.{◌==◌, ◌&&◌, ◌||◌, nat_lt, not, Ok, if◌then◌else◌}
use Rattle.std.proofs.lemmas.Bool.{cases_eq, and_parts}
use Rattle.record_key.specs.declared.op.Answer.{Answer}
use Rattle.record_key.specs.declared.refusal.Refusal.{Refusal}
use Rattle.record_key.specs.declared.refusal.Refusal.TheVariants.{Stale, NumbersSpent}
use Rattle.record_key.specs.FirstCause.{first_of}
use Rattle.history.specs.declared.record.Record.TheVariants as is
use Rattle.history.specs.ListMachine.{Machine, TellsAnswer, TellsRow, TellsRows}
use Rattle.simulation.specs.View.{StandsFor}
use Rattle.codec.specs.declared.reply.Reply.{Reply}
use Rattle.codec.specs.declared.reply.Reply.TheVariants as says
use Rattle.record_key.specs.Table.{Bytes, key_of}
use Rattle.tc_locks.specs.declared.span.Span.{Span}
use Rattle.tc_locks.specs.declared.span.Span.TheVariants.{Key, Range}
use Rattle.record_key.specs.declared.op.Op.{Op}
use Rattle.history.specs.declared.record.Record.{Record}
use Rattle.history.specs.Log.{record_at, Requests}
use Rattle.dc_leaf.proofs.Performing.{one_request}
use Rattle.dc_core.specs.DcView.{DcView, captures_at}
use Rattle.tc_core.specs.declared.open_txn.OpenTxn.{OpenTxn}
use Rattle.tc_core.specs.declared.open_txn.Read.{Read}
use Rattle.tc_core.specs.declared.open_txn.Rollback.{Rollback}
use Rattle.tc_core.specs.declared.phase.Phase.{Phase}
use Rattle.tc_core.specs.declared.phase.Phase.TheVariants as phase
use Rattle.tc_core.specs.declared.told.Told.TheVariants as told
use Rattle.tc_log.specs.LogView.{is_spent}
use Rattle.tc_core.specs.OpenTxns.{find}
use Rattle.tc_core.specs.TcView.{TcView, is_none_lost, is_serving}
use Rattle.dc_core.specs.dc_store.specs.Checked.{IsChecked}
use Rattle.tc_core.specs.Changes.{answered, answered_txn, answered_lost, was_told, told_txn, checkpointed, undoing_or_running}
use Rattle.tc_core.specs.Replies.{Outcome, takes, awaiting, lacks, told_lost, next_phase, passed, on_awaited, on_answered, on_connected, on_redo_ended, on_checkpointed, on_reply, on_row, on_rows, is_number, is_key, is_range, span_read, reader, logs, reply_refusal}
use Rattle.tc_core.specs.Kept.{IsTc, IsPhase, IsOwedAnswer}
use Rattle.tc_core.proofs.KeepsReads.{reader_is}
use Rattle.tc_core.proofs.KeepsTc.{open_at, waits_at, awaited_is}
use Rattle.node_laws.proofs.Machine.Waited.{lacking_due, lost_if}
use Rattle.node_laws.specs.declared.event.Event.TheVariants as event
use Rattle.node_laws.specs.declared.event.Out.{Out}
use Rattle.node_laws.specs.declared.event.Out.TheVariants as out
use Rattle.node_laws.specs.Node.{NodeView, with_tc, as_out, IsUnsent, Taken, Untaken, Unread, TakesTo}
use Rattle.node_laws.specs.Kept.{IsKept, IsTrueOfReader, InSession, IsValueInSpan, AreRowsInSpan, IsAnswerIn, IsCaptured, IsAnswered, StaysTrue, IsServed, AreSessions}
use Rattle.node_laws.specs.Source.{Source, IsWaiting, own}
use Rattle.node_laws.proofs.Invariant.Sources.{live, of_log}
use Rattle.node_laws.specs.Simulation.{Leads, NodeStandsFor, lines_of, clients}
use Rattle.node_laws.proofs.Invariant.ByNumber.{all_at}
use Rattle.node_laws.proofs.Invariant.CallsKeep.{reply_keeps}
use Rattle.node_laws.proofs.Machine.Awaited.{comp_waited, reads_nothing}
use Rattle.node_laws.proofs.Invariant.AtKeys.{low_captured}
use Rattle.node_laws.proofs.Machine.Standing.{stands_answered, stands_undone, stands_lost_answered, stands_checkpointed}
use Rattle.node_laws.proofs.Machine.ToldReads.{tells_row, tells_rows}
use Rattle.node_laws.proofs.Machine.Readers.{none_same, none_replaced, reads_same, reads_none}
use Rattle.node_laws.proofs.Invariant.Keeps.{answer_captured, still_captured, quiet_served, Waits, same_waiting, none_waiting, serving_on, keeps_appended, keeps_same_log}
use Rattle.node_laws.proofs.Invariant.Running.{is_run, stored_begun, same_runs}
use Rattle.node_laws.proofs.Invariant.Sends.{redo_served, redoing_phase}
use Rattle.node_laws.proofs.Machine.Follows.{Follows, at_new, no_line, one_line, unchanged, left_refused, kept_left, stands_left}

-- this outcome follows
abbrev Goes : NodeView → ℕ → Outcome → Type 0
Goes w i x = IsTc x.1 → Follows w (event.Reply i) (as_out x.0) (with_tc w x.1)

-- an outcome of which no client is told
quietly : (w : NodeView) (i : ℕ) (x : Outcome) → lines_of (event.Reply i) (as_out x.0) ≡ Some []
    → ((m : Machine) → NodeStandsFor w m → StandsFor (clients x.1) m) → IsKept (with_tc w x.1)
    → Follows w (event.Reply i) (as_out x.0) (with_tc w x.1)
quietly w i x none stands kept =
    record { leads = no_line w (with_tc w x.1) (event.Reply i) (as_out x.0) none stands; kept = kept }

nothing : (w : NodeView) (i : ℕ) → IsKept w → Goes w i (told.Nothing, w.tc)
nothing w i k after = quietly w i (told.Nothing, w.tc) refl (λ m stands. stands) k

-- redo goes on past a number that is captured
next_served : (p : Phase) (n s : ℕ) (log : List Record) (dc : DcView) → takes s p n ≡ true
    → (dc.session ≡ s → (o : Op) → Requests log n o → captures_at dc (key_of o) n ≡ true)
    → IsServed p s log dc → IsServed (next_phase p n) s log dc
next_served phase.Unconnected n s log dc taken captured h = h
next_served phase.Connecting n s log dc taken captured h = h
next_served (phase.Redoing next ending) n s log dc taken captured h = (
  h.0,
  h.1,
  λ runs m o asks below. elim (cases_eq m n) [
    | inl same ↦
        subst (λ (z : ℕ). captures_at dc (key_of o) z ≡ true) (sym same)
        (captured runs o (subst (λ (z : ℕ). Requests log z o) same asks))
    | inr apart ↦ h.2 runs m o asks (omega (arith, apart, below, here))
  ],
)
  where
    here : next ≡ n
    here = eqb-true next n (and_parts (next == n) (nat_lt n s) taken).0
next_served (phase.Undoing waiting) n s log dc taken captured h = h
next_served phase.Running n s log dc taken captured h = h

-- a session that is taken from has a number
some_taken : (p : Phase) (c n s : ℕ) → takes s p n ≡ true → IsPhase c s p → 0 < s
some_taken phase.Unconnected c n s taken h = absurd (true≢false (sym taken))
some_taken phase.Connecting c n s taken h = absurd (true≢false (sym taken))
some_taken (phase.Redoing next ending) c n s taken h = omega (arith, h.0, h.1)
some_taken (phase.Undoing waiting) c n s taken h = h
some_taken phase.Running c n s taken h = h

-- who takes a reply to a request doesn't wait
taking_unwaiting : (p : Phase) (s n : ℕ) → takes s p n ≡ true → IsWaiting p → ⊥
taking_unwaiting phase.Unconnected s n taken waits = true≢false (sym taken)
taking_unwaiting phase.Connecting s n taken waits = true≢false (sym taken)
taking_unwaiting (phase.Redoing next ending) s n taken waits = waits
taking_unwaiting (phase.Undoing waiting) s n taken waits = waits
taking_unwaiting phase.Running s n taken waits = waits

passed_unwaiting : (p : Phase) (n : ℕ) → (IsWaiting p → ⊥) → IsWaiting (next_phase p n) → ⊥
passed_unwaiting phase.Unconnected n none waits = none waits
passed_unwaiting phase.Connecting n none waits = none waits
passed_unwaiting (phase.Redoing next ending) n none waits = waits
passed_unwaiting (phase.Undoing waiting) n none waits = waits
passed_unwaiting phase.Running n none waits = waits

-- an answer of the session that runs
pub record IsTaken (w : NodeView) (k : IsKept w) (s n : ℕ) (a : Option Answer) : Type 0 where
  pub taken : takes w.tc.session w.tc.phase n ≡ true
  pub same : s ≡ w.tc.session
  pub given : IsAnswered w.tc w.dc k.source s n a

module _ (w : NodeView) (s n : ℕ) (a : Option Answer) (k : IsKept w) (t : IsTaken w k s n a) where
  unwaiting : IsWaiting w.tc.phase → ⊥
  unwaiting = taking_unwaiting w.tc.phase w.tc.session n t.taken

  -- it is that of a request of the log
  answer_taken : IsAnswerIn (own w.tc) n a
  answer_taken = t.given.own unwaiting t.same

  goes_on : (tc : TcView) → tc.phase ≡ next_phase w.tc.phase n → Waits w k tc
  goes_on tc at = none_waiting w k tc unwaiting
      (λ waits. passed_unwaiting w.tc.phase n unwaiting (subst IsWaiting at waits))

  -- whose number is captured, while the data component runs some session
  taken_captured : w.dc.session ≢ 0 → (o : Op) → Requests w.tc.log n o → captures_at w.dc (key_of o) n ≡ true
  taken_captured some o asks =
      let running = same_runs w s k
      (some_taken w.tc.phase w.tc.checkpointed n w.tc.session t.taken k.tc.phase) t.same t.given.captured.begun some in
      let c = of_log w.tc k.source (λ (x : Source). IsCaptured x w.dc n) (live w k unwaiting)
      (t.given.captured.holds running) in
      let one : c.op ≡ o = one_request w.tc.log n o c.op asks c.requests in
      subst (λ (p : Op). captures_at w.dc (key_of p) n ≡ true) one c.captured

  taken_there : w.dc.session ≡ w.tc.session → (o : Op) → Requests w.tc.log n o → captures_at w.dc (key_of o) n ≡ true
  taken_there runs o asks =
      let begun : 0 < w.tc.session = some_taken w.tc.phase w.tc.checkpointed n w.tc.session t.taken k.tc.phase in
      taken_captured (λ zero. absurd (omega (arith, begun, runs, zero))) o asks

passes : (w : NodeView) (s n : ℕ) (a : Option Answer) (k : IsKept w) → IsTaken w k s n a → IsTc (passed w.tc n)
    → IsKept (with_tc w (passed w.tc n))
passes w s n a k t after =
    keeps_same_log w (passed w.tc n) k after k.checked refl (omega arith) (inl refl) (omega arith)
    (none_same w.tc.reads w.tc.open_txns) (goes_on w s n a k t (passed w.tc n) refl)
    (record {
      begun = k.sessions.begun;
      served = next_served w.tc.phase n w.tc.session w.tc.log w.dc t.taken (taken_there w s n a k t)
          k.sessions.served;
    })

answer_sessions : (w : NodeView) (s n : ℕ) (a : Answer) (k : IsKept w) → IsTaken w k s n (Some a)
    → AreSessions w.tc.stable w.tc.session (next_phase w.tc.phase n) (is.Answer n a ∷ w.tc.log) w.dc
answer_sessions w s n a k t = record {
  begun = k.sessions.begun;
  served = quiet_served (next_phase w.tc.phase n) w.tc.session (is.Answer n a) w.tc.log w.dc (λ o h. cc)
      (next_served w.tc.phase n w.tc.session w.tc.log w.dc t.taken (taken_there w s n (Some a) k t) k.sessions.served);
}

-- the answer that is waited for
answers : (w : NodeView) (o : OpenTxn) (s n : ℕ) (a : Answer) (k : IsKept w) → find o.txn w.tc.open_txns ≡ Some o
    → IsTc (passed (answered w.tc o n a) n) → IsTaken w k s n (Some a)
    → IsKept (with_tc w (passed (answered w.tc o n a) n))
answers w o s n a k at after t =
    let given = answer_taken w s n (Some a) k t in
    keeps_appended w (passed (answered w.tc o n a) n) (is.Answer n a) k after k.checked refl (omega arith) (inl refl)
    (omega arith)
    (none_replaced w.tc.reads w.tc.open_txns o (answered_txn o) at (reads_same w.tc.reads o (answered_txn o) refl))
    (goes_on w s n (Some a) k t (passed (answered w.tc o n a) n) refl)
    (answer_sessions w s n a k t)
    (given.answer, k.right)
    (λ some. answer_captured w n a given.op given.requests
    (taken_captured w s n (Some a) k t some given.op given.requests))

-- is told to its client, or is that of a compensation
tells : (w : NodeView) (i : ℕ) (o : OpenTxn) (s n : ℕ) (a : Answer) → IsKept w → find o.txn w.tc.open_txns ≡ Some o
    → o.waiting ≡ Some n → IsAnswerIn (own w.tc) n (Some a)
    → IsTc (passed (answered w.tc o n a) n) → (x : Option Rollback) → o.rolling ≡ x
    → Leads w (event.Reply i) (as_out (if is_some x then told.Undone n else told.Answered o.txn a))
    (with_tc w (passed (answered w.tc o n a) n))
tells w i o s n a k at waiting given after (Some r) rolling =
    no_line w (with_tc w (passed (answered w.tc o n a) n)) (event.Reply i) (out.Undone n) refl (λ m stands.
    stands_undone w.tc m o k.tc at stands r n a rolling after.legal
    (comp_waited w.tc.log o n (ap is_some rolling) (waits_at w.tc.log o n (open_at w.tc o k.tc at) waiting).request))
tells w i o s n a k at waiting given after None flat =
    one_line w (with_tc w (passed (answered w.tc o n a) n)) (event.Reply i) (out.Answered o.txn a) (TellsAnswer o.txn a)
    refl (λ m stands.
    stands_answered w.tc m o k.tc at stands n a flat (reads_nothing w.tc o n k.tc at waiting) waiting after.legal
    (given.answer, k.right))

-- the answer of a loser's request
lost_answers : (w : NodeView) (s n : ℕ) (a : Answer) (k : IsKept w) → IsTc (passed (answered_lost w.tc n a) n)
    → IsTaken w k s n (Some a)
    → IsKept (with_tc w (passed (answered_lost w.tc n a) n))
lost_answers w s n a k after t =
    let given = answer_taken w s n (Some a) k t in
    keeps_appended w (passed (answered_lost w.tc n a) n) (is.Answer n a) k after k.checked refl (omega arith) (inl refl)
    (omega arith)
    (none_same w.tc.reads w.tc.open_txns) (goes_on w s n (Some a) k t (passed (answered_lost w.tc n a) n) refl)
    (answer_sessions w s n a k t)
    (given.answer, k.right)
    (λ some. answer_captured w n a given.op given.requests
    (taken_captured w s n (Some a) k t some given.op given.requests))

-- is told to nobody
lost_answered : (w : NodeView) (i s n : ℕ) (a : Answer) (k : IsKept w) → IsOwedAnswer w.tc.log w.tc.losers.below n
    → IsTaken w k s n (Some a) → Goes w i (told_lost (record_at w.tc.log n) n, passed (answered_lost w.tc n a) n)
lost_answered w i s n a k due t after =
    quietly w i (told_lost (record_at w.tc.log n) n, passed (answered_lost w.tc n a) n) (by (record_at w.tc.log n))
    (λ m stands. stands_lost_answered w.tc m n a k.tc after.legal due stands) (lost_answers w s n a k after t)
  where
    by : (r : Option Record) → lines_of (event.Reply i) (as_out (told_lost r n)) ≡ Some []
    by (Some (is.Comp u x y z)) = refl
    by (Some r) = refl
    by None = refl

awaited_goes : (w : NodeView) (i s n : ℕ) (a : Option Answer) (x : Option OpenTxn) (k : IsKept w)
    → awaiting w.tc n ≡ x → IsTaken w k s n a → Goes w i (on_awaited w.tc n a x)
awaited_goes w i s n a None k none t after =
    by (lacks w.tc n) refl a t after
  where
    by : (b : Bool) → lacks w.tc n ≡ b → (a : Option Answer) → IsTaken w k s n a → Goes w i (lost_if w.tc n a b)
    by false lacks_none a t after =
        quietly w i (told.Nothing, passed w.tc n) refl (λ m stands. stands) (passes w s n a k t after)
    by true lacking None t after = nothing w i k after
    by true lacking (Some a) t after = lost_answered w i s n a k (lacking_due w.tc n k.tc lacking none) t after
awaited_goes w i s n None (Some o) k some t after = nothing w i k after
awaited_goes w i s n (Some a) (Some o) k some t after =
    let at = awaited_is w.tc n o some in
    record {
      leads = tells w i o s n a k at.0 at.1 (answer_taken w s n (Some a) k t) after o.rolling refl;
      kept = answers w o s n a k at.0 after t;
    }

answered_goes : (w : NodeView) (i s n : ℕ) (a : Option Answer) (k : IsKept w) → s ≡ w.tc.session
    → IsAnswered w.tc w.dc k.source s n a → Goes w i (on_answered w.tc n a)
answered_goes w i s n a k same given = pick (takes w.tc.session w.tc.phase n) refl
  where
    pick : (b : Bool) → takes w.tc.session w.tc.phase n ≡ b
        → Goes w i (if b then on_awaited w.tc n a (awaiting w.tc n) else (told.Nothing, w.tc))
    pick true taken = awaited_goes w i s n a (awaiting w.tc n) k refl
        (record { taken = taken; same = same; given = given })
    pick false not_taken = nothing w i k

-- the reply to Connect is of a session that was taken
connected_goes : (w : NodeView) (i s : ℕ) (p : Phase) → w.tc.phase ≡ p → IsKept w → s ≡ w.tc.session → s ≤ w.dc.stored
    → Goes w i (on_connected w.tc p)
connected_goes w i s phase.Unconnected at k same given after = nothing w i k after
connected_goes w i s phase.Connecting at k same given after =
    let P : Phase → Type 0 = λ p. IsServed p w.tc.session w.tc.log w.dc in
    let tc : TcView = record w.tc { phase = phase.Redoing (w.tc.checkpointed + 1) false } in
    let Q : Phase → Type 0 = IsPhase w.tc.checkpointed w.tc.session in
    let some : 0 < w.tc.session = let least = subst Q at k.tc.phase in omega (arith, least) in
    quietly w i (told.Connected w.tc.session, tc) refl (λ m stands. stands)
    (keeps_same_log w tc k after k.checked refl (omega arith) (inl refl) (omega arith)
    (none_same w.tc.reads w.tc.open_txns)
    (record {
      untaken = λ h. absurd (omega (arith, h.later some, same, given));
      waits = λ waits. absurd waits;
    })
    (record {
      begun = k.sessions.begun;
      served = (
        subst P at k.sessions.served,
        omega (arith, same, given, stored_begun w k some),
        λ runs n o asks below. low_captured w w.tc.checkpointed n (key_of o) k k.checked (omega (arith, below)),
      );
    }))
connected_goes w i s (phase.Redoing next ending) at k same given after = nothing w i k after
connected_goes w i s (phase.Undoing waiting) at k same given after = nothing w i k after
connected_goes w i s phase.Running at k same given after = nothing w i k after

-- redo ends
redo_ended_goes : (w : NodeView) (i s : ℕ) (p : Phase) → w.tc.phase ≡ p → IsKept w → s ≡ w.tc.session
    → InSession w.dc s (w.dc.redo ≡ false) → Goes w i (on_redo_ended w.tc p)
redo_ended_goes w i s phase.Unconnected at k same past after = nothing w i k after
redo_ended_goes w i s phase.Connecting at k same past after = nothing w i k after
redo_ended_goes w i s (phase.Redoing next false) at k same past after = nothing w i k after
redo_ended_goes w i s (phase.Redoing next true) at k same past after =
    let served = redo_served w next true k at in
    let bounds = redoing_phase w next true k at in
    let tc : TcView = record w.tc { phase = undoing_or_running w.tc.losers } in
    quietly w i (told.RedoEnded w.tc.session, tc) refl (λ m stands. stands)
    (keeps_same_log w tc k after k.checked refl (omega arith) (inl refl) (omega arith)
    (none_same w.tc.reads w.tc.open_txns)
    (none_waiting w k tc (λ waits. subst IsWaiting at waits) (ended_unwaiting (is_none_lost w.tc.losers)))
    (record {
      begun = k.sessions.begun;
      served =
          ended_served (is_none_lost w.tc.losers) (
            served.1,
            λ runs. past.holds
                (is_run w.dc s (λ zero. absurd (omega (arith, zero, same, bounds.0, bounds.1))) (runs ∙ sym same)),
          );
    }))
  where
    ended_unwaiting : (b : Bool) → IsWaiting (if b then phase.Running else phase.Undoing None) → ⊥
    ended_unwaiting true waits = waits
    ended_unwaiting false waits = waits

    ended_served : (b : Bool) → (w.dc.stored ≡ w.tc.session) × (w.dc.session ≡ w.tc.session → w.dc.redo ≡ false)
        → IsServed (if b then phase.Running else phase.Undoing None) w.tc.session w.tc.log w.dc
    ended_served true h = h
    ended_served false h = h
redo_ended_goes w i s (phase.Undoing waiting) at k same past after = nothing w i k after
redo_ended_goes w i s phase.Running at k same past after = nothing w i k after

-- a checkpoint is asked for only where clients are served
asked_running : (w : TcView) (l : ℕ) → IsTc w → is_number w.checkpointing l ≡ true → is_serving w.phase ≡ true
asked_running w l k asked = by w.checkpointing refl asked
  where
    by : (x : Option ℕ) → w.checkpointing ≡ x → is_number x l ≡ true → is_serving w.phase ≡ true
    by None none asked = absurd (true≢false (sym asked))
    by (Some m) some asked = ap is_serving (k.asking m some)

-- of one that was asked for, the data component is as low
checkpoint_logged : (w : NodeView) (l : ℕ) → IsKept w → is_serving w.tc.phase ≡ true → IsChecked l w.dc.system
    → IsTc (checkpointed w.tc l) → IsKept (with_tc w (checkpointed w.tc l))
checkpoint_logged w l k serves given after =
    let r : Record = is.Checkpoint l in
    keeps_appended w (checkpointed w.tc l) r k after (pick (nat_lt w.tc.checkpointed l)) refl (omega arith) (inl refl)
    (omega arith) (none_same w.tc.reads w.tc.open_txns) (serving_on w k (checkpointed w.tc l) refl serves)
    (record {
      begun = k.sessions.begun;
      served = quiet_served w.tc.phase w.tc.session r w.tc.log w.dc (λ o h. cc) k.sessions.served;
    })
    k.right (λ some. still_captured w r (λ o h. cc) (λ m. refl))
  where
    pick : (b : Bool) → IsChecked (if b then l else w.tc.checkpointed) w.dc.system
    pick true = given
    pick false = k.checked

checkpointed_goes : (w : NodeView) (i l : ℕ) → IsKept w → IsChecked l w.dc.system → Goes w i (on_checkpointed w.tc l)
checkpointed_goes w i l k given = pick (is_number w.tc.checkpointing l) refl
  where
    pick : (b : Bool) → is_number w.tc.checkpointing l ≡ b
        → Goes w i (if b then (told.CheckpointLogged (length w.tc.log + 1), checkpointed w.tc l) else
        (told.Nothing, w.tc))
    pick true asked after =
        quietly w i (told.CheckpointLogged (length w.tc.log + 1), checkpointed w.tc l) refl (stands_checkpointed w.tc l)
        (checkpoint_logged w l k (asked_running w.tc l k.tc asked) given after)
    pick false unasked after = nothing w i k after

-- a reply that isn't refused is of the session
fresh_session : (s session : ℕ) (c : Bool)
    → first_of (((session == 0) || not (s == session), Stale) ∷ (c, NumbersSpent) ∷ []) ≡ None → s ≡ session
fresh_session s session c h = pick (session == 0) (s == session) refl h
  where
    pick : (a b : Bool) → (s == session) ≡ b → first_of ((a || not b, Stale) ∷ (c, NumbersSpent) ∷ []) ≡ None
        → s ≡ session
    pick true b e h = absurd (cc)
    pick false true e h = eqb-true s session e
    pick false false e h = absurd (cc)

-- what was read is told to who waits for it
kept_told : (w : NodeView) (o : OpenTxn) → IsKept w → find o.txn w.tc.open_txns ≡ Some o → IsTc (was_told w.tc o)
    → IsKept (with_tc w (was_told w.tc o))
kept_told w o k at after =
    keeps_same_log w (was_told w.tc o) k after k.checked refl (omega arith) (inl refl) (omega arith)
    (none_replaced w.tc.reads w.tc.open_txns o (told_txn o) at (reads_none w.tc.reads o (told_txn o) refl))
    (same_waiting w k (was_told w.tc o) refl refl) k.sessions

row_goes : (w : NodeView) (i n : ℕ) (v : Option Bytes) (x : Option OpenTxn) → IsKept w → reader w.tc n ≡ x
    → IsTrueOfReader w.tc n (IsValueInSpan w.tc.log v) → Goes w i (on_row w.tc v x)
row_goes w i n v None k is given = nothing w i k
row_goes w i n v (Some o) k is given =
    let found = reader_is w.tc n o k.tc is in
    by found.1.0 found.1.1 (given o.txn o found.1.0 found.0 found.1.1)
  where
    told_if : Bool → Outcome
    told_if b = if b then (told.Row o.txn v, was_told w.tc o) else (told.Nothing, w.tc)

    by : (q : Span) → o.reading ≡ Some (record { number = n; span = q }) → IsValueInSpan w.tc.log v q
        → Goes w i (told_if (is_key (span_read o.reading)))
    by (Key key) reads value =
        let P : Option Read → Type 0 = λ x. Goes w i (told_if (is_key (span_read x))) in
        let at = (reader_is w.tc n o k.tc is).0 in
        subst P (sym reads) (λ after. record {
          leads = one_line w (with_tc w (was_told w.tc o)) (event.Reply i) (out.Row o.txn v) (TellsRow o.txn v) refl
              (tells_row w o n key k at reads v value);
          kept = kept_told w o k at after;
        })
    by (Range low high) reads value = let P : Option Read → Type 0 = λ x. Goes w i (told_if (is_key (span_read x))) in
        subst P (sym reads) (nothing w i k)

rows_goes : (w : NodeView) (i n : ℕ) (rows : List (Bytes × Bytes)) (x : Option OpenTxn) → IsKept w → reader w.tc n ≡ x
    → IsTrueOfReader w.tc n (AreRowsInSpan w.tc.log rows) → Goes w i (on_rows w.tc rows x)
rows_goes w i n rows None k is given = nothing w i k
rows_goes w i n rows (Some o) k is given =
    let found = reader_is w.tc n o k.tc is in
    by found.1.0 found.1.1 (given o.txn o found.1.0 found.0 found.1.1)
  where
    told_if : Bool → Outcome
    told_if b = if b then (told.Rows o.txn rows, was_told w.tc o) else (told.Nothing, w.tc)

    by : (q : Span) → o.reading ≡ Some (record { number = n; span = q }) → AreRowsInSpan w.tc.log rows q
        → Goes w i (told_if (is_range (span_read o.reading)))
    by (Key key) reads these = let P : Option Read → Type 0 = λ x. Goes w i (told_if (is_range (span_read x))) in
        subst P (sym reads) (nothing w i k)
    by (Range low high) reads these =
        let P : Option Read → Type 0 = λ x. Goes w i (told_if (is_range (span_read x))) in
        let at = (reader_is w.tc n o k.tc is).0 in
        subst P (sym reads) (λ after. record {
          leads = one_line w (with_tc w (was_told w.tc o)) (event.Reply i) (out.Rows o.txn rows) (TellsRows o.txn rows)
              refl (tells_rows w o n low high k at reads rows these);
          kept = kept_told w o k at after;
        })

replied : (w : NodeView) (i : ℕ) (reply : Reply) (k : IsKept w) → StaysTrue w.tc w.dc k.source reply
    → reply_refusal w.tc reply ≡ None → Goes w i (on_reply w.tc reply)
replied w i (says.Connected s) k given allowed =
    connected_goes w i s w.tc.phase refl k
    (fresh_session s w.tc.session (logs w.tc (says.Connected s) && is_spent w.tc.log) allowed) given
replied w i (says.Answered s n a) k given allowed =
    answered_goes w i s n a k
    (fresh_session s w.tc.session (logs w.tc (says.Answered s n a) && is_spent w.tc.log) allowed) given
replied w i (says.Row s n v) k given allowed =
    row_goes w i n v (reader w.tc n) k refl
    (given.holds (fresh_session s w.tc.session (logs w.tc (says.Row s n v) && is_spent w.tc.log) allowed))
replied w i (says.Rows s n rows) k given allowed =
    rows_goes w i n rows (reader w.tc n) k refl
    (given.holds (fresh_session s w.tc.session (logs w.tc (says.Rows s n rows) && is_spent w.tc.log) allowed))
replied w i (says.Checkpointed s l) k given allowed = checkpointed_goes w i l k given
replied w i (says.RedoEnded s) k given allowed =
    redo_ended_goes w i s w.tc.phase refl k
    (fresh_session s w.tc.session (logs w.tc (says.RedoEnded s) && is_spent w.tc.log) allowed) given

pub taken : (old new : NodeView) (i : ℕ) (output : Out) → IsKept old → Taken old i output new
    → Follows old (event.Reply i) output new
taken old new i output k t =
    let x : Outcome = on_reply old.tc t.reply in
    let given = all_at (StaysTrue old.tc old.dc k.source) old.replies i t.reply k.given t.found in
    let after : IsTc x.1 = subst IsTc t.taken.1.left (reply_keeps old.tc new.tc t.reply (Ok t.what) k.tc t.taken) in
    let P : Out → Type 0 = λ o. Follows old (event.Reply i) o new in
    subst P (sym (t.output_is ∙ ap as_out t.taken.1.told))
    (at_new old new (with_tc old x.1) (event.Reply i) (as_out x.0) (t.left ∙ ap (with_tc old) t.taken.1.left)
    (replied old i t.reply k given t.taken.0 after))

untaken : (old new : NodeView) (i : ℕ) (r : Refusal) → IsKept old → Untaken old i r new
    → Follows old (event.Reply i) (out.Refused r) new
untaken old new i r k u =
    let which = left_refused (reply_refusal old.tc u.reply) (logs old.tc u.reply) (logs old.tc u.reply) old.tc r
    new.tc u.refused in
    record {
      leads = no_line old new (event.Reply i) (out.Refused r) refl
          (λ m stands. stands_left old.tc new.tc m which stands);
      kept = kept_left old new k u.left which;
    }

pub follows_reply : (old new : NodeView) (i : ℕ) (output : Out) → IsKept old → TakesTo old i output new
    → Follows old (event.Reply i) output new
follows_reply old new i (out.Refused r) k h = by h
  where
    by : ((IsUnsent old.replies i r ⊎ Unread old i r) × (new ≡ old)) ⊎ Untaken old i r new
        → Follows old (event.Reply i) (out.Refused r) new
    by (inl none) = unchanged old new (event.Reply i) (out.Refused r) k none.1 refl
    by (inr u) = untaken old new i r k u
follows_reply old new i (out.Begun t) k h = taken old new i (out.Begun t) k h
follows_reply old new i (out.Logged n) k h = taken old new i (out.Logged n) k h
follows_reply old new i (out.Saved s) k h = taken old new i (out.Saved s) k h
follows_reply old new i (out.CommitLogged n) k h = taken old new i (out.CommitLogged n) k h
follows_reply old new i (out.Compensated n) k h = taken old new i (out.Compensated n) k h
follows_reply old new i (out.RolledBack t) k h = taken old new i (out.RolledBack t) k h
follows_reply old new i (out.Back t s) k h = taken old new i (out.Back t s) k h
follows_reply old new i (out.Stable n cs) k h = taken old new i (out.Stable n cs) k h
follows_reply old new i (out.Connects j cs) k h = taken old new i (out.Connects j cs) k h
follows_reply old new i (out.Sent j) k h = taken old new i (out.Sent j) k h
follows_reply old new i (out.Replied j) k h = taken old new i (out.Replied j) k h
follows_reply old new i (out.Connected s) k h = taken old new i (out.Connected s) k h
follows_reply old new i (out.RedoEnded s) k h = taken old new i (out.RedoEnded s) k h
follows_reply old new i (out.Answered t a) k h = taken old new i (out.Answered t a) k h
follows_reply old new i (out.Asked n) k h = taken old new i (out.Asked n) k h
follows_reply old new i (out.Row t v) k h = taken old new i (out.Row t v) k h
follows_reply old new i (out.Rows t rows) k h = taken old new i (out.Rows t rows) k h
follows_reply old new i (out.Split pair) k h = taken old new i (out.Split pair) k h
follows_reply old new i (out.Merged pair) k h = taken old new i (out.Merged pair) k h
follows_reply old new i (out.Flushed id) k h = taken old new i (out.Flushed id) k h
follows_reply old new i (out.Undone n) k h = taken old new i (out.Undone n) k h
follows_reply old new i (out.CheckpointLogged n) k h = taken old new i (out.CheckpointLogged n) k h
follows_reply old new i (out.Lost n) k h = taken old new i (out.Lost n) k h
follows_reply old new i out.RollingBack k h = taken old new i out.RollingBack k h
follows_reply old new i out.Nothing k h = taken old new i out.Nothing k h
follows_reply old new i out.Noted k h = taken old new i out.Noted k h
follows_reply old new i out.Down k h = taken old new i out.Down k h
follows_reply old new i out.Set k h = taken old new i out.Set k h
follows_reply old new i (out.Up count) k h = taken old new i (out.Up count) k h
