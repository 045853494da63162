-- A served request keeps what holds of a node, and its reply is true.
use Rattle.std.proofs.Common.{◌≡◌, ℕ, ◌<◌, ◌≤◌, Bool, true, false, List, ◌∷◌, length, Option, Some, None, IfSome, MatchBool, refl, sym, ap, ◌∙◌, subst, arith, inl, inr}
use Rattle.std.specs.Prelude.{max, Err}
use Rattle.std.proofs.lemmas.Bool.{cases_Bool, MatchBool-at_true, MatchBool-at_false}
use Rattle.tc_locks.specs.Meant.{range_of}
use Rattle.record_key.specs.declared.refusal.Refusal.{Refusal}
use Rattle.record_key.specs.declared.refusal.Refusal.TheVariants.{Device}
use Rattle.stable.specs.Usage.{Usage, called, failed}
use Rattle.framed_log.specs.Refused.{refused_use}
use Rattle.record_key.specs.Table.{Bytes, key_of, answer_in}
use Rattle.history.specs.declared.record.Record.{Record}
use Rattle.record_key.specs.Order.{has_key, rows_in}
use Rattle.history.specs.Values.{value_on}
use Rattle.tc_locks.specs.declared.span.Span.{Span}
use Rattle.tc_locks.specs.declared.span.Span.TheVariants.{Key, Range}
use Rattle.codec.specs.declared.dc_record.DcRecord.TheVariants as dc_record
use Rattle.codec.specs.declared.request.Request.{Request}
use Rattle.codec.specs.declared.request.Request.TheVariants as asks
use Rattle.codec.specs.declared.reply.Reply.{Reply}
use Rattle.codec.specs.declared.reply.Reply.TheVariants as says
use Rattle.dc_ab_lsn.specs.AbLsn.{saved_in}
use Rattle.dc_tree.specs.Leaves.{leaf_at, rows_of}
use Rattle.dc_tree.proofs.Together.{one_table}
use Rattle.dc_recovery.specs.Recovery.{stored_session}
use Rattle.dc_core.specs.dc_store.specs.Kept.{IsRecoverable}
use Rattle.dc_core.specs.dc_store.specs.Checked.{Checks, IsChecked}
use Rattle.dc_core.specs.dc_store.specs.SystemView.{SystemView, log_refused}
use Rattle.dc_core.specs.dc_store.specs.Changes.{lowered, accepted, taken_back, written_all}
use Rattle.dc_leaf.specs.Honest.{IsHonestLeaf}
use Rattle.dc_leaf.specs.TakingBack.{taken_back as leaf_taken_back}
use Rattle.dc_leaf.specs.Tops.{all_within}
use Rattle.dc_tree.proofs.Changing.{all_mapped}
use Rattle.tc_log.specs.LogView.{last_not_session}
use Rattle.dc_core.specs.dc_store.specs.Gives.{HaveImages, CheckpointGives, StopsCheckpoint, AcceptGives}
use Rattle.dc_core.specs.DcView.{DcView, leaves, captures_at, value_at}
use Rattle.dc_core.specs.Kept.{IsDc}
use Rattle.dc_core.specs.Serves.{Serves, ServeGives, Stops, StopsUnless, serve_refusal, runs, with_system, connected, knows, performs, lowers, redone, range}
use Rattle.dc_core.specs.Tends.{may_merge}
use Rattle.dc_core.proofs.Recoverable.{recoverable_served}
use Rattle.dc_core.proofs.Checked.{checked_served, checkpoint_checked}
use Rattle.tc_core.specs.declared.phase.Phase.{Phase}
use Rattle.tc_core.specs.declared.phase.Phase.TheVariants as phase
use Rattle.tc_core.specs.TcView.{TcView}
use Rattle.tc_core.specs.Kept.{IsPhase}
use Rattle.tc_core.proofs.Finding.{found_own}
use Rattle.tc_core.proofs.HeldSpans.{within_itself}
use Rattle.node_laws.specs.Node.{NodeView, with_dc}
use Rattle.node_laws.specs.Kept.{IsKept, IsBegun, IsAnsweredBy, IsReadTrue, IsSent, IsValueInSpan, AreRowsInSpan, StaysTrue, IsServed, IsTrueTo, IsLowAnswered}
use Rattle.node_laws.specs.Source.{Source, own}
use Rattle.node_laws.proofs.Invariant.Repeats.{repeated}
use Rattle.node_laws.proofs.Invariant.Carries.{replied, keeps_dc, StartsAnew, keeps_anew}
use Rattle.node_laws.proofs.Invariant.Keeps.{keeps_given}
use Rattle.node_laws.proofs.Invariant.Performs.{keeps_known, performs_next}
use Rattle.node_laws.proofs.Invariant.TakenBack.{IsBack, all_back, kept_performed}
use Rattle.node_laws.proofs.Invariant.Sources.{run_live}
use Rattle.node_laws.proofs.Machine.Reading.{read_logged}
use Rattle.node_laws.proofs.Invariant.Running.{run_is, run_stored, IsPast, let_runs, let_past, redo_goes_on, connect_later}
use Rattle.node_laws.proofs.Invariant.Systems.{LeavesCarry, same_leaves, keeps_system}
use Rattle.node_laws.proofs.Invariant.Trees.{low_all_now, lowered_true, lowered_sure, lowered_carries}
use Rattle.node_laws.proofs.Invariant.Written.{used_true, written_all_true, written_all_leaves, written_all_log, failed_among}

-- the later of two sessions that were begun
later_begun : (stable session s t : ℕ) → IsBegun stable session s → IsBegun stable session t
    → IsBegun stable session (max s t)
later_begun stable session s t first second = record {
  recorded = omega (arith, first.recorded, second.recorded);
  most = λ some. omega (arith, first.most some, second.most some);
}

-- a session begins
begins_over : (at : Phase) (c session : ℕ) (log : List Record) (dc : DcView) (s end : ℕ) → IsPhase c session at
    → IsServed at session log dc → dc.stored < s
    → (0 < session → s ≤ session) → IsServed at session log (connected dc s end)
begins_over phase.Unconnected c session log dc s end is h less most = tt
begins_over phase.Connecting c session log dc s end is h less most = h
begins_over (phase.Redoing next ending) c session log dc s end is h less most =
    absurd (omega (arith, h.1, less, most (omega (arith, is.0, is.1))))
begins_over (phase.Undoing waiting) c session log dc s end is h less most = absurd (omega (arith, h.0, less, most is))
begins_over phase.Running c session log dc s end is h less most = absurd (omega (arith, h.0, less, most is))

-- the end of redo is one in every phase
past_redo : (at : Phase) (session : ℕ) (log : List Record) (dc : DcView) → IsServed at session log dc
    → IsServed at session log (redone dc)
past_redo phase.Unconnected session log dc h = tt
past_redo phase.Connecting session log dc h = h
past_redo (phase.Redoing next ending) session log dc h = h
past_redo (phase.Undoing waiting) session log dc h = (h.0, λ runs. refl)
past_redo phase.Running session log dc h = (h.0, λ runs. refl)

accepted_true : (w : TcView) (x : Source) (v : SystemView) (s stable : ℕ) (usage : Usage) → IsTrueTo w x v
    → IsTrueTo w x (record v { log = dc_record.Accept s ∷ v.log; stable = stable; log_usage = usage })
accepted_true w x v s stable usage h = record {
  leaves = h.leaves;
  low = h.low;
  written = record {
    first_leaf = h.written.first_leaf;
    page = h.written.page;
    logged = (λ leaf is. absurd (cc), h.written.logged);
  };
  written_low = record {
    first_leaf = h.written_low.first_leaf;
    page = h.written_low.page;
    logged = (λ leaf is. absurd (cc), h.written_low.logged);
  };
}

-- what is above the log's last record that isn't a Session is taken back, and the leaves go on from the log
taken_true : (w : NodeView) (k : IsKept w) (s : ℕ)
    → IsTrueTo w.tc (own w.tc) (connected w.dc s (last_not_session w.tc.log)).system
taken_true w k s =
    let end : ℕ = last_not_session w.tc.log in
    let v : SystemView = w.dc.system in
    accepted_true w.tc (own w.tc) (taken_back v end) s (length (dc_record.Accept s ∷ v.log)) (called
    (called v.log_usage))
    (record {
      leaves = all_mapped (IsBack w.tc.log end) (IsHonestLeaf w.tc.log) (λ leaf. leaf_taken_back leaf end)
          (λ leaf h. h) v.leaves (all_back w k);
      low = all_mapped (IsLowAnswered w.tc.log w.tc.stable) (IsLowAnswered w.tc.log w.tc.stable)
          (λ leaf. leaf_taken_back leaf end) (λ leaf h. h) v.leaves (low_all_now w k v.leaves k.true_to.low);
      written = k.true_to.written;
      written_low = k.true_to.written_low;
    })

connects : (w : NodeView) (s : ℕ) → IsKept w → IsDc (connected w.dc s (last_not_session w.tc.log))
    → IsRecoverable (connected w.dc s (last_not_session w.tc.log)).system
    → Checks w.dc.system (connected w.dc s (last_not_session w.tc.log)).system → IsBegun w.tc.stable w.tc.session s
    → w.dc.stored < s
    → IsKept (replied w (connected w.dc s (last_not_session w.tc.log)) (Some (says.Connected s)))
connects w s k is recoverable checks most less =
    let end : ℕ = last_not_session w.tc.log in
    let dc : DcView = connected w.dc s end in
    let anew : StartsAnew w.dc dc = record {
      stored = omega (arith, less);
      other = λ t before r. omega (arith, (run_is dc t r).is, before, less);
      unmerged = λ may. redo_goes_on dc refl may;
      checks = checks;
    } in
    keeps_anew w dc k anew (Some (says.Connected s)) (omega arith) is
    recoverable (taken_true w k s) (kept_performed w k w.dc.performed k.performed) (omega
    (arith, most.recorded)) k.opened
    (record {
      begun = later_begun w.tc.stable w.tc.session s (stored_session w.dc.system.log) most k.sessions.begun;
      served = begins_over w.tc.phase w.tc.checkpointed w.tc.session w.tc.log w.dc s end k.tc.phase k.sessions.served less
          most.most;
    })

redo_ends : (w : NodeView) (s : ℕ) (k : IsKept w) → IsDc (redone w.dc) → runs w.dc s ≡ true
    → IsSent w.tc w.dc k.source (asks.RedoEnd s)
    → IsKept (replied w (redone w.dc) (Some (says.RedoEnded s)))
redo_ends w s k is running sent =
    let dc : DcView = redone w.dc in
    keeps_dc w dc k
    (record {
      captured = λ n o asks h. h;
      stored = refl;
      ran = λ t r. r;
      past = λ past. refl;
      checks = λ l h. h;
      opened = refl;
    })
    (Some (says.RedoEnded s)) (record { begun = sent.begun; holds = λ r. refl }) is
    k.recoverable k.true_to k.performed (λ may. sent.holds running) k.known
    (record { begun = k.sessions.begun; served = past_redo w.tc.phase w.tc.session w.tc.log w.dc k.sessions.served })

-- all leaves are raised
lowers_all : (w : NodeView) (l : ℕ) (k : IsKept w) → IsDc (lowers w.dc l) → IsRecoverable (lowers w.dc l).system
    → Checks w.dc.system (lowers w.dc l).system → may_merge w.dc ≡ true → IsAnsweredBy k.source.log k.source.sure l
    → IsKept (with_dc w (lowers w.dc l))
lowers_all w l k is recoverable checks past to =
    keeps_system w (lowered w.dc.system l) k None tt is recoverable checks
    (lowered_carries w l k (k.answered past) to)
    (lowered_true w l k (k.answered past) to) k.sessions.begun

-- and written
checkpoints : (w : NodeView) (l : ℕ) (s : ℕ) (dc : DcView) (k : IsKept w) → IsDc dc → IsRecoverable dc.system
    → Checks w.dc.system dc.system → may_merge w.dc ≡ true → IsAnsweredBy k.source.log k.source.sure l
    → all_within w.dc.known (leaves w.dc) ≡ true → HaveImages (lowered w.dc.system l).leaves → IsChecked l dc.system
    → dc ≡ with_system w.dc (written_all (lowered w.dc.system l) (lowered w.dc.system l).leaves)
    → IsKept (replied w dc (Some (says.Checkpointed s l)))
checkpoints w l s dc k is recoverable checks past to within images checked same =
    let v : SystemView = lowered w.dc.system l in
    let t : IsTrueTo w.tc k.source v = lowered_true w l k (k.answered past) to in
    subst (λ (x : DcView). IsKept (replied w x (Some (says.Checkpointed s l)))) (sym same)
    (keeps_system w (written_all v v.leaves) k (Some (says.Checkpointed s l))
    (subst (λ (x : DcView). IsChecked l x.system) same checked)
    (subst IsDc same is)
    (subst (λ (x : DcView). IsRecoverable x.system) same recoverable)
    (subst (λ (x : DcView). Checks w.dc.system x.system) same checks)
    (subst (LeavesCarry k.source.log (leaves w.dc)) (sym (written_all_leaves v v.leaves))
    (lowered_carries w l k (k.answered past) to))
    (written_all_true w.tc k.source v v.leaves t images (lowered_sure w l k (k.answered past) to within)
    (low_all_now w k v.leaves t.low))
    (subst (λ log. IsBegun w.tc.stable w.tc.session (stored_session log)) (sym (written_all_log v v.leaves))
    k.sessions.begun))

-- nothing changes at the data component
stays : (w : NodeView) (dc : DcView) (reply r : Option Reply) (k : IsKept w) → reply ≡ r → dc ≡ w.dc
    → IfSome r (StaysTrue w.tc w.dc k.source) → IsKept (replied w dc reply)
stays w dc reply r k same dc_same given =
    rw (same, dc_same) (by r given)
  where
    by : (r : Option Reply) → IfSome r (StaysTrue w.tc w.dc k.source) → IsKept (replied w w.dc r)
    by None none = k
    by (Some reply) given = keeps_given w reply k given

goes : (w : NodeView) (dc new : DcView) (reply r : Option Reply) → reply ≡ r → dc ≡ new → IsKept (replied w new r)
    → IsKept (replied w dc reply)
goes w dc new reply r same dc_same h = rw (same, dc_same) h

-- what a read is replied is what the log gives
reads_row : (w : NodeView) (s n : ℕ) (key : Bytes) (k : IsKept w) → IsPast w.dc s
    → IsReadTrue w.tc s n (λ q. q ≡ Key key)
    → IsReadTrue w.tc s n (IsValueInSpan w.tc.log (value_at w.dc key))
reads_row w s n key k past sent = record {
  some = sent.some;
  begun = sent.begun;
  asked = sent.asked;
  holds = λ is t x q found reading.
      let same : q ≡ Key key = sent.holds is t x q found reading in
      let P : Span → Type 0 = IsValueInSpan w.tc.log (value_at w.dc key) in
      subst P (sym same)
      (read_logged w x (record { number = n; span = q }) k (found_own t w.tc.open_txns x found) reading
      (run_live w s k past.runs is) past.past key
      (let Q : Span → Type 0 = λ z. has_key (range_of z) key ≡ true in subst Q (sym same) (within_itself key)));
}

reads_rows : (w : NodeView) (s n : ℕ) (low : Bytes) (high : Option Bytes) (k : IsKept w) → IsPast w.dc s
    → IsReadTrue w.tc s n (λ q. q ≡ Range low high)
    → IsReadTrue w.tc s n (AreRowsInSpan w.tc.log (rows_in (range low high) (rows_of (leaves w.dc))))
reads_rows w s n low high k past sent = record {
  some = sent.some;
  begun = sent.begun;
  asked = sent.asked;
  holds = λ is t x q found reading.
      let same : q ≡ Range low high = sent.holds is t x q found reading in
      let P : Span → Type 0 = AreRowsInSpan w.tc.log (rows_in (range low high) (rows_of (leaves w.dc))) in
      let Q : Span → Type 0 = λ z. (key : Bytes) → has_key (range_of z) key ≡ true → value_at w.dc key
      ≡ value_on key w.tc.log in
      let there : Q q = read_logged w x (record { number = n; span = q }) k (found_own t w.tc.open_txns x found) reading
      (run_live w s k past.runs is) past.past in
      subst P (sym same) (record {
        table = rows_of (leaves w.dc);
        rows_are = refl;
        values = λ key within. (one_table (leaves w.dc) k.dc.system.leaves).value key ∙ subst Q same there key within;
      });
}

pub serves : (w : NodeView) (q : Request) (reply : Option Reply) (dc : DcView) (k : IsKept w) → IsDc dc
    → IsRecoverable dc.system → Checks w.dc.system dc.system → IsSent w.tc w.dc k.source q
    → serve_refusal w.dc q ≡ None → Serves w.dc q reply dc → IsKept (replied w dc reply)
serves w (asks.Connect s end) reply dc k is rec checks sent allowed h = pick (runs w.dc s) refl h.1
  where
    pick : (b : Bool) → runs w.dc s ≡ b → MatchBool b (dc ≡ w.dc) (dc ≡ connected w.dc s end)
        → IsKept (replied w dc reply)
    pick true running same =
        stays w dc reply (Some (says.Connected s)) k h.0 same (omega (arith, run_stored w.dc s k.dc running))
    pick false isnt same =
        let less : w.dc.stored < s = connect_later w.dc s allowed isnt in
        let last : dc ≡ connected w.dc s (last_not_session w.tc.log) =
        same ∙ ap (connected w.dc s) (sent.next less).1 in
        goes w dc (connected w.dc s (last_not_session w.tc.log)) reply (Some (says.Connected s)) h.0 last
        (connects w s k (subst IsDc last is) (subst (λ (x : DcView). IsRecoverable x.system) last rec)
        (subst (λ (x : DcView). Checks w.dc.system x.system) last checks) sent.begun less)
serves w (asks.Perform s n stable o) reply dc k is rec checks sent allowed h =
    pick (captures_at w.dc (key_of o) n) refl h
  where
    running : runs w.dc s ≡ true
    running = let_runs w.dc s allowed

    pick : (b : Bool) → captures_at w.dc (key_of o) n ≡ b
        → MatchBool b ((reply ≡ Some (says.Answered s n (saved_in (leaf_at (leaves w.dc) (key_of o)).ab.entries n)))
        × (dc ≡ knows w.dc stable))
        ((reply ≡ Some (says.Answered s n (Some (answer_in (leaf_at (leaves w.dc) (key_of o)).rows o))))
        × (dc ≡ knows (performs w.dc n o) stable)) → IsKept (replied w dc reply)
    pick true captured h =
        goes w dc (knows w.dc stable) reply
        (Some (says.Answered s n (saved_in (leaf_at (leaves w.dc) (key_of o)).ab.entries n))) h.0 h.1
        (keeps_known w stable (Some (says.Answered s n (saved_in (leaf_at (leaves w.dc) (key_of o)).ab.entries n))) k
        (subst IsDc h.1 is) (sent.1.holds running).sure (repeated w s n stable o k sent running captured))
    pick false isnt h =
        goes w dc (knows (performs w.dc n o) stable) reply
        (Some (says.Answered s n (Some (answer_in (leaf_at (leaves w.dc) (key_of o)).rows o)))) h.0 h.1
        (performs_next w s n stable o k (subst IsDc h.1 is) (subst (λ (x : DcView). IsRecoverable x.system) h.1 rec)
        (subst (λ (x : DcView). Checks w.dc.system x.system) h.1 checks) running sent isnt)
serves w (asks.Get s n key) reply dc k is rec checks sent allowed h =
    stays w dc reply (Some (says.Row s n (value_at w.dc key))) k h.0 h.1
    (reads_row w s n key k (let_past w.dc s allowed) sent)
serves w (asks.Scan s n low high) reply dc k is rec checks sent allowed h =
    stays w dc reply (Some (says.Rows s n (rows_in (range low high) (rows_of (leaves w.dc))))) k h.0 h.1
    (reads_rows w s n low high k (let_past w.dc s allowed) sent)
serves w (asks.LowWater s l) reply dc k is rec checks sent allowed h =
    let past : IsPast w.dc s = let_past w.dc s allowed in
    goes w dc (lowers w.dc l) reply None h.0 h.1
    (lowers_all w l k (subst IsDc h.1 is) (subst (λ (x : DcView). IsRecoverable x.system) h.1 rec)
    (subst (λ (x : DcView). Checks w.dc.system x.system) h.1 checks) past.past (sent.holds past.runs))
serves w (asks.Checkpoint s l) reply dc k is rec checks sent allowed h =
    let past : IsPast w.dc s = let_past w.dc s allowed in
    goes w dc dc reply (Some (says.Checkpointed s l)) h.0 refl
    (checkpoints w l s dc k is rec checks past.past (sent.holds past.runs) h.1.within h.1.fit
    (checkpoint_checked w.dc s l reply dc k.dc k.recoverable h) (h.2 ∙ ap (with_system w.dc) h.1.after))
serves w (asks.RedoEnd s) reply dc k is rec checks sent allowed h =
    goes w dc (redone w.dc) reply (Some (says.RedoEnded s)) h.0 h.1
    (redo_ends w s k (subst IsDc h.1 is) (let_runs w.dc s allowed) sent)
serves w (asks.StableEnd s stable) reply dc k is rec checks sent allowed h =
    goes w dc (knows w.dc stable) reply None h.0 h.1
    (keeps_known w stable None k (subst IsDc h.1 is) (sent.holds (let_runs w.dc s allowed)) tt)

-- ---- a request that isn't served

stops_accepting : (w : NodeView) (s end : ℕ) (r : Refusal) (v : SystemView) → IsKept w → IsDc (with_system w.dc v)
    → IsRecoverable v → Checks w.dc.system v → IsBegun w.tc.stable w.tc.session s
    → AcceptGives w.dc.system s end (Err r) v
    → IsKept (with_dc w (with_system w.dc v))
stops_accepting w s end r v k is rec checks most h = elim h [
  | inl append ↦ let same : v ≡ log_refused w.dc.system r = append.1 in
      keeps_system w v k None tt is rec checks
      (subst (λ (x : SystemView). LeavesCarry k.source.log (leaves w.dc) x.leaves) (sym same)
      (same_leaves k.source.log (leaves w.dc)))
      (subst (IsTrueTo w.tc k.source) (sym same)
      (used_true w.tc k.source w.dc.system (refused_use w.dc.system.log_usage r) w.dc.system.page_usage k.true_to))
      (subst (λ (x : SystemView). IsBegun w.tc.stable w.tc.session (stored_session x.log)) (sym same) k.sessions.begun)
  | inr force ↦ let more : v ≡ log_refused (accepted w.dc.system s) Device = force.2.0 in
      keeps_system w v k None tt is rec checks
      (subst (λ (x : SystemView). LeavesCarry k.source.log (leaves w.dc) x.leaves) (sym more)
      (same_leaves k.source.log (leaves w.dc)))
      (subst (IsTrueTo w.tc k.source) (sym more)
      (accepted_true w.tc k.source w.dc.system s w.dc.system.stable (failed (called w.dc.system.log_usage)) k.true_to))
      (subst (λ (x : SystemView). IsBegun w.tc.stable w.tc.session (stored_session x.log)) (sym more)
      (later_begun w.tc.stable w.tc.session s (stored_session w.dc.system.log) most k.sessions.begun))
]

stops_checkpoint : (w : NodeView) (l : ℕ) (r : Refusal) (v : SystemView) (k : IsKept w) → IsDc (with_system w.dc v)
    → IsRecoverable v → Checks w.dc.system v → may_merge w.dc ≡ true → IsAnsweredBy k.source.log k.source.sure l
    → CheckpointGives w.dc.system l w.dc.known (Err r) v → IsKept (with_dc w (with_system w.dc v))
stops_checkpoint w l r v k is rec checks past to h =
    elim (cases_Bool (all_within w.dc.known (leaves w.dc))) [
      | inl within ↦ stops within (MatchBool-at_true _ _ within h)
      | inr above ↦ same (MatchBool-at_false _ _ above h).1
    ]
  where
    same : v ≡ w.dc.system → IsKept (with_dc w (with_system w.dc v))
    same is = subst (λ (x : SystemView). IsKept (with_dc w (with_system w.dc x))) (sym is) k

    stops : all_within w.dc.known (leaves w.dc) ≡ true → StopsCheckpoint w.dc.system l r v
        → IsKept (with_dc w (with_system w.dc v))
    stops within (inl memory) = same memory.1
    stops within (inr fails) =
        let u : SystemView = lowered w.dc.system l in
        let t : IsTrueTo w.tc k.source u = lowered_true w l k (k.answered past) to in
        let stopped = failed_among w.tc k.source u u.leaves v t (lowered_sure w l k (k.answered past) to within)
        (low_all_now w k u.leaves t.low) fails.1 in
        keeps_system w v k None tt is rec checks
        (subst (LeavesCarry k.source.log (leaves w.dc)) (sym stopped.leaves)
        (lowered_carries w l k (k.answered past) to))
        stopped.true_to
        (subst (λ log. IsBegun w.tc.stable w.tc.session (stored_session log)) (sym stopped.log) k.sessions.begun)

at_system : (w : NodeView) (dc : DcView) → dc ≡ with_system w.dc dc.system
    → IsKept (with_dc w (with_system w.dc dc.system)) → IsKept (with_dc w dc)
at_system w dc same h = subst (λ (x : DcView). IsKept (with_dc w x)) (sym same) h

stops_keep : (w : NodeView) (q : Request) (r : Refusal) (dc : DcView) (k : IsKept w) → IsDc dc
    → IsRecoverable dc.system → Checks w.dc.system dc.system → IsSent w.tc w.dc k.source q
    → serve_refusal w.dc q ≡ None → Stops w.dc q r dc → IsKept (with_dc w dc)
stops_keep w (asks.Connect s end) r dc k is rec checks sent allowed h =
    at_system w dc h.2 (stops_accepting w s end r dc.system k (subst IsDc h.2 is) rec checks sent.begun h.1)
stops_keep w (asks.Perform s n stable o) r dc k is rec checks sent allowed h =
    subst (λ (x : DcView). IsKept (with_dc w x)) (sym h.1.1) k
stops_keep w (asks.Get s n key) r dc k is rec checks sent allowed h = absurd h
stops_keep w (asks.Scan s n low high) r dc k is rec checks sent allowed h =
    subst (λ (x : DcView). IsKept (with_dc w x)) (sym h.1) k
stops_keep w (asks.LowWater s l) r dc k is rec checks sent allowed h = absurd h
stops_keep w (asks.Checkpoint s l) r dc k is rec checks sent allowed h =
    let past : IsPast w.dc s = let_past w.dc s allowed in
    at_system w dc h.1
    (stops_checkpoint w l r dc.system k (subst IsDc h.1 is) rec checks past.past (sent.holds past.runs) h.0)
stops_keep w (asks.RedoEnd s) r dc k is rec checks sent allowed h = absurd h
stops_keep w (asks.StableEnd s stable) r dc k is rec checks sent allowed h = absurd h

pub stops_serving : (w : NodeView) (q : Request) (r : Refusal) (dc : DcView) (k : IsKept w) → IsDc dc
    → IsSent w.tc w.dc k.source q → ServeGives w.dc q (Err r) dc → IsKept (with_dc w dc)
stops_serving w q r dc k is sent h = by (serve_refusal w.dc q) refl h
  where
    by : (x : Option Refusal) → serve_refusal w.dc q ≡ x → StopsUnless x w.dc q r dc → IsKept (with_dc w dc)
    by (Some cause) refuses g = subst (λ (x : DcView). IsKept (with_dc w x)) (sym g.1) k
    by None allowed g = stops_keep w q r dc k is (recoverable_served w.dc q (Err r) dc k.dc k.recoverable h)
        (checked_served w.dc q (Err r) dc k.dc k.recoverable h) sent allowed g
