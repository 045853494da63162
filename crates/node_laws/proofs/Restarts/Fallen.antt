-- What holds of a node survives where the transaction component loses records that weren't stable.
use Rattle.std.proofs.Common.{◌≡◌, ℕ, ◌-◌, ◌≤◌, zero, suc, List, [], ◌∷◌, ◌++◌, length, take, refl, sym, ap, ◌∙◌, subst, arith, inl, inr}
use Rattle.std.specs.Prelude.{drop}
use Rattle.std.specs.List.{AllByRecursion}
use Rattle.std.proofs.lemmas.List.{length-append, length-drop, take-append-drop}
use Rattle.history.specs.declared.record.Record.{Record}
use Rattle.history.specs.declared.record.Record.TheVariants as is
use Rattle.history.specs.Legal.{FitsCheckpoint}
use Rattle.history.specs.Values.{HasRightAnswers}
use Rattle.log_laws.proofs.LegalLogs.{right_rest}
use Rattle.framed_log.specs.Beginning.{beginning}
use Rattle.tc_log.specs.LogView.{last_not_session}
use Rattle.tc_locks.specs.declared.span.Span.{Span}
use Rattle.tc_locks.specs.declared.span.Span.TheVariants.{Key, Range}
use Rattle.codec.specs.declared.request.Request.{Request}
use Rattle.codec.specs.declared.request.Request.TheVariants as asks
use Rattle.codec.specs.declared.reply.Reply.{Reply}
use Rattle.codec.specs.declared.reply.Reply.TheVariants as says
use Rattle.dc_leaf.specs.Leaf.{LeafView}
use Rattle.record_key.proofs.Lists.{all_from}
use Rattle.dc_recovery.specs.Recovery.{stored_session}
use Rattle.dc_recovery.specs.Ready.{IsHonestTo, IsLow}
use Rattle.dc_recovery.proofs.Ready.{ready_too}
use Rattle.dc_core.specs.dc_store.specs.SystemView.{SystemView}
use Rattle.dc_core.specs.dc_store.specs.Devices.{pages_of}
use Rattle.dc_core.specs.dc_store.specs.Checked.{IsChecked}
use Rattle.dc_core.specs.DcView.{DcView}
use Rattle.tc_core.specs.declared.phase.Phase.{Phase}
use Rattle.tc_core.specs.TcView.{TcView}
use Rattle.node_laws.specs.Node.{NodeView}
use Rattle.node_laws.specs.Source.{Source, IsWaiting, IsUntaken, IsSource}
use Rattle.node_laws.specs.Kept.{IsKept, IsAnsweredBy, IsAnsweredTo, IsBegun, IsReadTrue, InSession, IsOlder, IsNext, IsConnect, AnsweredAreCaptured, IsSent, IsCaptured, IsValueInSpan, AreRowsInSpan, StaysTrue, IsServed, AreSessions, IsLowAnswered, IsTrueTo}
use Rattle.node_laws.specs.Fallen.{IsFallen, FallenIsKept}
use Rattle.node_laws.proofs.Invariant.Announced.{part_grows}
use Rattle.node_laws.proofs.Invariant.Grows.{IsGrown, answered_on, next_on, captured_on, leaves_on, lows_on, performed_on}
use Rattle.node_laws.proofs.Invariant.LastRecord.{last_within, last_parts, last_left}
use Rattle.node_laws.proofs.Invariant.Sources.{of_source, sure_within}
use Rattle.framed_log.proofs.Beginning.{twice, of_beginning}
use Rattle.node_laws.proofs.Restarts.Beginnings.{StaysTo}
use Rattle.node_laws.proofs.Restarts.HonestShorter.{honest_less}
use Rattle.node_laws.proofs.Invariant.Running.{in_session}
use Rattle.node_laws.proofs.Invariant.Written.{have_all}

-- what is checked up to a number is checked up to a smaller one
checked_less : (v : SystemView) (l m : ℕ) → l ≤ m → IsChecked m v → IsChecked l v
checked_less v l m le h = record {
  leaves = all_from (IsLow m) (IsLow l) lower v.leaves h.leaves;
  ready = ready_too (IsLow m) (IsLow l) (pages_of v.pages) v.log v.stable lower h.ready;
}
  where
    lower : (leaf : LeafView) → IsLow m leaf → IsLow l leaf
    lower leaf low = omega (arith, le, low)

-- ---- the source stays, and as much of it is sure as the crash left

-- of a log's records above others a crash leaves the older ones
record IsLeftAbove (k : ℕ) (since common : List Record) : Type 0 where
  left : List Record
  left_is : drop k (since ++ common) ≡ left ++ common
  sessions : AllByRecursion (λ r. r ≡ is.Session) left

left_above : (k : ℕ) (since common : List Record) → k ≤ length since → AllByRecursion (λ r. r ≡ is.Session) since
    → IsLeftAbove k since common
left_above zero since common le all = record { left = since; left_is = refl; sessions = all }
left_above (suc k) [] common le all = absurd (omega (arith, le))
left_above (suc k) (r ∷ since) common le all =
    let rest = left_above k since common (omega (arith, le)) all.1 in
    record { left = rest.left; left_is = rest.left_is; sessions = rest.sessions }

-- what the crash leaves goes on from that
record IsSourceLeft (tc : TcView) (stored : ℕ) (x : Source) : Type 0 where
  source : Source
  from : IsSource tc stored source
  grown : IsGrown x source
  same : source.log ≡ x.log

source_left : (w : NodeView) (tc : TcView) (k : IsKept w) → IsFallen w.tc tc → IsSourceLeft tc w.dc.stored k.source
source_left w tc k f = by k.from
  where
    untaken : IsUntaken tc w.dc.stored
    untaken = record {
      waits = subst IsWaiting (sym f.unconnected) tt;
      later = λ some. absurd (omega (arith, some, f.session));
    }

    within : k.source.sure ≤ length k.source.log
    within = sure_within w.tc w.dc.stored k.source k.tc.within k.from

    by : IsSource w.tc w.dc.stored k.source → IsSourceLeft tc w.dc.stored k.source
    by (inl live) =
        let log : List Record = w.tc.log in
        let more : ℕ = length log - f.kept in
        record {
          source = record { log = log; sure = f.kept };
          from = inr (record {
            common = beginning log f.kept;
            lost = take more log;
            since = [];
            source_is = sym (take-append-drop more log);
            log_is = f.log;
            count = omega (arith, length-drop more log, f.within);
            stable = omega (arith, f.all);
            sessions = tt;
            untaken = untaken;
          });
          grown = of_source w.tc k.source (λ (x : Source). IsGrown x (record { log = log; sure = f.kept })) live
              (record { within = k.tc.within; log = inl refl; sure = f.stable; now_within = f.within });
          same = of_source w.tc k.source (λ (x : Source). log ≡ x.log) live refl;
        }
    by (inr asks) =
        let more : ℕ = length w.tc.log - f.kept in
        let long = ap length asks.log_is ∙ length-append asks.since asks.common in
        let above = left_above more asks.since asks.common
        (omega (arith, long, asks.count, asks.stable, f.stable, f.within)) asks.sessions in
        record {
          source = k.source;
          from = inr (record {
            common = asks.common;
            lost = asks.lost;
            since = above.left;
            source_is = asks.source_is;
            log_is = f.log ∙ ap (drop more) asks.log_is ∙ above.left_is;
            count = asks.count;
            stable = omega (arith, asks.stable, f.stable, f.all);
            sessions = above.sessions;
            untaken = untaken;
          });
          grown = record { within = within; log = inl refl; sure = omega arith; now_within = within };
          same = refl;
        }

module _ (old new : TcView) (f : IsFallen old new) where
  -- the log that is left has all that is stable
  left_in : (P : List Record → Type 0) → StaysTo old.stable P → P old.log → P new.log
  left_in P less h =
      subst P (sym f.log)
      (of_beginning P f.kept (λ r log within. less r log (omega (arith, within, f.stable))) old.log h)

  answered_left : (l : ℕ) → IsAnsweredTo old l → IsAnsweredTo new l
  answered_left l h =
      let same : beginning new.log new.stable ≡ beginning old.log f.kept =
      (λ i. beginning (f.log i) (f.all i)) ∙ twice old.log f.kept f.kept (omega arith) in
      subst (λ log. FitsCheckpoint log l) (sym same) (part_grows old.log old.stable f.kept l f.stable f.within h)

  -- ---- 4. leaves, pages and logged leaves

  honest_left : (leaf : LeafView) → IsHonestTo old.log old.stable leaf → IsHonestTo new.log new.stable leaf
  honest_left leaf h = record {
    honest = (left_in (λ log. IsHonestTo log old.stable leaf) (honest_less old.stable leaf) h).honest;
    within = λ n captured. omega (arith, h.within n captured, f.stable, f.all);
  }

  true_left : (x y : Source) (v : SystemView) → IsGrown x y → IsTrueTo old x v → IsTrueTo new y v
  true_left x y v grown h = record {
    leaves = leaves_on x y grown v.leaves h.leaves h.low;
    low = lows_on x y grown v.leaves h.low;
    written = have_all (IsHonestTo old.log old.stable) (IsHonestTo new.log new.stable) honest_left
        (pages_of v.pages) v.log h.written;
    written_low = have_all (IsLowAnswered old.log old.stable) (IsLowAnswered new.log new.stable)
        (λ leaf. answered_left leaf.ab.low) (pages_of v.pages) v.log h.written_low;
  }

  -- ---- 7. and 8. messages

  begun_left : (s : ℕ) → IsBegun old.stable old.session s → IsBegun new.stable new.session s
  begun_left s h = record {
    recorded = omega (arith, h.recorded, f.stable, f.all);
    most = λ some. absurd (omega (arith, some, f.session));
  }

  older_left : (s : ℕ) → IsOlder old s → IsOlder new s
  older_left s h = record { some = h.some; older = λ waits some. absurd (omega (arith, some, f.session)) }

  -- nobody reads, since no session has begun
  read_left : (s n : ℕ) (P Q : Span → Type 0) → IsReadTrue old s n P → IsReadTrue new s n Q
  read_left s n P Q h = record {
    some = h.some;
    begun = omega (arith, h.begun, f.stable, f.all);
    asked = λ is. absurd (omega (arith, is, f.session, h.some));
    holds = λ is. absurd (omega (arith, is, f.session, h.some));
  }

  low_left : (dc : DcView) (x y : Source) (s l : ℕ) → IsGrown x y → InSession dc s (IsAnsweredBy x.log x.sure l)
      → InSession dc s (IsAnsweredBy y.log y.sure l)
  low_left dc x y s l grown = in_session dc s (IsAnsweredBy x.log x.sure l) (IsAnsweredBy y.log y.sure l)
      (λ runs. answered_on x y l grown)

  answers_left : (dc : DcView) (x y : Source) → y.log ≡ x.log → AnsweredAreCaptured x.log dc
      → AnsweredAreCaptured y.log dc
  answers_left dc x y same = subst (λ log. AnsweredAreCaptured log dc) (sym same)

  -- what is left of the log has its last record that isn't a Session, while the component waits
  last_stays : last_not_session old.log ≤ old.stable → last_not_session new.log ≡ last_not_session old.log
  last_stays quiet = ap last_not_session f.log ∙ last_left old.log f.kept (omega (arith, quiet, f.stable)) f.within

  connect_left : (dc : DcView) → (IsWaiting old.phase → last_not_session old.log ≤ old.stable) → (s end : ℕ)
      → IsConnect old dc.stored s end → IsConnect new dc.stored s end
  connect_left dc quiet s end h = record {
    begun = begun_left s h.begun;
    next = λ less.
        let was = h.next less in (subst IsWaiting (sym f.unconnected) tt, was.1 ∙ sym (last_stays (quiet was.0)));
  }

  sent_left : (dc : DcView) (x y : Source) → IsGrown x y → y.log ≡ x.log
      → (IsWaiting old.phase → last_not_session old.log ≤ old.stable) → (q : Request) → IsSent old dc x q
      → IsSent new dc y q
  sent_left dc x y grown same quiet (asks.Connect s end) h = connect_left dc quiet s end h
  sent_left dc x y grown same quiet (asks.Perform s n stable o) h = (
    older_left s h.0,
    in_session dc s (IsNext x dc n stable o) (IsNext y dc n stable o) (λ runs. next_on x y dc n stable o grown) h.1,
  )
  sent_left dc x y grown same quiet (asks.Get s n k) h = read_left s n (λ q. q ≡ Key k) (λ q. q ≡ Key k) h
  sent_left dc x y grown same quiet (asks.Scan s n low high) h =
      read_left s n (λ q. q ≡ Range low high) (λ q. q ≡ Range low high) h
  sent_left dc x y grown same quiet (asks.LowWater s l) h = low_left dc x y s l grown h
  sent_left dc x y grown same quiet (asks.Checkpoint s l) h = low_left dc x y s l grown h
  sent_left dc x y grown same quiet (asks.RedoEnd s) h =
      in_session dc s (AnsweredAreCaptured x.log dc) (AnsweredAreCaptured y.log dc)
      (λ runs. answers_left dc x y same) h
  sent_left dc x y grown same quiet (asks.StableEnd s stable) h =
      in_session dc s (stable ≤ x.sure) (stable ≤ y.sure) (λ runs sure. omega (arith, sure, grown.sure)) h

  -- an answer is told again only in a session that is taken
  given_left : (dc : DcView) (x y : Source) → IsGrown x y → (reply : Reply) → StaysTrue old dc x reply
      → StaysTrue new dc y reply
  given_left dc x y grown (says.Connected s) h = h
  given_left dc x y grown (says.Answered s n a) h = record {
    older = older_left s h.older;
    captured = in_session dc s (IsCaptured x dc n) (IsCaptured y dc n) (λ runs. captured_on x y dc n grown) h.captured;
    own = λ unwaiting. absurd (unwaiting (subst IsWaiting (sym f.unconnected) tt));
  }
  given_left dc x y grown (says.Row s n v) h = read_left s n (IsValueInSpan old.log v) (IsValueInSpan new.log v) h
  given_left dc x y grown (says.Rows s n rows) h = read_left s n (AreRowsInSpan old.log rows) (AreRowsInSpan new.log rows) h
  given_left dc x y grown (says.Checkpointed s l) h = h
  given_left dc x y grown (says.RedoEnded s) h = h

  -- ---- 11. what was opened

  all_stable : length new.log ≤ new.stable
  all_stable = omega (arith, f.all, ap length f.log, length-drop (length old.log - f.kept) old.log, f.within)

  opened_left : (n : ℕ) → n ≤ last_not_session (beginning old.log old.stable)
      → n ≤ last_not_session (beginning new.log new.stable)
  opened_left n h =
      let same : beginning new.log new.stable ≡ beginning old.log f.kept =
      (λ i. beginning (f.log i) (f.all i)) ∙ twice old.log f.kept f.kept (omega arith) in
      omega (arith, h, last_parts old.log old.stable f.kept f.stable f.within, ap last_not_session same)

  -- ---- 9. sessions

  sessions_left : (dc : DcView) → AreSessions old.stable old.session old.phase old.log dc
      → AreSessions new.stable new.session new.phase new.log dc
  sessions_left dc h = record {
    begun = begun_left (stored_session dc.system.log) h.begun;
    served = let P : Phase → Type 0 = λ p. IsServed p new.session new.log dc in subst P (sym f.unconnected) tt;
  }

-- the law
pub fallen_is_kept : FallenIsKept
fallen_is_kept w tc k f is =
    let s = source_left w tc k f in
    let x : Source = k.source in
    let y : Source = s.source in
    record {
      tc = is;
      right = left_in w.tc tc f HasRightAnswers (λ r log within. right_rest r log) k.right;
      dc = k.dc;
      recoverable = k.recoverable;
      source = y;
      from = s.from;
      true_to = true_left w.tc tc f x y w.dc.system s.grown k.true_to;
      performed = performed_on x y s.grown w.dc.performed k.performed;
      answered = λ may. answers_left w.tc tc f w.dc x y s.same (k.answered may);
      sent = all_from (IsSent w.tc w.dc x) (IsSent tc w.dc y)
          (sent_left w.tc tc f w.dc x y s.grown s.same k.quiet) w.requests
          k.sent;
      given = all_from (StaysTrue w.tc w.dc x) (StaysTrue tc w.dc y) (given_left w.tc tc f w.dc x y s.grown) w.replies
          k.given;
      sessions = sessions_left w.tc tc f w.dc k.sessions;
      checked = checked_less w.dc.system tc.checkpointed w.tc.checkpointed f.checkpointed k.checked;
      known = omega (arith, k.known, s.grown.sure);
      opened = opened_left w.tc tc f w.dc.opened_to k.opened;
      quiet = λ waits. omega (arith, last_within tc.log, all_stable w.tc tc f);
    }
