-- A log that grows keeps what was sent, replied and captured.
use Rattle.std.proofs.Common.{◌≡◌, ◌≢◌, ℕ, ◌+◌, ◌<◌, ◌≤◌, ◌⊎◌, true, List, ◌∷◌, length, Option, Some, None, refl, sym, ap, ◌∙◌, subst, arith, inl, inr, true≢false}
use Rattle.std.specs.List.{AllByRecursion}
use Rattle.std.proofs.lemmas.Bool.{cases_Bool}
use Rattle.tc_locks.specs.Meant.{range_of}
use Rattle.record_key.specs.declared.op.Op.{Op}
use Rattle.record_key.specs.declared.op.Answer.{Answer}
use Rattle.record_key.specs.Table.{Bytes}
use Rattle.history.specs.declared.record.Record.{Record}
use Rattle.history.specs.declared.record.Record.TheVariants as is
use Rattle.history.specs.Legal.{IsLegal, FitsCheckpoint}
use Rattle.history.specs.Log.{answer_of, request_of, Requests}
use Rattle.record_key.specs.Order.{has_key}
use Rattle.history.specs.Values.{is_on, value_with, value_on, IsRight, HasRightAnswers}
use Rattle.log_laws.proofs.Records.{ARequest, older_at, at_newest}
use Rattle.log_laws.proofs.LegalLogs.{request_number}
use Rattle.tc_log.specs.LogView.{last_not_session}
use Rattle.framed_log.proofs.Beginning.{shorter}
use Rattle.dc_core.proofs.KeepsDc.{all_both}
use Rattle.framed_log.specs.Beginning.{beginning}
use Rattle.tc_locks.specs.declared.span.Span.{Span}
use Rattle.tc_locks.specs.declared.span.Span.TheVariants.{Key, Range}
use Rattle.codec.specs.declared.request.Request.{Request}
use Rattle.codec.specs.declared.request.Request.TheVariants as asks
use Rattle.codec.specs.declared.reply.Reply.{Reply}
use Rattle.codec.specs.declared.reply.Reply.TheVariants as says
use Rattle.dc_leaf.specs.Leaf.{LeafView}
use Rattle.dc_recovery.specs.Ready.{IsHonestTo}
use Rattle.dc_core.specs.dc_store.specs.SystemView.{SystemView}
use Rattle.dc_core.specs.dc_store.specs.Devices.{pages_of}
use Rattle.dc_core.specs.dc_store.specs.Checked.{IsChecked}
use Rattle.dc_core.specs.declared.performance.Performance.{Performance}
use Rattle.dc_leaf.specs.Honest.{IsHonestLeaf}
use Rattle.dc_leaf.proofs.Honest.{right_longer, honest_uncaptured}
use Rattle.dc_core.specs.DcView.{DcView}
use Rattle.tc_core.specs.declared.open_txn.OpenTxn.{OpenTxn}
use Rattle.tc_core.specs.OpenTxns.{find}
use Rattle.tc_core.proofs.Finding.{found_own}
use Rattle.tc_core.proofs.HeldSpans.{within_itself}
use Rattle.tc_core.proofs.KeepsTc.{none_next}
use Rattle.tc_core.proofs.Low.{may_longer}
use Rattle.tc_core.specs.TcView.{TcView}
use Rattle.tc_core.specs.Kept.{IsTc}
use Rattle.node_laws.specs.Node.{NodeView, with_tc}
use Rattle.node_laws.specs.Kept.{IsKept, IsAnsweredBy, IsBegun, IsReadTrue, InSession, IsOlder, IsNext, IsConnect, IsSent, IsRightOrNone, IsAnswerIn, IsCaptured, IsAnswered, IsValueInSpan, AreRowsInSpan, StaysTrue, AreSessions, IsTrueTo, IsLowAnswered, AnsweredAreCaptured, EarlierAreCaptured}
use Rattle.node_laws.specs.Source.{Source, IsWaiting, IsUntaken, IsSource, own}
use Rattle.record_key.proofs.Lists.{all_from}
use Rattle.dc_leaf.proofs.OnKey.{key_on}
use Rattle.node_laws.proofs.Invariant.Announced.{part_grows, most_sure}
use Rattle.node_laws.proofs.Invariant.Captured.{uncaptured_above, captured_in}
use Rattle.node_laws.proofs.Invariant.LastRecord.{last_within, last_parts}
use Rattle.node_laws.proofs.Machine.Readers.{NoneAnew}
use Rattle.node_laws.proofs.Invariant.Running.{run_is, some_session, in_session, stored_recorded}
use Rattle.node_laws.proofs.Invariant.Sources.{waiting_or, request_longer}
use Rattle.node_laws.proofs.Invariant.Unread.{unread}
use Rattle.node_laws.proofs.Invariant.Written.{have_all}

-- the same log, or with one record more
abbrev pub Extends : List Record → List Record → Type 0
Extends old new = (new ≡ old) ⊎ ((r : Record) × (new ≡ r ∷ old))

-- what a record more leaves stands in a log that extends
pub extend : (P : List Record → Type 0) (old new : List Record) → Extends old new
    → ((r : Record) → P old → P (r ∷ old)) → P old → P new
extend P old new (inl same) more h = subst P (sym same) h
extend P old new (inr grown) more h = subst P (sym grown.1) (more grown.0 h)

-- the session is the same, or a new one
abbrev pub IsLater : TcView → TcView → Type 0
IsLater old new = (new.session ≡ old.session) ⊎ (old.stable < new.session)

-- the same log, or with a session more
abbrev pub LogsSession : List Record → List Record → Type 0
LogsSession old new = (new ≡ old) ⊎ (new ≡ is.Session ∷ old)

-- what waits
pub record WaitsOn (stored : ℕ) (old new : TcView) : Type 0 where
  -- for its session to be taken goes on to wait, and logs nothing but a session
  pub untaken : IsUntaken old stored → IsWaiting new.phase × LogsSession old.log new.log
  -- now did before and logs so, or has begun a later session, and all that it logged is stable
  pub waits : IsWaiting new.phase
      → (IsWaiting old.phase × LogsSession old.log new.log)
      ⊎ ((old.stable < new.session) × (length new.log ≤ new.stable))

-- a log has grown by a record at most, and no fewer of its records are sure
pub record IsGrown (old new : Source) : Type 0 where
  pub within : old.sure ≤ length old.log
  pub log : Extends old.log new.log
  pub sure : old.sure ≤ new.sure
  pub now_within : new.sure ≤ length new.log

-- the transaction component went on
pub record GoesOn (old new : TcView) : Type 0 where
  pub grown : IsGrown (own old) (own new)
  -- it has its session still, or a later one than was ever begun, and waits for its Connect only if it did, or for a
  -- later one's
  pub session : IsLater old new
  pub waits : IsWaiting new.phase
      → (IsWaiting old.phase × LogsSession old.log new.log)
      ⊎ ((old.stable < new.session) × (length new.log ≤ new.stable))
  pub reads : old.reads ≤ new.reads
  pub none_anew : NoneAnew old.reads old.open_txns new.open_txns

pub answered_on : (old new : Source) (l : ℕ) → IsGrown old new → IsAnsweredBy old.log old.sure l
    → IsAnsweredBy new.log new.sure l
answered_on old new l on h =
    part_grows new.log old.sure new.sure l on.sure on.now_within
    (extend (λ log. FitsCheckpoint (beginning log old.sure) l) old.log new.log on.log
    (λ r. may_longer r old.log old.sure l on.within) h)

pub begun_on : (old new : TcView) (s : ℕ) → GoesOn old new → IsBegun old.stable old.session s
    → IsBegun new.stable new.session s
begun_on old new s on h = record {
  recorded = omega (arith, h.recorded, on.grown.sure);
  most = λ some. elim on.session [
    | inl same ↦ omega (arith, same, h.most (omega (arith, some, same)))
    | inr later ↦ omega (arith, h.recorded, later)
  ];
}

-- a session that was begun is the component's now only if it was before
same_session : (old new : TcView) (s : ℕ) → GoesOn old new → s ≤ old.stable → s ≡ new.session → s ≡ old.session
same_session old new s on begun is = elim on.session [
  | inl same ↦ is ∙ same
  | inr later ↦ absurd (omega (arith, begun, is, later))
]

-- what is older than the session stays so
older_on : (old new : TcView) (s : ℕ) → GoesOn old new → s ≤ old.stable → IsOlder old s → IsOlder new s
older_on old new s on begun h = record {
  some = h.some;
  older = λ waits some. elim (on.waits waits) [
    | inl waited ↦ elim on.session [
      | inl same ↦ omega (arith, same, h.older waited.0 (omega (arith, some, same)))
      | inr later ↦ omega (arith, begun, later)
    ]
    | inr later ↦ omega (arith, begun, later.0)
  ];
}

-- what is said of a reader stays, where it does for each span
told_on : (old new : TcView) (s n : ℕ) (P Q : Span → Type 0) → GoesOn old new
    → ((t : ℕ) (x : OpenTxn) (q : Span) → find t new.open_txns ≡ Some x → x.reading
    ≡ Some (record { number = n; span = q }) → P q → Q q)
    → IsReadTrue old s n P → IsReadTrue new s n Q
told_on old new s n P Q on from h = record {
  some = h.some;
  begun = omega (arith, h.begun, on.grown.sure);
  asked = λ is. omega (arith, h.asked (same_session old new s on h.begun is), on.reads);
  holds = λ is t o q found reading.
      let here = same_session old new s on h.begun is in
      let was = on.none_anew t o n q found reading (h.asked here) in
      from t o q found reading (h.holds here was.txn was.open_txn q was.is was.reading);
}

-- where a session runs, what is answered now was performed, if what was answered before was
abbrev pub Captures : List Record → List Record → DcView → Type 0
Captures old new dc = dc.session ≢ 0 → AnsweredAreCaptured old dc → AnsweredAreCaptured new dc

-- a number of the log is older than the next one
earlier_longer : (r : Record) (log : List Record) (dc : DcView) (n : ℕ) (o : Op) → n ≤ length log
    → EarlierAreCaptured log dc n o
    → EarlierAreCaptured (r ∷ log) dc n o
earlier_longer r log dc n o within h m q asks below =
    h m q (older_at (ARequest q) r log m (λ e. omega (arith, e, within, below)) asks) below

pub next_on : (old new : Source) (dc : DcView) (n stable : ℕ) (o : Op) → IsGrown old new → IsNext old dc n stable o
    → IsNext new dc n stable o
next_on old new dc n stable o on h = record {
  sure = omega (arith, h.sure, on.sure);
  requests = extend (λ log. Requests log n o) old.log new.log on.log (λ r. request_longer r old.log n o) h.requests;
  earlier = extend (λ log. EarlierAreCaptured log dc n o) old.log new.log on.log
      (λ r. earlier_longer r old.log dc n o (request_number old.log n o h.requests).bounded) h.earlier;
}

-- a log that grows by a session has the same last record that isn't one
last_logged : (old new : List Record) → LogsSession old new → last_not_session new ≡ last_not_session old
last_logged old new (inl same) = ap last_not_session same
last_logged old new (inr more) = ap last_not_session more

-- what was sent stands where the source has grown so
module _ (old new : TcView) (dc : DcView) (x y : Source) (on : GoesOn old new) (grown : IsGrown x y)
    (captured : Captures x.log y.log dc) (stored : dc.stored ≤ old.stable) (waits : WaitsOn dc.stored old new) where
  -- a session that wasn't taken yet is the component's, which waits
  connect_on : (s end : ℕ) → IsConnect old dc.stored s end → IsConnect new dc.stored s end
  connect_on s end h = record {
    begun = begun_on old new s on h.begun;
    next = λ less.
        let was = h.next less in
        let now = waits.untaken
        (record { waits = was.0; later = λ some. omega (arith, less, h.begun.most some) }) in
        (now.0, was.1 ∙ sym (last_logged old.log new.log now.1));
  }

  low_on : (s l : ℕ) → InSession dc s (IsAnsweredBy x.log x.sure l) → InSession dc s (IsAnsweredBy y.log y.sure l)
  low_on s l = in_session dc s (IsAnsweredBy x.log x.sure l) (IsAnsweredBy y.log y.sure l)
      (λ running. answered_on x y l grown)

  pub sent_on : (q : Request) → IsSent old dc x q → IsSent new dc y q
  sent_on (asks.Connect s end) h = connect_on s end h
  sent_on (asks.Perform s n stable o) h = (
    older_on old new s on (omega (arith, h.1.begun, stored)) h.0,
    in_session dc s (IsNext x dc n stable o) (IsNext y dc n stable o) (λ running. next_on x y dc n stable o grown) h.1,
  )
  sent_on (asks.Get s n k) h =
      told_on old new s n (λ q. q ≡ Key k) (λ q. q ≡ Key k) on (λ t o q found reading is. is) h
  sent_on (asks.Scan s n low high) h =
      told_on old new s n (λ q. q ≡ Range low high) (λ q. q ≡ Range low high) on (λ t o q found reading is. is) h
  sent_on (asks.LowWater s l) h = low_on s l h
  sent_on (asks.Checkpoint s l) h = low_on s l h
  sent_on (asks.RedoEnd s) h =
      in_session dc s (AnsweredAreCaptured x.log dc) (AnsweredAreCaptured y.log dc)
      (λ running. let run = run_is dc s running in captured (λ zero. run.some (sym run.is ∙ zero))) h
  sent_on (asks.StableEnd s stable) h =
      in_session dc s (stable ≤ x.sure) (stable ≤ y.sure) (λ running sure. omega (arith, sure, grown.sure)) h

right_on : (old new : Source) (n : ℕ) (o : Op) (a : Option Answer) → IsGrown old new → Requests old.log n o
    → IsRightOrNone old n a → IsRightOrNone new n a
right_on old new n o None on asks h = answered_on old new n on h
right_on old new n o (Some a) on asks h =
    extend (λ log. IsRight log n a) old.log new.log on.log (λ r. right_longer r old.log n o a asks) h

answer_in_on : (old new : Source) (n : ℕ) (a : Option Answer) → IsGrown old new → IsAnswerIn old n a
    → IsAnswerIn new n a
answer_in_on old new n a on h = record {
  op = h.op;
  requests = extend (λ log. Requests log n h.op) old.log new.log on.log (λ r. request_longer r old.log n h.op)
      h.requests;
  answer = right_on old new n h.op a on h.requests h.answer;
}

pub captured_on : (old new : Source) (dc : DcView) (n : ℕ) → IsGrown old new → IsCaptured old dc n → IsCaptured new dc n
captured_on old new dc n on h = record {
  op = h.op;
  requests = extend (λ log. Requests log n h.op) old.log new.log on.log (λ r. request_longer r old.log n h.op)
      h.requests;
  captured = h.captured;
}

answer_on : (old new : TcView) (dc : DcView) (x y : Source) (s n : ℕ) (a : Option Answer) → GoesOn old new
    → IsGrown x y → dc.stored ≤ old.stable → IsAnswered old dc x s n a → IsAnswered new dc y s n a
answer_on old new dc x y s n a on grown stored h = record {
  older = older_on old new s on begun h.older;
  captured = in_session dc s (IsCaptured x dc n) (IsCaptured y dc n) (λ running. captured_on x y dc n grown) h.captured;
  own = λ unwaiting is.
      let here : s ≡ old.session = same_session old new s on begun is in
      elim (waiting_or old.phase) [
        | inl waited ↦ absurd (omega (arith, h.older.older waited (omega (arith, h.older.some, here)), here))
        | inr served ↦ answer_in_on (own old) (own new) n a on.grown (h.own served here)
      ];
}
  where
    begun : s ≤ old.stable
    begun = omega (arith, h.captured.begun, stored)

-- ---- nothing is logged on what is read

-- a new record is no answer to itself
unanswered_new : (r : Record) (log : List Record) (o : Op) → IsLegal log → request_of r ≡ Some o
    → answer_of (r ∷ log) (length log + 1) ≡ None
unanswered_new (is.Op t p q) log o legal h = none_next log legal
unanswered_new (is.Comp t u x (Some i)) log o legal h = none_next log legal
unanswered_new (is.Comp t u x None) log o legal h = absurd (cc)
unanswered_new is.Session log o legal h = absurd (cc)
unanswered_new is.Begin log o legal h = absurd (cc)
unanswered_new (is.Answer n a) log o legal h = absurd (cc)
unanswered_new (is.Commit t) log o legal h = absurd (cc)
unanswered_new (is.End t) log o legal h = absurd (cc)
unanswered_new (is.Checkpoint l) log o legal h = absurd (cc)

pub record BothKept (old new : TcView) : Type 0 where
  pub was : IsTc old
  pub now : IsTc new

-- the value at a key that is being read stays
value_stays : (old new : TcView) → BothKept old new → Extends old.log new.log
    → (t : ℕ) (x : OpenTxn) (n : ℕ) (q : Span) → find t new.open_txns ≡ Some x
    → x.reading ≡ Some (record { number = n; span = q }) → (key : Bytes) → has_key (range_of q) key ≡ true
    → value_on key new.log ≡ value_on key old.log
value_stays old new both (inl same) t x n q found reading key within = ap (value_on key) same
value_stays old new both (inr grown) t x n q found reading key within =
    ap (value_on key) grown.1 ∙ by (request_of grown.0) refl
  where
    by : (y : Option Op) → request_of grown.0 ≡ y → value_with key y (value_on key old.log) ≡ value_on key old.log
    by None none = refl
    by (Some o) some =
        let next : ℕ = length old.log + 1 in
        let asks : Requests new.log next o =
        subst (λ (log : List Record). Requests log next o) (sym grown.1)
        (at_newest (ARequest o) grown.0 old.log next refl some) in
        let none : answer_of new.log next ≡ None =
        subst (λ (log : List Record). answer_of log next ≡ None) (sym grown.1)
        (unanswered_new grown.0 old.log o both.was.legal some) in
        let other = unread new x (record { number = n; span = q }) next o both.now (found_own t new.open_txns x found)
        reading asks none in
        elim (cases_Bool (is_on key o)) [
          | inl on ↦ absurd (true≢false (sym within ∙ ap (has_key (range_of q)) (sym (key_on key o on)) ∙ other))
          | inr off ↦ rw off refl
        ]

value_on_span : (old new : TcView) (v : Option Bytes) → BothKept old new → GoesOn old new
    → (t : ℕ) (x : OpenTxn) (n : ℕ) (q : Span) → find t new.open_txns ≡ Some x
    → x.reading ≡ Some (record { number = n; span = q }) → IsValueInSpan old.log v q → IsValueInSpan new.log v q
value_on_span old new v both on t x n (Key key) found reading h =
    h ∙ sym (value_stays old new both on.grown.log t x n (Key key) found reading key (within_itself key))
value_on_span old new v both on t x n (Range low high) found reading h = h

rows_on_span : (old new : TcView) (rows : List (Bytes × Bytes)) → BothKept old new → GoesOn old new
    → (t : ℕ) (x : OpenTxn) (n : ℕ) (q : Span) → find t new.open_txns ≡ Some x
    → x.reading ≡ Some (record { number = n; span = q }) → AreRowsInSpan old.log rows q → AreRowsInSpan new.log rows q
rows_on_span old new rows both on t x n (Key key) found reading h = h
rows_on_span old new rows both on t x n (Range low high) found reading h = record {
  table = h.table;
  rows_are = h.rows_are;
  values = λ key within. h.values key within
      ∙ sym (value_stays old new both on.grown.log t x n (Range low high) found reading key within);
}

-- what was replied of a read that is still waited for
pub given_on : (old new : TcView) (dc : DcView) (x y : Source) → BothKept old new → GoesOn old new → IsGrown x y
    → dc.stored ≤ old.stable → (reply : Reply) → StaysTrue old dc x reply → StaysTrue new dc y reply
given_on old new dc x y both on grown stored (says.Connected s) h = h
given_on old new dc x y both on grown stored (says.Answered s n a) h = answer_on old new dc x y s n a on grown stored h
given_on old new dc x y both on grown stored (says.Row s n v) h =
    told_on old new s n (IsValueInSpan old.log v) (IsValueInSpan new.log v) on
    (λ t z q found reading. value_on_span old new v both on t z n q found reading) h
given_on old new dc x y both on grown stored (says.Rows s n rows) h =
    told_on old new s n (AreRowsInSpan old.log rows) (AreRowsInSpan new.log rows) on
    (λ t z q found reading. rows_on_span old new rows both on t z n q found reading) h
given_on old new dc x y both on grown stored (says.Checkpointed s l) h = h
given_on old new dc x y both on grown stored (says.RedoEnded s) h = h

-- a leaf that is honest, and has captured stable numbers only, stays so
honest_to_on : (old new : Source) → IsGrown old new → (leaf : LeafView) → IsHonestTo old.log old.sure leaf
    → IsHonestTo new.log new.sure leaf
honest_to_on old new on leaf h = record {
  honest = extend (λ log. IsHonestLeaf log leaf) old.log new.log on.log (λ r. honest_uncaptured r old.log leaf
      (uncaptured_above leaf old.sure (length old.log + 1) h.within (omega (arith, on.within)))) h.honest;
  within = λ n captured. omega (arith, h.within n captured, on.sure);
}

low_answered_on : (old new : Source) → IsGrown old new → (leaf : LeafView) → IsLowAnswered old.log old.sure leaf
    → IsLowAnswered new.log new.sure leaf
low_answered_on old new on leaf = answered_on old new leaf.ab.low on

-- so does a cached one that is low
honest_on : (old new : Source) → IsGrown old new → (leaf : LeafView) → IsHonestLeaf old.log leaf
    → IsLowAnswered old.log old.sure leaf → IsHonestLeaf new.log leaf
honest_on old new on leaf h low =
    let within : leaf.ab.low ≤ length old.log =
    omega (arith, most_sure old.log old.sure leaf.ab.low on.within low, on.within) in
    extend (λ log. IsHonestLeaf log leaf) old.log new.log on.log
    (λ r. honest_uncaptured r old.log leaf
    (uncaptured_above leaf (length old.log) (length old.log + 1) (captured_in old.log leaf h within) (omega arith))) h

pub leaves_on : (old new : Source) → IsGrown old new → (leaves : List LeafView)
    → AllByRecursion (IsHonestLeaf old.log) leaves → AllByRecursion (IsLowAnswered old.log old.sure) leaves
    → AllByRecursion (IsHonestLeaf new.log) leaves
leaves_on old new on leaves =
    all_both (IsHonestLeaf old.log) (IsLowAnswered old.log old.sure) (IsHonestLeaf new.log)
    (honest_on old new on) leaves

pub lows_on : (old new : Source) → IsGrown old new → (leaves : List LeafView)
    → AllByRecursion (IsLowAnswered old.log old.sure) leaves
    → AllByRecursion (IsLowAnswered new.log new.sure) leaves
lows_on old new on leaves =
    all_from (IsLowAnswered old.log old.sure) (IsLowAnswered new.log new.sure) (low_answered_on old new on) leaves

true_on : (old new : TcView) (x y : Source) (v : SystemView) → IsGrown (own old) (own new) → IsGrown x y
    → IsTrueTo old x v → IsTrueTo new y v
true_on old new x y v on grown h = record {
  leaves = leaves_on x y grown v.leaves h.leaves h.low;
  low = lows_on x y grown v.leaves h.low;
  written = have_all (IsHonestTo old.log old.stable) (IsHonestTo new.log new.stable)
      (honest_to_on (own old) (own new) on) (pages_of v.pages) v.log h.written;
  written_low = have_all (IsLowAnswered old.log old.stable) (IsLowAnswered new.log new.stable)
      (low_answered_on (own old) (own new) on) (pages_of v.pages) v.log h.written_low;
}

pub performed_on : (old new : Source) → IsGrown old new → (ps : List Performance)
    → AllByRecursion (λ (p : Performance). Requests old.log p.number p.op) ps
    → AllByRecursion (λ (p : Performance). Requests new.log p.number p.op) ps
performed_on old new on ps h =
    all_from (λ (p : Performance). Requests old.log p.number p.op) (λ (p : Performance). Requests new.log p.number p.op)
    (λ p. extend (λ log. Requests log p.number p.op) old.log new.log on.log
    (λ r. request_longer r old.log p.number p.op)) ps h

-- while it waits nothing but sessions may be lost
quiet_on : (old new : TcView) → GoesOn old new → (IsWaiting old.phase → last_not_session old.log ≤ old.stable)
    → IsWaiting new.phase → last_not_session new.log ≤ new.stable
quiet_on old new on quiet waits = elim (on.waits waits) [
  | inl was ↦ omega (arith, quiet was.0, last_logged old.log new.log was.1, on.grown.sure)
  | inr all ↦ omega (arith, last_within new.log, all.1)
]

-- what the leaves had when they were opened is stable still
opened_on : (old new : Source) (n : ℕ) → IsGrown old new → n ≤ last_not_session (beginning old.log old.sure)
    → n ≤ last_not_session (beginning new.log new.sure)
opened_on old new n on h =
    let same : last_not_session (beginning new.log old.sure) ≡ last_not_session (beginning old.log old.sure) =
    extend (λ log. last_not_session (beginning log old.sure) ≡ last_not_session (beginning old.log old.sure))
    old.log new.log on.log (λ r was. ap last_not_session (shorter r old.log old.sure on.within) ∙ was) refl in
    omega (arith, h, same, last_parts new.log old.sure new.sure on.sure on.now_within)

-- all holds still, where the answers are right and what is answered is captured
pub keeps_on : (w : NodeView) (tc : TcView) (k : IsKept w) (y : Source) → IsTc tc → GoesOn w.tc tc
    → WaitsOn w.dc.stored w.tc tc → IsSource tc w.dc.stored y → IsGrown k.source y
    → AreSessions tc.stable tc.session tc.phase tc.log w.dc
    → HasRightAnswers tc.log → Captures k.source.log y.log w.dc → IsChecked tc.checkpointed w.dc.system
    → IsKept (with_tc w tc)
keeps_on w tc k y is on waits from grown sessions right captured checked = record {
  tc = is;
  right = right;
  dc = k.dc;
  recoverable = k.recoverable;
  source = y;
  from = from;
  true_to = true_on w.tc tc k.source y w.dc.system on.grown grown k.true_to;
  performed = performed_on k.source y grown w.dc.performed k.performed;
  answered = λ may. captured (some_session w.dc may) (k.answered may);
  sent = all_from (IsSent w.tc w.dc k.source) (IsSent tc w.dc y)
      (sent_on w.tc tc w.dc k.source y on grown captured (stored_recorded w k) waits) w.requests k.sent;
  given = all_from (StaysTrue w.tc w.dc k.source) (StaysTrue tc w.dc y)
      (given_on w.tc tc w.dc k.source y (record { was = k.tc; now = is }) on grown (stored_recorded w k)) w.replies
      k.given;
  sessions = sessions;
  checked = checked;
  known = omega (arith, k.known, grown.sure);
  opened = opened_on (own w.tc) (own tc) w.dc.opened_to on.grown k.opened;
  quiet = quiet_on w.tc tc on k.quiet;
}
