-- Each call keeps what holds of the transaction component.
use Rattle.std.proofs.Common.{◌≡◌, ℕ, ◌+◌, ◌-◌, ◌<◌, ◌≤◌, ◌++◌, zero, suc, Bool, true, false, List, [], ◌∷◌, length, Option, Some, None, IsSome, is_some, cond, ◌≢◌, refl, sym, ap, ◌∙◌, subst, arith, inl, inr, eq-eqb, ne_eqb, eqb-true, true≢false}
use Rattle.std.specs.Prelude.{take, slice_get, ◌==◌, ◌||◌, if◌then◌else◌}
use Rattle.std.proofs.Math.Bool.{or-true}
use Rattle.std.proofs.lemmas.List.Folds.{list_any-append}
use Rattle.std.specs.List.{AllByRecursion}
use Rattle.std.proofs.lemmas.Bool.Decides.{nat_tests}
use Rattle.std.proofs.lemmas.Bool.{cases_eq, cases_Bool, cases_lt}
use Rattle.record_key.specs.declared.op.Op.{Op}
use Rattle.record_key.specs.declared.op.Answer.{Answer}
use Rattle.history.specs.declared.record.Record.{Record}
use Rattle.history.specs.declared.record.Record.TheVariants as is
use Rattle.history.specs.Log.{record_at, answer_of, step_in, has_ended, IsOpen, IsOpBy, IsStepOf, Requests}
use Rattle.history.specs.Legal.{Fits, IsLegal, IsIdle, IsKeyFree}
use Rattle.history.specs.Spans.{Span, Conflict, AnyConflict, changed_span}
use Rattle.log_laws.proofs.LegalLogs.{unanswered_next}
use Rattle.tc_core.specs.declared.open_txn.OpenTxn.{OpenTxn}
use Rattle.tc_core.specs.declared.open_txn.Read.{Read}
use Rattle.tc_core.specs.declared.open_txn.Rollback.{Rollback}
use Rattle.tc_core.specs.OpenTxns.{find, replace, AreBelow}
use Rattle.tc_locks.specs.Locks.{spans_of, IsGrantable}
use Rattle.tc_locks.proofs.Tables.{set_other}
use Rattle.tc_core.specs.TcView.{TcView, used_so}
use Rattle.stable.specs.Usage.{Usage}
use Rattle.tc_log.specs.LogView.{is_spent}
use Rattle.tc_restart.specs.Losers.{txns}
use Rattle.tc_core.specs.Locking.{is_listed, is_holder}
use Rattle.tc_core.specs.Changes.{let_go, logged_session, reconnected, begun_txn, begun, acted_txn, acted, forced, answered_txn, answered, rolling_txn, rolled, saved_txn, saved, going_back_txn, going_back, back_txn, is_back}
use Rattle.tc_core.specs.Replies.{takes, is_number, if_awaits, asker, awaiting, next_phase, passed}
use Rattle.tc_core.specs.declared.phase.Phase.{Phase}
use Rattle.tc_core.specs.declared.phase.Phase.TheVariants as phase
use Rattle.tc_core.specs.Kept.{IsTc, IsOwedAnswer, closing, IsRollback, IsOpenTxn, IsWaiting, Waits, IsReading, IsPhase}
use Rattle.tc_core.proofs.Finding.{found_number, found_own}
use Rattle.tc_core.proofs.Committing.{none_committing, open_unlisted}
use Rattle.tc_core.proofs.LettingGo.{let_go_held, let_go_other, early_taken, early_let_go}
use Rattle.tc_log.proofs.Index.{nothing_answered}
use Rattle.tc_core.proofs.Keeps.{open_had, open_was, unended_next, IsBounded}
use Rattle.tc_core.proofs.Losers.{listed_loser, loser_listed, unlisted_late, lost_spared, lost_started, lost_passed, lost_more, late_at}
use Rattle.tc_core.proofs.Low.{low_within, low_longer, low_forced, low_started}
use Rattle.tc_core.proofs.KeepsIdle.{own_request}
use Rattle.tc_core.proofs.KeepsOpen.{open_below, same_open, replaced_open, added_open}
use Rattle.tc_core.proofs.KeepsSteps.{session_leaves, begin_leaves, step_leaves, answer_leaves, opens, acts, answer_comes}
use Rattle.log_laws.proofs.Sharing.{modes_conflict}
use Rattle.tc_core.proofs.HeldSpans.{conflict_at, held_is, open_holds, op_spans_has}
use Rattle.tc_core.proofs.LocksHeld.{any_held, begins, takes as takes_key, longer, replaced}
use Rattle.tc_core.proofs.Readings.{no_reading, reads_replaced, reads_begun, reads_kept}

pub none_next : (log : List Record) → IsLegal log → answer_of log (length log + 1) ≡ None
none_next log legal = nothing_answered (answer_of log (length log + 1)) (unanswered_next log legal)

-- the log has a number left
pub one_more : (log : List Record) → is_spent log ≡ false → length log + 1 ≤ 281474976710655
one_more log unspent = grind (arith, nat_tests, unspent)

-- the device is called
pub keeps_used : (w : TcView) (usage : Usage) → IsTc w → IsTc (used_so w usage)
keeps_used w usage k = record {
  legal = k.legal;
  within = k.within;
  few = record { records = k.few.records; reads = k.few.reads };
  session = k.session;
  phase = k.phase;
  asking = k.asking;
  low = k.low;
  open_txns = k.open_txns;
  committing = k.committing;
  lost = k.lost;
  locks = k.locks;
  early = k.early;
  reading = k.reading;
}

-- a Session record
pub keeps_logged : (w : TcView) → IsTc w → is_spent w.log ≡ false → IsTc (logged_session w)
keeps_logged w k unspent = record {
  legal = (tt, k.legal);
  within = omega (arith, k.within);
  few = record { records = omega (arith, one_more w.log unspent); reads = k.few.reads };
  session = k.session;
  phase = k.phase;
  asking = k.asking;
  low = low_longer w k is.Session refl;
  open_txns = same_open w.log (is.Session ∷ w.log) w.losers.below w.open_txns k.open_txns
      (λ o at h. session_leaves w.log o h) (open_was is.Session w.log (λ e. cc));
  committing = k.committing;
  lost = lost_more w k is.Session tt tt (λ n. refl);
  locks = longer w.log w.open_txns (closing w) w.locks k.locks is.Session refl;
  early = k.early;
  reading = k.reading;
}

-- nobody is open and closing
pub not_committing : (w : TcView) (t : ℕ) → IsTc w → has_ended w.log t ≡ false → is_listed w.committing t ≡ false
not_committing w t k goes_on = ap (λ ts. is_listed ts t) k.committing ∙ open_unlisted w.log w.stable t goes_on

not_closing : (w : TcView) (t : ℕ) → IsTc w → has_ended w.log t ≡ false → w.losers.below ≤ t
    → is_listed (closing w) t ≡ false
not_closing w t k goes_on late =
    list_any-append (λ u. u == t) w.committing (txns w.losers)
    ∙ rw (not_committing w t k goes_on, unlisted_late w.log w.losers k.lost.losers t late) refl

pub unlisted : (w : TcView) (o : OpenTxn) → IsTc w → find o.txn w.open_txns ≡ Some o
    → is_listed (closing w) o.txn ≡ false
unlisted w o k at = not_closing w o.txn k (k.open_txns.each o.txn o at).is.goes_on (late_at w o k at)

-- who is committing is neither open nor a loser
closed : (w : TcView) (t : ℕ) → IsTc w → is_listed w.committing t ≡ true
    → is_holder w.open_txns (txns w.losers) t ≡ false
closed w t k listed = rw (not_open, not_lost) refl
  where
    clash : IsOpen w.log t → ⊥
    clash open_t = true≢false (sym listed ∙ not_committing w t k open_t.goes_on)

    not_open : is_some (find t w.open_txns) ≡ false
    not_open = pick (find t w.open_txns) refl
      where
        pick : (x : Option OpenTxn) → find t w.open_txns ≡ x → is_some (find t w.open_txns) ≡ false
        pick None is = ap is_some is
        pick (Some o) is =
            absurd (clash (let P : ℕ → Type 0 = IsOpen w.log in
            subst P (found_number t w.open_txns o is) (k.open_txns.each t o is).is))

    not_lost : is_listed (txns w.losers) t ≡ false
    not_lost = elim (cases_Bool (is_listed (txns w.losers) t)) [
      | inl lost ↦ absurd (clash (listed_loser w.log w.losers k.lost.losers t lost).open_txn)
      | inr none ↦ none
    ]

-- whoever is open in the log holds, a loser too
open_holder : (w : TcView) (u : ℕ) → IsTc w → IsOpen w.log u → is_holder w.open_txns (closing w) u ≡ true
open_holder w u k open_u =
    elim (cases_lt u w.losers.below) [
      | inl early ↦
          let listed : is_listed (closing w) u ≡ true = list_any-append (λ v. v == u) w.committing (txns w.losers)
          ∙ ap (λ b. is_listed w.committing u || b)
          (loser_listed w.log w.losers k.lost.losers u (record { open_txn = open_u; early = early }))
          ∙ or-true (is_listed w.committing u) in
          ap (λ b. is_some (find u w.open_txns) || b) listed ∙ or-true (is_some (find u w.open_txns))
      | inr late ↦ open_holds w.open_txns (closing w) u (k.open_txns.all u open_u late)
    ]

-- all is stable: reads of open transactions stay
pub keeps_force : (w : TcView) → IsTc w → IsTc (forced w)
keeps_force w k = record {
  legal = k.legal;
  within = omega arith;
  few = record { records = k.few.records; reads = k.few.reads };
  session = omega (arith, k.session, k.within);
  phase = k.phase;
  asking = k.asking;
  low = low_forced w k;
  open_txns = k.open_txns;
  committing = sym (none_committing w.log (length w.log) (omega arith));
  lost = k.lost;
  locks = let_go_held w.log w.open_txns w.committing (txns w.losers) w.locks k.locks (λ t. closed w t k);
  early = early_let_go w.losers.below w.committing w.locks k.locks.table k.early;
  reading = reads_kept w.reads w.open_txns w.locks k.reading (let_go w.committing w.locks)
      (λ t o at. let_go_other w.committing w.locks o.txn k.locks.table
      (not_committing w o.txn k (k.open_txns.each t o at).is.goes_on));
}

-- and a session begins
pub keeps_session : (w : TcView) → IsTc w → is_spent w.log ≡ false → IsTc (reconnected w)
keeps_session w k unspent =
    let f = keeps_force (logged_session w) (keeps_logged w k unspent) in
    record {
      legal = f.legal;
      within = f.within;
      few = record { records = f.few.records; reads = f.few.reads };
      session = omega arith;
      phase = omega (arith, low_within w k);
      asking = λ l is. absurd (cc);
      low = low_started (forced (logged_session w)) f;
      open_txns = f.open_txns;
      committing = f.committing;
      lost = lost_started w.log w.session w.phase w.losers k.legal k.lost;
      locks = f.locks;
      early = f.early;
      reading = f.reading;
    }

-- a transaction begins, above all that are open
pub all_below : (w : TcView) → IsTc w → AreBelow (length w.log + 1) w.open_txns
all_below w k = open_below w.log w.losers.below w.open_txns k.open_txns

pub keeps_begin : (w : TcView) → IsTc w → length w.open_txns < 64 → is_spent w.log ≡ false → IsTc (begun w)
keeps_begin w k less unspent = record {
  legal = (tt, k.legal);
  within = omega (arith, k.within);
  few = record { records = omega (arith, one_more w.log unspent); reads = k.few.reads };
  session = k.session;
  phase = k.phase;
  asking = k.asking;
  low = low_longer w k is.Begin refl;
  open_txns = added_open w.log (is.Begin ∷ w.log) w.losers.below w.open_txns k.open_txns (begun_txn (length w.log + 1))
      refl k.lost.losers.bound less (opens w.log k.legal) (begin_leaves w.log)
      (λ t now. elim (open_had is.Begin w.log t now) [ inl new ↦ inl new.0 | inr was ↦ inr was ]);
  committing = k.committing;
  lost = lost_more w k is.Begin tt tt (λ n. refl);
  locks = begins w.log w.open_txns (closing w) w.locks k.locks (begun_txn (length w.log + 1)) k.legal refl
      (all_below w k)
      (not_closing w (length w.log + 1) k (unended_next w.log k.legal) k.lost.losers.bound);
  early = k.early;
  reading = reads_begun w.reads w.open_txns w.locks k.reading (begun_txn (length w.log + 1)) refl;
}

-- what is known of an open transaction
pub open_at : (w : TcView) (o : OpenTxn) → IsTc w → find o.txn w.open_txns ≡ Some o → IsOpenTxn w.log o
open_at w o k at = k.open_txns.each o.txn o at

pub idle_at : (log : List Record) (o : OpenTxn) → IsOpenTxn log o → o.waiting ≡ None → IsIdle log o.txn
idle_at log o h none = let P : Option ℕ → Type 0 = λ x. Waits log o x in subst P none h.waits

pub waits_at : (log : List Record) (o : OpenTxn) (n : ℕ) → IsOpenTxn log o → o.waiting ≡ Some n → IsWaiting log o n
waits_at log o n h some = let P : Option ℕ → Type 0 = λ x. Waits log o x in subst P some h.waits

pub reading_at : (w : TcView) (o : OpenTxn) (r : Read) → IsTc w → find o.txn w.open_txns ≡ Some o → o.reading ≡ Some r
    → IsReading w.reads w.locks o r
reading_at w o r k at some = k.reading.each o.txn o r at some

-- an operation of an open transaction holds its key
pub held_by : (w : TcView) (n u : ℕ) (q : Op) (s : Span) → IsTc w → IsOpBy w.log n u q → IsOpen w.log u
    → Conflict s (changed_span q) → AnyConflict s (spans_of w.locks u)
held_by w n u q s k by open_u clash =
    let P : List Span → Type 0 = AnyConflict s in
    any_held w.log w.open_txns (closing w) w.locks k.locks u s
    (subst P (sym (held_is w.log w.open_txns (closing w) u (open_holder w u k open_u)))
    (op_spans_has s w.log n u q by clash))

-- so a key that nobody else holds has no operation of another open transaction, unless both are Adds
pub key_free : (w : TcView) (t : ℕ) (op : Op) → IsTc w → IsGrantable w.locks t (changed_span op) → IsKeyFree w.log t op
key_free w t op k free n u o by key open_u =
    elim (cases_eq u t) [
      | inl same ↦ inl same
      | inr apart ↦
          elim (modes_conflict op o) [
            | inl clash ↦ absurd (free u apart (held_by w n u o (changed_span op) k by open_u
                (conflict_at op o (sym key) clash)))
            | inr both ↦ inr both
          ]
    ]

-- an operation on a key that nobody else holds
pub fits_op : (w : TcView) (o : OpenTxn) (op : Op) → IsTc w → find o.txn w.open_txns ≡ Some o → o.waiting ≡ None
    → IsGrantable w.locks o.txn (changed_span op)
    → Fits w.log (is.Op o.txn o.last op)
fits_op w o op k at none free =
    let h = open_at w o k at in
    record { open_txn = h.is; idle = idle_at w.log o h none; prev = h.last; free = key_free w o.txn op k free }

pub keeps_act : (w : TcView) (o : OpenTxn) (op : Op) → IsTc w → find o.txn w.open_txns ≡ Some o → o.waiting ≡ None
    → o.reading ≡ None → o.rolling ≡ None
    → IsGrantable w.locks o.txn (changed_span op) → is_spent w.log ≡ false → IsTc (acted w o op)
keeps_act w o op k at none still flat free unspent =
    let r : Record = is.Op o.txn o.last op in
    let h = open_at w o k at in
    record {
      legal = (fits_op w o op k at none free, k.legal);
      within = omega (arith, k.within);
      few = record { records = omega (arith, one_more w.log unspent); reads = k.few.reads };
      session = k.session;
      phase = k.phase;
      asking = k.asking;
      low = low_longer w k r refl;
      open_txns = replaced_open w.log (r ∷ w.log) w.losers.below w.open_txns k.open_txns
          (acted_txn o (length w.log + 1)) o at
          (acts w.log o op (none_next w.log k.legal) h (idle_at w.log o h none) flat)
          (step_leaves r w.log o.txn refl (λ n. refl)) (open_was r w.log (λ e. cc));
      committing = k.committing;
      lost = lost_more w k r (fits_op w o op k at none free) (late_at w o k at) (λ n. refl);
      locks = takes_key w.log w.open_txns (closing w) w.locks k.locks (acted_txn o (length w.log + 1)) o o.last op at
          free;
      early = early_taken w.losers.below o.txn (changed_span op ∷ spans_of w.locks o.txn) w.locks
          k.locks.table (late_at w o k at) k.early;
      reading = reads_replaced w.reads w.open_txns w.locks k.reading (acted_txn o (length w.log + 1)) o _ at still
          (λ u apart. set_other o.txn (changed_span op ∷ spans_of w.locks o.txn) w.locks u k.locks.table
          apart);
    }

-- a rollback begins or ends, and a savepoint is set or dropped: what the log says of it stays
module _ (w : TcView) (o new : OpenTxn) (k : IsTc w) (at : find o.txn w.open_txns ≡ Some o) where
  pub keeps_bounds : new ≡ record o { rolling = new.rolling; saves = new.saves } → o.waiting ≡ None → o.reading ≡ None
      → IsBounded w.log new
      → IsTc (record w { open_txns = replace new w.open_txns })
  keeps_bounds same none still within =
      let h = open_at w o k at in
      let number : new.txn ≡ o.txn = ap (λ (x : OpenTxn). x.txn) same in
      let found : find new.txn w.open_txns ≡ Some o = ap (λ t. find t w.open_txns) number ∙ at in
      let none_new : new.waiting ≡ None = ap (λ (x : OpenTxn). x.waiting) same ∙ none in
      let P : Option ℕ → Type 0 = λ x. Waits w.log new x in
      record {
        legal = k.legal;
        within = k.within;
        few = record { records = k.few.records; reads = k.few.reads };
        session = k.session;
        phase = k.phase;
        asking = k.asking;
        low = k.low;
        open_txns = replaced_open w.log w.log w.losers.below w.open_txns k.open_txns new o found
            (record {
              is = let Q : ℕ → Type 0 = IsOpen w.log in subst Q (sym number) h.is;
              last = rw same h.last;
              undo = rw same h.undo;
              waits = subst P (sym none_new)
                  (let Q : ℕ → Type 0 = IsIdle w.log in subst Q (sym number) (idle_at w.log o h none));
              saves = within.saves;
              rolling = within.rolling;
            })
            (λ p apart h. h) (λ t h. h);
        committing = k.committing;
        lost = k.lost;
        locks = replaced w.log w.open_txns (closing w) w.locks k.locks new o found;
        early = k.early;
        reading = reads_replaced w.reads w.open_txns w.locks k.reading new o w.locks found
            (ap (λ (x : OpenTxn). x.reading) same ∙ still) (λ u apart. refl);
      }

-- within the log stay what was
taken_within : (log : List Record) (s : ℕ) (saves : List ℕ) → AllByRecursion (λ end. end ≤ length log) saves
    → AllByRecursion (λ end. end ≤ length log) (take s saves)
taken_within log zero saves all = tt
taken_within log (suc s) [] all = tt
taken_within log (suc s) (e ∷ saves) all = (all.0, taken_within log s saves all.1)

more_within : (log : List Record) (saves : List ℕ) → AllByRecursion (λ end. end ≤ length log) saves
    → AllByRecursion (λ end. end ≤ length log) (saves ++ length log ∷ [])
more_within log [] all = (omega arith, tt)
more_within log (e ∷ saves) all = (all.0, more_within log saves all.1)

one_within : (log : List Record) (saves : List ℕ) (n end : ℕ) → AllByRecursion (λ end. end ≤ length log) saves
    → slice_get saves n ≡ Some end → end ≤ length log
one_within log [] n end all at = absurd (cc)
one_within log (e ∷ saves) zero end all at = let same : e ≡ end = cc in omega (arith, same, all.0)
one_within log (e ∷ saves) (suc n) end all at = one_within log saves n end all.1 at

module _ (w : TcView) (o : OpenTxn) (k : IsTc w) (at : find o.txn w.open_txns ≡ Some o) (none : o.waiting ≡ None)
    (still : o.reading ≡ None) where
  pub keeps_rollback : IsTc (rolled w o)
  keeps_rollback = keeps_bounds w o (rolling_txn o) k at refl none still (record {
    saves = (open_at w o k at).saves;
    rolling = λ r some. let same : record { savepoint = None; above = 0 } ≡ r = cc in
        let P : Rollback → Type 0 = IsRollback w.log in
        subst P same (record { whole = λ e. refl; within = omega arith });
  })

  pub keeps_save : IsTc (saved w o)
  keeps_save =
      let h = open_at w o k at in
      keeps_bounds w o (saved_txn o (length w.log)) k at refl none still
      (record { saves = more_within w.log o.saves h.saves; rolling = h.rolling })

  pub keeps_back : (s end : ℕ) → slice_get o.saves (s - 1) ≡ Some end → IsTc (going_back w o s end)
  keeps_back s end is =
      let h = open_at w o k at in
      keeps_bounds w o (going_back_txn o s end) k at refl none still (record {
        saves = taken_within w.log s o.saves h.saves;
        rolling = λ r some. let same : record { savepoint = Some s; above = end } ≡ r = cc in
            let P : Rollback → Type 0 = IsRollback w.log in
            subst P same (record {
              whole = λ e. absurd (cc);
              within = one_within w.log o.saves (s - 1) end h.saves is;
            });
      })

  pub keeps_is_back : IsTc (is_back w o)
  keeps_is_back = keeps_bounds w o (back_txn o) k at refl none still
      (record { saves = (open_at w o k at).saves; rolling = λ r some. absurd (cc) })

-- an answer
pub fits_answer : (w : TcView) (o : OpenTxn) (n : ℕ) (a : Answer) → IsTc w → find o.txn w.open_txns ≡ Some o
    → o.waiting ≡ Some n → Fits w.log (is.Answer n a)
fits_answer w o n a k at some =
    let waits = waits_at w.log o n (open_at w o k at) some in
    let own = own_request w.log o n waits.request in
    record { op = own.op; requested = own.requests; unanswered = waits.unanswered }

-- what a loser awaits is another's
other_due : (w : TcView) (o : OpenTxn) (n : ℕ) → IsTc w → find o.txn w.open_txns ≡ Some o → IsWaiting w.log o n
    → (m : ℕ) → IsOwedAnswer w.log w.losers.below m → m ≢ n
other_due w o n k at waits m due same =
    let P : ℕ → Type 0 = λ x. IsStepOf w.log due.txn x in
    let its : IsStepOf w.log due.txn n = subst P same due.step in
    let mine : IsStepOf w.log o.txn n = (own_request w.log o n waits.request).step in
    let e : Some due.txn ≡ Some o.txn = sym its ∙ mine in
    let equal : due.txn ≡ o.txn = cc in
    omega (arith, equal, due.loser.early, late_at w o k at)

pub keeps_answer : (w : TcView) (o : OpenTxn) (n : ℕ) (a : Answer) → IsTc w → find o.txn w.open_txns ≡ Some o
    → o.waiting ≡ Some n → is_spent w.log ≡ false
    → IsTc (answered w o n a)
keeps_answer w o n a k at some unspent =
    let r : Record = is.Answer n a in
    let h = open_at w o k at in
    let waits = waits_at w.log o n h some in
    record {
      legal = (fits_answer w o n a k at some, k.legal);
      within = omega (arith, k.within);
      few = record { records = omega (arith, one_more w.log unspent); reads = k.few.reads };
      session = k.session;
      phase = k.phase;
      asking = k.asking;
      low = low_longer w k r refl;
      open_txns = replaced_open w.log (r ∷ w.log) w.losers.below w.open_txns k.open_txns (answered_txn o) o at
          (answer_comes w.log o n a h waits)
          (answer_leaves w.log o n a waits) (open_was r w.log (λ e. cc));
      committing = k.committing;
      lost = lost_spared w.log w.session w.phase w.losers r k.lost (fits_answer w o n a k at some, k.legal) tt
          (λ m e. ap (λ b. cond b (Some a) (answer_of w.log m))
          (ne_eqb m n (other_due w o n k at waits m (k.lost.due m e))));
      locks = replaced (r ∷ w.log) w.open_txns (closing w) w.locks
          (longer w.log w.open_txns (closing w) w.locks k.locks r refl) (answered_txn o) o at;
      early = k.early;
      reading = reads_replaced w.reads w.open_txns w.locks k.reading (answered_txn o) o w.locks at
          (no_reading o.reading (λ q reads. let idle : o.waiting ≡ None = (reading_at w o q k at reads).idle in
          absurd (cc))) (λ u apart. refl);
    }

-- whoever waits for an answer is an open transaction
awaited_in : (x : Option OpenTxn) (n : ℕ) (o : OpenTxn) → if_awaits n x ≡ Some o → (x ≡ Some o) × (o.waiting ≡ Some n)
awaited_in None n o h = absurd (cc)
awaited_in (Some p) n o h = pick (is_number p.waiting n) refl h
  where
    number : (m : Option ℕ) → is_number m n ≡ true → m ≡ Some n
    number None h = absurd (cc)
    number (Some m) h = ap Some (eqb-true m n h)

    pick : (b : Bool) → is_number p.waiting n ≡ b → (if b then Some p else None) ≡ Some o
        → (Some p ≡ Some o) × (o.waiting ≡ Some n)
    pick true test same = (same, let e : p ≡ o = cc in ap (λ (x : OpenTxn). x.waiting) (sym e) ∙ number p.waiting test)
    pick false test same = absurd (cc)

pub awaited_is : (w : TcView) (n : ℕ) (o : OpenTxn) → awaiting w n ≡ Some o
    → (find o.txn w.open_txns ≡ Some o) × (o.waiting ≡ Some n)
awaited_is w n o h =
    let found = awaited_in (asker (step_in (record_at w.log n)) w.open_txns) n o h in
    (asked (step_in (record_at w.log n)) found.0, found.1)
  where
    asked : (x : Option ℕ) → asker x w.open_txns ≡ Some o → find o.txn w.open_txns ≡ Some o
    asked None is = absurd (cc)
    asked (Some t) is = found_own t w.open_txns o is

-- and each open transaction that waits is found by what it waits for
pub awaits : (w : TcView) (o : OpenTxn) (n : ℕ) → IsTc w → find o.txn w.open_txns ≡ Some o → o.waiting ≡ Some n
    → awaiting w n ≡ Some o
awaits w o n k at some =
    let own = own_request w.log o n (waits_at w.log o n (open_at w o k at) some).request in
    ap (λ (x : Option ℕ). if_awaits n (asker x w.open_txns)) own.step ∙ ap (if_awaits n) at
    ∙ ap (λ (x : Option ℕ). if is_number x n then Some o else None) some
    ∙ ap (λ b. if b then Some o else None) (eq-eqb n n refl)

-- what was just answered is
pub newly_answered : (log : List Record) (n : ℕ) (a : Answer) → IsSome (answer_of (is.Answer n a ∷ log) n)
newly_answered log n a = ap (λ b. is_some (cond b (Some a) (answer_of log n))) (eq-eqb n n refl)

-- redo goes on
pub phase_passed : (c s n : ℕ) (p : Phase) → takes s p n ≡ true → IsPhase c s p → IsPhase c s (next_phase p n)
phase_passed c s n phase.Unconnected test h = absurd (cc)
phase_passed c s n phase.Connecting test h = absurd (cc)
phase_passed c s n (phase.Redoing next ending) test h =
    (grind (arith, nat_tests, test, h.0), grind (arith, nat_tests, test), λ e. absurd (true≢false (sym e)))
phase_passed c s n (phase.Undoing waiting) test h = h
phase_passed c s n phase.Running test h = h

pub keeps_passed : (w : TcView) (n : ℕ) → takes w.session w.phase n ≡ true
    → ((o : Op) → Requests w.log n o → IsSome (answer_of w.log n)) → IsTc w → IsTc (passed w n)
keeps_passed w n taken answered k = record {
  legal = k.legal;
  within = k.within;
  few = record { records = k.few.records; reads = k.few.reads };
  session = k.session;
  phase = phase_passed w.checkpointed w.session n w.phase taken k.phase;
  asking = λ l is. ap (λ p. next_phase p n) (k.asking l is);
  low = k.low;
  open_txns = k.open_txns;
  committing = k.committing;
  lost = lost_passed w.log w.session w.phase w.losers n k.lost taken answered;
  locks = k.locks;
  early = k.early;
  reading = k.reading;
}
