-- Who is listed as a loser, and what the records of others leave of losers.
use Rattle.std.proofs.Common.{◌≡◌, ◌≢◌, ℕ, ◌+◌, ◌<◌, ◌≤◌, Bool, true, false, List, [], ◌∷◌, length, Option, Some, None, IsSome, is_some, cond, refl, sym, ap, ◌∙◌, subst, arith, inl, inr, eq-eqb, eqb-true, ne_eqb, true≢false}
use Rattle.std.specs.Prelude.{◌||◌, ◌==◌, if◌then◌else◌}
use Rattle.std.proofs.lemmas.Bool.Decides.{nat_tests}
use Rattle.std.specs.List.{All}
use Rattle.std.proofs.lemmas.Bool.{cases_eq, cases_Bool, or_cases}
use Rattle.std.proofs.lemmas.List.Elements.{All-head, All-tail}
use Rattle.std.proofs.Math.Bool.{or-true}
use Rattle.record_key.specs.declared.op.Op.{Op}
use Rattle.record_key.specs.declared.op.Answer.{Answer}
use Rattle.history.specs.declared.record.Record.{Record}
use Rattle.history.specs.declared.record.Record.TheVariants as is
use Rattle.history.specs.Log.{answer_of, Requests}
use Rattle.history.specs.Legal.{Fits, IsLegal}
use Rattle.log_laws.proofs.Records.{AStep, ARequest, older_at, kept_at, newest_at}
use Rattle.log_laws.proofs.LegalLogs.{answered_push, step_number}
use Rattle.tc_restart.specs.Lists.{times}
use Rattle.tc_restart.specs.Losers.{LosersView, txns, IsLoser, AreLosers}
use Rattle.tc_restart.specs.Laws.{SparesBelow}
use Rattle.tc_restart.proofs.Lists.{times_other}
use Rattle.tc_restart.proofs.Losing.{loser_kept, loser_had}
use Rattle.tc_restart.proofs.Taking.{spared_step, spared_commit, spared_end, others_spare}
use Rattle.tc_core.specs.declared.phase.Phase.{Phase}
use Rattle.tc_core.specs.declared.phase.Phase.TheVariants as phase
use Rattle.tc_core.specs.declared.open_txn.OpenTxn.{OpenTxn}
use Rattle.tc_core.specs.OpenTxns.{find}
use Rattle.tc_core.specs.Locking.{is_listed}
use Rattle.tc_core.specs.TcView.{TcView, is_nil, is_none_lost}
use Rattle.tc_core.specs.Replies.{takes, left_awaited, next_phase}
use Rattle.tc_core.specs.Kept.{IsPhaseOf, MayLack, IsOwedAnswer, AreLost, IsTc}

-- who is listed is one of them, and who is counted is listed
listed_all : (P : ℕ → Type 0) (ts : List ℕ) (t : ℕ) → All P ts → is_listed ts t ≡ true → P t
listed_all P [] t all h = absurd (cc)
listed_all P (u ∷ ts) t all h =
    elim (or_cases (u == t) (is_listed ts t) h) [
      | inl e ↦ subst P (eqb-true u t e) (All-head P u ts all)
      | inr later ↦ listed_all P ts t (All-tail P u ts all) later
    ]

listed_once : (ts : List ℕ) (t : ℕ) → 0 < times t ts → is_listed ts t ≡ true
listed_once [] t h = absurd (omega (arith, h))
listed_once (u ∷ ts) t h =
    elim (cases_eq t u) [
      | inl e ↦ ap (λ b. b || is_listed ts t) (eq-eqb u t (sym e))
      | inr e ↦ ap (λ b. (u == t) || b) (listed_once ts t (omega (arith, h, times_other t u ts e))) ∙ or-true (u == t)
    ]

module _ (log : List Record) (l : LosersView) (h : AreLosers log l) where
  pub listed_loser : (t : ℕ) → is_listed (txns l) t ≡ true → IsLoser log l.below t
  listed_loser t listed = listed_all (IsLoser log l.below) (txns l) t h.listed.right listed

  pub loser_listed : (t : ℕ) → IsLoser log l.below t → is_listed (txns l) t ≡ true
  loser_listed t is = listed_once (txns l) t (omega (arith, h.listed.once t is))

  -- no loser began later
  pub unlisted_late : (t : ℕ) → l.below ≤ t → is_listed (txns l) t ≡ false
  unlisted_late t late = elim (cases_Bool (is_listed (txns l) t)) [
    | inl listed ↦ absurd (omega (arith, (listed_loser t listed).early, late))
    | inr unlisted ↦ unlisted
  ]

-- the same are listed where the same are losers
pub same_listed : (log log2 : List Record) (l l2 : LosersView) → AreLosers log l → AreLosers log2 l2 → (t : ℕ)
    → (IsLoser log l.below t → IsLoser log2 l2.below t) → (IsLoser log2 l2.below t → IsLoser log l.below t)
    → is_listed (txns l2) t ≡ is_listed (txns l) t
same_listed log log2 l l2 h h2 t there back =
    elim (cases_Bool (is_listed (txns l) t)) [
      | inl listed ↦ loser_listed log2 l2 h2 t (there (listed_loser log l h t listed)) ∙ sym listed
      | inr unlisted ↦ elim (cases_Bool (is_listed (txns l2) t)) [
        | inl listed ↦ absurd (true≢false
            (sym (loser_listed log l h t (back (listed_loser log2 l2 h2 t listed))) ∙ unlisted))
        | inr unlisted_now ↦ unlisted_now ∙ sym unlisted
      ]
    ]

-- what has no answer had none
pub unanswered_was : (r : Record) (log : List Record) (n : ℕ) → answer_of (r ∷ log) n ≡ None → answer_of log n ≡ None
unanswered_was r log n none = pick (is_some (answer_of log n)) refl (answer_of log n) refl
  where
    pick : (b : Bool) → is_some (answer_of log n) ≡ b → (a : Option _) → answer_of log n ≡ a → answer_of log n ≡ None
    pick true some a at = absurd (true≢false (sym (answered_push n r log some) ∙ ap is_some none))
    pick false some None at = at
    pick false some (Some a) at = absurd (true≢false (sym (ap is_some at) ∙ some))

module _ (r : Record) (log : List Record) (below : ℕ) (legal : IsLegal (r ∷ log)) where
  -- a loser's request stays one
  pub due_kept : (n : ℕ) (h : IsOwedAnswer log below n) → (r ≡ is.Commit h.txn → ⊥) → (r ≡ is.End h.txn → ⊥)
      → answer_of (r ∷ log) n ≡ None → IsOwedAnswer (r ∷ log) below n
  due_kept n h commits ends unanswered =
      let number = step_number log n h.txn h.step in
      record {
        txn = h.txn;
        loser = loser_kept r log legal below h.txn commits ends h.loser;
        op = h.op;
        step = kept_at (AStep h.txn) r log n number h.step;
        requests = kept_at (ARequest h.op) r log n number h.requests;
        unanswered = unanswered;
      }

  -- and was one, where it isn't the newest record
  pub due_was : (n : ℕ) → below ≤ length log + 1 → n ≢ length log + 1 → IsOwedAnswer (r ∷ log) below n → IsOwedAnswer log below n
  due_was n bound apart h = record {
    txn = h.txn;
    loser = loser_had r log legal below h.txn bound h.loser;
    op = h.op;
    step = older_at (AStep h.txn) r log n apart h.step;
    requests = older_at (ARequest h.op) r log n apart h.requests;
    unanswered = unanswered_was r log n h.unanswered;
  }

-- the record of another leaves what losers await, where it answers nothing of that
pub lost_spared : (log : List Record) (s : ℕ) (p : Phase) (l : LosersView) (r : Record) → AreLost log s p l
    → IsLegal (r ∷ log) → SparesBelow l.below r
    → ((n : ℕ) → p ≡ phase.Undoing (Some n) → answer_of (r ∷ log) n ≡ answer_of log n) → AreLost (r ∷ log) s p l
lost_spared log s p l r h legal spares same = record {
  losers = others_spare log r l h.losers legal spares;
  phase_of = h.phase_of;
  lacking = λ n due. elim (cases_eq n (length log + 1)) [
    | inl e ↦ absurd (spared_step l.below r due.txn spares due.loser.early
        (newest_at (AStep due.txn) r log n e due.step))
    | inr e ↦ h.lacking n (due_was r log l.below legal n h.losers.bound e due)
  ];
  due = λ n e. let was = h.due n e in
      due_kept r log l.below legal n was (spared_commit l.below r was.txn spares was.loser.early)
      (spared_end l.below r was.txn spares was.loser.early)
      (same n e ∙ was.unanswered);
}

-- a session begins: what losers await is before its record
pub lost_started : (log : List Record) (s : ℕ) (p : Phase) (l : LosersView) → IsLegal log → AreLost log s p l
    → AreLost (is.Session ∷ log) (length log + 1) phase.Connecting l
lost_started log s p l legal h =
    let r : Record = is.Session in
    record {
      losers = others_spare log r l h.losers (tt, legal) tt;
      phase_of = tt;
      lacking = λ n due. elim (cases_eq n (length log + 1)) [
        | inl e ↦ let none : AStep due.txn (Some r) = newest_at (AStep due.txn) r log n e due.step in absurd (cc)
        | inr e ↦ let was = due_was r log l.below (tt, legal) n h.losers.bound e due in
            omega (arith, (step_number log n was.txn was.step).bounded)
      ];
      due = λ n e. absurd (cc);
    }

-- a number that has its answer isn't awaited any more
not_due : (log : List Record) (below n m : ℕ) → IsOwedAnswer log below m
    → ((o : Op) → Requests log n o → IsSome (answer_of log n)) → m ≢ n
not_due log below n m due answered same =
    let P : ℕ → Type 0 = λ x. Requests log x due.op in
    let some : IsSome (answer_of log n) = answered due.op (subst P same due.requests) in
    let none : is_some (answer_of log n) ≡ false = ap is_some (ap (answer_of log) (sym same) ∙ due.unanswered) in
    true≢false (sym some ∙ none)

still_awaits : (m n : ℕ) → m ≢ n → left_awaited (Some m) n ≡ Some m
still_awaits m n apart = ap (λ b. if b then None else Some m) (ne_eqb m n apart)

awaited_was : (waiting : Option ℕ) (n m : ℕ) → left_awaited waiting n ≡ Some m → waiting ≡ Some m
awaited_was None n m e = absurd (cc)
awaited_was (Some x) n m e = pick (x == n) e
  where
    pick : (b : Bool) → (if b then None else Some x) ≡ Some m → Some x ≡ Some m
    pick true same = absurd (cc)
    pick false same = same

-- what is awaited besides that number is awaited still
lack_passed : (s : ℕ) (p : Phase) (n m : ℕ) → takes s p n ≡ true → m ≢ n → MayLack s p m → MayLack s (next_phase p n) m
lack_passed s phase.Unconnected n m test apart lacks = absurd (cc)
lack_passed s phase.Connecting n m test apart lacks = absurd (cc)
lack_passed s (phase.Redoing next ending) n m test apart lacks =
    let here : next ≡ n = grind (arith, nat_tests, test) in (omega (arith, here, lacks.0, apart), lacks.1)
lack_passed s (phase.Undoing waiting) n m test apart lacks = ap (λ x. left_awaited x n) lacks ∙ still_awaits m n apart
lack_passed s phase.Running n m test apart lacks = lacks

due_passed : (p : Phase) (n m : ℕ) → next_phase p n ≡ phase.Undoing (Some m) → (p ≡ phase.Undoing (Some m)) × (m ≢ n)
due_passed phase.Unconnected n m e = absurd (cc)
due_passed phase.Connecting n m e = absurd (cc)
due_passed (phase.Redoing next ending) n m e = absurd (cc)
due_passed (phase.Undoing waiting) n m e =
    let left : left_awaited waiting n ≡ Some m = cc in
    let was : waiting ≡ Some m = awaited_was waiting n m left in (
      ap phase.Undoing was,
      λ same. let none : left_awaited (Some m) n ≡ None = ap (λ b. if b then None else Some m) (eq-eqb m n same) in
          let some : left_awaited (Some m) n ≡ Some m = sym (ap (λ x. left_awaited x n) was) ∙ left in
          let clash : None ≡ Some m = sym none ∙ some in cc,
    )
due_passed phase.Running n m e = absurd (cc)

phase_of_passed : (l : LosersView) (p : Phase) (n : ℕ) → IsPhaseOf l p → IsPhaseOf l (next_phase p n)
phase_of_passed l phase.Unconnected n h = h
phase_of_passed l phase.Connecting n h = h
phase_of_passed l (phase.Redoing next ending) n h = h
phase_of_passed l (phase.Undoing waiting) n h = h
phase_of_passed l phase.Running n h = h

pub lost_passed : (log : List Record) (s : ℕ) (p : Phase) (l : LosersView) (n : ℕ) → AreLost log s p l
    → takes s p n ≡ true
    → ((o : Op) → Requests log n o → IsSome (answer_of log n)) → AreLost log s (next_phase p n) l
lost_passed log s p l n h test answered = record {
  losers = h.losers;
  phase_of = phase_of_passed l p n h.phase_of;
  lacking = λ m due. lack_passed s p n m test (not_due log l.below n m due answered) (h.lacking m due);
  due = λ m e. h.due m (due_passed p n m e).0;
}

-- a loser's answer
pub lost_answered : (log : List Record) (s : ℕ) (p : Phase) (l : LosersView) (n : ℕ) (a : Answer) → AreLost log s p l
    → takes s p n ≡ true → IsLegal (is.Answer n a ∷ log) → AreLost (is.Answer n a ∷ log) s (next_phase p n) l
lost_answered log s p l n a h test legal =
    let r : Record = is.Answer n a in
    record {
      losers = others_spare log r l h.losers legal tt;
      phase_of = phase_of_passed l p n h.phase_of;
      lacking = λ m due. elim (cases_eq m (length log + 1)) [
        | inl e ↦ let none : AStep due.txn (Some r) = newest_at (AStep due.txn) r log m e due.step in absurd (cc)
        | inr e ↦ lack_passed s p n m test
            (λ same. let some : answer_of (r ∷ log) m
            ≡ Some a = ap (λ b. cond b (Some a) (answer_of log m)) (eq-eqb m n same) in
            let clash : None ≡ Some a = sym due.unanswered ∙ some in cc)
            (h.lacking m (due_was r log l.below legal m h.losers.bound e due))
      ];
      due = λ m e.
          let was = due_passed p n m e in
          let due = h.due m was.0 in
          due_kept r log l.below legal m due (λ e. cc) (λ e. cc)
          (ap (λ b. cond b (Some a) (answer_of log m)) (ne_eqb m n was.1) ∙ due.unanswered);
    }

-- so does one that is no answer
pub lost_more : (w : TcView) (k : IsTc w) (r : Record) → Fits w.log r → SparesBelow w.losers.below r
    → ((n : ℕ) → answer_of (r ∷ w.log) n ≡ answer_of w.log n) → AreLost (r ∷ w.log) w.session w.phase w.losers
lost_more w k r fits spares same =
    lost_spared w.log w.session w.phase w.losers r k.lost (fits, k.legal) spares (λ n e. same n)

-- an open transaction is no loser
pub late_at : (w : TcView) (o : OpenTxn) → IsTc w → find o.txn w.open_txns ≡ Some o → w.losers.below ≤ o.txn
late_at w o k at = k.open_txns.late o.txn o at

-- where there is a loser not all have ended
pub some_lost : (log : List Record) (l : LosersView) (t : ℕ) → AreLosers log l → IsLoser log l.below t
    → is_none_lost l ≡ false
some_lost log l t h is = pick (txns l) (loser_listed log l h t is)
  where
    pick : (ts : List ℕ) → is_listed ts t ≡ true → is_nil ts ≡ false
    pick [] listed = absurd (cc)
    pick (u ∷ ts) listed = refl
