-- Who waits for a request that has no answer, and on whose key it is.
use Rattle.std.proofs.Common.{◌≡◌, ℕ, ◌<◌, List, Option, Some, None, IsSome, is_some, refl, sym, ap, ◌∙◌, subst, inl, inr, ◌⊎◌, true≢false, true}
use Rattle.std.proofs.lemmas.Bool.{cases_eq, cases_lt, cases_Bool}
use Rattle.tc_core.proofs.Losers.{some_lost}
use Rattle.record_key.specs.declared.op.Op.{Op}
use Rattle.record_key.specs.Table.{key_of}
use Rattle.inverse.proofs.Undo.{inverse_key}
use Rattle.history.specs.declared.record.Record.{Record}
use Rattle.history.specs.declared.record.Record.TheVariants as is
use Rattle.history.specs.Log.{record_at, before, answer_of, has_ended, request_in, step_in, op_in, IsOpen, IsOpBy, IsStepOf, Requests}
use Rattle.history.specs.Legal.{IsLegal}
use Rattle.log_laws.proofs.Records.{AnOp, op_same, record_before, request_step}
use Rattle.log_laws.proofs.LegalLogs.{begun, fits_at, stands_number, step_number}
use Rattle.log_laws.proofs.Strict.{ended_answered}
use Rattle.log_laws.proofs.Undo.{number_before}
use Rattle.tc_core.specs.declared.open_txn.OpenTxn.{OpenTxn}
use Rattle.tc_core.specs.OpenTxns.{find}
use Rattle.tc_core.specs.TcView.{TcView, is_none_lost}
use Rattle.tc_core.specs.tc_restart.specs.Losers.{IsLoser}
use Rattle.tc_core.specs.Kept.{IsOwedAnswer, IsTc}
use Rattle.tc_core.proofs.Finding.{found_number, found_own}
use Rattle.tc_core.specs.Replies.{Outcome, awaiting, lacks, on_lost, passed}
use Rattle.tc_core.specs.declared.told.Told.TheVariants as told
use Rattle.record_key.specs.declared.op.Answer.{Answer}
use Rattle.tc_core.proofs.KeepsTc.{open_at, idle_at, waits_at, awaits}
use Rattle.tc_core.proofs.KeepsLost.{fits_lacking}
use Rattle.std.specs.Prelude.{Bool, if◌then◌else◌}

-- an open transaction waits for this number
pub record IsAwaited (w : TcView) (n : ℕ) : Type 0 where
  pub open_txn : OpenTxn
  pub is : find open_txn.txn w.open_txns ≡ Some open_txn
  pub step : IsStepOf w.log open_txn.txn n
  pub waiting : open_txn.waiting ≡ Some n

-- a request is answered, or an open transaction waits for it, or it is a loser's
abbrev pub IsAnsweredOr : TcView → ℕ → Type 0
IsAnsweredOr w n = IsSome (answer_of w.log n) ⊎ (IsAwaited w n ⊎ IsOwedAnswer w.log w.losers.below n)

pub answered_or_due : (w : TcView) (n : ℕ) (o : Op) → IsTc w → Requests w.log n o → IsAnsweredOr w n
answered_or_due w n o k requests =
    let found = request_step o (record_at w.log n) requests in
    elim (cases_Bool (has_ended w.log found.0)) [
      | inl e ↦ inl (ended_answered w.log found.0 n o k.legal e found.1 requests)
      | inr e ↦
          let open_t : IsOpen w.log found.0 = record { begun = begun w.log found.0 n k.legal found.1; goes_on = e } in
          elim (cases_lt found.0 w.losers.below) [
            | inl early ↦ by_answer found.0 found.1 (record { open_txn = open_t; early = early }) (answer_of w.log n)
                refl
            | inr late ↦ by_open found.0 found.1 (find found.0 w.open_txns) refl (k.open_txns.all found.0 open_t late)
          ]
    ]
  where
    by_answer : (t : ℕ) → IsStepOf w.log t n → IsLoser w.log w.losers.below t → (a : Option Answer)
        → answer_of w.log n ≡ a → IsAnsweredOr w n
    by_answer t step loser (Some a) is = inl (ap is_some is)
    by_answer t step loser None none =
        inr (inr (record { txn = t; loser = loser; op = o; step = step; requests = requests; unanswered = none }))

    by_waiting : (x : OpenTxn) → find x.txn w.open_txns ≡ Some x → IsStepOf w.log x.txn n → (m : Option ℕ)
        → x.waiting ≡ m → IsAnsweredOr w n
    by_waiting x at step None none = inl (idle_at w.log x (open_at w x k at) none n o step requests)
    by_waiting x at step (Some m) some = elim (cases_eq n m) [
      | inl e ↦ inr (inl (record { open_txn = x; is = at; step = step; waiting = some ∙ ap Some (sym e) }))
      | inr apart ↦ inl ((waits_at w.log x m (open_at w x k at) some).only n o step requests apart)
    ]

    by_open : (t : ℕ) → IsStepOf w.log t n → (x : Option OpenTxn) → find t w.open_txns ≡ x
        → IsSome (find t w.open_txns) → IsAnsweredOr w n
    by_open t step None at some = absurd (true≢false (sym some ∙ ap is_some at))
    by_open t step (Some x) at some =
        let P : ℕ → Type 0 = λ u. IsStepOf w.log u n in
        by_waiting x (found_own t w.open_txns x at) (subst P (sym (found_number t w.open_txns x at)) step) x.waiting
        refl

-- where nobody has lost an open transaction waits for it
pub answered_or : (w : TcView) (n : ℕ) (o : Op) → IsTc w → is_none_lost w.losers ≡ true → Requests w.log n o
    → IsSome (answer_of w.log n) ⊎ IsAwaited w n
answered_or w n o k unlost requests = elim (answered_or_due w n o k requests) [
  | inl some ↦ inl some
  | inr (inl a) ↦ inr a
  | inr (inr due) ↦ absurd (true≢false (sym unlost ∙ some_lost w.log w.losers due.txn k.lost.losers due.loser))
]

-- who lacks its answer, and no open transaction waits for it, is a loser's
pub lacking_due : (w : TcView) (n : ℕ) → IsTc w → lacks w n ≡ true → awaiting w n ≡ None → IsOwedAnswer w.log w.losers.below n
lacking_due w n k lacking nobody =
    let fits = fits_lacking w n lacking in
    elim (answered_or_due w n fits.op k fits.requested) [
      | inl some ↦ absurd (true≢false (sym some ∙ ap is_some fits.unanswered))
      | inr (inl a) ↦ let clash : None ≡ Some a.open_txn = sym nobody ∙ awaits w a.open_txn n k a.is a.waiting in
          absurd (cc)
      | inr (inr due) ↦ due
    ]

-- what an answer comes to that no open transaction waits for
abbrev pub lost_if : TcView → ℕ → Option Answer → Bool → Outcome
lost_if w n a b = if b then on_lost w n a else (told.Nothing, passed w n)

-- a request of a transaction is on the key of one of its operations: a compensation is on that of the one that it
-- undoes
pub record IsOnOwnKey (log : List Record) (t : ℕ) (q : Op) : Type 0 where
  pub number : ℕ
  pub op : Op
  pub is : IsOpBy log number t op
  pub key : key_of q ≡ key_of op

pub own_key : (log : List Record) (n t : ℕ) (q : Op) → IsLegal log → IsStepOf log t n → Requests log n q
    → IsOnOwnKey log t q
own_key log n t q legal step requests = by (record_at log n) refl step requests
  where
    by : (r : Option Record) → record_at log n ≡ r → step_in r ≡ Some t → request_in r ≡ Some q → IsOnOwnKey log t q
    by None at s asks = absurd (cc)
    by (Some (is.Op u p o)) at s asks =
        let same : u ≡ t = cc in
        record {
          number = n;
          op = o;
          is = ap op_in at ∙ ap (λ (v : ℕ). Some (v, o)) same;
          key = ap key_of (let e : q ≡ o = cc in e);
        }
    by (Some (is.Comp u m x i)) at s asks =
        let fits = fits_at log n (is.Comp u m x i) legal at in
        let stands = fits.latest.is in
        let undone = fits.inverse in
        let below : m < n = number_before log n m (step_number log n t step)
        (stands_number (before log n) u m stands) in
        let own : IsOpBy log m u stands.op =
        subst (AnOp u stands.op) (record_before log m n (step_number log n t step) below) stands.is in
        let P : ℕ → Type 0 = λ v. IsOpBy log m v stands.op in
        let same : u ≡ t = cc in
        record {
          number = m;
          op = stands.op;
          is = subst P same own;
          key = inverse_key undone.op q undone.answer (sym undone.inverse ∙ asks)
              ∙ ap key_of (op_same undone.txn u undone.op stands.op (record_at (before log n) m) undone.is stands.is).1;
        }
    by (Some r) at s asks = absurd (cc)
