-- Compensations come latest first, an open transaction has its keys to itself, and requests on a key come one at a
-- time, but for Adds.
use Rattle.std.proofs.Common.{rules, ◌≡◌, ◌≢◌, ℕ, ◌+◌, ◌<◌, true, List, [], ◌∷◌, length, Option, Some, None, IsSome, refl, sym, ap, ◌∙◌, subst, arith, inl, inr, ◌⊎◌, true≢false}
use Rattle.std.proofs.lemmas.Bool.{cases_eq, cases_Bool, cases_order}
use Rattle.record_key.specs.declared.op.Op.{Op}
use Rattle.record_key.specs.Table.{key_of, is_add}
use Rattle.inverse.proofs.Undo.{inverse_key}
use Rattle.history.specs.declared.record.Record.{Record}
use Rattle.history.specs.declared.record.Record.TheVariants as is
use Rattle.history.specs.Log.{record_at, answer_of, has_ended, IsOpen, Requests, IsStepOf, IsOpBy}
use Rattle.history.specs.Legal.{Fits, IsLegal, IsIdle}
use Rattle.history.specs.Chains.{IsWellChained, IsStrict, IsEndOf, EndsBetween, adds_next, adds_at}
use Rattle.log_laws.specs.Laws.{LegalIsChainedAndStrict, LegalIsOneAtATime}
use Rattle.log_laws.proofs.Records.{AStep, AnOp, ARequest, op_step, op_request, request_step, op_same, at_newest, newest_at, older_at, had_at, kept_at, IsNumber, which, not_newest, within, before_newest, before_older}
use Rattle.log_laws.proofs.Adding.{adds_newest, adds_kept, both_kept, op_adds, comp_adds}
use Rattle.log_laws.proofs.LegalLogs.{ended_push, ended_cases, answered_push, step_open, step_idle, step_ends_none, begun, op_number, request_number, step_number}

-- each compensation fits, so it takes the latest and leaves the next
pub well_chained : (log : List Record) → IsLegal log → IsWellChained log
well_chained [] h = tt
well_chained (is.Comp t u x i ∷ log) h = (h.0.latest, h.0.next, well_chained log h.1)
well_chained (r ∷ log) h = well_chained log h.1

-- an end of the transaction stands after this number
pub record EndsAfter (log : List Record) (t n : ℕ) : Type 0 where
  pub end : ℕ
  pub is_end : IsEndOf log t end
  pub after : n < end

-- a record of which it can be said that it is a Commit or End of the transaction
abbrev pub AnEnd : ℕ → Option Record → Type 0
AnEnd t r = (r ≡ Some (is.Commit t)) ⊎ (r ≡ Some (is.End t))

-- no record is no end
no_end : (t : ℕ) → AnEnd t None → ⊥
no_end t h = grind arith

-- a record that is an end is one where it stands
some_end : (t : ℕ) (r : Record) → (r ≡ is.Commit t) ⊎ (r ≡ is.End t) → AnEnd t (Some r)
some_end t r h = grind arith

-- an end is a number of the log
pub end_number : (log : List Record) (t n : ℕ) → IsEndOf log t n → IsNumber log n
end_number log t n h = within (AnEnd t) (no_end t) log n h

-- and stays one in a longer log
kept_end : (r : Record) (log : List Record) (t n : ℕ) → EndsAfter log t n → EndsAfter (r ∷ log) t n
kept_end r log t n h = search (rules, arith, kept_at (AnEnd t) r log h.end (end_number log t h.end h.is_end) h.is_end)

-- a transaction that has a step and has ended did so after the step
pub ended_after : (log : List Record) (t n : ℕ) → IsLegal log → IsStepOf log t n → has_ended log t ≡ true
    → EndsAfter log t n
ended_after [] t n h s ended = absurd (cc)
ended_after (r ∷ log) t n h s ended =
    elim (which r log n (step_number (r ∷ log) n t s)) [
      | inl e ↦
          let step : AStep t (Some r) = newest_at (AStep t) r log n e s in
          absurd (true≢false (sym ended ∙ step_ends_none log r t t step ∙ (step_open log r t h.0 step).goes_on))
      | inr was ↦
          elim (ended_cases t r log ended) [
            | inl ago ↦ kept_end r log t n (ended_after log t n h.1 (had_at (AStep t) r log n was s) ago)
            | inr now ↦ record {
              end = length log + 1;
              is_end = at_newest (AnEnd t) r log (length log + 1) refl (some_end t r now);
              after =
                  omega (arith, was.bounded);
            }
          ]
    ]

-- an end of a transaction ends it
is_end_ends : (t : ℕ) (r : Record) (log : List Record) → AnEnd t (Some r) → has_ended (r ∷ log) t ≡ true
is_end_ends t r log h = grind arith

-- so it does from its number on
pub end_ends : (log : List Record) (t n : ℕ) → IsEndOf log t n → has_ended log t ≡ true
end_ends [] t n h = absurd (no_end t h)
end_ends (r ∷ log) t n h =
    elim (cases_eq n (length log + 1)) [
      | inl e ↦ is_end_ends t r log (newest_at (AnEnd t) r log n e h)
      | inr e ↦ ended_push t r log (end_ends log t n (older_at (AnEnd t) r log n e h))
    ]

-- what lies between two numbers does so in a longer log
longer_between : (r : Record) (log : List Record) (t n m : ℕ) → EndsBetween log t n m → EndsBetween (r ∷ log) t n m
longer_between r log t n m h =
    search (rules, arith, kept_at (AnEnd t) r log h.end (end_number log t h.end h.is) h.is)

-- the transaction of an older operation is open or ended since
open_or_ended : (log : List Record) (t n : ℕ) → IsLegal log → IsStepOf log t n → IsOpen log t ⊎ EndsAfter log t n
open_or_ended log t n h s = grind (arith, cases_Bool, ended_after, begun)

-- what lies after a number lies between it and the newest
between_newest : (r : Record) (log : List Record) (t n m : ℕ) → m ≡ length log + 1 → EndsAfter log t n
    → EndsBetween (r ∷ log) t n m
between_newest r log t n m e h =
    let is_number : IsNumber log h.end = end_number log t h.end h.is_end in
    search (rules, arith)

-- an operation that is an Add, and a record that does or undoes one
abbrev AddsToo : Op → List Record → Record → Type 0
AddsToo o log r = (is_add o ≡ true) × (adds_next log r ≡ true)

-- what strictness says at the newest record
abbrev StrictAt : Record → List Record → Type 0
StrictAt r log = (n t u : ℕ) (o q : Op) → IsOpBy log n t o → AStep u (Some r) → ARequest q (Some r) → key_of q
    ≡ key_of o → u ≢ t → AddsToo o log r ⊎ EndsAfter log t n

-- an Op needs a free key; a Comp is on the key of its own operation, which is strict towards the other
strict_at : (r : Record) (log : List Record) → Fits log r → IsLegal log → IsStrict log → StrictAt r log
strict_at (is.Op v p q') log fits legal strict n t u o q is_op s asks same other = grind (arith, open_or_ended, op_step)
strict_at (is.Comp v w x i) log fits legal strict n t u o q is_op s asks same other =
    let undone = fits.inverse in
    let one : v ≡ u = cc in
    let latest = fits.latest.is in
    let is_latest : IsOpBy log w u undone.op =
    subst (λ (z : ℕ). IsOpBy log w z undone.op)
    ((op_same undone.txn v undone.op latest.op (record_at log w) undone.is latest.is).0 ∙ one) undone.is in
    let key : key_of q ≡ key_of undone.op = inverse_key undone.op q undone.answer (sym undone.inverse ∙ asks) in
    let adds : adds_next log (is.Comp v w x i) ≡ adds_at log w =
    comp_adds log v w x u i undone.op is_latest ∙ sym (op_adds log w u undone.op is_latest) in
    let op_too : is_add o ≡ adds_at log n = sym (op_adds log n t o is_op) in
    elim (cases_order n w) [
      | inl e ↦ absurd (other (op_same u t undone.op o (record_at log w) is_latest
          (subst (λ (z : ℕ). IsOpBy log z t o) e is_op)).0)
      | inr (inl below) ↦
          elim (strict n w t u o undone.op is_op below (op_step u undone.op (record_at log w) is_latest)
          (op_request u undone.op (record_at log w) is_latest) (sym key ∙ same) other) [
            | inl both ↦ inl (op_too ∙ both.0, adds ∙ both.1)
            | inr found ↦ inr (record { end = found.end; is_end = found.is; after = found.after })
          ]
      | inr (inr above) ↦
          elim (strict w n u t undone.op o is_latest above (op_step t o (record_at log n) is_op)
          (op_request t o (record_at log n) is_op) (sym same ∙ key) (λ e. other (sym e))) [
            | inl both ↦ inl (op_too ∙ both.1, adds ∙ both.0)
            | inr found ↦ absurd (true≢false (sym (end_ends log u found.end found.is) ∙ ap (has_ended log) (sym one)
                ∙ fits.open_txn.goes_on))
          ]
    ]
strict_at _ log fits legal strict n t u o q is_op s asks same other = absurd (cc)

-- a legal log is strict
pub strict : (log : List Record) → IsLegal log → IsStrict log
strict [] legal n m t u o q is_op below s asks same other = absurd (cc)
strict (r ∷ log) legal n m t u o q is_op below s asks same other =
    let older : IsNumber log n = record {
      positive = (op_number (r ∷ log) n t o is_op).positive;
      bounded = omega (arith, (step_number (r ∷ log) m u s).bounded);
    } in
    let was_op : IsOpBy log n t o = had_at (AnOp t o) r log n older is_op in
    elim (which r log m (step_number (r ∷ log) m u s)) [
      | inl e ↦
          elim (strict_at r log legal.0 legal.1 (strict log legal.1) n t u o q was_op
          (newest_at (AStep u) r log m e s) (newest_at (ARequest q) r log m e asks) same other) [
            | inl too ↦ inl (
              adds_kept r log n older ∙ op_adds log n t o was_op ∙ too.0,
              adds_newest r log m e ∙ too.1,
            )
            | inr ended ↦ inr (between_newest r log t n m e ended)
          ]
      | inr was ↦
          elim (strict log legal.1 n m t u o q was_op below (had_at (AStep u) r log m was s)
          (had_at (ARequest q) r log m was asks) same other) [
            | inl both ↦ inl (both_kept r log n m older was both)
            | inr ended ↦ inr (longer_between r log t n m ended)
          ]
    ]

-- the law
pub chained_and_strict : LegalIsChainedAndStrict
chained_and_strict log h = (well_chained log h, strict log h)

-- at a Commit or End the transaction is idle
end_idle : (r : Record) (log : List Record) (t : ℕ) → Fits log r → (r ≡ is.Commit t) ⊎ (r ≡ is.End t) → IsIdle log t
end_idle r log t fits h = grind arith

-- an operation on the key of a step's request, of the same transaction: its own, or the one that it undoes
record OnKey (log : List Record) (t n : ℕ) (o : Op) : Type 0 where
  number : ℕ
  op : Op
  is_op : IsOpBy log number t op
  same_key : key_of op ≡ key_of o
  adds : adds_at log n ≡ is_add op

-- it stays in a longer log
kept_key : (r : Record) (log : List Record) (t n : ℕ) (o : Op) → IsNumber log n → OnKey log t n o
    → OnKey (r ∷ log) t n o
kept_key r log t n o number h = grind (arith, kept_at, op_number, adds_kept)

-- at the newest record
on_key_newest : (r : Record) (log : List Record) (t n : ℕ) (o : Op) → n ≡ length log + 1 → Fits log r
    → AStep t (Some r) → ARequest o (Some r)
    → OnKey (r ∷ log) t n o
on_key_newest (is.Op u p q) log t n o e fits s asks =
    let one : u ≡ t = cc in
    let ask : q ≡ o = cc in
    record {
      number = length log + 1;
      op = q;
      is_op = at_newest (AnOp t q) (is.Op u p q) log (length log + 1) refl (ap (λ (z : ℕ). Some (z, q)) one);
      same_key = ap key_of ask;
      adds = adds_newest (is.Op u p q) log n e;
    }
on_key_newest (is.Comp u w x i) log t n o e fits s asks =
    let undone = fits.inverse in
    let one : u ≡ t = cc in
    let latest = fits.latest.is in
    let is_op : IsOpBy log w t undone.op = subst (λ (z : ℕ). IsOpBy log w z undone.op)
    ((op_same undone.txn u undone.op latest.op (record_at log w) undone.is latest.is).0 ∙ one) undone.is in
    record {
      number = w;
      op = undone.op;
      is_op = kept_at (AnOp t undone.op) (is.Comp u w x i) log w (op_number log w t undone.op is_op) is_op;
      same_key = sym (inverse_key undone.op o undone.answer (sym undone.inverse ∙ asks));
      adds = adds_newest (is.Comp u w x i) log n e ∙ comp_adds log u w x t i undone.op is_op;
    }
on_key_newest _ log t n o e fits s asks = absurd (cc)

-- at any
on_key : (log : List Record) → IsLegal log → (n t : ℕ) (o : Op) → IsStepOf log t n → Requests log n o → OnKey log t n o
on_key [] h n t o s asks = absurd (cc)
on_key (r ∷ log) h n t o s asks =
    elim (cases_eq n (length log + 1)) [
      | inl e ↦ on_key_newest r log t n o e h.0 (newest_at (AStep t) r log n e s)
          (newest_at (ARequest o) r log n e asks)
      | inr e ↦
          let asked : Requests log n o = older_at (ARequest o) r log n e asks in
          kept_key r log t n o (request_number log n o asked)
          (on_key log h.1 n t o (older_at (AStep t) r log n e s) asked)
    ]

-- a request of a transaction that has ended is answered
pub ended_answered : (log : List Record) (t n : ℕ) (o : Op) → IsLegal log → has_ended log t ≡ true → IsStepOf log t n
    → Requests log n o → IsSome (answer_of log n)
ended_answered [] t n o h ended s asks = absurd (cc)
ended_answered (r ∷ log) t n o h ended s asks =
    elim (which r log n (step_number (r ∷ log) n t s)) [
      | inl e ↦
          let step : AStep t (Some r) = newest_at (AStep t) r log n e s in
          absurd (true≢false (sym ended ∙ step_ends_none log r t t step ∙ (step_open log r t h.0 step).goes_on))
      | inr was ↦
          let step : IsStepOf log t n = had_at (AStep t) r log n was s in
          let asked : Requests log n o = had_at (ARequest o) r log n was asks in
          answered_push n r log (elim (ended_cases t r log ended) [
            | inl ago ↦ ended_answered log t n o h.1 ago step asked
            | inr now ↦ end_idle r log t h.0 now n o step asked
          ])
    ]

-- the older of two requests on a key is answered where the newer one fits, unless both add
answered_at : (r : Record) (log : List Record) → Fits log r → IsLegal log → (n t u : ℕ) (o q : Op)
    → IsStepOf log t n → Requests log n o → AStep u (Some r) → ARequest q (Some r) → key_of q ≡ key_of o
    → ((adds_at log n ≡ true) × (adds_next log r ≡ true)) ⊎ IsSome (answer_of log n)
answered_at r log fits legal n t u o q s asks step ask same =
    elim (cases_eq u t) [
      | inl e ↦ inr (step_idle log r u fits step n o (subst (λ (z : ℕ). IsStepOf log z n) (sym e) s) asks)
      | inr other ↦
          let found = on_key log legal n t o s asks in
          elim (strict_at r log fits legal (strict log legal) found.number t u found.op q found.is_op step ask
          (same ∙ sym found.same_key) other) [
            | inl too ↦ inl (found.adds ∙ too.0, too.1)
            | inr end ↦ inr (ended_answered log t n o legal (end_ends log t end.end end.is_end) s asks)
          ]
    ]

-- so requests on a key come one at a time, but for Adds
pub one_at_a_time : LegalIsOneAtATime
one_at_a_time [] legal n m o q asks below ask same = absurd (cc)
one_at_a_time (r ∷ log) legal n m o q asks below ask same =
    let older : IsNumber log n = record {
      positive = (request_number (r ∷ log) n o asks).positive;
      bounded = omega (arith, (request_number (r ∷ log) m q ask).bounded);
    } in
    let asked : Requests log n o = had_at (ARequest o) r log n older asks in
    elim (which r log m (request_number (r ∷ log) m q ask)) [
      | inl e ↦
          let newest : ARequest q (Some r) = newest_at (ARequest q) r log m e ask in
          let by = request_step o (record_at log n) asked in
          let of = request_step q (Some r) newest in
          elim (answered_at r log legal.0 legal.1 n by.0 of.0 o q by.1 asked of.1 newest same) [
            | inl too ↦ inl (adds_kept r log n older ∙ too.0, adds_newest r log m e ∙ too.1)
            | inr answered ↦ inr (before_newest (λ x. IsSome (answer_of x n)) r log m e answered)
          ]
      | inr was ↦
          elim (one_at_a_time log legal.1 n m o q asked below (had_at (ARequest q) r log m was ask) same) [
            | inl both ↦ inl (both_kept r log n m older was both)
            | inr answered ↦ inr (before_older (λ x. IsSome (answer_of x n)) r log m (not_newest log m was) answered)
          ]
    ]
