-- A loser holds the keys of its operations, and nothing else.
use Rattle.std.proofs.Common.{◌≡◌, ℕ, ◌+◌, Bool, true, false, List, [], ◌∷◌, length, Some, refl, sym, ap, ◌∙◌, subst, inl, inr, eqb-true, eq-eqb, true≢false}
use Rattle.std.specs.Prelude.{◌==◌, ◌||◌, if◌then◌else◌}
use Rattle.std.proofs.Math.Bool.{or-true}
use Rattle.std.proofs.lemmas.Bool.{cases_eq}
use Rattle.record_key.specs.declared.op.Op.{Op}
use Rattle.history.specs.declared.record.Record.{Record}
use Rattle.history.specs.declared.record.Record.TheVariants as is
use Rattle.history.specs.Log.{op_of, IsOpBy}
use Rattle.history.specs.Spans.{Span, changed_span}
use Rattle.log_laws.proofs.Records.{AnOp, both_same, newest_at, older_at, at_newest, at_older, not_newest}
use Rattle.log_laws.proofs.LegalLogs.{op_number}
use Rattle.tc_locks.specs.Locks.{spans_of}
use Rattle.tc_core.specs.tc_restart.specs.Losers.{txns}
use Rattle.simulation.proofs.Holding.{IsItsKey}
use Rattle.simulation.specs.View.{IsAmong, AreItsKeys}
use Rattle.tc_core.specs.declared.phase.Phase.{Phase}
use Rattle.tc_core.specs.declared.phase.Phase.TheVariants as phase
use Rattle.tc_core.specs.Kept.{IsPhaseOf, closing, IsTc}
use Rattle.tc_core.specs.Locking.{op_spans, is_listed, is_holder}
use Rattle.tc_core.specs.TcView.{TcView, is_none_lost, is_nil}
use Rattle.tc_core.proofs.Committing.{holder_more}
use Rattle.tc_core.proofs.HeldSpans.{held_is}
use Rattle.tc_core.proofs.Losers.{listed_loser}

-- none is left once the component runs
pub running_unlost : (w : TcView) → IsTc w → w.phase ≡ phase.Running → is_none_lost w.losers ≡ true
running_unlost w k running = let P : Phase → Type 0 = IsPhaseOf w.losers in subst P running k.lost.phase_of

-- then nobody is listed
pub nobody_listed : (w : TcView) → is_none_lost w.losers ≡ true → (t : ℕ) → is_listed (txns w.losers) t ≡ false
nobody_listed w unlost t = by (txns w.losers) unlost
  where
    by : (ts : List ℕ) → is_nil ts ≡ true → is_listed ts t ≡ false
    by [] none = refl
    by (u ∷ us) none = absurd (true≢false (sym none))

-- what each loser holds
pub losers_hold : (w : TcView) → IsTc w → (t : ℕ) → is_listed (txns w.losers) t ≡ true
    → spans_of w.locks t ≡ op_spans w.log t
losers_hold w k t listed =
    let holds : is_holder w.open_txns (closing w) t ≡ true =
    holder_more w.open_txns w.committing (txns w.losers) t ∙ ap (λ b. is_holder w.open_txns w.committing t || b) listed
    ∙ or-true (is_holder w.open_txns w.committing t) in
    sym (k.early t (listed_loser w.log w.losers k.lost.losers t listed).early) ∙ k.locks.changing t
    ∙ held_is w.log w.open_txns (closing w) t holds

has_longer : (r : Record) (log : List Record) (t : ℕ) (s : Span) → IsItsKey log t s → IsItsKey (r ∷ log) t s
has_longer r log t s h =
    (h.0, h.1, at_older (AnOp t h.1) r log h.0 (not_newest log h.0 (op_number log h.0 t h.1 h.2)) h.2, h.3)

span_has : (log : List Record) (t : ℕ) (s : Span) → IsAmong s (op_spans log t) → IsItsKey log t s
span_has [] t s among = absurd among
span_has (is.Op v p q ∷ log) t s among = pick (span_has log t s) (t == v) refl among
  where
    pick : (IsAmong s (op_spans log t) → IsItsKey log t s) → (b : Bool) → (t == v) ≡ b
        → IsAmong s (if b then changed_span q ∷ op_spans log t else op_spans log t)
        → IsItsKey (is.Op v p q ∷ log) t s
    pick before true same among = elim among [
      | inl e ↦ (
        length log + 1,
        q,
        at_newest (AnOp t q) (is.Op v p q) log (length log + 1) refl (ap (λ x. Some (x, q)) (sym (eqb-true t v same))),
        e,
      )
      | inr rest ↦ has_longer (is.Op v p q) log t s (before rest)
    ]
    pick before false other among = has_longer (is.Op v p q) log t s (before among)
span_has (r ∷ log) t s among = has_longer r log t s (span_has log t s among)

among_if : (b : Bool) (s x : Span) (xs : List Span) → IsAmong s xs → IsAmong s (if b then x ∷ xs else xs)
among_if true s x xs among = inr among
among_if false s x xs among = among

among_longer : (s : Span) (r : Record) (log : List Record) (t : ℕ) → IsAmong s (op_spans log t)
    → IsAmong s (op_spans (r ∷ log) t)
among_longer s (is.Op u p op) log t among = among_if (t == u) s (changed_span op) (op_spans log t) among
among_longer s _ log t among = among

among_newest : (r : Record) (log : List Record) (t : ℕ) (o : Op) → op_of r ≡ Some (t, o)
    → IsAmong (changed_span o) (op_spans (r ∷ log) t)
among_newest (is.Op u p op) log t o by = pick (t == u) (eq-eqb t u (sym same.0))
  where
    same : (u ≡ t) × (op ≡ o)
    same = both_same u t op o by

    pick : (b : Bool) → b ≡ true
        → IsAmong (changed_span o)
        (if b then changed_span op ∷ op_spans log t else op_spans log t)
    pick true h = inl (ap (λ x. changed_span x) (sym same.1))
    pick false h = absurd (cc)
among_newest _ log t o by = absurd (cc)

has_span : (log : List Record) (t n : ℕ) (o : Op) → IsOpBy log n t o
    → IsAmong (changed_span o) (op_spans log t)
has_span [] t n o by = absurd (cc)
has_span (r ∷ log) t n o by =
    elim (cases_eq n (length log + 1)) [
      | inl e ↦ among_newest r log t o (newest_at (AnOp t o) r log n e by)
      | inr e ↦ among_longer (changed_span o) r log t
          (has_span log t n o (older_at (AnOp t o) r log n e by))
    ]

-- those are the keys of its operations
pub its_keys : (log : List Record) (t : ℕ) → AreItsKeys log t (op_spans log t)
its_keys log t = record { each = span_has log t; all = has_span log t }
