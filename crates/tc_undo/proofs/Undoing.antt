-- What is left to undo, from the latest step of an open transaction that waits for no answer.
use Rattle.std.proofs.Common.{◌≡◌, ℕ, ◌<◌, ◌≤◌, List, Option, Some, None, IsSome, refl, sym, subst, arith, inl, inr}
use Rattle.record_key.specs.declared.op.Op.{Op}
use Rattle.record_key.specs.declared.op.Answer.{Answer}
use Rattle.history.specs.declared.record.Record.{Record}
use Rattle.history.specs.Log.{record_at, answer_of, request_in}
use Rattle.history.specs.Legal.{FitsComp, Inverts, IsLatest, IsLatestOrNone, Stands}
use Rattle.history.specs.Chains.{undo_from, prev_in}
use Rattle.log_laws.proofs.LegalLogs.{stands_step}
use Rattle.log_laws.proofs.Undo.{latest_found, earlier_found, op_record}
use Rattle.tc_undo.specs.declared.undo_chain.Chain.{Chain}
use Rattle.tc_log.specs.Undoing.{comp_at, inverse_at, next_at}
use Rattle.tc_log.proofs.Undoing.{inverts}
use Rattle.tc_undo.specs.NextUndo.{Compensates, MayUndo, IsUndone, IsUndoable}

an_answer : (o : Option Answer) → IsSome o → (a : Answer) × (o ≡ Some a)
an_answer None h = absurd (cc)
an_answer (Some a) h = (a, refl)

module _ (log : List Record) (c : Chain) (may : MayUndo log c) (u : ℕ)
    (found : u ≡ undo_from (record_at log c.last) c.last) where
  -- one look finds the latest operation that stands
  left : IsLatestOrNone (Stands log c.txn) u
  left = let P : ℕ → Type 0 = IsLatestOrNone (Stands log c.txn) in
      subst P (sym found) (latest_found log c.txn may.legal c.last may.last)

  latest : 0 < u → IsLatest (Stands log c.txn) u
  latest some = elim left [ inl h ↦ h | inr none ↦ absurd (omega (arith, none.0, some)) ]

  -- where it isn't above a bound, none is
  pub undone : (above : ℕ) → u ≤ above → IsUndone log c.txn above
  undone above below n stands =
      elim left [ inl h ↦ omega (arith, h.greatest n stands, below) | inr none ↦ absurd (none.1 n stands) ]

  -- it is answered
  pub undoable : 0 < u → IsUndoable log u
  undoable some =
      let stands = (latest some).is in
      let the_op = op_record c.txn stands.op (record_at log u) stands.is in
      let asks : request_in (record_at log u) ≡ Some stands.op = let P : Option Record → Type 0 =
      λ r. request_in r ≡ Some stands.op in subst P (sym the_op.1) refl in
      let the_answer = an_answer (answer_of log u) (may.idle u stands.op (stands_step log c.txn u stands) asks) in
      record {
        txn = c.txn;
        prev = the_op.0;
        op = stands.op;
        answer = the_answer.0;
        is = the_op.1;
        answered = the_answer.1;
      }

  -- so its compensation fits
  pub fits_comp : (next : ℕ) (inverse : Option Op) → 0 < u
      → next ≡ undo_from (record_at log (prev_in (record_at log u))) (prev_in (record_at log u))
      → Inverts log u inverse
      → FitsComp log c.txn u next inverse
  fits_comp next inverse some is_next inverts =
      let P : ℕ → Type 0 = IsLatestOrNone (λ n. Stands log c.txn n × (n < u)) in
      record {
        open_txn = may.open_txn;
        idle = may.idle;
        latest = latest some;
        next = subst P (sym is_next) (earlier_found log c.txn u may.legal (latest some).is);
        inverse = inverts;
      }

  -- so does the one of all whose parts the log tells
  pub fits_at : 0 < u → FitsComp log c.txn u (next_at log u) (inverse_at log u)
  fits_at some =
      let at = undoable some in
      fits_comp (next_at log u) (inverse_at log u) some refl
      (inverts log u at.txn at.op at.answer (rw at.is refl) at.answered)

  pub compensated : (above : ℕ) → above < u → Compensates log c.txn above (comp_at log c.txn u)
  compensated above more = record {
    undoes = u;
    next = next_at log u;
    inverse = inverse_at log u;
    is = refl;
    above_bound = more;
    fits = fits_at (omega (arith, more));
  }
