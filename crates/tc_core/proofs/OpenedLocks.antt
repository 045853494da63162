-- The locks that a log opens with are those of its open transactions.
use Rattle.std.proofs.Common.{◌≡◌, ◌≢◌, ℕ, ◌+◌, ◌<◌, List, [], ◌∷◌, length, refl, sym, ap, ◌∙◌, subst, arith, inl, inr}
use Rattle.std.proofs.lemmas.Bool.{cases_eq}
use Rattle.std.proofs.lemmas.List.Elements.{All-weaker}
use Rattle.history.specs.declared.record.Record.{Record}
use Rattle.history.specs.Log.{IsOpen}
use Rattle.log_laws.proofs.LegalLogs.{begun_number}
use Rattle.tc_locks.specs.Locks.{spans_of, IsTable}
use Rattle.tc_locks.proofs.Tables.{empty_table, set_table, set_own, set_other}
use Rattle.tc_restart.specs.Lists.{times}
use Rattle.tc_restart.specs.Losers.{IsLoser}
use Rattle.tc_restart.proofs.Lists.{times_first, times_other, not_listed}
use Rattle.tc_core.specs.Locking.{op_spans}
use Rattle.tc_core.specs.Opened.{open_in, locks_in, locks_of}
use Rattle.tc_core.specs.Opening.{HoldsOpen}
use Rattle.tc_core.proofs.OpenedLosers.{open_listed}

module _ (log : List Record) where
  in_table : (ts : List ℕ) → IsTable (locks_in log ts)
  in_table [] = empty_table
  in_table (t ∷ ts) = set_table t (op_spans log t) (locks_in log ts) (in_table ts)

  -- who is listed holds the keys of its operations
  listed_holds : (ts : List ℕ) (t : ℕ) → 0 < times t ts → spans_of (locks_in log ts) t ≡ op_spans log t
  listed_holds [] t some = absurd (omega (arith, some))
  listed_holds (u ∷ ts) t some = elim (cases_eq t u) [
    | inl same ↦ ap (spans_of (locks_in log (u ∷ ts))) same ∙ set_own u (op_spans log u) (locks_in log ts) (in_table ts)
        ∙ ap (op_spans log) (sym same)
    | inr other ↦ set_other u (op_spans log u) (locks_in log ts) t (in_table ts) other
        ∙ listed_holds ts t (omega (arith, some, times_other t u ts other))
  ]

  -- and nobody else anything
  unlisted_holds : (ts : List ℕ) (t : ℕ) → times t ts ≡ 0 → spans_of (locks_in log ts) t ≡ []
  unlisted_holds [] t none = refl
  unlisted_holds (u ∷ ts) t none = elim (cases_eq t u) [
    | inl same ↦ absurd (omega (arith, none, times_first t u ts same))
    | inr other ↦ set_other u (op_spans log u) (locks_in log ts) t (in_table ts) other
        ∙ unlisted_holds ts t (sym (times_other t u ts other) ∙ none)
  ]

  pub locks_open : HoldsOpen log (locks_of log)
  locks_open = record {
    table = in_table (open_in log);
    own = λ t open_t. listed_holds (open_in log) t
        (omega (
          arith,
          (open_listed log).once t
              (record { open_txn = open_t; early = omega (arith, (begun_number log t open_t.begun).bounded) }),
        ));
    none = λ t closed. unlisted_holds (open_in log) t (not_listed t (open_in log)
        (All-weaker (IsLoser log (length log + 1)) (λ u. t ≢ u)
        (λ u loser same. closed (subst (IsOpen log) (sym same) loser.open_txn))
        (open_in log) (open_listed log).right));
  }
