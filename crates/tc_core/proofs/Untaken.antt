-- A span that is given back at once leaves the lock table as it was.
use Rattle.std.proofs.Common.{◌≡◌, ◌≢◌, ℕ, List, [], ◌∷◌, length, sym, ap, ◌∙◌, arith}
use Rattle.std.specs.Prelude.{drop}
use Rattle.history.specs.Spans.{Span}
use Rattle.tc_locks.specs.Locks.{LocksView, spans_of, set_spans, IsTable}
use Rattle.tc_locks.proofs.Tables.{set_own, set_again, set_same}

module _ (locks taken : LocksView) (t : ℕ) (s : Span) (table : IsTable locks)
    (takes : taken ≡ set_spans t (s ∷ spans_of locks t) locks) where
  holds_it : spans_of taken t ≡ s ∷ spans_of locks t
  holds_it = ap (λ (v : LocksView). spans_of v t) takes ∙ set_own t (s ∷ spans_of locks t) locks table

  pub holds_some : spans_of taken t ≢ []
  holds_some none = omega (arith, ap length (sym holds_it ∙ none))

  pub untaken : (left : LocksView) → left ≡ set_spans t (drop 1 (spans_of taken t)) taken → left ≡ locks
  untaken left is =
      is ∙ ap (λ (xs : List Span). set_spans t (drop 1 xs) taken) holds_it ∙ ap (set_spans t (spans_of locks t)) takes
      ∙ set_again t (spans_of locks t) (s ∷ spans_of locks t) locks table ∙ set_same t locks table
