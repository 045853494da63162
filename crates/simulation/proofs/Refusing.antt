-- Refused calls, each with its cause as the component sees it.
use Rattle.std.proofs.lemmas.Grind.{common_steps}
use Rattle.std.proofs.Common.{arith, ◌≡◌, ℕ, true, List, [], ◌∷◌, length, Option, Some, None, IsSome, refl, subst, inl, inr, ◌⊎◌}
use Rattle.std.specs.List.{AllByRecursion}
use Rattle.history.specs.declared.record.Record.{Record}
use Rattle.history.specs.Spans.{Span}
use Rattle.history.specs.Legal.{IsLegal}
use Rattle.history.specs.ListMachine.{Query, Machine, Txn, Status, Open, Committing, Committed, Losing, Gone, Call, HasStatus, IsHolder, MeetsHolder, NamesWhere, IsUnanswered, IsRollingBack, is_live}
use Rattle.simulation.specs.View.{View, Ready, Awaits, Looks, Rolls, HasStatusOf, HoldsAs, IsAmong, AreSpans, AreItsKeys, StandsFor}
use Rattle.simulation.specs.Views.{HasTrueSpans}
use Rattle.simulation.specs.Refusals.{caller, wanted, HoldsFirst, NotOpenIsALine, UnansweredIsALine, RollingBackIsALine, BusyIsALine, BadRangeIsALine, FullIsALine, FullOfSavepointsIsALine, BadSavepointIsALine, NodeRefusalIsALine}
use Rattle.simulation.proofs.Leftovers.{uncommitting}
use Rattle.simulation.proofs.Doings.{open_as, status_for}
use Rattle.simulation.proofs.Saving.{as_many}
use Rattle.simulation.proofs.Spanning.{conflicts_same}

-- the machine's spans are the component's, where those are true
same_keys : (log : List Record) (t : ℕ) (xs ys : List Span) → AreItsKeys log t xs → AreItsKeys log t ys → (s : Span)
    → IsAmong s xs → IsAmong s ys
same_keys log t xs ys one other s among = grind arith

both_none : (xs ys : List Span) → xs ≡ [] → ys ≡ [] → AreSpans xs ys
both_none xs ys none nothing s = (λ a. absurd (subst (IsAmong s) none a), λ a. absurd (subst (IsAmong s) nothing a))

true_spans : (v : View) (t : ℕ) (s : Status) (xs : List Span) → IsLegal v.log → HasTrueSpans v → HasStatusOf v t s
    → HoldsAs v t s xs → AreSpans xs (v.spans t)
true_spans v t s xs legal true_ones so holds = grind (arith, common_steps, both_none, uncommitting, same_keys)

-- so the holders are the same
holder : (v : View) (m : Machine) (t u : ℕ) (s : Span) → IsLegal v.log → StandsFor v m → HasTrueSpans v
    → HoldsFirst v t s u → IsHolder m t s u
holder v m t u s legal stands true_ones by = record {
  other = by.other;
  conflicts = conflicts_same s (v.spans u) (m.txns u).spans (λ r. (same u r).1) by.conflicts;
  least = λ w other h. by.least w other (conflicts_same s (m.txns w).spans (v.spans w) (λ r. (same w r).0) h);
}
  where
    same : (w : ℕ) → AreSpans (m.txns w).spans (v.spans w)
    same w = let x = stands.each w in true_spans v w (m.txns w).status (m.txns w).spans legal true_ones x.status x.spans

same_call : (t u : ℕ) (s r : Span) → ◌≡◌ {A = Option (ℕ × Span)} (Some (t, s)) (Some (u, r)) → (t ≡ u) × (s ≡ r)
same_call t u s r e = grind arith

meets : (m : Machine) (call : Call) (t u : ℕ) (s : Span) → wanted call ≡ Some (t, s) → HasStatus m t Open
    → IsHolder m t s u → MeetsHolder m call u
meets m call t u s e open_now by = grind arith

pub busy_is_a_line : BusyIsALine
busy_is_a_line v m call t u s legal stands true_ones rests wants by =
    (meets m call t u s wants (open_as v m t stands rests).is_so (holder v m t u s legal stands true_ones by), refl)

-- what is so of its caller
of_caller : (P : Txn → Type 0) (m : Machine) (call : Call) (t : ℕ) → caller call ≡ Some t → P (m.txns t)
    → NamesWhere P m call
of_caller h m call t e so = grind arith

shut : (v : View) (t : ℕ) (s : Status) → HasStatusOf v t s → v.doing t ≡ None → (s ≡ Committing) ⊎ (s ≡ Committed)
    ⊎ (s ≡ Losing) ⊎ (s ≡ Gone)
shut v t s so none = grind arith

pub not_open_is_a_line : NotOpenIsALine
not_open_is_a_line v m call t stands names none = grind arith

pub unanswered_is_a_line : UnansweredIsALine
unanswered_is_a_line v m call t stands names waits = (of_caller IsUnanswered m call t names (by waits), refl)
  where
    by : (((n : ℕ) × (v.doing t ≡ Some (Awaits n))) ⊎ ((q : Query) × (v.doing t ≡ Some (Looks q))))
        → IsUnanswered (m.txns t)
    by (inl awaits) = let e = status_for v m t (Awaits awaits.0) stands awaits.1 in inl (awaits.0, e.0, e.1)
    by (inr looks) = inr (looks.0, status_for v m t (Looks looks.0) stands looks.1)

pub rolling_back_is_a_line : RollingBackIsALine
rolling_back_is_a_line v m call t s bound stands names rolls =
    (of_caller IsRollingBack m call t names (s, status_for v m t (Rolls s bound) stands rolls), refl)

pub bad_range_is_a_line : BadRangeIsALine
bad_range_is_a_line m t q none = (none, refl)

-- whoever is open is live
live : (v : View) (t : ℕ) (s : Status) → HasStatusOf v t s → IsSome (v.doing t) → is_live s ≡ true
live v t s so some = grind arith

all_live : (v : View) (m : Machine) (ts : List ℕ) → StandsFor v m → AllByRecursion (λ t. IsSome (v.doing t)) ts
    → AllByRecursion (λ t. is_live (m.txns t).status ≡ true) ts
all_live v m [] stands all = tt
all_live v m (t ∷ ts) stands all = grind (arith, all_live v m ts stands all.1, live)

pub full_is_a_line : FullIsALine
full_is_a_line v m ts stands count different all = grind (arith, live, all_live)

-- as many savepoints as the component has
save_count : (v : View) (m : Machine) (t : ℕ) → StandsFor v m → v.doing t ≡ Some Ready
    → length (m.txns t).saves ≡ length (v.saves t)
save_count v m t stands rests = grind (arith, as_many, open_as)

pub full_of_savepoints_is_a_line : FullOfSavepointsIsALine
full_of_savepoints_is_a_line v m t stands rests count = grind (arith, open_as, save_count)

pub bad_savepoint_is_a_line : BadSavepointIsALine
bad_savepoint_is_a_line v m t s stands rests why = grind (arith, open_as, save_count)

pub node_refusal_is_a_line : NodeRefusalIsALine
node_refusal_is_a_line m call h so = grind arith
