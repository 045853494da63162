-- What is free by the component's spans is free for the machine.
use Rattle.std.proofs.Common.{◌≡◌, ℕ, true, List, [], ◌∷◌, refl, subst, inl, inr}
use Rattle.record_key.specs.declared.op.Op.{Op}
use Rattle.history.specs.Spans.{Span, Conflict, AnyConflict, changed_span}
use Rattle.history.specs.Log.{IsOpBy}
use Rattle.history.specs.ListMachine.{Status, Open, Waiting, Reading, Rolling, Committing, Committed, Losing, Gone}
use Rattle.simulation.specs.View.{View, HasStatusOf, HoldsAs, IsAmong, AreSpans}
use Rattle.simulation.specs.Views.{FreeSpansAreFree, FreeByTrueSpans}

-- a conflict is one with a span that is held
pub conflict_among : (s r : Span) (xs : List Span) → IsAmong r xs → Conflict s r → AnyConflict s xs
conflict_among s r [] among c = absurd among
conflict_among s r (x ∷ xs) (inl e) c = inl (subst (Conflict s) e c)
conflict_among s r (x ∷ xs) (inr among) c = inr (conflict_among s r xs among c)

pub conflicts_same : (s : Span) (xs ys : List Span) → ((r : Span) → IsAmong r xs → IsAmong r ys) → AnyConflict s xs
    → AnyConflict s ys
conflicts_same s [] ys each h = absurd h
conflicts_same s (x ∷ xs) ys each (inl c) = conflict_among s x ys (each x (inl refl)) c
conflicts_same s (x ∷ xs) ys each (inr h) = conflicts_same s xs ys (λ r among. each r (inr among)) h

no_conflict : (s : Span) (xs : List Span) → ((r : Span) → IsAmong r xs → Conflict s r → ⊥) → AnyConflict s xs → ⊥
no_conflict s [] each h = h
no_conflict s (x ∷ xs) each (inl c) = each x (inl refl) c
no_conflict s (x ∷ xs) each (inr h) = no_conflict s xs (λ r among. each r (inr among)) h

module _ (v : View) (s : Span) (u : ℕ) (out : AnyConflict s (v.spans u) → ⊥)
    (keys : (n : ℕ) (o : Op) → v.loses u ≡ true → IsOpBy v.log n u o → Conflict s (changed_span o) → ⊥)
  where
    as_held : (xs : List Span) → AreSpans xs (v.spans u) → AnyConflict s xs → ⊥
    as_held xs same h = out (conflicts_same s xs (v.spans u) (λ r. (same r).0) h)

    none_held : (xs : List Span) → xs ≡ [] → AnyConflict s xs → ⊥
    none_held xs none h = subst (AnyConflict s) none h

    pub free_of : (status : Status) (xs : List Span) → HasStatusOf v u status → HoldsAs v u status xs → AnyConflict s xs
        → ⊥
    free_of Open xs so holds = as_held xs holds
    free_of (Waiting n o) xs so holds = as_held xs holds
    free_of (Reading r) xs so holds = as_held xs holds
    free_of (Rolling p) xs so holds = as_held xs holds
    free_of Committing xs so holds = as_held xs holds
    free_of Committed xs so holds = none_held xs holds
    free_of Losing xs so holds = no_conflict s xs (λ r among c.
        let own = holds.each r among in
        keys own.0 own.1 so.quiet.loses_so own.2 (subst (Conflict s) own.3 c))
    free_of Gone xs so holds = none_held xs holds

pub free_spans : FreeSpansAreFree
free_spans v m t s stands out keys u apart h =
    let x = stands.each u in
    free_of v s u (out u apart) (keys u) (m.txns u).status (m.txns u).spans x.status x.spans h

pub free_by_true_spans : FreeByTrueSpans
free_by_true_spans v m t s stands true_spans out u apart h =
    let x = stands.each u in
    free_of v s u (out u apart)
    (λ n o loses by c. out u apart
    (conflict_among s (changed_span o) (v.spans u) ((true_spans.losers u loses).all n o by) c))
    (m.txns u).status (m.txns u).spans x.status x.spans h
