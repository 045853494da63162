-- What has fallen stays so; and what lasts of a transaction that hasn't.
use Rattle.std.proofs.Common.{arith, ◌≡◌, ◌≢◌, ℕ, ◌≤◌, Bool, true, List, [], ◌∷◌, refl, sym, ap, ◌∙◌, subst, inl, inr, ◌⊎◌, eq-eqb}
use Rattle.std.specs.Prelude.{not, ◌==◌, if◌then◌else◌}
use Rattle.std.specs.List.{AllByRecursion, list_any}
use Rattle.history.specs.History.{Entry, entries_of}
use Rattle.history.specs.ListMachine.{Machine, Status, Committing, Committed, Line, Begins, Acts, TellsAnswer, Reads, TellsRow, TellsRows, Saves, GoesBack, TellsBack, RollsBack, TellsRolledBack, Commits, TellsCommitted, Crashes, TellsLost, IsRefused, AreAllLeft, HasStatus, Step, Steps, with_txn, with_status, ended}
use Rattle.simulation.specs.Lasting.{HasFallen, IsEntry, TakesNothingBack, AskedIsCommitted, EntriesLast}
use Rattle.simulation.proofs.Owning.{IsClosed, IsUntouched, untouched, entry_marked, entry_fallen, entry_placed, spared_by}
use Rattle.simulation.proofs.Lasting.{survives_as, own_stays, falls_so, stays_or_falls, closed_as, other_than, committed_kept}

-- one that has fallen stays so, unless its number is given again
fallen_kept : (m n : Machine) (t : ℕ) → HasFallen m t → n.txns t ≡ m.txns t → HasFallen n t
fallen_kept h n h2 h3 same = grind arith

closed_fallen : (m : Machine) (t : ℕ) → HasFallen m t → IsClosed (m.txns t).status
closed_fallen h h2 h3 = grind arith

fallen_in_crash : (m n : Machine) (t : ℕ) → Step m Crashes n → HasFallen m t → HasFallen n t
fallen_in_crash h n h2 h3 h4 = grind arith

not_committing : (m : Machine) (t u : ℕ) → HasFallen m t → HasStatus m u Committing → t ≡ u → ⊥
not_committing h h2 u h3 at h4 = grind arith

-- a transaction of another status now
now : (m : Machine) (t u : ℕ) (s : Status) → t ≡ u → ((with_txn m u (ended (m.txns u) s)).txns t).status ≡ s
now m t u s e = ap (λ (b : Bool). (if b then ended (m.txns u) s else m.txns t).status) (eq-eqb t u e)

fallen_lost : (m n : Machine) (t u : ℕ) → Step m (TellsLost u) n → HasFallen m t → HasFallen n t
fallen_lost h n h2 u h3 has = grind arith

fallen_step : (m n : Machine) (line : Line) (t : ℕ) → Step m line n → line ≢ Begins t → HasFallen m t → HasFallen n t
fallen_step h n line h2 h3 spared has = grind arith

-- since its commit was asked for it commits or has committed, with these entries, or has fallen
data IsSince (m : Machine) (t : ℕ) (own : List Entry) : Type 0 where
  Goes_on : HasStatus m t Committing → entries_of t m.h ≡ own → IsSince m t own
  Is_done : HasStatus m t Committed → entries_of t m.h ≡ own → IsSince m t own
  Fell : HasFallen m t → IsSince m t own

goes_on : (m n : Machine) (t : ℕ) (own : List Entry) → HasStatus m t Committing → entries_of t m.h ≡ own
    → IsUntouched m n t → IsSince n t own
goes_on m n t own is same kept = Goes_on (ap (λ x. x.status) kept.txn ∙ is) (kept.own ∙ same)

told_step : (m n : Machine) (t u : ℕ) (own : List Entry) → Step m (TellsCommitted u) n → HasStatus m t Committing
    → entries_of t m.h ≡ own → IsSince n t own
told_step h n h2 u h3 h4 is same = grind arith

asked_crash : (m n : Machine) (t : ℕ) (own : List Entry) → Step m Crashes n → HasStatus m t Committing
    → entries_of t m.h ≡ own → IsSince n t own
asked_crash h n h2 h3 h4 is same = grind (arith, survives_as, own_stays, falls_so)

asked_step : (m n : Machine) (line : Line) (t : ℕ) (own : List Entry) → Step m line n → line ≢ Begins t
    → HasStatus m t Committing → entries_of t m.h ≡ own → IsSince n t own
asked_step h n line h2 h3 h4 anew is same =
    grind (arith, goes_on, untouched, closed_as, told_step, other_than, asked_crash)

since_step : (m n : Machine) (line : Line) (t : ℕ) (own : List Entry) → Step m line n → line ≢ Begins t
    → IsSince m t own → IsSince n t own
since_step h n line h2 h3 h4 anew h5 = grind (arith, asked_step, committed_kept, fallen_step)

since_steps : (m n : Machine) (lines : List Line) (t : ℕ) (own : List Entry) → Steps m lines n
    → AllByRecursion (λ line. line ≢ Begins t) lines → IsSince m t own → IsSince n t own
since_steps m n [] t own steps anew since = subst (λ x. IsSince x t own) (sym steps) since
since_steps m n (line ∷ lines) t own steps anew since =
    since_steps steps.0 n lines t own steps.2 anew.1 (since_step m steps.0 line t own steps.1 anew.0 since)

not_fallen : (n : Machine) (t : ℕ) → HasStatus n t Committed → HasFallen n t → ⊥
not_fallen n h is h2 = grind arith

pub asked_is_committed : AskedIsCommitted
asked_is_committed m mid n lines t h steps anew is =
    by (since_steps mid n lines t (entries_of t m.h) steps anew begins)
  where
    status : HasStatus (with_status m t Committing) t Committing
    status =
        ap (λ (b : Bool). (if b then record (m.txns t) { status = Committing } else m.txns t).status) (eq-eqb t t refl)

    begins : IsSince mid t (entries_of t m.h)
    begins = subst (λ y. IsSince y t (entries_of t m.h)) (sym h.1) (Goes_on status refl)

    by : IsSince n t (entries_of t m.h) → entries_of t n.h ≡ entries_of t m.h
    by (Goes_on at same) = same
    by (Is_done at same) = same
    by (Fell has) = absurd (not_fallen n t is has)

-- an entry of one that keeps its numbers keeps its own
its_bound : (bound : ℕ) (e : Entry) (h : List Entry) → AreAllLeft bound e.txn h → IsEntry e h → e.number ≤ bound
its_bound bound e [] left has = absurd has
its_bound bound e (g ∷ h) left (inl is) = grind arith
its_bound bound e (g ∷ h) left (inr has) = its_bound bound e h left.1 has

-- an entry stays, or falls in a crash
entry_step : (m n : Machine) (line : Line) (e : Entry) → Step m line n → TakesNothingBack e.txn line → IsEntry e m.h
    → IsEntry e n.h ⊎ HasFallen n e.txn
entry_step m n (Begins u) e h spared has = inl (subst (λ y. IsEntry e y.h) (sym h.1) has)
entry_step m n (Acts u o k) e h spared has = inl (subst (λ y. IsEntry e y.h) (sym h.4) has)
entry_step m n (TellsAnswer u a) e h spared has = inl (subst (λ y. IsEntry e y.h) (sym h.4) (entry_placed e _ m.h has))
entry_step m n (Reads u q) e h spared has = inl (subst (λ y. IsEntry e y.h) (sym h.3) has)
entry_step m n (TellsRow u value) e h spared has = inl (subst (λ y. IsEntry e y.h) (sym h.3) has)
entry_step m n (TellsRows u rows) e h spared has = inl (subst (λ y. IsEntry e y.h) (sym h.4) has)
entry_step m n (Saves u s) e h spared has = inl (subst (λ y. IsEntry e y.h) (sym h.3) has)
entry_step m n (GoesBack u s) e h spared has =
    let apart = spared_by (λ k. not (list_any (λ j. j == k) h.0)) e.txn u spared e.number in
    inl (subst (λ y. IsEntry e y.h) (sym h.4) (entry_marked _ e m.h apart has))
entry_step m n (TellsBack u s) e h spared has = inl (subst (λ y. IsEntry e y.h) (sym h.1) has)
entry_step m n (RollsBack u) e h spared has =
    let apart = spared_by (λ _. true) e.txn u spared e.number in
    inl (subst (λ y. IsEntry e y.h) (sym h.1) (entry_marked _ e m.h apart has))
entry_step m n (TellsRolledBack u) e h spared has = inl (subst (λ y. IsEntry e y.h) (sym h.1) has)
entry_step m n (Commits u) e h spared has = inl (subst (λ y. IsEntry e y.h) (sym h.1) has)
entry_step m n (TellsCommitted u) e h spared has = inl (subst (λ y. IsEntry e y.h) (sym h.1) has)
entry_step m n Crashes e h spared has = grind (arith, stays_or_falls, entry_fallen, its_bound)
entry_step m n (TellsLost u) e h spared has = inl (subst (λ y. IsEntry e y.h) (sym h.1) has)
entry_step m n (IsRefused call refusal) e h spared has = inl (subst (λ y. IsEntry e y.h) (sym h.1) has)

not_again : (t : ℕ) (line : Line) → TakesNothingBack t line → line ≢ Begins t
not_again h line spared e = grind arith

entry_steps : (m n : Machine) (lines : List Line) (e : Entry) → Steps m lines n
    → AllByRecursion (TakesNothingBack e.txn) lines → IsEntry e m.h ⊎ HasFallen m e.txn
    → IsEntry e n.h ⊎ HasFallen n e.txn
entry_steps m n [] e steps spared has = subst (λ y. IsEntry e y.h ⊎ HasFallen y e.txn) (sym steps) has
entry_steps m n (line ∷ lines) e steps spared (inl has) =
    entry_steps steps.0 n lines e steps.2 spared.1 (entry_step m steps.0 line e steps.1 spared.0 has)
entry_steps m n (line ∷ lines) e steps spared (inr has) =
    entry_steps steps.0 n lines e steps.2 spared.1
    (inr (fallen_step m steps.0 line e.txn steps.1 (not_again e.txn line spared.0) has))

pub entries_last : EntriesLast
entries_last m n lines e steps spared has = entry_steps m n lines e steps spared (inl has)
