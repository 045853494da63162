-- What is kept by each line, and so by all runs.
use Rattle.std.proofs.Common.{◌≡◌, ◌≢◌, ℕ, ◌-◌, ◌<◌, ◌≤◌, Bool, true, false, List, [], ◌∷◌, ◌++◌, None, refl, sym, ap, ◌∙◌, subst, arith, inl, inr, true≢false, eqb-true, eq-eqb}
use Rattle.std.specs.Prelude.{◌==◌, ◌&&◌, filter, not, if◌then◌else◌}
use Rattle.std.specs.List.{AllByRecursion}
use Rattle.record_key.specs.declared.op.Op.{Op}
use Rattle.record_key.specs.declared.op.Answer.{Answer}
use Rattle.record_key.proofs.Lists.{all_from, all_appended}
use Rattle.inverse.specs.Inverse.{PassBy}
use Rattle.history.specs.History.{Entry, cross, numbers_of, is_among}
use Rattle.history.specs.Spans.{Span, changed_span}
use Rattle.history.specs.ListMachine.{asked_span, Machine, Txn, Status, Open, Waiting, Rolling, Committed, Gone, Line, Begins, Acts, TellsAnswer, Reads, TellsRow, TellsRows, Saves, GoesBack, TellsBack, RollsBack, TellsRolledBack, Commits, TellsCommitted, Crashes, TellsLost, IsRefused, HasStatus, IsFree, Step, with_txn, blank, ended}
use Rattle.simulation.specs.View.{standing, IsAmong}
use Rattle.simulation.proofs.Entries.{all_filtered, uncross_marked}
use Rattle.serial_laws.specs.Serial.{MayCommit}
use Rattle.serial_laws.proofs.Passing.{Pairs, Sinks, parts}
use Rattle.serial_laws.proofs.Listing.{all_taken, all_got, all_true, pairs_two, pairs_all, passed, among_own, own_below, unmarked_below, and_parts, not_true, not_false}
use Rattle.serial_laws.proofs.Keeping.{AreApart, free_apart, Owns, IsOwned, IsOlder, Keeps, IsSave, IsAwaited, Awaits, IsKept, kept_fewer}
use Rattle.serial_laws.proofs.Changing.{OwnsStill, kept_turned, turns_on, kept_placed}
use Rattle.serial_laws.proofs.Falling.{kept_crash}

may_by : (m : Machine) (t : ℕ) (s : Status) → HasStatus m t s → MayCommit s → MayCommit (m.txns t).status
may_by m t s is may = subst MayCommit (sym is) may

-- it goes on with the spans that it has
goes_on : (m : Machine) (u : ℕ) (s : Status) (x : Txn) → IsKept m → HasStatus m u s → MayCommit s → MayCommit x.status
    → x.begun ≡ (m.txns u).begun → x.spans ≡ (m.txns u).spans
    → Awaits (standing m.h) u x.spans x.saves x.status
    → AllByRecursion (IsSave (standing m.h) m.h u) x.saves
    → IsKept (with_txn m u x)
goes_on m u s x kept is may goes begun spans waits saved =
    let could : MayCommit (m.txns u).status = may_by m u s is may in
    kept_turned m u x kept (turns_on m u x kept could goes begun
    (λ r among. subst (IsAmong r) (sym spans) among)
    (λ t off too. subst (λ xs. AreApart xs (m.txns t).spans) (sym spans) (kept.apart u t (λ e. off (sym e)) could too))
    (record { begun = λ _. begun ∙ (kept.each u).begun could; waits = waits; saved = λ _. saved }))

-- with one more
takes_on : (m : Machine) (u : ℕ) (s : Span) (x : Txn) → IsKept m → HasStatus m u Open → MayCommit x.status
    → x.begun ≡ (m.txns u).begun → x.spans ≡ s ∷ (m.txns u).spans → IsFree m u s
    → Awaits (standing m.h) u x.spans x.saves x.status
    → AllByRecursion (IsSave (standing m.h) m.h u) x.saves
    → IsKept (with_txn m u x)
takes_on m u s x kept is goes begun spans free waits saved =
    let could : MayCommit (m.txns u).status = may_by m u Open is tt in
    kept_turned m u x kept (turns_on m u x kept could goes begun
    (λ r among. subst (IsAmong r) (sym spans) (inr among))
    (λ t off too. subst (λ xs. AreApart xs (m.txns t).spans) (sym spans)
    (free_apart m u t s free off (kept.apart u t (λ e. off (sym e)) could too)))
    (record { begun = λ _. begun ∙ (kept.each u).begun could; waits = waits; saved = λ _. saved }))

-- it ends
ends : (m : Machine) (u : ℕ) (s : Status) (x : Txn) → IsKept m → HasStatus m u s → (MayCommit x.status → ⊥)
    → ((e : Entry) → Owns (m.txns u) e.op → Owns x e.op) → Awaits (standing m.h) u x.spans x.saves x.status
    → IsKept (with_txn m u x)
ends m u s x kept is none owns waits =
    kept_turned m u x kept (record {
      owns = all_from (IsOwned m) (OwnsStill m u x)
          (λ e owned own. (owns e (subst (λ (t : ℕ). Owns (m.txns t) e.op) own owned), λ may. absurd (none may)))
          (standing m.h)
          kept.owned;
      apart = λ t off may. absurd (none may);
      txn = record { begun = λ may. absurd (none may); waits = waits; saved = λ may. absurd (none may) };
    })

owns_none : (m : Machine) (u : ℕ) (s : Status) (x : Txn) (e : Entry) → HasStatus m u s → s ≢ Committed
    → (MayCommit s → ⊥) → Owns (m.txns u) e.op → Owns x e.op
owns_none m u s x e is apart none owns = grind arith

saves_of : (m : Machine) (u : ℕ) (s : Status) → IsKept m → HasStatus m u s → MayCommit s
    → AllByRecursion (IsSave (standing m.h) m.h u) (m.txns u).saves
saves_of m u s kept is may = (kept.each u).saved (may_by m u s is may)

begins_step : (m : Machine) (t : ℕ) → IsKept m → ((u : ℕ) → (m.txns u).begun ≡ true → u < t)
    → IsKept (with_txn m t blank)
begins_step m t kept above =
    kept_turned m t blank kept (record {
      owns = all_from (IsOwned m) (OwnsStill m t blank)
          (λ e owned own. let lt : e.txn < t = above e.txn owned.0 in absurd (omega (arith, lt, own)))
          (standing m.h) kept.owned;
      apart = λ u off may too s r among. absurd among;
      txn = record { begun = λ _. refl; waits = tt; saved = λ _. tt };
    })

acts_step : (m n : Machine) (t : ℕ) (o : Op) (k : ℕ) → IsKept m → Step m (Acts t o k) n → IsKept n
acts_step m n t o k kept h =
    let below : AllByRecursion (λ e. e.number < k) (standing m.h) =
    all_filtered (λ e. e.number < k) (λ e. not e.crossed) m.h h.3.0 in
    let saved = saves_of m t Open kept h.0 tt in
    subst IsKept (sym h.4) (takes_on m t (changed_span o) _ kept h.0 tt refl refl h.1 (record {
      held = inl refl;
      newer = all_from (λ e. e.number < k) (λ e. k ≤ e.number → PassBy o e.op)
          (λ e lt le. absurd (omega (arith, lt, le)))
          (standing m.h) below;
      own = all_from (λ e. e.number < k) (λ e. e.txn ≡ t → e.number < k) (λ e lt own. lt) (standing m.h) below;
      saved = all_from (IsSave (standing m.h) m.h t) (λ kept. AllByRecursion (λ j. j < k) kept)
          (λ kept save. save.below k h.3.0)
          (m.txns t).saves saved;
    }) saved)

tells_step : (m n : Machine) (t : ℕ) (a : Answer) → IsKept m → Step m (TellsAnswer t a) n → IsKept n
tells_step m n t a kept h =
    let k : ℕ = h.0 in
    let o : Op = h.1 in
    let e : Entry = record { number = k; txn = t; op = o; answer = a; crossed = false } in
    let x : Txn = record (m.txns t) { status = Open } in
    let mid : Machine = with_txn m t x in
    let held : IsKept mid =
    goes_on m t (Waiting k o) x kept h.2 tt tt refl refl tt (saves_of m t (Waiting k o) kept h.2 tt) in
    let here : mid.txns t ≡ x = ap (λ (b : Bool). if b then x else m.txns t) (eq-eqb t t refl) in
    let awaits : IsAwaited (standing m.h) t (m.txns t).spans (m.txns t).saves k o =
    subst (Awaits (standing m.h) t (m.txns t).spans (m.txns t).saves) h.2 (kept.each t).waits in
    subst IsKept (sym h.4) (kept_placed mid e held (ap (λ y. y.status) here)
    (subst (λ y. IsAwaited (standing m.h) t y.spans y.saves k o) (sym here) awaits) h.3 (parts e m.h refl))

-- a savepoint more
save_more : (m : Machine) (t : ℕ) → IsSave (standing m.h) m.h t (numbers_of t m.h)
save_more m t = record {
  older = pairs_all (λ e. e.txn ≡ t → is_among e.number (numbers_of t m.h) ≡ true) (Keeps t (numbers_of t m.h))
      (standing m.h) (λ g e here there g_own e_own among. there e_own) (among_own t m.h);
  below = λ n below. own_below t n m.h below;
}

-- entries are crossed that their transaction takes back
crossed_step : (m : Machine) (t : ℕ) (p : ℕ → Bool) → IsKept m → HasStatus m t Open
    → Pairs (λ g e. g.txn ≡ t → e.txn ≡ t → p e.number ≡ true → p g.number ≡ true) (standing m.h)
    → IsKept (record m { h = cross p t m.h })
crossed_step m t p kept is own =
    kept_fewer m (λ e. not (e.txn == t && p e.number)) (cross p t m.h) kept
    (pairs_two (IsOlder m) (λ g e. g.txn ≡ t → e.txn ≡ t → p e.number ≡ true → p g.number ≡ true)
    (Sinks (λ e. not (e.txn == t && p e.number))) (standing m.h) passes kept.older own)
    (uncross_marked (λ u k. u == t && p k) m.h)
    (λ n below. unmarked_below n (λ u k. u == t && p k) m.h below)
  where
    passes : (g e : Entry) → IsOlder m g e
        → (g.txn ≡ t → e.txn ≡ t → p e.number ≡ true → p g.number ≡ true)
        → Sinks (λ e. not (e.txn == t && p e.number)) g e
    passes g e older own stays out =
        let is_out = and_parts (e.txn == t) (p e.number) (not_false (e.txn == t && p e.number) out) in
        let e_own : e.txn ≡ t = eqb-true e.txn t is_out.0 in
        older (subst (λ (u : ℕ). MayCommit (m.txns u).status) (sym e_own) (may_by m t Open is tt))
        (λ same.
        let g_own : g.txn ≡ t = same ∙ e_own in
        true≢false (sym ((λ j. (eq-eqb g.txn t g_own) j && (own g_own e_own is_out.1) j))
        ∙ not_true (g.txn == t && p g.number) stays))

goes_back_step : (m n : Machine) (t s : ℕ) → IsKept m → Step m (GoesBack t s) n → IsKept n
goes_back_step m n t s kept h =
    let kept_list : List ℕ = h.0 in
    let p : ℕ → Bool = λ k. not (is_among k kept_list) in
    let saved = saves_of m t Open kept h.1 tt in
    let save : IsSave (standing m.h) m.h t kept_list =
    all_got (IsSave (standing m.h) m.h t) (s - 1) (m.txns t).saves kept_list saved h.3 in
    let mid : Machine = record m { h = cross p t m.h } in
    let held : IsKept mid = crossed_step m t p kept h.1
    (pairs_two (Keeps t kept_list) (Keeps t kept_list)
    (λ g e. g.txn ≡ t → e.txn ≡ t → p e.number ≡ true → p g.number ≡ true) (standing m.h)
    (λ g e keeps _ g_own e_own out. back (is_among g.number kept_list) (is_among e.number kept_list)
    (keeps g_own e_own) out)
    save.older save.older) in
    subst IsKept (sym h.4) (goes_on mid t Open _ held h.1 tt tt refl refl tt
    (all_taken (IsSave (standing mid.h) mid.h t) s (m.txns t).saves (saves_of mid t Open held h.1 tt)))
  where
    back : (a b : Bool) → (a ≡ true → b ≡ true) → not b ≡ true → not a ≡ true
    back true b keeps out = absurd (true≢false (sym (keeps refl) ∙ not_true b out))
    back false b keeps out = refl

rolls_back_step : (m n : Machine) (t : ℕ) → IsKept m → Step m (RollsBack t) n → IsKept n
rolls_back_step m n t kept h =
    let p : ℕ → Bool = λ _. true in
    let mid : Machine = record m { h = cross p t m.h } in
    let held : IsKept mid = crossed_step m t p kept h.0
    (pairs_all (λ _. Unit {0}) (λ g e. g.txn ≡ t → e.txn ≡ t → p e.number ≡ true → p g.number ≡ true) (standing m.h)
    (λ g e _ _ g_own e_own out. refl) (all_true (λ _. Unit {0}) (standing m.h) (λ _. tt))) in
    let gone : AllByRecursion (λ e. e.txn ≢ t) (standing mid.h) =
    subst (AllByRecursion (λ e. e.txn ≢ t)) (sym (uncross_marked (λ u k. u == t && p k) m.h))
    (all_from (λ e. not (e.txn == t && true) ≡ true) (λ e. e.txn ≢ t)
    (λ e out own. true≢false (sym (ap (λ (b : Bool). b && true) (eq-eqb e.txn t own))
    ∙ not_true (e.txn == t && true) out))
    (filter (λ e. not (e.txn == t && true)) (standing m.h))
    (passed (λ e. not (e.txn == t && true)) (standing m.h))) in
    let x : Txn = record (m.txns t) { status = Rolling None } in
    subst IsKept (sym h.1) (kept_turned mid t x held (record {
      owns = all_from (λ e. e.txn ≢ t) (OwnsStill mid t x) (λ e off own. absurd (off own)) (standing mid.h) gone;
      apart = λ u off may. absurd may;
      txn = record { begun = λ may. absurd may; waits = tt; saved = λ may. absurd may };
    }))

committed_owns : (m : Machine) (t : ℕ) (e : Entry) → Owns (m.txns t) e.op → Owns (ended (m.txns t) Committed) e.op
committed_owns m t e owns = (owns.0, inl refl)

pub kept_step : (m n : Machine) (line : Line) → Step m line n → IsKept m → IsKept n
kept_step m n (Begins t) h kept = subst IsKept (sym h.1) (begins_step m t kept h.0.1)
kept_step m n (Acts t o k) h kept = acts_step m n t o k kept h
kept_step m n (TellsAnswer t a) h kept = tells_step m n t a kept h
kept_step m n (Reads t q) h kept =
    subst IsKept (sym h.3) (takes_on m t (asked_span q) _ kept h.0 tt refl refl h.2 (inl refl)
    (saves_of m t Open kept h.0 tt))
kept_step m n (TellsRow t value) h kept =
    subst IsKept (sym h.3) (goes_on m t _ _ kept h.1 tt tt refl refl tt (saves_of m t _ kept h.1 tt))
kept_step m n (TellsRows t rows) h kept =
    subst IsKept (sym h.4) (goes_on m t _ _ kept h.2 tt tt refl refl tt (saves_of m t _ kept h.2 tt))
kept_step m n (Saves t s) h kept =
    subst IsKept (sym h.3) (goes_on m t Open _ kept h.0 tt (may_by m t Open h.0 tt) refl refl
    (subst (Awaits (standing m.h) t (m.txns t).spans ((m.txns t).saves ++ numbers_of t m.h ∷ [])) (sym h.0) tt)
    (all_appended (IsSave (standing m.h) m.h t) (m.txns t).saves (numbers_of t m.h ∷ []) (saves_of m t Open kept h.0 tt)
    (save_more m t, tt)))
kept_step m n (GoesBack t s) h kept = goes_back_step m n t s kept h
kept_step m n (TellsBack t s) h kept =
    subst IsKept (sym h.1) (goes_on m t _ _ kept h.0 tt tt refl refl tt (saves_of m t _ kept h.0 tt))
kept_step m n (RollsBack t) h kept = rolls_back_step m n t kept h
kept_step m n (TellsRolledBack t) h kept =
    subst IsKept (sym h.1) (ends m t _ _ kept h.0 (λ may. may)
    (λ e owns. owns_none m t _ (ended (m.txns t) Gone) e h.0 (λ s. cc) (λ may. may) owns) tt)
kept_step m n (Commits t) h kept =
    subst IsKept (sym h.1) (goes_on m t Open _ kept h.0 tt tt refl refl tt (saves_of m t Open kept h.0 tt))
kept_step m n (TellsCommitted t) h kept =
    subst IsKept (sym h.1) (ends m t _ _ kept h.0 (λ may. may) (committed_owns m t) tt)
kept_step m n Crashes h kept = kept_crash m n h kept
kept_step m n (TellsLost t) h kept =
    subst IsKept (sym h.1) (ends m t _ _ kept h.0 (λ may. may)
    (λ e owns. owns_none m t _ (ended (m.txns t) Gone) e h.0 (λ s. cc) (λ may. may) owns) tt)
kept_step m n (IsRefused call refusal) h kept = subst IsKept (sym h.1) kept
