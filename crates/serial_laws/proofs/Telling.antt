-- So what it was told then is what it would be told if all that asked before it had gone before.
use Rattle.std.proofs.Common.{◌≡◌, ◌≢◌, ℕ, Bool, true, false, List, [], ◌∷◌, Option, refl, sym, ap, ◌∙◌, subst, inl, inr, true≢false, eq-eqb}
use Rattle.std.specs.Prelude.{◌==◌, if◌then◌else◌}
use Rattle.std.specs.List.{AllByRecursion}
use Rattle.std.specs.FinMap.{empty, get}
use Rattle.record_key.specs.declared.op.Op.{Op}
use Rattle.record_key.specs.declared.op.Answer.{Answer}
use Rattle.record_key.specs.Table.{Bytes, Table, is_add, answer_in}
use Rattle.record_key.specs.Order.{rows_in}
use Rattle.history.specs.History.{plain, entries_of, is_among}
use Rattle.history.specs.Spans.{Span, Shared, Increment, Exclusive, changed_span, do_conflict, mode_of}
use Rattle.history.specs.ListMachine.{Query, OfKey, OfRange, asked_range, asked_span, Machine, Status, Waiting, Reading, Line, Begins, Acts, TellsAnswer, Reads, TellsRow, TellsRows, Saves, GoesBack, TellsBack, RollsBack, TellsRolledBack, Commits, TellsCommitted, Crashes, TellsLost, IsRefused, HasStatus, Step, Steps}
use Rattle.simulation.specs.View.{standing, IsAmong}
use Rattle.serial_laws.specs.Replay.{replay}
use Rattle.serial_laws.specs.Serial.{MayCommit, asked_after, of_others, in_turn, table_before, Stands, TellsOf}
use Rattle.serial_laws.proofs.Passing.{replay_append, plain_replay}
use Rattle.serial_laws.proofs.Listing.{all_two}
use Rattle.serial_laws.proofs.Keeping.{IsOwned, IsAwaited, Awaits, within_itself}
use Rattle.serial_laws.proofs.Asking.{IsClosed, IsDone}
use Rattle.serial_laws.proofs.Turning.{InOrder, not_among, turned, others_out, others_all, own_others}
use Rattle.serial_laws.proofs.Viewing.{meets, IsView, view_replay, view_fewer, range_view, SameIn, same_rows, answer_view}
use Rattle.serial_laws.proofs.Before.{before_all}
use Rattle.serial_laws.proofs.Seeing.{held_quiet, sees_held, seen}

-- an open transaction sees now what those that asked leave, and what it did itself
module _ (m : Machine) (ts : List ℕ) (t : ℕ) (st : Status) (s : Span) (R : Table → Table → Type 0) (view : IsView s R)
    (has : InOrder m ts) (is : HasStatus m t st) (open_txn : IsClosed st → ⊥) (may : MayCommit st)
    (among : IsAmong s (m.txns t).spans)
  where
    could : MayCommit (m.txns t).status
    could = subst MayCommit (sym is) may

    out : is_among t ts ≡ false
    out = not_among m t st ts has.asked is open_txn

    plain_is : plain m.h ≡ replay (table_before t ts m.h) (of_others ts (standing m.h))
    plain_is =
        sym (plain_replay m.h) ∙ sym ((turned ts (standing m.h) has.ordered has.kept.told).leaves)
        ∙ replay_append empty (of_others ts (standing m.h)) (in_turn ts (standing m.h))
        ∙ ap (λ us. replay (replay empty (in_turn us (standing m.h))) (of_others ts (standing m.h)))
        (sym (before_all t ts out))

    quiet : AllByRecursion (λ e. (e.txn == t) ≡ false → meets s e.op ≡ false) (of_others ts (standing m.h))
    quiet =
        all_two (λ e. (e.txn ≢ t → MayCommit (m.txns e.txn).status → meets s e.op ≡ false) × IsOwned m e)
        (λ e. is_among e.txn ts ≡ false) (λ e. (e.txn == t) ≡ false → meets s e.op ≡ false)
        (of_others ts (standing m.h))
        (λ e both e_out off. elim (both.1.1) [
          | inl committed ↦ absurd (true≢false (sym (has.asked.all e.txn (subst IsDone (sym committed) tt)) ∙ e_out))
          | inr holds ↦ both.0 (λ same. true≢false (sym (eq-eqb e.txn t same) ∙ off)) holds.0
        ])
        (others_all (λ e. (e.txn ≢ t → MayCommit (m.txns e.txn).status → meets s e.op ≡ false) × IsOwned m e) ts
        (standing m.h)
        (all_two (λ e. e.txn ≢ t → MayCommit (m.txns e.txn).status → meets s e.op ≡ false) (IsOwned m)
        (λ e. (e.txn ≢ t → MayCommit (m.txns e.txn).status → meets s e.op ≡ false) × IsOwned m e) (standing m.h)
        (λ e a b. (a, b)) (held_quiet m t s has.kept could among) has.kept.owned))
        (others_out ts (standing m.h))

    now : R (plain m.h) (replay (table_before t ts m.h) (entries_of t (standing m.h)))
    now =
        subst (λ x. R x (replay (table_before t ts m.h) (entries_of t (standing m.h)))) (sym plain_is)
        (subst (λ x. R (replay (table_before t ts m.h) (of_others ts (standing m.h)))
        (replay (table_before t ts m.h) x))
        (own_others t ts (standing m.h) out)
        (view_fewer s R view (table_before t ts m.h) (λ e. e.txn == t) (of_others ts (standing m.h)) quiet))

    pub then_too : (n : Machine) (lines : List Line) → Steps m lines n → AllByRecursion (λ l. l ≢ Begins t) lines
        → Stands (n.txns t).status
        → R (plain m.h) (replay (table_before t (asked_after ts lines) n.h) (entries_of t (standing m.h)))
    then_too n lines steps none stands =
        view.joined (plain m.h) (replay (table_before t ts m.h) (entries_of t (standing m.h)))
        (replay (table_before t (asked_after ts lines) n.h) (entries_of t (standing m.h))) now
        (view_replay s R view (table_before t ts m.h) (table_before t (asked_after ts lines) n.h)
        (entries_of t (standing m.h))
        (seen t s R view m n lines ts steps none stands (sees_held m ts t s has could among)))

-- of a line that tells it so
abbrev pub Later : Machine → Machine → List ℕ → List Line → ℕ → Table
Later m n ts more t = replay (table_before t (asked_after ts more) n.h) (entries_of t (standing m.h))

told_answer : (m n : Machine) (ts : List ℕ) (more : List Line) (t k : ℕ) (o : Op) → InOrder m ts → Steps m more n
    → AllByRecursion (λ l. l ≢ Begins t) more → Stands (n.txns t).status → HasStatus m t (Waiting k o)
    → answer_in (plain m.h) o ≡ answer_in (Later m n ts more t) o
told_answer m n ts more t k o has steps none stands is =
    let seen_so = answer_view o in
    let awaits : IsAwaited (standing m.h) t (m.txns t).spans (m.txns t).saves k o =
    subst (Awaits (standing m.h) t (m.txns t).spans (m.txns t).saves) is (has.kept.each t).waits in
    seen_so.2 (plain m.h) (Later m n ts more t)
    (then_too m ts t (Waiting k o) (changed_span o) seen_so.0 seen_so.1 has is (λ x. x) tt awaits.held n more steps none
    stands)

told_range : (m n : Machine) (ts : List ℕ) (more : List Line) (t : ℕ) (q : Query) → InOrder m ts → Steps m more n
    → AllByRecursion (λ l. l ≢ Begins t) more → Stands (n.txns t).status → HasStatus m t (Reading q)
    → SameIn (asked_range q) (plain m.h) (Later m n ts more t)
told_range m n ts more t q has steps none stands is =
    let held : IsAmong (asked_span q) (m.txns t).spans =
    subst (Awaits (standing m.h) t (m.txns t).spans (m.txns t).saves) is (has.kept.each t).waits in
    then_too m ts t (Reading q) (asked_span q) (SameIn (asked_range q)) (range_view (asked_span q) shared) has is
    (λ x. x)
    tt held n more steps none stands
  where
    shared : (o : Op) → do_conflict Shared (mode_of o) ≡ true
    shared o = pick (is_add o)
      where
        pick : (b : Bool) → do_conflict Shared (if b then Increment else Exclusive) ≡ true
        pick true = refl
        pick false = refl

module _ (m mid n : Machine) (ts : List ℕ) (more : List Line) (t : ℕ) (has : InOrder m ts) (steps : Steps mid more n)
    (none : AllByRecursion (λ l. l ≢ Begins t) more) (stands : Stands (n.txns t).status)
  where
    answer_told : (u : ℕ) (a : Answer) → Step m (TellsAnswer u a) mid
        → TellsOf (Later m n ts (TellsAnswer u a ∷ more) t) m t (TellsAnswer u a)
    answer_told u a h own k o is =
        let at : HasStatus m t (Waiting (h.0) (h.1)) = subst (λ (v : ℕ). HasStatus m v (Waiting (h.0) (h.1))) own h.2 in
        let e : Waiting (h.0) (h.1) ≡ Waiting k o = sym at ∙ is in
        let same : h.1 ≡ o = cc in
        h.3 ∙ ap (answer_in (plain m.h)) same
        ∙ told_answer m n ts (TellsAnswer u a ∷ more) t k o has (mid, h, steps) ((λ e. cc), none) stands is

    row_told : (u : ℕ) (value : Option Bytes) → Step m (TellsRow u value) mid
        → TellsOf (Later m n ts (TellsRow u value ∷ more) t) m t (TellsRow u value)
    row_told u value h own k is =
        let at : HasStatus m t (Reading (OfKey (h.0))) =
        subst (λ (v : ℕ). HasStatus m v (Reading (OfKey (h.0)))) own h.1 in
        let e : Reading (OfKey (h.0)) ≡ Reading (OfKey k) = sym at ∙ is in
        let same : h.0 ≡ k = cc in
        h.2 ∙ ap (get (plain m.h)) same
        ∙ told_range m n ts (TellsRow u value ∷ more) t (OfKey k) has (mid, h, steps) ((λ e. cc), none) stands is k
        (within_itself k)

    rows_told : (u : ℕ) (rows : List (Bytes × Bytes)) → Step m (TellsRows u rows) mid
        → TellsOf (Later m n ts (TellsRows u rows ∷ more) t) m t (TellsRows u rows)
    rows_told u rows h own lo hi is =
        let at : HasStatus m t (Reading (OfRange (h.0) (h.1))) =
        subst (λ (v : ℕ). HasStatus m v (Reading (OfRange (h.0) (h.1)))) own h.2 in
        let e : Reading (OfRange (h.0) (h.1)) ≡ Reading (OfRange lo hi) = sym at ∙ is in
        let low : h.0 ≡ lo = cc in
        let high : h.1 ≡ hi = cc in
        h.3 ∙ ap (λ l. rows_in (asked_range (OfRange l (h.1))) (plain m.h)) low
        ∙ ap (λ x. rows_in (asked_range (OfRange lo x)) (plain m.h)) high
        ∙ same_rows (asked_range (OfRange lo hi)) (plain m.h) (Later m n ts (TellsRows u rows ∷ more) t)
        (told_range m n ts (TellsRows u rows ∷ more) t (OfRange lo hi) has (mid, h, steps) ((λ e. cc), none) stands is)

    pub told_line : (line : Line) → Step m line mid → TellsOf (Later m n ts (line ∷ more) t) m t line
    told_line (TellsAnswer u a) h = answer_told u a h
    told_line (TellsRow u value) h = row_told u value h
    told_line (TellsRows u rows) h = rows_told u rows h
    told_line (Begins u) h = tt
    told_line (Acts u o k) h = tt
    told_line (Reads u q) h = tt
    told_line (Saves u s) h = tt
    told_line (GoesBack u s) h = tt
    told_line (TellsBack u s) h = tt
    told_line (RollsBack u) h = tt
    told_line (TellsRolledBack u) h = tt
    told_line (Commits u) h = tt
    told_line (TellsCommitted u) h = tt
    told_line Crashes h = tt
    told_line (TellsLost u) h = tt
    told_line (IsRefused call refusal) h = tt

-- both reads are told what those before it leave, and what it did
pub read_again : (m mid k n : Machine) (ts : List ℕ) (more : List Line) (t : ℕ) (lo : Bytes) (hi : Option Bytes)
    (rows again : List (Bytes × Bytes)) → InOrder m ts → InOrder k (asked_after ts (TellsRows t rows ∷ more))
    → HasStatus m t (Reading (OfRange lo hi)) → Step m (TellsRows t rows) mid → Steps mid more k
    → HasStatus k t (Reading (OfRange lo hi)) → Step k (TellsRows t again) n
    → AllByRecursion (λ l. l ≢ Begins t) more → entries_of t (standing k.h) ≡ entries_of t (standing m.h)
    → again ≡ rows
read_again m mid k n ts more t lo hi rows again has later is h steps is_again h_again none own =
    let r = asked_range (OfRange lo hi) in
    let us : List ℕ = asked_after ts (TellsRows t rows ∷ more) in
    let stands : Stands (k.txns t).status = inl (subst MayCommit (sym is_again) tt) in
    let first = told_line m mid k ts more t has steps none stands (TellsRows t rows) h refl lo hi is in
    let at : Reading (OfRange (h_again.0) (h_again.1)) ≡ Reading (OfRange lo hi) = sym h_again.2 ∙ is_again in
    let low : h_again.0 ≡ lo = cc in
    let high : h_again.1 ≡ hi = cc in
    let second : again ≡ rows_in r (plain k.h) =
    h_again.3 ∙ ap (λ l. rows_in (asked_range (OfRange l (h_again.1))) (plain k.h)) low
    ∙ ap (λ x. rows_in (asked_range (OfRange lo x)) (plain k.h)) high in
    second
    ∙ same_rows r (plain k.h) (Later k k us [] t)
    (told_range k k us [] t (OfRange lo hi) later refl tt stands is_again)
    ∙ ap (λ x. rows_in r (replay (table_before t us k.h) x)) own
    ∙ sym first
