-- What a transaction sees of those that asked before it stays, as long as it hasn't fallen.
use Rattle.std.proofs.Common.{arith, ◌≡◌, ◌≢◌, ℕ, Bool, true, false, List, [], ◌∷◌, refl, sym, ap, ◌∙◌, subst, inl, inr, ◌⊎◌, true≢false, eqb-true}
use Rattle.std.specs.Prelude.{◌==◌, if◌then◌else◌}
use Rattle.std.specs.List.{AllByRecursion}
use Rattle.std.specs.FinMap.{empty}
use Rattle.std.proofs.lemmas.Bool.{cases_Bool, cases_eq}
use Rattle.record_key.specs.Table.{Table}
use Rattle.record_key.proofs.Lists.{all_from}
use Rattle.history.specs.History.{Entry, entries_of, is_among}
use Rattle.history.specs.Spans.{Span, changed_span}
use Rattle.history.specs.ListMachine.{Machine, Txn, Open, Committed, Line, Begins, Commits, HasStatus, Step, Steps}
use Rattle.simulation.specs.View.{standing, IsAmong}
use Rattle.simulation.proofs.Entries.{all_filtered}
use Rattle.simulation.proofs.Lasting.{committed_kept}
use Rattle.serial_laws.specs.Replay.{replay}
use Rattle.serial_laws.specs.Serial.{MayCommit, asked_on, asked_after, in_turn, before, table_before, Stands}
use Rattle.serial_laws.proofs.Passing.{replay_append}
use Rattle.serial_laws.proofs.Listing.{all_two, all_between, passed}
use Rattle.serial_laws.proofs.Keeping.{IsOwned, IsKept}
use Rattle.serial_laws.proofs.Moving.{Moves, Same, Fewer, More, moves}
use Rattle.serial_laws.proofs.Asking.{IsClosed, IsDone, HaveAsked, without, asked_step}
use Rattle.serial_laws.proofs.Turning.{InOrder, not_among, none_begun, order_step}
use Rattle.serial_laws.proofs.Viewing.{meets, free_meets, IsView, same_view, view_none, turn_fewer}
use Rattle.serial_laws.proofs.Following.{follows, stood}
use Rattle.serial_laws.proofs.Before.{before_all, before_among, before_not, before_itself, before_more, before_without, without_among, turn_without, turn_between, Asks, Calm, Anew, Last, asks}

-- it holds the span, or has committed
abbrev pub Holds : Txn → Span → Type 0
Holds x s = (MayCommit x.status × IsAmong s x.spans) ⊎ (x.status ≡ Committed)

-- the entry is of none before it that may still be taken back and meets the span
abbrev pub IsQuiet : Machine → List ℕ → Span → Entry → Type 0
IsQuiet m ts s e = is_among e.txn ts ≡ true → MayCommit (m.txns e.txn).status → meets s e.op ≡ false

pub record Sees (m : Machine) (ts : List ℕ) (t : ℕ) (s : Span) : Type 0 where
  pub has : InOrder m ts
  pub holds : Holds (m.txns t) s
  pub quiet : AllByRecursion (IsQuiet m (before t ts) s) (standing m.h)

-- whoever else may still commit doesn't meet what it holds
pub held_quiet : (m : Machine) (t : ℕ) (s : Span) → IsKept m → MayCommit (m.txns t).status → IsAmong s (m.txns t).spans
    → AllByRecursion (λ e. e.txn ≢ t → MayCommit (m.txns e.txn).status → meets s e.op ≡ false) (standing m.h)
held_quiet m t s kept may among =
    all_from (IsOwned m) (λ e. e.txn ≢ t → MayCommit (m.txns e.txn).status → meets s e.op ≡ false)
    (λ e owned off too. elim (owned.1) [
      | inl committed ↦ absurd (subst MayCommit committed too)
      | inr holds ↦ free_meets s e.op
          (λ c. kept.apart t e.txn (λ same. off (sym same)) may too s (changed_span e.op) among holds.1 c)
    ])
    (standing m.h)
    kept.owned

pub sees_held : (m : Machine) (ts : List ℕ) (t : ℕ) (s : Span) → InOrder m ts → MayCommit (m.txns t).status
    → IsAmong s (m.txns t).spans → Sees m ts t s
sees_held m ts t s has may among = record {
  has = has;
  holds = inl (may, among);
  quiet = all_from (λ e. e.txn ≢ t → MayCommit (m.txns e.txn).status → meets s e.op ≡ false)
      (IsQuiet m (before t ts) s) (λ e quiet is too. quiet (λ same. true≢false
      (sym is ∙ ap (λ (k : ℕ). is_among k (before t ts)) same ∙ before_not t ts (standing m.h) has.ordered)) too)
      (standing m.h)
      (held_quiet m t s has.kept may among);
}

holds_on : (m n : Machine) (line : Line) (t : ℕ) (s : Span) → Step m line n → line ≢ Begins t
    → Stands (n.txns t).status → Holds (m.txns t) s → Holds (n.txns t) s
holds_on m n line t s h anew (inl may) (inl holds) =
    inl (may, (follows m n line t h anew).holds may s holds.1)
holds_on m n line t s h anew (inr is) holds = inr is
holds_on m n line t s h anew (inl may) (inr committed) = grind (arith, committed_kept)

-- what is quiet of the entries before the line is so of those after it
quiet_on : (m n : Machine) (ts us : List ℕ) (s : Span) → HaveAsked n ts
    → ((v : ℕ) → is_among v us ≡ true → is_among v ts ≡ true) → Moves m n
    → AllByRecursion (IsQuiet n us s) (standing m.h) → AllByRecursion (IsQuiet n us s) (standing n.h)
quiet_on m n ts us s have within (Same e) all = subst (AllByRecursion (IsQuiet n us s)) (sym e) all
quiet_on m n ts us s have within (Fewer p e which) all = grind (arith, all_filtered)
quiet_on m n ts us s have within (More e is opened p pass) all =
    subst (AllByRecursion (IsQuiet n us s)) (sym p.now)
    (all_between (IsQuiet n us s) e p.newer p.older
    (λ among may. absurd (subst IsClosed opened (have.closed e.txn (within e.txn among))))
    (subst (AllByRecursion (IsQuiet n us s)) p.before all))

module _ (t : ℕ) (s : Span) (R : Table → Table → Type 0) (view : IsView s R) where
  -- the same asked
  calm_table : (m n : Machine) (ts : List ℕ) → Sees m ts t s → Moves m n
      → R (table_before t ts m.h) (table_before t ts n.h)
  calm_table m n ts sees (Same e) = grind (arith, same_view)
  calm_table m n ts sees (Fewer p e which) = grind (arith, turn_fewer, all_two)
  calm_table m n ts sees (More e is opened p pass) =
      grind (arith, same_view, turn_between, cases_Bool, true≢false, before_among, not_among)

  calm : (m n : Machine) (line : Line) (ts : List ℕ) → Step m line n → ((u : ℕ) → line ≢ Begins u) → HaveAsked n ts
      → Sees m ts t s → AllByRecursion (IsQuiet n (before t ts) s) (standing n.h)
  calm m n line ts h none have sees =
      quiet_on m n ts (before t ts) s have (λ v. before_among t v ts) (moves m n line h sees.has.kept)
      (all_from (IsQuiet m (before t ts) s) (IsQuiet n (before t ts) s)
      (λ e quiet among may. quiet among ((follows m n line e.txn h (none e.txn)).may may))
      (standing m.h) sees.quiet)

  -- one begins
  anew_same : (m n : Machine) (u : ℕ) (ts : List ℕ) → Step m (Begins u) n → t ≢ u → IsKept m
      → table_before t ts m.h ≡ table_before t (without u ts) n.h
  anew_same m n u ts h apart kept =
      ap (replay empty) (sym (turn_without u (before t ts) (standing m.h) (none_begun m u kept h.0.1)))
      ∙ ap (λ us. replay empty (in_turn us (standing m.h))) (sym (before_without t u ts apart))
      ∙ ap (λ x. replay empty (in_turn (before t (without u ts)) x)) (sym (ap (λ y. standing y.h) h.1))

  anew_quiet : (m n : Machine) (u : ℕ) (ts : List ℕ) → Step m (Begins u) n → t ≢ u → HaveAsked n (without u ts)
      → Sees m ts t s → AllByRecursion (IsQuiet n (before t (without u ts)) s) (standing n.h)
  anew_quiet m n u ts h apart have sees =
      quiet_on m n (without u ts) (before t (without u ts)) s have (λ v. before_among t v (without u ts))
      (moves m n (Begins u) h sees.has.kept)
      (all_from (IsQuiet m (before t ts) s) (IsQuiet n (before t (without u ts)) s) (λ e quiet among may.
      let both = without_among e.txn u (before t ts)
      (ap (is_among e.txn) (sym (before_without t u ts apart)) ∙ among) in
      quiet both.1 ((follows m n (Begins u) e.txn h
      (λ same. both.0 (let P : (u ≡ e.txn) = cc in sym P))).may may))
      (standing m.h) sees.quiet)

  -- one asks
  last_same : (m n : Machine) (u : ℕ) → Step m (Commits u) n → standing n.h ≡ standing m.h
  last_same m n u h = ap (λ y. standing y.h) h.1

  last_table : (m n : Machine) (u : ℕ) (ts : List ℕ) → Step m (Commits u) n → Sees m ts t s → (b : Bool)
      → is_among t ts ≡ b → u ≢ t → R (table_before t ts m.h) (table_before t (u ∷ ts) n.h)
  last_table m n u ts h sees true is apart = grind (arith, same_view, before_more, last_same)
  last_table m n u ts h sees false is apart =
      let base : Table = replay empty (in_turn ts (standing m.h)) in
      subst (λ x. R x (table_before t (u ∷ ts) n.h))
      (sym (ap (λ us. replay empty (in_turn us (standing m.h))) (before_all t ts is)))
      (subst (R base)
      (sym (replay_append empty (entries_of u (standing m.h)) (in_turn ts (standing m.h)))
      ∙ ap (λ us. replay empty (in_turn us (standing m.h)))
      (sym (before_more t u ts apart ∙ ap (λ (b : Bool). if b then before t ts else u ∷ ts) is))
      ∙ ap (λ x. replay empty (in_turn (before t (u ∷ ts)) x)) (sym (last_same m n u h)))
      (view_none s R view base (entries_of u (standing m.h)) (own_quiet sees.holds)))
    where
      own_quiet : Holds (m.txns t) s → AllByRecursion (λ e. meets s e.op ≡ false) (entries_of u (standing m.h))
      own_quiet (inr committed) =
          absurd (true≢false (sym (sees.has.asked.all t (subst IsDone (sym committed) tt)) ∙ is))
      own_quiet (inl holds) =
          all_two (λ e. e.txn ≢ t → MayCommit (m.txns e.txn).status → meets s e.op ≡ false) (λ e. (e.txn == u) ≡ true)
          (λ e. meets s e.op ≡ false) (entries_of u (standing m.h))
          (λ e quiet own.
          let same : e.txn ≡ u = eqb-true e.txn u own in
          quiet (λ back. apart (sym same ∙ back))
          (subst (λ (k : ℕ). MayCommit (m.txns k).status) (sym same) (subst MayCommit (sym h.0) tt)))
          (all_filtered (λ e. e.txn ≢ t → MayCommit (m.txns e.txn).status → meets s e.op ≡ false) (λ e. e.txn == u)
          (standing m.h) (held_quiet m t s sees.has.kept holds.0 holds.1))
          (passed (λ e. e.txn == u) (standing m.h))

  own_table : (m n : Machine) (ts : List ℕ) → Step m (Commits t) n → Sees m ts t s
      → table_before t ts m.h ≡ table_before t (t ∷ ts) n.h
  own_table m n ts h sees = grind (arith, before_all, not_among, before_itself, last_same)

  last_quiet : (m n : Machine) (u : ℕ) (ts : List ℕ) → Step m (Commits u) n → HaveAsked n (u ∷ ts)
      → Sees m ts t s → AllByRecursion (IsQuiet n (before t (u ∷ ts)) s) (standing n.h)
  last_quiet m n u ts h have sees =
      quiet_on m n (u ∷ ts) (before t (u ∷ ts)) s have (λ v. before_among t v (u ∷ ts))
      (moves m n (Commits u) h sees.has.kept) (by (is_among t ts) refl sees.holds)
    where
      back : (e : Entry) → MayCommit (n.txns e.txn).status → MayCommit (m.txns e.txn).status
      back e may = (follows m n (Commits u) e.txn h (λ same. cc)).may may

      -- it asks itself, or has: those before it stay
      stays : before t (u ∷ ts) ≡ before t ts → AllByRecursion (IsQuiet n (before t (u ∷ ts)) s) (standing m.h)
      stays same =
          all_from (IsQuiet m (before t ts) s) (IsQuiet n (before t (u ∷ ts)) s)
          (λ e quiet among may. quiet (ap (is_among e.txn) (sym same) ∙ among) (back e may))
          (standing m.h) sees.quiet

      more : MayCommit (m.txns t).status × IsAmong s (m.txns t).spans → is_among t ts ≡ false
          → AllByRecursion (IsQuiet n (before t (u ∷ ts)) s) (standing m.h)
      more holds out =
          all_from (λ e. e.txn ≢ t → MayCommit (m.txns e.txn).status → meets s e.op ≡ false)
          (IsQuiet n (before t (u ∷ ts)) s) (λ e quiet among may. quiet
          (λ same. true≢false (sym among ∙ ap (λ (k : ℕ). is_among k (before t (u ∷ ts))) same
          ∙ before_not t (u ∷ ts) (standing n.h) (order_step m n (Commits u) ts h sees.has).ordered)) (back e may))
          (standing m.h)
          (held_quiet m t s sees.has.kept holds.0 holds.1)

      by : (b : Bool) → is_among t ts ≡ b → Holds (m.txns t) s
          → AllByRecursion (IsQuiet n (before t (u ∷ ts)) s) (standing m.h)
      by false is (inl holds) = more holds is
      by false is (inr committed) =
          absurd (true≢false (sym (sees.has.asked.all t (subst IsDone (sym committed) tt)) ∙ is))
      by true is holds =
          elim (cases_eq u t) [
            | inl same ↦ absurd (true≢false (sym is ∙ not_among m t Open ts sees.has.asked
                (subst (λ (k : ℕ). HasStatus m k Open) same h.0) (λ x. x)))
            | inr apart ↦ stays (before_more t u ts apart
                ∙ ap (λ (b : Bool). if b then before t ts else u ∷ ts) is)
          ]

  -- so one line
  abbrev Seen : Machine → List ℕ → Machine → List ℕ → Type 0
  Seen m ts n us = Sees n us t s × R (table_before t ts m.h) (table_before t us n.h)

  seen_by : (m n : Machine) (line : Line) (ts : List ℕ) → Step m line n → line ≢ Begins t → Stands (n.txns t).status
      → Sees m ts t s → Asks ts line → Seen m ts n (asked_on ts line)
  seen_by m n line ts h anew stands sees (Calm same none) =
      let have : HaveAsked n ts = subst (HaveAsked n) same (asked_step m n line ts h sees.has.asked) in
      let has : InOrder n ts = subst (InOrder n) same (order_step m n line ts h sees.has) in
      subst (Seen m ts n) (sym same) (
        record {
          has = has;
          holds = holds_on m n line t s h anew stands sees.holds;
          quiet =
              calm m n line ts h none have sees;
        },
        calm_table m n ts sees (moves m n line h sees.has.kept),
      )
  seen_by m n line ts h anew stands sees (Anew u is) =
      let step : Step m (Begins u) n = subst (λ l. Step m l n) is h in
      let apart : t ≢ u = λ e. anew (is ∙ ap Begins (sym e)) in
      let has : InOrder n (without u ts) = order_step m n (Begins u) ts step sees.has in
      subst (λ l. Seen m ts n (asked_on ts l)) (sym is) (
        record {
          has = has;
          holds = holds_on m n line t s h anew stands sees.holds;
          quiet = anew_quiet m n u ts step apart has.asked sees;
        },
        same_view s R view (table_before t ts m.h) (table_before t (without u ts) n.h)
            (anew_same m n u ts step apart sees.has.kept),
      )
  seen_by m n line ts h anew stands sees (Last u is) =
      let step : Step m (Commits u) n = subst (λ l. Step m l n) is h in
      let has : InOrder n (u ∷ ts) = order_step m n (Commits u) ts step sees.has in
      subst (λ l. Seen m ts n (asked_on ts l)) (sym is) (
        record {
          has = has;
          holds = holds_on m n line t s h anew stands sees.holds;
          quiet = last_quiet m n u ts step has.asked sees;
        },
        elim (cases_eq u t) [
          | inl same ↦ subst (λ (k : ℕ). R (table_before t ts m.h) (table_before t (k ∷ ts) n.h)) (sym same)
              (same_view s R view (table_before t ts m.h) (table_before t (t ∷ ts) n.h)
              (own_table m n ts (subst (λ (k : ℕ). Step m (Commits k) n) same step) sees))
          | inr apart ↦ last_table m n u ts step sees (is_among t ts) refl apart
        ],
      )

  stood_back : (m n : Machine) (lines : List Line) → Steps m lines n → AllByRecursion (λ l. l ≢ Begins t) lines
      → Stands (n.txns t).status → Stands (m.txns t).status
  stood_back m n [] steps none stands = subst (λ y. Stands (y.txns t).status) steps stands
  stood_back m n (line ∷ lines) steps none stands =
      stood (m.txns t) (steps.0.txns t) (follows m steps.0 line t steps.1 none.0)
      (stood_back steps.0 n lines steps.2 none.1 stands)

  -- and all
  pub seen : (m n : Machine) (lines : List Line) (ts : List ℕ) → Steps m lines n
      → AllByRecursion (λ l. l ≢ Begins t) lines → Stands (n.txns t).status → Sees m ts t s
      → R (table_before t ts m.h) (table_before t (asked_after ts lines) n.h)
  seen m n [] ts steps none stands sees =
      same_view s R view (table_before t ts m.h) (table_before t ts n.h)
      (ap (λ y. table_before t ts y.h) (sym steps))
  seen m n (line ∷ lines) ts steps none stands sees =
      let mid : Machine = steps.0 in
      let one : Seen m ts mid (asked_on ts line) =
      seen_by m mid line ts steps.1 none.0 (stood_back mid n lines steps.2 none.1 stands) sees (asks ts line) in
      view.joined (table_before t ts m.h) (table_before t (asked_on ts line) mid.h)
      (table_before t (asked_after (asked_on ts line) lines) n.h) one.1
      (seen mid n lines (asked_on ts line) steps.2 none.1 stands one.0)
