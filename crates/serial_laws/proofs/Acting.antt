-- A transaction's lines are a run of it alone.
use Rattle.std.proofs.Common.{◌≡◌, ◌≢◌, ℕ, suc, ◌+◌, ◌-◌, ◌<◌, ◌≤◌, Bool, true, false, cond, List, [], ◌∷◌, ◌++◌, Option, Some, refl, sym, ap, ◌∙◌, subst, arith, inr, ◌⊎◌, true≢false, eqb-true}
use Rattle.std.specs.Prelude.{◌==◌, filter, take}
use Rattle.std.specs.List.{AllByRecursion}
use Rattle.record_key.specs.declared.op.Op.{Op}
use Rattle.record_key.specs.declared.op.Answer.{Answer}
use Rattle.record_key.specs.Table.{Bytes, Table, answer_in}
use Rattle.history.specs.History.{Entry, placed, entries_of, numbers_of, is_among}
use Rattle.history.specs.ListMachine.{Query, Machine, Txn, Status, Open, Waiting, Rolling, Committed, Line, Begins, Acts, TellsAnswer, Reads, TellsRow, TellsRows, Saves, GoesBack, TellsBack, RollsBack, TellsRolledBack, Commits, TellsCommitted, Crashes, TellsLost, IsRefused, HasStatus, Step, Steps, with_txn, blank}
use Rattle.simulation.specs.View.{standing}
use Rattle.simulation.proofs.Entries.{all_filtered}
use Rattle.serial_laws.specs.Replay.{replay}
use Rattle.serial_laws.specs.Serial.{MayCommit, asked_on, asked_after, table_before, Stands, TellsOf}
use Rattle.serial_laws.specs.Alone.{Alone, starts, is_line_of, StepAlone, StepsAlone}
use Rattle.serial_laws.proofs.Passing.{Parts, parts}
use Rattle.serial_laws.proofs.Listing.{all_two, all_first, passed, among_own}
use Rattle.serial_laws.proofs.Keeping.{IsAwaited, Awaits, IsKept}
use Rattle.serial_laws.proofs.Turning.{InOrder, none_begun, order_step}
use Rattle.serial_laws.proofs.Following.{follows, stood}
use Rattle.serial_laws.proofs.Before.{own_none}
use Rattle.serial_laws.proofs.Telling.{told_line}
use Rattle.serial_laws.proofs.Saved.{kept_of, AreSaved, saved_length, saved_more, saved_now, saved_back}
use Rattle.serial_laws.proofs.Owned.{Leaves, leaves, own_first, own_back}

-- what it has alone is what the machine has of it; of how it does that nothing is asked once it has committed
record IsSame (s : List Entry) (z : Txn) (x : Alone) : Type 0 where
  status : x.status ≡ z.status
  saves : AreSaved s z.saves x.saves

record MirrorsOf (s : List Entry) (z : Txn) (x : Alone) : Type 0 where
  own : x.own ≡ s
  rest : (z.status ≡ Committed) ⊎ IsSame s z x

abbrev Mirrors : Machine → ℕ → Alone → Type 0
Mirrors m t x = MirrorsOf (entries_of t (standing m.h)) (m.txns t) x

same_of : (m : Machine) (t : ℕ) (s : Status) (x : Alone) → Mirrors m t x → HasStatus m t s → s ≢ Committed
    → IsSame (entries_of t (standing m.h)) (m.txns t) x
same_of m t s x has is other = grind arith

left_alone : (m n : Machine) (t : ℕ) (x : Alone) → Mirrors m t x → Leaves m n t → Mirrors n t x
left_alone m n t x has is = grind arith

to_next : (m n : Machine) (t : ℕ) (z : Txn) (g : List Entry) (y : Alone) → n ≡ record (with_txn m t z) { h = g }
    → MirrorsOf (entries_of t (standing g)) z y → Mirrors n t y
to_next m n t z g y is has = grind arith

abbrev Goes : Table → Machine → ℕ → Alone → Line → Type 0
Goes table n t x line = (y : Alone) × StepAlone table x line y × Mirrors n t y

module _ (table : Table) (m n : Machine) (t : ℕ) (x : Alone) (kept : IsKept m) (has : Mirrors m t x) where
  own_table : replay table x.own ≡ replay table (entries_of t (standing m.h))
  own_table = ap (replay table) has.own

  acts : (o : Op) (k : ℕ) → Step m (Acts t o k) n → Goes table n t x (Acts t o k)
  acts o k h = grind arith

  reads : (q : Query) → Step m (Reads t q) n → Goes table n t x (Reads t q)
  reads q h = grind arith

  row : (value : Option Bytes) → Step m (TellsRow t value) n
      → TellsOf (replay table (entries_of t (standing m.h))) m t (TellsRow t value)
      → Goes table n t x (TellsRow t value)
  row value h told = grind arith

  rows_of : (rows : List (Bytes × Bytes)) → Step m (TellsRows t rows) n
      → TellsOf (replay table (entries_of t (standing m.h))) m t (TellsRows t rows)
      → Goes table n t x (TellsRows t rows)
  rows_of rows h told = grind arith

  back : (s : ℕ) → Step m (TellsBack t s) n → Goes table n t x (TellsBack t s)
  back s h = grind arith

  commits : Step m (Commits t) n → Goes table n t x (Commits t)
  commits h = grind arith

  saves_one : (s : ℕ) → Step m (Saves t s) n → Goes table n t x (Saves t s)
  saves_one s h =
      let same = same_of m t Open x has h.0 (λ e. cc) in
      let own : List Entry = entries_of t (standing m.h) in
      let among : AllByRecursion (λ e. is_among e.number (numbers_of t m.h) ≡ true) (entries_of t (standing m.h)) =
      all_two (λ e. e.txn ≡ t → is_among e.number (numbers_of t m.h) ≡ true) (λ e. (e.txn == t) ≡ true)
      (λ e. is_among e.number (numbers_of t m.h) ≡ true) (entries_of t (standing m.h))
      (λ e is own. is (eqb-true e.txn t own))
      (all_filtered (λ e. e.txn ≡ t → is_among e.number (numbers_of t m.h) ≡ true) (λ e. e.txn == t) (standing m.h)
      (among_own t m.h))
      (passed (λ e. e.txn == t) (standing m.h)) in
      let y : Alone = record x { saves = x.saves ++ x.own ∷ [] } in (
        y,
        (same.status ∙ h.0, ap (λ (n : ℕ). n + 1) (saved_length own (m.txns t).saves x.saves same.saves) ∙ h.1, refl),
        to_next m n t _ m.h y h.3 (record {
          own = has.own;
          rest = inr (record {
            status = same.status;
            saves = subst (λ w. AreSaved (entries_of t (standing m.h)) ((m.txns t).saves ++ numbers_of t m.h ∷ [])
                (x.saves ++ w ∷ [])) (sym has.own)
                (saved_now (entries_of t (standing m.h)) (numbers_of t m.h) (m.txns t).saves x.saves among same.saves);
          });
        }),
      )

  goes_back : (s : ℕ) → Step m (GoesBack t s) n → Goes table n t x (GoesBack t s)
  goes_back s h =
      let same = same_of m t Open x has h.1 (λ e. cc) in
      let own : List Entry = entries_of t (standing m.h) in
      let gone = saved_back (s - 1) own (h.0) (m.txns t).saves x.saves same.saves h.3 in
      let one : suc (s - 1) ≡ s = omega (arith, h.2) in
      let y : Alone = record { status = Rolling (Some s); own = kept_of (h.0) own; saves = take s x.saves } in (
        y,
        (kept_of (h.0) own, same.status ∙ h.1, h.2, gone.got, refl),
        to_next m n t _ _ y h.4 (record {
          own = sym (own_back t (h.0) m.h);
          rest = inr (record {
            status = refl;
            saves = subst (λ w. AreSaved w (take s (m.txns t).saves) (take s x.saves)) (sym (own_back t (h.0) m.h))
                (subst (λ (k : ℕ). AreSaved (kept_of (h.0) own) (take k (m.txns t).saves) (take k x.saves)) one
                gone.saved);
          });
        }),
      )

  answer : (a : Answer) → Step m (TellsAnswer t a) n
      → TellsOf (replay table (entries_of t (standing m.h))) m t (TellsAnswer t a) → Goes table n t x (TellsAnswer t a)
  answer a h told =
      let k : ℕ = h.0 in
      let o : Op = h.1 in
      let same = same_of m t (Waiting k o) x has h.2 (λ e. cc) in
      let e : Entry = record { number = k; txn = t; op = o; answer = a; crossed = false } in
      let awaits : IsAwaited (standing m.h) t (m.txns t).spans (m.txns t).saves k o =
      subst (Awaits (standing m.h) t (m.txns t).spans (m.txns t).saves) h.2 (kept.each t).waits in
      let p : Parts e (standing m.h) (standing (placed e m.h)) = parts e m.h refl in
      let none : AllByRecursion (λ f. f.txn ≢ t) p.newer =
      all_two (λ f. k ≤ f.number) (λ f. f.txn ≡ t → f.number < k) (λ f. f.txn ≢ t) p.newer
      (λ f le below own. let lt : f.number < k = below own in absurd (omega (arith, le, lt))) p.above
      (all_first (λ f. f.txn ≡ t → f.number < k) p.newer p.older
      (subst (AllByRecursion (λ f. f.txn ≡ t → f.number < k)) p.before awaits.own)) in
      let first : entries_of t (standing (placed e m.h)) ≡ e ∷ entries_of t (standing m.h) =
      ap (entries_of t) p.now ∙ own_first t e p.newer p.older refl none
      ∙ ap (λ s. e ∷ entries_of t s) (sym p.before) in
      let y : Alone = record x { status = Open; own = e ∷ x.own } in (
        y,
        (k, o, same.status ∙ h.2, told refl k o h.2 ∙ ap (λ z. answer_in z o) (sym own_table), refl),
        to_next m n t _ _ y h.4 (record {
          own = ap (λ s. e ∷ s) has.own ∙ sym first;
          rest = inr (record {
            status = refl;
            saves = subst (λ s. AreSaved s (m.txns t).saves x.saves) (sym first)
                (saved_more (entries_of t (standing m.h)) e (m.txns t).saves x.saves awaits.saved same.saves);
          });
        }),
      )

  cannot_stand : (s : Status) → (n.txns t).status ≡ s → (MayCommit s → ⊥) → s ≢ Committed → Stands (n.txns t).status → ⊥
  cannot_stand s is none other h = grind arith

  now_status : (z : Txn) (g : List Entry) → n ≡ record (with_txn m t z) { h = g } → (n.txns t).status ≡ z.status
  now_status z g is = grind arith

  -- a line of its own
  goes : (line : Line) → Step m line n → is_line_of t line ≡ true → Stands (n.txns t).status
      → TellsOf (replay table (entries_of t (standing m.h))) m t line → Goes table n t x line
  goes (Acts u o k) h is stands told = acts o k (subst (λ (v : ℕ). Step m (Acts v o k) n) (eqb-true u t is) h)
  goes (TellsAnswer u a) h is stands told =
      let e : u ≡ t = eqb-true u t is in
      subst (λ (v : ℕ). Goes table n t x (TellsAnswer v a)) (sym e)
      (answer a (subst (λ (v : ℕ). Step m (TellsAnswer v a) n) e h) (λ own. told e))
  goes (Reads u q) h is stands told = reads q (subst (λ (v : ℕ). Step m (Reads v q) n) (eqb-true u t is) h)
  goes (TellsRow u value) h is stands told = grind (arith, eqb-true, row)
  goes (TellsRows u rows) h is stands told = grind (arith, eqb-true, rows_of)
  goes (Saves u s) h is stands told = saves_one s (subst (λ (v : ℕ). Step m (Saves v s) n) (eqb-true u t is) h)
  goes (GoesBack u s) h is stands told = goes_back s (subst (λ (v : ℕ). Step m (GoesBack v s) n) (eqb-true u t is) h)
  goes (TellsBack u s) h is stands told = back s (subst (λ (v : ℕ). Step m (TellsBack v s) n) (eqb-true u t is) h)
  goes (Commits u) h is stands told = commits (subst (λ (v : ℕ). Step m (Commits v) n) (eqb-true u t is) h)
  goes (RollsBack u) h is stands told = grind (arith, eqb-true, cannot_stand, now_status)
  goes (TellsRolledBack u) h is stands told = grind (arith, eqb-true, cannot_stand, now_status)
  goes (Begins u) h is stands told = absurd (true≢false (sym is))
  goes (TellsCommitted u) h is stands told = absurd (true≢false (sym is))
  goes Crashes h is stands told = absurd (true≢false (sym is))
  goes (TellsLost u) h is stands told = absurd (true≢false (sym is))
  goes (IsRefused call refusal) h is stands told = absurd (true≢false (sym is))

stood_at : (m n : Machine) (lines : List Line) (t : ℕ) → Steps m lines n → AllByRecursion (λ l. l ≢ Begins t) lines
    → Stands (n.txns t).status → Stands (m.txns t).status
stood_at m n [] t steps none stands = subst (λ y. Stands (y.txns t).status) steps stands
stood_at m n (line ∷ lines) t steps none stands =
    stood (m.txns t) (steps.0.txns t) (follows m steps.0 line t steps.1 none.0)
    (stood_at steps.0 n lines t steps.2 none.1 stands)

-- all of them
abbrev pub Ends : Table → Machine → ℕ → Alone → List Line → Type 0
Ends table n t x lines = (y : Alone) × StepsAlone table x lines y × (y.own ≡ entries_of t (standing n.h))

alone_from : (m n : Machine) (ts : List ℕ) (more : List Line) (t : ℕ) (x : Alone) (table : Table) → InOrder m ts
    → Steps m more n → AllByRecursion (λ l. l ≢ Begins t) more → Stands (n.txns t).status → Mirrors m t x
    → table_before t (asked_after ts more) n.h ≡ table
    → Ends table n t x (filter (is_line_of t) more)
alone_from m n ts [] t x table order steps none stands has is = grind arith
alone_from m n ts (line ∷ more) t x table order steps none stands has is =
    pick (is_line_of t line) refl
    (λ y mirrors. alone_from (steps.0) n (asked_on ts line) more t y table
    (order_step m (steps.0) line ts steps.1 order) steps.2 none.1 stands mirrors is)
  where
    here : Stands (steps.0.txns t).status
    here = stood_at steps.0 n more t steps.2 none.1 stands

    told : TellsOf (replay table (entries_of t (standing m.h))) m t line
    told =
        subst (λ z. TellsOf (replay z (entries_of t (standing m.h))) m t line) is
        (told_line m (steps.0) n ts more t order steps.2 none.1 stands line steps.1)

    pick : (b : Bool) → is_line_of t line ≡ b
        → ((y : Alone) → Mirrors (steps.0) t y → Ends table n t y (filter (is_line_of t) more))
        → Ends table n t x (cond b (line ∷ filter (is_line_of t) more) (filter (is_line_of t) more))
    pick true own rest =
        let one = goes table m (steps.0) t x order.kept has line steps.1 own here told in
        let all = rest one.0 one.2 in
        (all.0, (one.0, one.1, all.1), all.2)
    pick false own rest = rest x (left_alone m (steps.0) t x has (leaves m (steps.0) line t steps.1 own none.0 here))

pub alone_all : (m mid n : Machine) (ts : List ℕ) (more : List Line) (t : ℕ) → InOrder m ts → Step m (Begins t) mid
    → Steps mid more n → AllByRecursion (λ l. l ≢ Begins t) more → Stands (n.txns t).status
    → Ends (table_before t (asked_after ts (Begins t ∷ more)) n.h) n t starts (filter (is_line_of t) more)
alone_all m mid n ts more t order h steps none stands =
    alone_from mid n (asked_on ts (Begins t)) more t starts (table_before t (asked_after ts (Begins t ∷ more)) n.h)
    (order_step m mid (Begins t) ts h order) steps none stands
    (to_next m mid t blank m.h starts h.1 (record {
      own = sym (own_none t (standing m.h) (none_begun m t order.kept h.0.1));
      rest = inr (record { status = refl; saves = tt });
    }))
    refl
