-- The entries that stand, one transaction after another.
use Rattle.std.proofs.Common.{◌≡◌, ◌≢◌, ℕ, Bool, true, false, List, [], ◌∷◌, ◌++◌, refl, sym, ap, ◌∙◌, subst, arith, inl, inr, true≢false, eq-eqb, ne_eqb, eqb-true, append_assoc}
use Rattle.std.specs.Prelude.{◌==◌, ◌<◌, filter, not}
use Rattle.std.specs.List.{AllByRecursion}
use Rattle.std.specs.FinMap.{empty}
use Rattle.std.proofs.lemmas.Bool.{cases_Bool}
use Rattle.record_key.specs.Table.{Table}
use Rattle.record_key.proofs.Lists.{all_from}
use Rattle.inverse.specs.Inverse.{PassBy}
use Rattle.inverse.proofs.Undo.{passes_back}
use Rattle.history.specs.History.{Entry, entries_of, is_among}
use Rattle.history.specs.ListMachine.{Machine, Status, Open, Committed, Line, Begins, Acts, TellsAnswer, Reads, TellsRow, TellsRows, Saves, GoesBack, TellsBack, RollsBack, TellsRolledBack, Commits, TellsCommitted, Crashes, TellsLost, IsRefused, HasStatus, Step, Steps, is_live, AreDifferent}
use Rattle.simulation.specs.View.{standing}
use Rattle.simulation.proofs.Entries.{all_filtered}
use Rattle.serial_laws.specs.Replay.{replay, AreTrue}
use Rattle.serial_laws.specs.Serial.{MayCommit, asked_on, asked_after, of_others, in_turn, IsSerial}
use Rattle.serial_laws.proofs.Passing.{Pairs, PassesAll, Sinks, IsAlike, sink, sunk, replay_append, true_append, true_first, true_second, plain_replay}
use Rattle.serial_laws.proofs.Listing.{all_two, all_true, pairs_with, pairs_all, pairs_filtered, pairs_between, passed, not_true, among_none}
use Rattle.serial_laws.proofs.Keeping.{Owns, IsOwned, IsKept, apart_pass}
use Rattle.serial_laws.proofs.Stepping.{kept_step}
use Rattle.serial_laws.proofs.Moving.{Moves, moves}
use Rattle.serial_laws.proofs.Asking.{IsClosed, IsDone, HaveAsked, out_of, without, without_other, asked_step}

-- what it did passes by what stands below it of others that come later
abbrev pub After : ℕ → List ℕ → Entry → Entry → Type 0
After t ts g e = g.txn ≡ t → e.txn ≢ t → is_among e.txn ts ≡ false → PassBy g.op e.op

abbrev pub Ordered : List ℕ → List Entry → Type 0
Ordered [] s = Unit {0}
Ordered (t ∷ ts) s = (is_among t ts ≡ false) × Pairs (After t ts) s × Ordered ts s

ordered_filtered : (ts : List ℕ) (p : Entry → Bool) (s : List Entry) → Ordered ts s → Ordered ts (filter p s)
ordered_filtered [] p s all = tt
ordered_filtered (t ∷ ts) p s all = (all.0, pairs_filtered (After t ts) p s all.1, ordered_filtered ts p s all.2)

ordered_between : (ts : List ℕ) (e : Entry) (newer older : List Entry) → is_among e.txn ts ≡ false
    → PassesAll e.op newer → Ordered ts (newer ++ older) → Ordered ts (newer ++ e ∷ older)
ordered_between [] e newer older out pass all = tt
ordered_between (t ∷ ts) e newer older out pass all =
    let apart = out_of e.txn t ts out in (
      all.0,
      pairs_between (After t ts) e newer older
          (all_from (λ g. PassBy e.op g.op) (λ g. After t ts g e)
          (λ g passes own other none. passes_back e.op g.op passes)
          newer pass)
          (all_true (After t ts e) older (λ f own. absurd (apart.0 (sym own))))
          all.1,
      ordered_between ts e newer older apart.1 pass all.2,
    )

ordered_without : (ts : List ℕ) (u : ℕ) (s : List Entry) → AllByRecursion (λ e. e.txn ≢ u) s → Ordered ts s
    → Ordered (without u ts) s
ordered_without [] u s none all = tt
ordered_without (t ∷ ts) u s none all =
    grind (arith, ordered_without ts u s none all.2, without_other, true≢false, eq-eqb, pairs_with)

-- the whole of what is kept of the order
pub record InOrder (m : Machine) (ts : List ℕ) : Type 0 where
  pub kept : IsKept m
  pub asked : HaveAsked m ts
  pub ordered : Ordered ts (standing m.h)

pub not_among : (m : Machine) (t : ℕ) (s : Status) (ts : List ℕ) → HaveAsked m ts → HasStatus m t s → (IsClosed s → ⊥)
    → is_among t ts ≡ false
not_among m t s ts have is open_txn =
    elim (cases_Bool (is_among t ts)) [
      | inl among ↦ absurd (open_txn (subst IsClosed is (have.closed t among)))
      | inr out ↦ out
    ]

ordered_moves : (m n : Machine) (ts : List ℕ) → InOrder m ts → Moves m n → Ordered ts (standing n.h)
ordered_moves m n ts has h = grind (arith, ordered_filtered, ordered_between, not_among)

-- it comes after all that asked before
asks_last : (m : Machine) (u : ℕ) (ts : List ℕ) → InOrder m ts → HasStatus m u Open
    → Pairs (After u ts) (standing m.h)
asks_last m u ts has is =
    pairs_all (IsOwned m) (After u ts) (standing m.h)
    (λ g e g_owned e_owned own other out.
    let g_owns : Owns (m.txns u) g.op = subst (λ (t : ℕ). Owns (m.txns t) g.op) own g_owned in
    elim (g_owns.1) [
      | inl committed ↦ absurd (let wrong : Open ≡ Committed = sym is ∙ committed in cc)
      | inr holds ↦ elim (e_owned.1) [
        | inl committed ↦
            absurd (true≢false (sym (has.asked.all e.txn (subst IsDone (sym committed) tt)) ∙ out))
        | inr other_holds ↦
            apart_pass g.op e.op (m.txns u).spans (m.txns e.txn).spans
            (has.kept.apart u e.txn (λ s. other (sym s)) holds.0 other_holds.0) holds.1 other_holds.1
      ]
    ])
    has.kept.owned

-- whoever begins has no entries that stand
pub none_begun : (m : Machine) (u : ℕ) → IsKept m → ((t : ℕ) → (m.txns t).begun ≡ true → t < u)
    → AllByRecursion (λ e. e.txn ≢ u) (standing m.h)
none_begun m u kept above = grind (arith, all_from)

ordered_step : (m n : Machine) (line : Line) (ts : List ℕ) → Step m line n → InOrder m ts → Moves m n
    → Ordered (asked_on ts line) (standing n.h)
ordered_step m n (Begins u) ts h has move =
    subst (Ordered (without u ts)) (sym (ap (λ y. standing y.h) h.1))
    (ordered_without ts u (standing m.h) (none_begun m u has.kept h.0.1) has.ordered)
ordered_step m n (Commits u) ts h has move = grind (arith, not_among, asks_last)
ordered_step m n (Acts u o k) ts h has move = ordered_moves m n ts has move
ordered_step m n (TellsAnswer u a) ts h has move = ordered_moves m n ts has move
ordered_step m n (Reads u q) ts h has move = ordered_moves m n ts has move
ordered_step m n (TellsRow u value) ts h has move = ordered_moves m n ts has move
ordered_step m n (TellsRows u rows) ts h has move = ordered_moves m n ts has move
ordered_step m n (Saves u s) ts h has move = ordered_moves m n ts has move
ordered_step m n (GoesBack u s) ts h has move = ordered_moves m n ts has move
ordered_step m n (TellsBack u s) ts h has move = ordered_moves m n ts has move
ordered_step m n (RollsBack u) ts h has move = ordered_moves m n ts has move
ordered_step m n (TellsRolledBack u) ts h has move = ordered_moves m n ts has move
ordered_step m n (TellsCommitted u) ts h has move = ordered_moves m n ts has move
ordered_step m n Crashes ts h has move = ordered_moves m n ts has move
ordered_step m n (TellsLost u) ts h has move = ordered_moves m n ts has move
ordered_step m n (IsRefused call refusal) ts h has move = ordered_moves m n ts has move

pub order_step : (m n : Machine) (line : Line) (ts : List ℕ) → Step m line n → InOrder m ts
    → InOrder n (asked_on ts line)
order_step m n line ts h has = record {
  kept = kept_step m n line h has.kept;
  asked = asked_step m n line ts h has.asked;
  ordered = ordered_step m n line ts h has (moves m n line h has.kept);
}

pub order_steps : (m n : Machine) (lines : List Line) (ts : List ℕ) → Steps m lines n → InOrder m ts
    → InOrder n (asked_after ts lines)
order_steps m n [] ts steps has = subst (λ y. InOrder y ts) (sym steps) has
order_steps m n (line ∷ lines) ts steps has =
    order_steps steps.0 n lines (asked_on ts line) steps.2 (order_step m steps.0 line ts steps.1 has)

-- entries of others
pub others_out : (ts : List ℕ) (s : List Entry) → AllByRecursion (λ e. is_among e.txn ts ≡ false) (of_others ts s)
others_out [] s = all_true (λ e. is_among e.txn [] ≡ false) s (λ e. refl)
others_out (t ∷ ts) s =
    all_two (λ e. is_among e.txn ts ≡ false) (λ e. not (e.txn == t) ≡ true) (λ e. is_among e.txn (t ∷ ts) ≡ false)
    (filter (λ e. not (e.txn == t)) (of_others ts s))
    (λ e out off. among_none e.txn t ts (λ same. true≢false (sym (eq-eqb e.txn t (sym same))
    ∙ not_true (e.txn == t) off))
    ∙ out)
    (all_filtered (λ e. is_among e.txn ts ≡ false) (λ e. not (e.txn == t)) (of_others ts s) (others_out ts s))
    (passed (λ e. not (e.txn == t)) (of_others ts s))

pub others_all : (P : Entry → Type 0) (ts : List ℕ) (s : List Entry) → AllByRecursion P s
    → AllByRecursion P (of_others ts s)
others_all P [] s all = all
others_all P (t ∷ ts) s all = all_filtered P (λ e. not (e.txn == t)) (of_others ts s) (others_all P ts s all)

others_pairs : (R : Entry → Entry → Type 0) (ts : List ℕ) (s : List Entry) → Pairs R s → Pairs R (of_others ts s)
others_pairs R [] s all = all
others_pairs R (t ∷ ts) s all = pairs_filtered R (λ e. not (e.txn == t)) (of_others ts s) (others_pairs R ts s all)

own_kept : (t u : ℕ) (s : List Entry) → u ≢ t → entries_of t (filter (λ e. not (e.txn == u)) s) ≡ entries_of t s
own_kept t u [] apart = refl
own_kept t u (e ∷ s) apart = grind (arith, own_kept t u s apart, ne_eqb, eqb-true)

pub own_others : (t : ℕ) (ts : List ℕ) (s : List Entry) → is_among t ts ≡ false
    → entries_of t (of_others ts s) ≡ entries_of t s
own_others t [] s out = refl
own_others t (u ∷ ts) s out =
    let apart = out_of t u ts out in
    own_kept t u (of_others ts s) apart.0 ∙ own_others t ts s apart.1

-- so they may stand
pub turned : (ts : List ℕ) (s : List Entry) → Ordered ts s → AreTrue empty s
    → IsAlike empty s (of_others ts s ++ in_turn ts s)
turned [] s ordered all = record { told = true_append empty s [] all tt; leaves = replay_append empty s [] }
turned (t ∷ ts) s ordered all =
    let rest : IsAlike empty s (of_others ts s ++ in_turn ts s) = turned ts s ordered.2 all in
    let base : Table = replay empty (in_turn ts s) in
    let p : Entry → Bool = λ e. e.txn == t in
    let sinks : Pairs (Sinks p) (of_others ts s) =
    pairs_with (λ e. is_among e.txn ts ≡ false) (After t ts) (Sinks p) (of_others ts s)
    (λ g e g_out e_out after own off. after (eqb-true g.txn t own)
    (λ same. true≢false (sym (eq-eqb e.txn t same) ∙ off)) e_out)
    (others_out ts s) (others_pairs (After t ts) ts s ordered.1) in
    let one : IsAlike base (of_others ts s) (sunk p (of_others ts s)) =
    sink base p (of_others ts s) sinks (true_first empty (of_others ts s) (in_turn ts s) rest.told) in
    let joined : IsAlike empty s (sunk p (of_others ts s) ++ in_turn ts s) = record {
      told = true_append empty (sunk p (of_others ts s)) (in_turn ts s) one.told
          (true_second empty (of_others ts s) (in_turn ts s) rest.told);
      leaves = replay_append empty (sunk p (of_others ts s)) (in_turn ts s) ∙ one.leaves
          ∙ sym (replay_append empty (of_others ts s) (in_turn ts s)) ∙ rest.leaves;
    } in
    subst (IsAlike empty s)
    (append_assoc (of_others (t ∷ ts) s) (entries_of t (of_others ts s)) (in_turn ts s)
    ∙ ap (λ x. of_others (t ∷ ts) s ++ (x ++ in_turn ts s)) (own_others t ts s ordered.0))
    joined

live_if : (s : Status) → MayCommit s → (IsDone s → ⊥) → is_live s ≡ true
live_if s may none = grind arith

different : (ts : List ℕ) (s : List Entry) → Ordered ts s → AreDifferent ts
different [] s ordered = tt
different (t ∷ ts) s ordered = (apart ts ordered.0, different ts s ordered.2)
  where
    apart : (us : List ℕ) → is_among t us ≡ false → AllByRecursion (λ u. u ≢ t) us
    apart [] out = tt
    apart (u ∷ us) out = let off = out_of t u us out in (off.0, apart us off.1)

nobody_live : (m : Machine) (s : List Entry) → ((t : ℕ) → is_live (m.txns t).status ≡ false)
    → AllByRecursion (λ e. is_live (m.txns e.txn).status ≡ true) s → s ≡ []
nobody_live m [] none live = refl
nobody_live m (e ∷ s) none live = absurd (true≢false (sym live.0 ∙ none e.txn))

pub serial_of : (m : Machine) (ts : List ℕ) → InOrder m ts → IsSerial m ts
serial_of m ts has =
    let one : IsAlike empty (standing m.h) (of_others ts (standing m.h) ++ in_turn ts (standing m.h)) =
    turned ts (standing m.h) has.ordered has.kept.told in
    let live : AllByRecursion (λ e. is_live (m.txns e.txn).status ≡ true) (of_others ts (standing m.h)) =
    all_two (IsOwned m) (λ e. is_among e.txn ts ≡ false) (λ e. is_live (m.txns e.txn).status ≡ true)
    (of_others ts (standing m.h))
    (λ e owned out. elim (owned.1) [
      | inl committed ↦ absurd (true≢false (sym (has.asked.all e.txn (subst IsDone (sym committed) tt)) ∙ out))
      | inr holds ↦ live_if (m.txns e.txn).status holds.0
          (λ done. true≢false (sym (has.asked.all e.txn done) ∙ out))
    ])
    (others_all (IsOwned m) ts (standing m.h) has.kept.owned) (others_out ts (standing m.h)) in
    record {
      different = different ts (standing m.h) has.ordered;
      committed = λ t is. has.asked.all t (subst IsDone (sym is) tt);
      told = one.told;
      leaves = one.leaves ∙ plain_replay m.h;
      alone = true_second empty (of_others ts (standing m.h)) (in_turn ts (standing m.h)) one.told;
      rest = λ none.
          ap (λ x. replay empty (x ++ in_turn ts (standing m.h)))
          (sym (nobody_live m (of_others ts (standing m.h)) none live))
          ∙ one.leaves ∙ plain_replay m.h;
      others = live;
    }
