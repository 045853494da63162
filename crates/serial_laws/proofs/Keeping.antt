-- What every run keeps: entries that stand are of whoever committed or may, and whatever holds its keys keeps
-- others from them.
use Rattle.std.proofs.Common.{arith, ◌≡◌, ◌≢◌, ℕ, ◌<◌, ◌≤◌, Bool, true, List, [], ◌∷◌, ◌++◌, sym, ap, ◌∙◌, subst, inl, inr, ◌⊎◌, true≢false}
use Rattle.std.specs.Prelude.{◌&&◌, filter, not}
use Rattle.std.specs.Ordering.{is_lt}
use Rattle.std.specs.declared.cmp.Ordering.TheVariants.{Equal}
use Rattle.std.specs.List.{AllByRecursion}
use Rattle.std.specs.FinMap.{empty}
use Rattle.std.proofs.lemmas.Bool.{cases_Bool}
use Rattle.std.proofs.lemmas.Cmp.{nat_list_cmp_total, tied_itself}
use Rattle.record_key.specs.declared.op.Op.{Op}
use Rattle.record_key.specs.Table.{Bytes, key_of}
use Rattle.record_key.specs.Laws.{key_cmp}
use Rattle.record_key.specs.Order.{has_key, one_key}
use Rattle.record_key.proofs.KeyOrder.{key_cmp-beginning}
use Rattle.record_key.proofs.Tables.{is_same, is_same-true, is_same-refl}
use Rattle.inverse.specs.Inverse.{PassBy}
use Rattle.history.specs.History.{Entry, is_among}
use Rattle.history.specs.Spans.{Mode, Span, Conflict, changed_span, do_conflict, mode_of}
use Rattle.history.specs.ListMachine.{asked_span, Machine, Txn, Status, Waiting, Reading, Committed, IsFree}
use Rattle.log_laws.proofs.Sharing.{modes_conflict}
use Rattle.simulation.specs.View.{standing, IsAmong}
use Rattle.simulation.proofs.Spanning.{conflict_among}
use Rattle.simulation.proofs.Entries.{all_filtered}
use Rattle.serial_laws.specs.Replay.{AreTrue}
use Rattle.serial_laws.specs.Serial.{MayCommit}
use Rattle.serial_laws.proofs.Passing.{Pairs, Sinks, true_left}
use Rattle.serial_laws.proofs.Listing.{pairs_filtered}

-- spans that leave each other free
abbrev pub AreApart : List Span → List Span → Type 0
AreApart xs ys = (s r : Span) → IsAmong s xs → IsAmong r ys → Conflict s r → ⊥

modes_flip : (m n : Mode) → do_conflict m n ≡ true → do_conflict n m ≡ true
modes_flip m n h = grind arith

pub flip : (s r : Span) → Conflict s r → Conflict r s
flip s r c = (c.0, c.2, c.1, modes_flip s.mode r.mode c.3)

pub apart_back : (xs ys : List Span) → AreApart xs ys → AreApart ys xs
apart_back xs ys apart s r x y c = apart r s y x (flip s r c)

-- a key stands in its own range
pub within_itself : (k : Bytes) → has_key (one_key k) k ≡ true
within_itself k =
    let same : key_cmp k k ≡ Equal = tied_itself nat_list_cmp_total k in
    let below = key_cmp-beginning k (0 ∷ []) (λ e. cc) in
    ap (λ o. not (is_lt o) && is_lt (key_cmp k (k ++ 0 ∷ []))) same ∙ ap is_lt below

pub conflict_at : (o q : Op) → key_of o ≡ key_of q → do_conflict (mode_of o) (mode_of q) ≡ true
    → Conflict (changed_span o) (changed_span q)
conflict_at o q same clash =
    let P : Bytes → Type 0 = λ k. has_key (one_key k) (key_of o) ≡ true in
    (key_of o, within_itself (key_of o), subst P same (within_itself (key_of o)), clash)

-- operations whose spans don't conflict pass each other by
pub free_pass : (o q : Op) → (Conflict (changed_span o) (changed_span q) → ⊥) → PassBy o q
free_pass o q free =
    elim (cases_Bool (is_same (key_of q) (key_of o))) [
      | inl same ↦ elim (modes_conflict o q) [
        | inl clash ↦ absurd (free (conflict_at o q (sym (is_same-true (key_of q) (key_of o) same)) clash))
        | inr both ↦ inr both
      ]
      | inr other ↦ inl (λ e. true≢false (sym (ap (λ x. is_same x (key_of o)) e ∙ is_same-refl (key_of o)) ∙ other))
    ]

pub apart_pass : (o q : Op) (xs ys : List Span) → AreApart xs ys → IsAmong (changed_span o) xs
    → IsAmong (changed_span q) ys → PassBy o q
apart_pass o q xs ys apart x y = free_pass o q (apart (changed_span o) (changed_span q) x y)

-- what is free is apart from what others hold
pub free_apart : (m : Machine) (t u : ℕ) (s : Span) → IsFree m t s → u ≢ t
    → AreApart (m.txns t).spans (m.txns u).spans
    → AreApart (s ∷ (m.txns t).spans) (m.txns u).spans
free_apart m t u s free other apart a r (inl e) y c = grind (arith, conflict_among)
free_apart m t u s free other apart a r (inr x) y c = apart a r x y c

-- the operation's transaction has committed, or may and holds its key
abbrev pub Owns : Txn → Op → Type 0
Owns x o = (x.begun ≡ true) × ((x.status ≡ Committed) ⊎ (MayCommit x.status × IsAmong (changed_span o) x.spans))

abbrev pub IsOwned : Machine → Entry → Type 0
IsOwned m e = Owns (m.txns e.txn) e.op

-- others pass by what an older one did that may still be taken back
abbrev pub IsOlder : Machine → Entry → Entry → Type 0
IsOlder m g e = MayCommit (m.txns e.txn).status → g.txn ≢ e.txn → PassBy g.op e.op

-- a savepoint's numbers are of the older ones, and of no entry to come
abbrev pub Keeps : ℕ → List ℕ → Entry → Entry → Type 0
Keeps t kept g e = g.txn ≡ t → e.txn ≡ t → is_among g.number kept ≡ true → is_among e.number kept ≡ true

pub record IsSave (s h : List Entry) (t : ℕ) (kept : List ℕ) : Type 0 where
  pub older : Pairs (Keeps t kept) s
  pub below : (n : ℕ) → AllByRecursion (λ e. e.number < n) h → AllByRecursion (λ j. j < n) kept

-- what is waited for, or read, is held, all that will be newer passes it by, and it is the newest of its own
pub record IsAwaited (s : List Entry) (t : ℕ) (spans : List Span) (saves : List (List ℕ)) (k : ℕ) (o : Op) : Type 0
  where
    pub held : IsAmong (changed_span o) spans
    pub newer : AllByRecursion (λ f. k ≤ f.number → PassBy o f.op) s
    pub own : AllByRecursion (λ f. f.txn ≡ t → f.number < k) s
    pub saved : AllByRecursion (λ kept. AllByRecursion (λ j. j < k) kept) saves

abbrev pub Awaits : List Entry → ℕ → List Span → List (List ℕ) → Status → Type 0
Awaits s t spans saves (Waiting k o) = IsAwaited s t spans saves k o
Awaits s t spans saves (Reading q) = IsAmong (asked_span q) spans
Awaits s t spans saves _ = Unit {0}

-- who falls waits for nothing
pub nothing_awaited : (s : List Entry) (t : ℕ) (spans : List Span) (saves : List (List ℕ)) (st : Status)
    → (MayCommit st → ⊥) → Awaits s t spans saves st
nothing_awaited s t spans saves st out = grind arith

pub record IsTxn (s h : List Entry) (t : ℕ) (x : Txn) : Type 0 where
  pub begun : MayCommit x.status → x.begun ≡ true
  pub waits : Awaits s t x.spans x.saves x.status
  pub saved : MayCommit x.status → AllByRecursion (IsSave s h t) x.saves

pub record IsKept (m : Machine) : Type 0 where
  pub told : AreTrue empty (standing m.h)
  pub owned : AllByRecursion (IsOwned m) (standing m.h)
  pub older : Pairs (IsOlder m) (standing m.h)
  pub apart : (t u : ℕ) → t ≢ u → MayCommit (m.txns t).status → MayCommit (m.txns u).status
      → AreApart (m.txns t).spans (m.txns u).spans
  pub each : (t : ℕ) → IsTxn (standing m.h) m.h t (m.txns t)

-- fewer entries
awaits_fewer : (p : Entry → Bool) (s : List Entry) (t : ℕ) (spans : List Span) (saves : List (List ℕ)) (st : Status)
    → Awaits s t spans saves st → Awaits (filter p s) t spans saves st
awaits_fewer p s t spans saves st h = grind (arith, all_filtered)

saves_fewer : (p : Entry → Bool) (s h g : List Entry) (t : ℕ) (saves : List (List ℕ))
    → ((n : ℕ) → AllByRecursion (λ e. e.number < n) g → AllByRecursion (λ e. e.number < n) h)
    → AllByRecursion (IsSave s h t) saves → AllByRecursion (IsSave (filter p s) g t) saves
saves_fewer p s h g t [] same all = tt
saves_fewer p s h g t (kept ∷ saves) same all = grind (arith, saves_fewer p s h g t saves same all.1, pairs_filtered)

-- entries go that all newer ones pass by
pub kept_fewer : (m : Machine) (p : Entry → Bool) (g : List Entry) → IsKept m
    → Pairs (Sinks p) (standing m.h) → standing g ≡ filter p (standing m.h)
    → ((n : ℕ) → AllByRecursion (λ e. e.number < n) g → AllByRecursion (λ e. e.number < n) m.h)
    → IsKept (record m { h = g })
kept_fewer m p g kept sinks is same = grind (arith, true_left, all_filtered, pairs_filtered, awaits_fewer, saves_fewer)
