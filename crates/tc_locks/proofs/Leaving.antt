-- What a change at one transaction leaves to each.
use Rattle.std.proofs.lemmas.Grind.{common_steps}
use Rattle.std.proofs.Common.{◌≡◌, ◌≢◌, ℕ, ◌<◌, length, Bool, true, false, cond, List, [], ◌∷◌, ◌++◌, Option, Some, refl, sym, ap, ◌∙◌, map, arith, true≢false, Result, OnErr}
use Rattle.std.specs.Global.{Vec}
use Rattle.std.specs.BTreeMap.{BTreeMap, get, Updates, is_at}
use Rattle.std.specs.Map.{lookup, set_value}
use Rattle.std.specs.Ordering.{is_eq, nat_cmp}
use Rattle.std.proofs.lemmas.Bool.Decides.{nat_tests}
use Rattle.std.specs.Prelude.{not, is_some, None}
use Rattle.std.specs.Bool.{MatchBool}
use Rattle.std.proofs.lemmas.List.{reverse-append, length-map, length-reverse}
use Rattle.history.specs.Spans.{Span}
use Rattle.tc_locks.specs.declared.span.Lock.{Lock}
use Rattle.tc_locks.specs.declared.held.Held.{Held}
use Rattle.tc_locks.specs.Locks.{LocksView, spans_of}
use Rattle.tc_locks.specs.Meant.{span_of, newest_first, seen, items_of, locks_in, Lists}

read_first : (b : Bool) (locks : Vec Lock) (o : Option (Vec Lock)) (rest : List Span) → rest ≡ newest_first (items_of o)
    → cond b (newest_first locks.items) rest ≡ newest_first (items_of (cond b (Some locks) o))
read_first b locks o rest h = grind arith

read_entries : (es : List (ℕ × Vec Lock)) (t : ℕ)
    → spans_of (map (λ (e : ℕ × Vec Lock). (e.0, newest_first e.1.items)) es) t
    ≡ newest_first (items_of (lookup (is_at (nat_cmp t)) es))
read_entries [] t = refl
read_entries (e ∷ es) t = read_first (is_eq (nat_cmp t e.0)) e.1 (lookup (is_at (nat_cmp t)) es) _ (read_entries es t)

-- a transaction's spans are those of its locks
pub read : (h : Held) (t : ℕ) → spans_of (seen h) t ≡ newest_first (locks_in h t)
read h t = read_entries h.by_txn.entries t

pub apart : (t u : ℕ) → u ≢ t → is_eq (nat_cmp t u) ≡ false
apart t u other = grind (arith, nat_tests)

-- where one transaction is listed, no other has a lock
listed : (b : Bool) (locks : Vec Lock) → is_some (cond b (Some locks) None) ≡ true → b ≡ true
listed b locks h = grind arith

unlisted : (es : List (ℕ × Vec Lock)) (t : ℕ) → length es ≡ 1 → is_some (lookup (is_at (nat_cmp t)) es) ≡ true
    → (u : ℕ) → u ≢ t → lookup (is_at (nat_cmp u)) es ≡ None
unlisted [] t one some u other = refl
unlisted (e ∷ []) t one some u other = grind (arith, listed)
unlisted (e ∷ f ∷ es) t one some u other = grind arith

pub alone : (h : Held) (t : ℕ) → length h.by_txn.entries ≡ 1 → is_some (get nat_cmp h.by_txn t) ≡ true
    → (u : ℕ) → u ≢ t → spans_of (seen h) u ≡ []
alone h t one some u other = grind (arith, read, unlisted)

pub lists : (old new : BTreeMap ℕ (Vec Lock)) (t : ℕ) (locks : Option (Vec Lock)) → Updates nat_cmp old new t locks
    → Lists (record { by_txn = old }) t (items_of locks) (record { by_txn = new })
lists old new t locks h = record { own = ap items_of h.1; others = λ u other. ap items_of (h.2 u (apart t u other)) }

pub newest : (locks : List Lock) (lock : Lock) → newest_first (locks ++ lock ∷ []) ≡ span_of lock ∷ newest_first locks
newest locks lock = ap (map span_of) (reverse-append locks (lock ∷ []))

pub has_one : (h : Held) (t : ℕ) → spans_of (seen h) t ≢ [] → locks_in h t ≢ []
has_one h t some none = some (read h t ∙ ap newest_first none)

pub pushed : (old new : BTreeMap ℕ (Vec Lock)) (t : ℕ) (locks : Vec Lock) (was : List Lock) (lock : Lock)
    → Updates nat_cmp old new t (Some locks)
    → locks.items ≡ was ++ lock ∷ [] → was ≡ locks_in (record { by_txn = old }) t
    → Lists (record { by_txn = old }) t (locks_in (record { by_txn = old }) t ++ lock ∷ []) (record { by_txn = new })
pushed old new t locks was lock updates items had = grind arith

-- what is written back with the same locks is seen as it was
seen_entries : List (ℕ × Vec Lock) → LocksView
seen_entries es = map (λ (e : ℕ × Vec Lock). (e.0, newest_first e.1.items)) es

kept_first : (b : Bool) (e : ℕ × Vec Lock) (o : Option (Vec Lock)) (v w : Vec Lock) (es fs : List (ℕ × Vec Lock))
    → cond b (Some e.1) o ≡ Some v → w.items ≡ v.items
    → (o ≡ Some v → seen_entries fs ≡ seen_entries es)
    → seen_entries (cond b ((e.0, w) ∷ es) (e ∷ fs)) ≡ seen_entries (e ∷ es)
unfolding seen_entries
kept_first b e o v w es fs found items later = grind arith

kept_entries : (es : List (ℕ × Vec Lock)) (t : ℕ) (v w : Vec Lock) → lookup (is_at (nat_cmp t)) es ≡ Some v
    → w.items ≡ v.items
    → seen_entries (set_value (is_at (nat_cmp t)) es w) ≡ seen_entries es
unfolding seen_entries
kept_entries [] t v w found items = refl
kept_entries (e ∷ es) t v w found items =
    kept_first (is_eq (nat_cmp t e.0)) e (lookup (is_at (nat_cmp t)) es) v w es (set_value (is_at (nat_cmp t)) es w)
    found items (λ there. kept_entries es t v w there items)

pub kept : (old new : BTreeMap ℕ (Vec Lock)) (t : ℕ) (v w : Vec Lock)
    → new.entries ≡ set_value (is_at (nat_cmp t)) old.entries w → Some v ≡ get nat_cmp old t → w.items ≡ v.items
    → seen (record { by_txn = new }) ≡ seen (record { by_txn = old })
unfolding seen_entries
kept old new t v w is found items = ap seen_entries is ∙ kept_entries old.entries t v w (sym found) items

pub on_err : {A E : Type 0} (r : Result A E) {P : Type 0} → P → OnErr r P
on_err r p = grind arith

pub nonempty : (locks : List Lock) → locks ≢ [] → 0 < length locks
nonempty locks some = grind (arith, common_steps)

-- whether there is a lock
pub any_held : (h : Held) (t : ℕ) (locks : List Lock) (empty : Bool) → locks ≡ locks_in h t
    → (empty ≡ true → length locks ≡ 0) → (length locks ≡ 0 → empty ≡ true)
    → MatchBool (not empty) (spans_of (seen h) t ≢ []) (spans_of (seen h) t ≡ [])
any_held h t locks empty is none empty2 = grind (arith, common_steps, read, length-map, length-reverse, true≢false)
