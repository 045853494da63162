-- A change of the map, as the spans of its transaction show it.
use Rattle.std.proofs.Common.{◌≡◌, ℕ, ◌<◌, length, Bool, cond, List, [], ◌∷◌, ◌++◌, Some, refl, sym, ap, ◌∙◌, subst, drop, map, reverse, arith, true≢false}
use Rattle.std.specs.Global.{Vec}
use Rattle.std.specs.BTreeMap.{BTreeMap, IsOrdered, get, insert_entry, is_at}
use Rattle.std.specs.Map.{keys_of, lookup, remove_entry, set_value}
use Rattle.std.specs.List.Sorted.{IsStrictlySortedBy}
use Rattle.std.specs.Option.{is_some}
use Rattle.std.specs.Ordering.{is_eq, nat_cmp, match_ordering}
use Rattle.std.specs.declared.cmp.Ordering.{Ordering}
use Rattle.std.specs.declared.cmp.Ordering.TheVariants.{Less, Greater}
use Rattle.std.proofs.lemmas.Cmp.{nat_cmp_total}
use Rattle.std.proofs.lemmas.List.{length-map, length-reverse, nil_from_length}
use Rattle.std.proofs.lemmas.Map.{lookup-none}
use Rattle.std.proofs.lemmas.Map.Entries.{none_below_head}
use Rattle.std.proofs.lemmas.Map.Keys.{sorted_tail}
use Rattle.history.specs.Spans.{Span}
use Rattle.tc_locks.specs.declared.span.Lock.{Lock}
use Rattle.tc_locks.specs.declared.held.Held.{Held}
use Rattle.tc_locks.specs.Locks.{LocksView, spans_of, set_spans}
use Rattle.tc_locks.specs.Meant.{span_of, newest_first, seen, locks_in}
use Rattle.tc_locks.proofs.Leaving.{read, newest}

abbrev shown : ℕ × Vec Lock → ℕ × List Span
shown e = (e.0, newest_first e.1.items)

-- locks that are put into the map, and taken out of it
put_first : (o : Ordering) (t : ℕ) (w : Vec Lock) (e : ℕ × Vec Lock) (es fs : List (ℕ × Vec Lock)) (rest : LocksView)
    → map shown fs ≡ rest
    → map shown (match_ordering o ((t, w) ∷ e ∷ es) ((e.0, w) ∷ es) (e ∷ fs))
    ≡ match_ordering o (shown (t, w) ∷ shown e ∷ map shown es) (shown (e.0, w) ∷ map shown es) (shown e ∷ rest)
put_first o t w e es fs rest h = grind arith

put : (t : ℕ) (w : Vec Lock) (es : List (ℕ × Vec Lock))
    → map shown (insert_entry nat_cmp es t w) ≡ insert_entry nat_cmp (map shown es) t (newest_first w.items)
put t w [] = refl
put t w (e ∷ es) = put_first (nat_cmp t e.0) t w e es (insert_entry nat_cmp es t w) _ (put t w es)

out_first : (b : Bool) (e : ℕ × Vec Lock) (es fs : List (ℕ × Vec Lock)) (rest : LocksView) → map shown fs ≡ rest
    → map shown (cond b es (e ∷ fs)) ≡ cond b (map shown es) (shown e ∷ rest)
out_first b e es fs rest h = grind arith

out : (test : ℕ → Bool) (es : List (ℕ × Vec Lock)) → map shown (remove_entry test es) ≡ remove_entry test (map shown es)
out test [] = refl
out test (e ∷ es) = out_first (test e.0) e es (remove_entry test es) _ (out test es)

-- what is written where a transaction has locks is put there
over_first : (o : Ordering) (t : ℕ) (w : Vec Lock) (e : ℕ × Vec Lock) (es fs gs : List (ℕ × Vec Lock)) → (o ≡ Less → ⊥)
    → (o ≡ Greater → fs ≡ gs)
    → cond (is_eq o) ((e.0, w) ∷ es) (e ∷ fs) ≡ match_ordering o ((t, w) ∷ e ∷ es) ((e.0, w) ∷ es) (e ∷ gs)
over_first o t w e es fs gs low h = grind arith

over : (t : ℕ) (v w : Vec Lock) (es : List (ℕ × Vec Lock)) → IsStrictlySortedBy nat_cmp (keys_of es)
    → lookup (is_at (nat_cmp t)) es ≡ Some v
    → set_value (is_at (nat_cmp t)) es w ≡ insert_entry nat_cmp es t w
over t v w [] sorted found = absurd (true≢false (sym (ap is_some found)))
over t v w (e ∷ es) sorted found =
    over_first (nat_cmp t e.0) t w e es _ _
    (λ low. true≢false (sym (ap is_some
    (sym (lookup-none (is_at (nat_cmp t)) (e ∷ es) (none_below_head nat_cmp_total t e es sorted low)) ∙ found))))
    (λ high. over t v w es (sorted_tail nat_cmp e.0 (keys_of es) sorted)
    (subst (λ o. cond (is_eq o) (Some e.1) (lookup (is_at (nat_cmp t)) es) ≡ Some v) high found))

out_over_first : (b : Bool) (test : ℕ → Bool) (e : ℕ × Vec Lock) (w : Vec Lock) (es fs : List (ℕ × Vec Lock))
    → test e.0 ≡ b → remove_entry test fs ≡ remove_entry test es
    → remove_entry test (cond b ((e.0, w) ∷ es) (e ∷ fs)) ≡ cond b es (e ∷ remove_entry test es)
out_over_first b test e w es fs is h = grind arith

out_over : (test : ℕ → Bool) (w : Vec Lock) (es : List (ℕ × Vec Lock))
    → remove_entry test (set_value test es w) ≡ remove_entry test es
out_over test w [] = refl
out_over test w (e ∷ es) = out_over_first (test e.0) test e w es (set_value test es w) refl (out_over test w es)

-- a lock more
more : (h : Held) (t : ℕ) (w : Vec Lock) (lock : Lock) → w.items ≡ locks_in h t ++ lock ∷ []
    → newest_first w.items ≡ span_of lock ∷ spans_of (seen h) t
more h t w lock items = grind (arith, newest, read)

pub taken_new : (old new : Held) (t : ℕ) (w : Vec Lock) (lock : Lock)
    → new.by_txn.entries ≡ insert_entry nat_cmp old.by_txn.entries t w → w.items ≡ locks_in old t ++ lock ∷ []
    → seen new ≡ set_spans t (span_of lock ∷ spans_of (seen old) t) (seen old)
taken_new old new t w lock is items =
    ap (map shown) is ∙ put t w old.by_txn.entries ∙ ap (insert_entry nat_cmp (seen old) t) (more old t w lock items)

pub taken_over : (old new : Held) (t : ℕ) (v w : Vec Lock) (lock : Lock) → IsOrdered nat_cmp old.by_txn
    → get nat_cmp old.by_txn t ≡ Some v
    → new.by_txn.entries ≡ set_value (is_at (nat_cmp t)) old.by_txn.entries w → w.items ≡ locks_in old t ++ lock ∷ []
    → seen new ≡ set_spans t (span_of lock ∷ spans_of (seen old) t) (seen old)
taken_over old new t v w lock sorted found is items = grind (arith, taken_new, over)

-- the newest lock less
less : (h : Held) (t : ℕ) (left : List Lock) (lock : Lock) → locks_in h t ≡ left ++ lock ∷ []
    → newest_first left ≡ drop 1 (spans_of (seen h) t)
less h t left lock was = sym (ap (drop 1) (read h t ∙ ap newest_first was ∙ newest left lock))

set_some : (t : ℕ) (ss : List Span) (v : LocksView) → 0 < length ss → insert_entry nat_cmp v t ss ≡ set_spans t ss v
set_some t ss v some = grind arith

pub untaken_some : (old new : Held) (t : ℕ) (v w : Vec Lock) (lock : Lock) → IsOrdered nat_cmp old.by_txn
    → get nat_cmp old.by_txn t ≡ Some v
    → new.by_txn.entries ≡ set_value (is_at (nat_cmp t)) old.by_txn.entries w → locks_in old t ≡ w.items ++ lock ∷ []
    → 0 < length w.items
    → seen new ≡ set_spans t (drop 1 (spans_of (seen old) t)) (seen old)
untaken_some old new t v w lock sorted found is was some =
    let long : length (newest_first w.items) ≡ length w.items =
    length-map (reverse w.items) span_of ∙ length-reverse w.items in
    ap (map shown) (is ∙ over t v w old.by_txn.entries sorted found) ∙ put t w old.by_txn.entries
    ∙ set_some t (newest_first w.items) (seen old) (omega (arith, long, some))
    ∙ ap (λ spans. set_spans t spans (seen old)) (less old t w.items lock was)

pub untaken_last : (old new : Held) (m : BTreeMap ℕ (Vec Lock)) (t : ℕ) (w : Vec Lock) (lock : Lock)
    → m.entries ≡ set_value (is_at (nat_cmp t)) old.by_txn.entries w
    → new.by_txn.entries ≡ remove_entry (is_at (nat_cmp t)) m.entries → locks_in old t ≡ w.items ++ lock ∷ []
    → length w.items ≡ 0
    → seen new ≡ set_spans t (drop 1 (spans_of (seen old) t)) (seen old)
untaken_last old new m t w lock set is was none =
    ap (map shown) (is ∙ ap (remove_entry (is_at (nat_cmp t))) set ∙ out_over (is_at (nat_cmp t)) w old.by_txn.entries)
    ∙ out (is_at (nat_cmp t)) old.by_txn.entries
    ∙ ap (λ spans. set_spans t spans (seen old))
    (sym (ap newest_first (nil_from_length w.items none)) ∙ less old t w.items lock was)

-- all locks went
pub released : (old new : Held) (t : ℕ) → new.by_txn.entries ≡ remove_entry (is_at (nat_cmp t)) old.by_txn.entries
    → seen new ≡ set_spans t [] (seen old)
released old new t is = ap (map shown) is ∙ out (is_at (nat_cmp t)) old.by_txn.entries
