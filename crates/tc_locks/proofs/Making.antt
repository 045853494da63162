-- The index while the locks of one transaction after another come into it.
use Rattle.std.proofs.lemmas.Grind.{common_steps}
use Rattle.std.proofs.Common.{◌≡◌, ◌≢◌, ℕ, ◌+◌, ◌<◌, inl, inr, ◌||◌, Bool, true, false, cond, List, [], ◌∷◌, length, get_or, take, Option, Some, refl, sym, ap, ◌∙◌, subst, arith}
use Rattle.std.specs.Global.{Vec}
use Rattle.std.specs.BTreeMap.{IsOrdered, is_at}
use Rattle.std.specs.Map.{lookup, keys_of}
use Rattle.std.specs.List.{list_any, AllByRecursion}
use Rattle.std.specs.List.Sorted.{IsStrictlySortedBy}
use Rattle.std.specs.Ordering.{is_eq, nat_cmp}
use Rattle.std.specs.declared.cmp.Ordering.TheVariants.{Less}
use Rattle.std.proofs.lemmas.Bool.{cases_eq}
use Rattle.std.proofs.lemmas.List.{take_more}
use Rattle.std.proofs.lemmas.List.Folds.{list_any-append}
use Rattle.std.proofs.lemmas.Map.Keys.{sorted_head, sorted_tail}
use Rattle.tc_locks.specs.declared.span.Lock.{Lock}
use Rattle.tc_locks.specs.declared.entry.Entry.{Entry}
use Rattle.tc_locks.specs.declared.held.Held.{Held}
use Rattle.tc_locks.specs.Meant.{items_of}
use Rattle.tc_locks.specs.Index.{is_lock_of, is_entry_of, stands}
use Rattle.tc_locks.proofs.Indexing.{same_txn, other_txn, any_same, any_none}
use Rattle.tc_locks.proofs.Leaving.{apart}
use Rattle.tc_locks.proofs.Tables.{one_number}

one_in : (b x was : Bool) → cond b true (was || x) ≡ (was || (x || (b || false)))
one_in b x was = grind arith

-- a transaction's locks are put into the index one after another
pub one_remembered : (t : ℕ) (q : Entry) (locks : List Lock) (i : ℕ) (item copy : Lock) (was now new : Bool)
    → i < length locks → copy ≡ item → item ≡ get_or locks i item
    → now ≡ (was || list_any (is_entry_of t q) (take i locks)) → new ≡ cond (is_entry_of t q copy) true now
    → new ≡ (was || list_any (is_entry_of t q) (take (i + 1) locks))
one_remembered t q locks i item copy was now new within same at before came =
    grind (arith, common_steps, one_in, take_more, list_any-append)

-- the entry's lock is among those that are listed with the entry's transaction
abbrev pub is_listed : Entry → ℕ × Vec Lock → Bool
is_listed q e = list_any (is_entry_of e.0 q) e.1.items

or_false : (x : Bool) → (x || false) ≡ x
or_false x = grind arith

own : (q : Entry) (e : ℕ × Vec Lock) → e.0 ≡ q.txn → is_listed q e ≡ list_any (is_lock_of q) e.1.items
own q e same = any_same (is_entry_of e.0 q) (is_lock_of q) e.1.items (λ l. same_txn e.0 l q same)

foreign : (q : Entry) (e : ℕ × Vec Lock) → e.0 ≢ q.txn → is_listed q e ≡ false
foreign q e other = any_none (is_entry_of e.0 q) e.1.items (λ l. other_txn e.0 l q other)

found_first : (b : Bool) (q : Entry) (v : Vec Lock) (o : Option (Vec Lock)) → b ≡ true
    → list_any (is_lock_of q) (items_of (cond b (Some v) o)) ≡ list_any (is_lock_of q) v.items
found_first b q v o is = grind arith

found_later : (b : Bool) (q : Entry) (v : Vec Lock) (o : Option (Vec Lock)) → b ≡ false
    → list_any (is_lock_of q) (items_of (cond b (Some v) o)) ≡ list_any (is_lock_of q) (items_of o)
found_later b q v o is = grind arith

none_listed : (q : Entry) (es : List (ℕ × Vec Lock)) → AllByRecursion (λ (k : ℕ). nat_cmp q.txn k ≡ Less) (keys_of es)
    → list_any (is_listed q) es ≡ false
none_listed q [] all = refl
none_listed q (e ∷ es) all = grind (arith, none_listed q es all.1, foreign)

all_stand : (q : Entry) (es : List (ℕ × Vec Lock)) → IsStrictlySortedBy nat_cmp (keys_of es)
    → list_any (is_listed q) es ≡ list_any (is_lock_of q) (items_of (lookup (is_at (nat_cmp q.txn)) es))
all_stand q [] sorted = refl
all_stand q (e ∷ es) sorted = elim (cases_eq e.0 q.txn) [
  | inl same ↦
      let alone : list_any (is_listed q) es ≡ false = none_listed q es
      (subst (λ (t : ℕ). AllByRecursion (λ (k : ℕ). nat_cmp t k ≡ Less) (keys_of es)) same
      (sorted_head nat_cmp e.0 (keys_of es) sorted)) in
      (λ i. own q e same i || alone i) ∙ or_false (list_any (is_lock_of q) e.1.items)
      ∙ sym (found_first (is_eq (nat_cmp q.txn e.0)) q e.1 (lookup (is_at (nat_cmp q.txn)) es)
      (one_number q.txn e.0 (sym same)))
  | inr other ↦
      ap (λ b. b || list_any (is_listed q) es) (foreign q e other)
      ∙ all_stand q es (sorted_tail nat_cmp e.0 (keys_of es) sorted)
      ∙ sym (found_later (is_eq (nat_cmp q.txn e.0)) q e.1 (lookup (is_at (nat_cmp q.txn)) es) (apart q.txn e.0 other))
]

-- what came in and what is still listed are together all that is held
pub all_in : (h : Held) (q : Entry) (has : Bool) → IsOrdered nat_cmp h.by_txn
    → (has || false) ≡ list_any (is_listed q) h.by_txn.entries → has ≡ stands h q
all_in h q has sorted all = sym (or_false has) ∙ all ∙ all_stand q h.by_txn.entries sorted
