-- The derived order is the index's.
use Rattle.std.proofs.Common.{arith, ◌≡◌, ℕ, Bool, true, false, cond, subst}
use Rattle.std.specs.Prelude.{not}
use Rattle.std.specs.BTreeSet.{BTreeSet, contains}
use Rattle.std.specs.Ordering.{is_eq}
use Rattle.std.specs.declared.cmp.Ordering.{Ordering}
use Rattle.tc_locks.specs.declared.span.Mode.{Mode}
use Rattle.tc_locks.specs.declared.span.Span.{Span}
use Rattle.tc_locks.specs.declared.entry.Entry.{Entry}
use Rattle.tc_locks.specs.contracts.entry.EntryOrd.TheImpl as derived
use Rattle.tc_locks.specs.Order.{entry_cmp}

abbrev entry : Span → Mode → ℕ → Entry
entry s m t = record { lock = record { span = s; mode = m }; txn = t }

by_parts : (s r : Span) (m n : Mode) (t u : ℕ)
    → derived.cmp-value.it (entry s m t) (entry r n u) ≡ entry_cmp (entry s m t) (entry r n u)
by_parts s r m n t u = grind arith

pub same_order : ◌≡◌ {A = Entry → Entry → Ordering} derived.cmp-value.it entry_cmp
same_order = λ i. λ (a b : Entry). by_parts a.lock.span b.lock.span a.lock.mode b.lock.mode a.txn b.txn i

-- what holds by the derived order
pub by_order : (P : (Entry → Entry → Ordering) → Type 0) → P derived.cmp-value.it → P entry_cmp
by_order P h = subst P same_order h

-- an entry came or went, by the index's order
pub changed : (b : Bool) (s z : BTreeSet Entry) (d e : Entry)
    → ((q : Entry) → contains derived.cmp-value.it z q
    ≡ cond (is_eq (derived.cmp-value.it d q)) b (contains derived.cmp-value.it s q))
    → d ≡ e → (q : Entry) → contains entry_cmp z q ≡ cond (is_eq (entry_cmp e q)) b (contains entry_cmp s q)
changed b s z d e h same q =
    by_order (λ R. contains R z q ≡ cond (is_eq (R e q)) b (contains R s q))
    (subst (λ (x : Entry). contains derived.cmp-value.it z q
    ≡ cond (is_eq (derived.cmp-value.it x q)) b (contains derived.cmp-value.it s q)) same (h q))

pub absent : (s : BTreeSet Entry) (d e : Entry) (b : Bool) → b ≡ not (contains derived.cmp-value.it s d) → b ≡ true
    → d ≡ e → contains entry_cmp s e ≡ false
absent s d e b is true_b same = grind arith
