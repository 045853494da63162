-- The index after a take that was refused.
use Rattle.std.proofs.Common.{arith, ◌≡◌, ℕ, Bool, true, false, cond, sym, ap, ◌∙◌}
use Rattle.std.specs.Ordering.{is_eq}
use Rattle.std.specs.BTreeSet.{BTreeSet, contains}
use Rattle.tc_locks.specs.declared.entry.Entry.{Entry}
use Rattle.tc_locks.specs.declared.held.Held.{Held}
use Rattle.tc_locks.specs.Meant.{locks_in}
use Rattle.tc_locks.specs.Order.{entry_cmp}
use Rattle.tc_locks.specs.Index.{IsIndexed}
use Rattle.tc_locks.proofs.Orders.{entry_exact}

-- an entry that came and went again
back : (b x : Bool) → (b ≡ true → x ≡ false) → cond b false (cond b true x) ≡ x
back b x h = grind arith

pub taken_back : (h : Held) (s y z : BTreeSet Entry) (e : Entry) → IsIndexed h s → contains entry_cmp s e ≡ false
    → ((q : Entry) → contains entry_cmp y q ≡ cond (is_eq (entry_cmp e q)) true (contains entry_cmp s q))
    → ((q : Entry) → contains entry_cmp z q ≡ cond (is_eq (entry_cmp e q)) false (contains entry_cmp y q))
    → IsIndexed h z
taken_back h s y z e indexed absent came went = record {
  each = λ q.
      went q ∙ ap (cond (is_eq (entry_cmp e q)) false) (came q)
      ∙ back (is_eq (entry_cmp e q)) (contains entry_cmp s q)
      (λ is. ap (contains entry_cmp s) (sym (entry_exact e q is)) ∙ absent)
      ∙ indexed.each q;
  fits = indexed.fits;
}

-- the same locks and the same entries
pub same_index : (old new : Held) (s z : BTreeSet Entry) → ((u : ℕ) → locks_in new u ≡ locks_in old u) → z.keys ≡ s.keys
    → IsIndexed old s → IsIndexed new z
same_index old new s z lists keys indexed = grind arith
