-- The index after a lock came or went.
use Rattle.std.proofs.lemmas.Grind.{common_steps}
use Rattle.std.proofs.Common.{◌≡◌, ◌≢◌, ℕ, ◌<◌, ◌≤◌, ◌^◌, inl, inr, ◌&&◌, ◌||◌, Bool, true, false, cond, List, [], ◌∷◌, ◌++◌, refl, sym, ap, ◌∙◌, subst, arith}
use Rattle.std.specs.Prelude.{not}
use Rattle.std.specs.List.{list_any}
use Rattle.std.specs.BTreeSet.{BTreeSet, contains}
use Rattle.std.proofs.lemmas.Bool.{cases_eq}
use Rattle.std.proofs.lemmas.List.Folds.{list_any-append}
use Rattle.tc_locks.specs.declared.span.Lock.{Lock}
use Rattle.tc_locks.specs.declared.entry.Entry.{Entry}
use Rattle.tc_locks.specs.declared.held.Held.{Held}
use Rattle.tc_locks.specs.Meant.{locks_in, Lists}
use Rattle.tc_locks.specs.Order.{entry_cmp}
use Rattle.tc_locks.specs.Index.{is_lock_of, is_entry_of, stands, IsIndexed}
use Rattle.tc_locks.proofs.Orders.{lock_exact}

-- at an entry of the transaction, and at another's
pub same_txn : (t : ℕ) (lock : Lock) (q : Entry) → t ≡ q.txn → is_entry_of t q lock ≡ is_lock_of q lock
same_txn t lock q same = grind arith

pub other_txn : (t : ℕ) (lock : Lock) (q : Entry) → t ≢ q.txn → is_entry_of t q lock ≡ false
other_txn t lock q other = grind arith

one_added : (b x : Bool) → cond b true x ≡ (x || (b || false))
one_added b x = grind arith

one_gone : (b x : Bool) → (b ≡ true → x ≡ false) → cond b false (x || (b || false)) ≡ x
one_gone b x h = grind arith

one_stays : (b x : Bool) → (b ≡ true → x ≡ true) → (x || (b || false)) ≡ x
one_stays b x h = grind arith

and_not : (x : Bool) → (x && not x) ≡ false
and_not x = grind arith

and_true : (x y : Bool) → y ≡ false → (x && not y) ≡ x
and_true x y h = grind arith

pub any_same : {X : Type 0} (p r : X → Bool) (xs : List X) → ((x : X) → p x ≡ r x) → list_any p xs ≡ list_any r xs
any_same p r xs h = grind arith

pub any_none : {X : Type 0} (p : X → Bool) (xs : List X) → ((x : X) → p x ≡ false) → list_any p xs ≡ false
any_none p [] h = refl
any_none p (x ∷ xs) h = ap (λ b. b || list_any p xs) (h x) ∙ any_none p xs h

-- a lock more, or one less
with_last : (q : Entry) (locks all : List Lock) (lock : Lock) → all ≡ locks ++ lock ∷ []
    → list_any (is_lock_of q) all ≡ (list_any (is_lock_of q) locks || (is_lock_of q lock || false))
with_last q locks all lock is = ap (list_any (is_lock_of q)) is ∙ list_any-append (is_lock_of q) locks (lock ∷ [])

module _ (old new : Held) (t : ℕ) (s z : BTreeSet Entry) (indexed : IsIndexed old s) where
  -- another's entry stands as it stood
  others_stand : (q : Entry) → ((u : ℕ) → u ≢ t → locks_in new u ≡ locks_in old u) → t ≢ q.txn
      → stands new q ≡ stands old q
  others_stand q others other = ap (list_any (is_lock_of q)) (others q.txn (λ same. other (sym same)))

  still_fits : ((u : ℕ) → u ≢ t → locks_in new u ≡ locks_in old u) → t < 2 ^ 64 → (u : ℕ) → 2 ^ 64 ≤ u
      → locks_in new u ≡ []
  still_fits others small u large = others u (λ same. omega (arith, same, small, large)) ∙ indexed.fits u large

  pub added_index : (lock : Lock) → t < 2 ^ 64 → Lists old t (locks_in old t ++ lock ∷ []) new
      → ((q : Entry) → contains entry_cmp z q ≡ cond (is_entry_of t q lock) true (contains entry_cmp s q))
      → IsIndexed new z
  added_index lock small lists has =
      grind (arith, common_steps, cases_eq, same_txn, one_added, with_last, other_txn, others_stand, still_fits)

  -- the newest lock went, and stays indexed only where the transaction has it once more
  at_lock : (lock : Lock) (q : Entry) → t ≡ q.txn → is_lock_of q lock ≡ true
      → stands new q ≡ stands new (record { lock = lock; txn = t })
  at_lock lock q same is =
      let locks : lock ≡ q.lock = lock_exact lock q.lock is in
      λ i. stands new (record { lock = sym locks i; txn = sym same i })

  pub removed_index : (lock : Lock) → t < 2 ^ 64 → locks_in old t ≡ locks_in new t ++ lock ∷ []
      → ((u : ℕ) → u ≢ t → locks_in new u ≡ locks_in old u)
      → stands new (record { lock = lock; txn = t }) ≡ false
      → ((q : Entry) → contains entry_cmp z q ≡ cond (is_entry_of t q lock) false (contains entry_cmp s q))
      → IsIndexed new z
  removed_index lock small was others gone has =
      grind (arith, common_steps, cases_eq, same_txn, with_last, one_gone, at_lock, other_txn, others_stand, still_fits)

  pub kept_index : (lock : Lock) → t < 2 ^ 64 → locks_in old t ≡ locks_in new t ++ lock ∷ []
      → ((u : ℕ) → u ≢ t → locks_in new u ≡ locks_in old u)
      → stands new (record { lock = lock; txn = t }) ≡ true → IsIndexed new s
  kept_index lock small was others there =
      grind (arith, common_steps, cases_eq, with_last, one_stays, at_lock, others_stand, still_fits)

  -- all of a transaction's went
  pub released_index : t < 2 ^ 64 → Lists old t [] new
      → ((q : Entry) → contains entry_cmp z q
      ≡ (contains entry_cmp s q && not (list_any (is_entry_of t q) (locks_in old t))))
      → IsIndexed new z
  released_index small lists has = record {
    each = λ q. elim (cases_eq t q.txn) [
      | inl same ↦
          has q ∙ ap (λ b. b && not (list_any (is_entry_of t q) (locks_in old t))) (indexed.each q)
          ∙ ap (λ b. stands old q && not b)
          (any_same (is_entry_of t q) (is_lock_of q) (locks_in old t) (λ l. same_txn t l q same)
          ∙ ap (λ u. list_any (is_lock_of q) (locks_in old u)) same)
          ∙ and_not (stands old q)
          ∙ sym (ap (list_any (is_lock_of q)) (subst (λ u. locks_in new u ≡ []) same lists.own))
      | inr other ↦
          has q ∙ and_true (contains entry_cmp s q)
          _ (any_none (is_entry_of t q) (locks_in old t) (λ l. other_txn t l q other))
          ∙ indexed.each q ∙ sym (others_stand q lists.others other)
    ];
    fits = still_fits lists.others small;
  }
