-- The index: each lock that is held, with its holder, in one order. It may lack where one transaction alone holds.
use Rattle.std.specs.Prelude.{◌≡◌, ◌≢◌, ℕ, ◌^◌, ◌<◌, ◌≤◌, ◌==◌, ◌&&◌, Bool, not, [], Option, Some, None}
use Rattle.std.specs.List.{list_any}
use Rattle.std.specs.Ordering.{is_eq}
use Rattle.std.specs.BTreeSet.{BTreeSet, contains}
use Rattle.tc_locks.specs.declared.span.Lock.{Lock}
use Rattle.tc_locks.specs.declared.entry.Entry.{Entry}
use Rattle.tc_locks.specs.declared.held.Held.{Held}
use Rattle.tc_locks.specs.Meant.{locks_in, clashes_with}
use Rattle.tc_locks.specs.Order.{lock_cmp, entry_cmp}

-- it is this entry's lock
abbrev pub is_lock_of : Entry → Lock → Bool
is_lock_of e lock = is_eq (lock_cmp lock e.lock)

-- the entry's transaction holds the entry's lock
abbrev pub stands : Held → Entry → Bool
stands h e = list_any (is_lock_of e) (locks_in h e.txn)

-- it is this lock of this transaction
abbrev pub is_entry_of : ℕ → Entry → Lock → Bool
is_entry_of t e lock = is_eq (entry_cmp (record { lock = lock; txn = t }) e)

-- another transaction holds it, and the lock conflicts with it
abbrev pub stops : ℕ → Lock → Entry → Bool
stops t lock e = not (e.txn == t) && clashes_with lock e.lock

abbrev pub txn_of : Entry → ℕ
txn_of e = e.txn

-- exactly what is held is indexed, and only numbers of 64 bits hold
pub record IsIndexed (h : Held) (s : BTreeSet Entry) : Type 0 where
  pub each : (e : Entry) → contains entry_cmp s e ≡ stands h e
  pub fits : (u : ℕ) → 2 ^ 64 ≤ u → locks_in h u ≡ []

-- no other transaction than one has a lock
pub record HasOneHolder (h : Held) : Type 0 where
  pub holder : ℕ
  pub fits : holder < 2 ^ 64
  pub others : (u : ℕ) → u ≢ holder → locks_in h u ≡ []

-- where two transactions have locks there is an index, and it is exact
abbrev pub IsKept : Held → Option (BTreeSet Entry) → Type 0
IsKept h None = HasOneHolder h
IsKept h (Some s) = IsIndexed h s
