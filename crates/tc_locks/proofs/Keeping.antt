-- While one transaction alone has locks, the index may lack.
use Rattle.std.proofs.Common.{◌≡◌, ◌≢◌, ℕ, ◌<◌, ◌^◌, false, length, List, [], ◌∷◌, Option, Some, None, Result, Ok, Err, OnOk, OnErr, refl, sym, ap, ◌∙◌, reverse, arith, true≢false}
use Rattle.std.specs.Prelude.{IfNone, is_some}
use Rattle.std.specs.BTreeSet.{BTreeSet}
use Rattle.std.proofs.lemmas.List.{length-map, length-reverse}
use Rattle.tc_locks.specs.declared.span.Lock.{Lock}
use Rattle.tc_locks.specs.declared.entry.Entry.{Entry}
use Rattle.tc_locks.specs.declared.held.Held.{Held}
use Rattle.record_key.specs.declared.refusal.Refusal.{Refusal}
use Rattle.tc_locks.specs.Locks.{spans_of}
use Rattle.tc_locks.specs.Meant.{span_of, newest_first, seen, locks_in, Lists}
use Rattle.tc_locks.specs.Index.{HasOneHolder, IsKept}
use Rattle.tc_locks.proofs.Leaving.{read}

no_locks : (locks : List Lock) → newest_first locks ≡ [] → locks ≡ []
no_locks [] h = refl
no_locks (lock ∷ locks) h =
    let long : length (newest_first (lock ∷ locks)) ≡ length (lock ∷ locks) =
    length-map (reverse (lock ∷ locks)) span_of ∙ length-reverse (lock ∷ locks) in
    absurd (omega (arith, long, ap length h))

-- what a change at a transaction leaves of one holder
taken_alone : (old new : Held) (t : ℕ) (locks : List Lock) → t < 2 ^ 64
    → ((u : ℕ) → u ≢ t → spans_of (seen old) u ≡ []) → Lists old t locks new → HasOneHolder new
taken_alone old new t locks small alone lists = record {
  holder = t;
  fits = small;
  others = λ u other. lists.others u other ∙ no_locks (locks_in old u) (sym (read old u) ∙ alone u other);
}

-- the same locks
same_alone : (old new : Held) → ((u : ℕ) → locks_in new u ≡ locks_in old u) → HasOneHolder old → HasOneHolder new
same_alone old new lists one = grind arith

-- a lock more, or none for want of memory, where there is no index
pub pushed_alone : (old new : Held) (index : Option (BTreeSet Entry)) (t : ℕ) (locks : List Lock)
    (r : Result (Unit {0}) Refusal) → index ≡ None → t < 2 ^ 64 → IsKept old index
    → IfNone index ((u : ℕ) → u ≢ t → spans_of (seen old) u ≡ []) → OnOk r (Lists old t locks new)
    → OnErr r ((u : ℕ) → locks_in new u ≡ locks_in old u) → IsKept new index
pushed_alone old new None t locks (Ok x) none small kept alone lists same = taken_alone old new t locks small alone lists
pushed_alone old new None t locks (Err e) none small kept alone lists same = same_alone old new same kept
pushed_alone old new (Some s) t locks r none small kept alone lists same = absurd (true≢false (ap is_some none))

-- the same where nobody else has a lock at all
pub pushed_first : (old new : Held) (index : Option (BTreeSet Entry)) (t : ℕ) (locks : List Lock)
    (r : Result (Unit {0}) Refusal) → is_some index ≡ false → t < 2 ^ 64 → IsKept old index
    → ((u : ℕ) → u ≢ t → spans_of (seen old) u ≡ []) → OnOk r (Lists old t locks new)
    → OnErr r ((u : ℕ) → locks_in new u ≡ locks_in old u) → IsKept new index
pushed_first old new None t locks r none small kept alone lists same =
    pushed_alone old new None t locks r refl small kept alone lists same
pushed_first old new (Some s) t locks r none small kept alone lists same = absurd (true≢false none)
