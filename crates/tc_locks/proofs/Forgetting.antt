-- The index while a transaction's locks go.
use Rattle.std.proofs.lemmas.Grind.{common_steps}
use Rattle.std.proofs.Common.{arith, ◌≡◌, ℕ, ◌+◌, ◌<◌, ◌&&◌, ◌||◌, Bool, false, cond, List, length, get_or, take}
use Rattle.std.specs.Prelude.{not}
use Rattle.std.specs.List.{list_any}
use Rattle.std.proofs.lemmas.List.{take_more}
use Rattle.std.proofs.lemmas.List.Folds.{list_any-append}
use Rattle.tc_locks.specs.declared.span.Lock.{Lock}
use Rattle.tc_locks.specs.declared.entry.Entry.{Entry}
use Rattle.tc_locks.specs.Index.{is_entry_of}

-- a transaction's locks are taken out of the index one after another
one_out : (b x was : Bool) → cond b false (was && not x) ≡ (was && not (x || (b || false)))
one_out b x was = grind arith

pub one_forgotten : (t : ℕ) (q : Entry) (locks : List Lock) (i : ℕ) (item copy : Lock) (was now new : Bool)
    → i < length locks → copy ≡ item → item ≡ get_or locks i item
    → now ≡ (was && not (list_any (is_entry_of t q) (take i locks))) → new ≡ cond (is_entry_of t q copy) false now
    → new ≡ (was && not (list_any (is_entry_of t q) (take (i + 1) locks)))
one_forgotten t q locks i item copy was now new within same at before went =
    grind (arith, common_steps, one_out, take_more, list_any-append)
