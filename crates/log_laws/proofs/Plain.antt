-- The plain map of a log's history, and what a key holds of which everything is captured.
use Rattle.std.proofs.Common.{arith, ◌≡◌, ℕ, ◌+◌, Bool, true, cond, List, [], ◌∷◌, length, Option, is_some, refl, sym, ap, ◌∙◌}
use Rattle.std.specs.Prelude.{◌&&◌, not, if◌then◌else◌}
use Rattle.std.specs.FinMap.{get, get-empty}
use Rattle.record_key.specs.declared.op.Op.{Op}
use Rattle.record_key.specs.declared.op.Answer.{Answer}
use Rattle.record_key.specs.Table.{Bytes, Table, key_of, value_after, after}
use Rattle.record_key.specs.Laws.{key_cmp}
use Rattle.record_key.proofs.Tables.{is_same-true, get-with_record}
use Rattle.history.specs.declared.record.Record.{Record}
use Rattle.history.specs.declared.record.Record.TheVariants as is
use Rattle.history.specs.History.{Entry, plain}
use Rattle.history.specs.Log.{answer_of, is_crossed, entry_with, hist_in, request_of}
use Rattle.history.specs.Values.{is_on, value_with, value_on, value_where}
use Rattle.history.specs.Honest.{Numbered, numbered_with, numbered_on, AreCaptured, value_of}
use Rattle.log_laws.specs.Laws.{PlainOfHistory, SettledIsPlain}
use Rattle.log_laws.proofs.Values.{values_alike}
use Rattle.log_laws.proofs.Cancel.{cancel}

-- what one operation leaves at a key of a table
on_or_off : (on : Bool) (k : Bytes) (m : Table) (o : Op) (v : Option Bytes) → (on ≡ true → k ≡ key_of o) → get m k ≡ v
    → cond on (value_after o (get m (key_of o))) (get m k) ≡ (if on then value_after o v else v)
on_or_off on k m o v same e = grind arith

-- the value at a key after an operation on it or on another
pub get-after : (k : Bytes) (m : Table) (o : Op) (v : Option Bytes) → get m k ≡ v
    → get (after m o) k ≡ (if is_on k o then value_after o v else v)
get-after k m o v e = grind (arith, get-with_record, on_or_off, is_same-true)

-- an entry leaves its operation's value unless it is crossed
pub entry_leaves : (crossed : Bool) (k : Bytes) (m : Table) (o : Op) (v : Option Bytes) → get m k ≡ v
    → get (if crossed then m else after m o) k ≡ (if not crossed && is_on k o then value_after o v else v)
entry_leaves crossed k m o v e = grind (arith, get-after)

-- an operation leaves its value where it is answered and not crossed
answered_leaves : (whole : List Record) (n t : ℕ) (o : Op) (a : Option Answer) (h : List Entry) (k : Bytes)
    (v : Option Bytes)
    → get (plain h) k ≡ v
    → get (plain (entry_with whole n t o a h)) k
    ≡ (if (is_some a && not (is_crossed whole n)) && is_on k o then value_after o v else v)
answered_leaves whole n t o a h k v e = grind (arith, entry_leaves)

-- so does what is left to read of the log
plain_in : (whole log : List Record) (k : Bytes)
    → get (plain (hist_in whole log)) k
    ≡ value_where k (λ n. is_some (answer_of whole n) && not (is_crossed whole n)) log
plain_in whole [] k = get-empty key_cmp k
plain_in whole (is.Op t p o ∷ log) k = grind (arith, plain_in whole log k, answered_leaves)
plain_in whole (r ∷ log) k = plain_in whole log k

-- so does the whole log
pub plain_of_history : PlainOfHistory
plain_of_history log k = plain_in log log k

-- what is done at a key, all of it captured, is what the log leaves there
rest_captured : (cap : ℕ → Bool) (on : Bool) (d : Numbered) (rest : List Numbered)
    → AreCaptured cap (if on then d ∷ rest else rest) → AreCaptured cap rest
rest_captured cap on d rest h = grind arith

-- one number more, captured and on the key or elsewhere
captured_leaves : (cap : ℕ → Bool) (on : Bool) (d : Numbered) (rest : List Numbered) (v : Option Bytes)
    → value_of cap rest ≡ v → AreCaptured cap (if on then d ∷ rest else rest)
    → value_of cap (if on then d ∷ rest else rest) ≡ (if on then value_after d.op v else v)
captured_leaves cap on d rest v e h = grind arith

-- the same, of what a record has done
done_rest : (cap : ℕ → Bool) (k : Bytes) (n : ℕ) (o : Option Op) (rest : List Numbered)
    → AreCaptured cap (numbered_with k n o rest) → AreCaptured cap rest
done_rest cap k n o rest h = grind arith

done_leaves : (cap : ℕ → Bool) (k : Bytes) (n : ℕ) (o : Option Op) (rest : List Numbered) (v : Option Bytes)
    → value_of cap rest ≡ v → AreCaptured cap (numbered_with k n o rest)
    → value_of cap (numbered_with k n o rest) ≡ value_with k o v
done_leaves cap k n o rest v e h = grind arith

-- where all is captured, the captured ones give what the log leaves
pub value_of-captured : (log : List Record) (k : Bytes) (cap : ℕ → Bool) → AreCaptured cap (numbered_on k log)
    → value_of cap (numbered_on k log) ≡ value_on k log
value_of-captured [] k cap h = refl
value_of-captured (r ∷ log) k cap h =
    done_leaves cap k (length log + 1) (request_of r) (numbered_on k log) (value_on k log)
    (value_of-captured log k cap (done_rest cap k (length log + 1) (request_of r) (numbered_on k log) h)) h

-- and where all is answered, that is the plain map of the history
pub settled_is_plain : SettledIsPlain
settled_is_plain log legal right all k cap captured =
    value_of-captured log k cap captured ∙ cancel log legal right k
    ∙ values_alike k (λ n. not (is_crossed log n)) (λ n. is_some (answer_of log n) && not (is_crossed log n)) log
    (λ n t o is_op on. ap (λ b. b && not (is_crossed log n)) (sym (all n t o is_op)))
    ∙ sym (plain_of_history log k)
