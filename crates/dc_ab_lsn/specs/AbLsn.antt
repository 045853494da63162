-- An abstract page LSN: of which numbers a leaf has the effect. It has that of every number up to the low
-- one, and that of each number in a set above it (the form is this project's; the notion is that of the
-- CIDR 2009 paper on unbundled transaction services).
use Rattle.std.specs.Prelude.{ℕ, ◌==◌, ◌||◌, Bool, List, [], ◌∷◌, Option, Some, None, filter, not, nat_le, nat_lt, if◌then◌else◌}
use Rattle.std.specs.List.{list_any}
use Rattle.record_key.specs.declared.op.Answer.{Answer}
use Rattle.record_key.specs.declared.entry.Entry.{Entry}
use Rattle.record_key.specs.Table.{Bytes}
use Rattle.record_key.specs.Entries.{numbers}

-- the low number, and the entries above it, their numbers rising
pub record AbLsnView : Type 0 where
  pub low : ℕ
  pub entries : List Entry

-- the number stands in one of them
abbrev pub stands_in : List Entry → ℕ → Bool
stands_in es n = list_any (λ m. n == m) (numbers es)

-- the effect of this number is there: it is at most the low number, or stands in the set
abbrev pub captures : AbLsnView → ℕ → Bool
captures v n = nat_le n v.low || stands_in v.entries n

-- the answer that is saved under a number
abbrev pub saved_in : List Entry → ℕ → Option Answer
saved_in [] n = None
saved_in (e ∷ es) n = if e.number == n then Some e.answer else saved_in es n

-- the entries with one more at its place
abbrev pub with_entry : Entry → List Entry → List Entry
with_entry e [] = e ∷ []
with_entry e (f ∷ fs) = if nat_lt f.number e.number then f ∷ with_entry e fs else e ∷ f ∷ fs

-- nothing is captured
abbrev pub none_captured : AbLsnView
none_captured = record { low = 0; entries = [] }

-- with one number more
abbrev pub noted : AbLsnView → ℕ → Bytes → Answer → AbLsnView
noted v n k a = record v { entries = with_entry (record { number = n; key = k; answer = a }) v.entries }

abbrev pub above : ℕ → List Entry → List Entry
above low entries = filter (λ (e : Entry). nat_lt low e.number) entries

-- every number up to this one counts as captured, and its entries go
abbrev pub raised : AbLsnView → ℕ → AbLsnView
raised v l = if nat_lt v.low l then record { low = l; entries = above l v.entries } else v

-- the entries whose numbers aren't above an end
abbrev pub up_to : ℕ → List Entry → List Entry
up_to end entries = filter (λ (e : Entry). not (nat_lt end e.number)) entries

-- the entries above an end go; the low number stays
abbrev pub popped : AbLsnView → ℕ → AbLsnView
popped v end = record v { entries = up_to end v.entries }
