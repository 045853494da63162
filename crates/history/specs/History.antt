-- A history: one list of answered operations, the newest first, with the rolled-back ones crossed out;
-- and the plain map that the others leave.
use Rattle.std.specs.Prelude.{ℕ, ◌==◌, ◌&&◌, ◌||◌, Bool, true, not, List, [], ◌∷◌, map, filter, nat_lt, if◌then◌else◌}
use Rattle.std.specs.List.{list_any}
use Rattle.std.specs.FinMap as table
use Rattle.record_key.specs.declared.op.Op.{Op}
use Rattle.record_key.specs.declared.op.Answer.{Answer}
use Rattle.record_key.specs.Table.{Table, after}

-- an answered operation: its record's number, or 0 once a crash lost that; its transaction; and whether it is rolled
-- back
pub record Entry : Type 0 where
  pub number : ℕ
  pub txn : ℕ
  pub op : Op
  pub answer : Answer
  pub crossed : Bool

-- what a plain map holds after the operations that stand
abbrev pub plain : List Entry → Table
plain [] = table.empty
plain (e ∷ h) = if e.crossed then plain h else after (plain h) e.op

-- the history with an entry at its place by number
abbrev pub placed : Entry → List Entry → List Entry
placed e [] = e ∷ []
placed e (f ∷ h) = if nat_lt f.number e.number then e ∷ f ∷ h else f ∷ placed e h

-- a transaction's entries whose numbers pass the test are crossed out
abbrev pub crossed_if : (ℕ → Bool) → ℕ → Entry → Entry
crossed_if p t e = record e { crossed = e.crossed || (e.txn == t && p e.number) }

abbrev pub cross : (ℕ → Bool) → ℕ → List Entry → List Entry
cross p t h = map (crossed_if p t) h

-- the numbers of a transaction's entries
abbrev pub numbers_of : ℕ → List Entry → List ℕ
numbers_of t h = map (λ e. e.number) (filter (λ e. e.txn == t) h)

-- a number is one of these
abbrev pub is_among : ℕ → List ℕ → Bool
is_among n numbers = list_any (λ m. m == n) numbers

-- a transaction's entries
abbrev pub entries_of : ℕ → List Entry → List Entry
entries_of t h = filter (λ e. e.txn == t) h

-- a crash loses the records above its bound: whether this is the number of a record that is left
abbrev pub is_left : ℕ → ℕ → Bool
is_left bound n = nat_lt 0 n && not (nat_lt bound n)

-- the transaction's entries that keep their numbers
abbrev pub left_of : ℕ → ℕ → List Entry → List Entry
left_of bound t h = filter (λ e. e.txn == t && is_left bound e.number) h

-- an entry stays where its record is lost, crossed and without a number
abbrev pub lost : Entry → Entry
lost e = record e { number = 0; crossed = true }
