-- The transactions that a restart rolls back, and what each has left to undo.
use Rattle.std.specs.Prelude.{◌≡◌, ℕ, ◌+◌, ◌<◌, ◌≤◌, List, [], ◌∷◌, ◌++◌, Bool, IsTrue, ◌↔◌, Option, map, length, MatchOption}
use Rattle.std.specs.List.{All}
use Rattle.record_key.specs.declared.op.Op.{Op}
use Rattle.history.specs.declared.record.Record.{Record}
use Rattle.history.specs.declared.record.Record.TheVariants as is
use Rattle.history.specs.Log.{IsOpen, IsStepOf}
use Rattle.history.specs.Legal.{IsLegal, Stands, IsLatest, IsLatestOrNone}
use Rattle.tc_restart.specs.declared.loser.Loser.{Loser}
use Rattle.tc_restart.specs.Lists.{Lists}

-- a transaction that began below this number and has neither a Commit nor an End
pub record IsLoser (log : List Record) (below t : ℕ) : Type 0 where
  pub open_txn : IsOpen log t
  pub early : t < below

-- no operation of the transaction is left that no compensation names
abbrev pub IsUndone : List Record → ℕ → Type 0
IsUndone log t = (n : ℕ) → Stands log t n → ⊥

-- what is said of a transaction is right: its latest step and its latest operation that no compensation names
pub record IsAt (log : List Record) (x : Loser) : Type 0 where
  pub last : IsLatestOrNone (IsStepOf log x.txn) x.last
  pub left : IsLatest (Stands log x.txn) x.left

-- what is seen of losers: the number below which they began, those that have something left to undo, and the others
pub record LosersView : Type 0 where
  pub below : ℕ
  pub undoing : List Loser
  pub done : List ℕ

-- nobody, where a log is new
abbrev pub nobody_lost : LosersView
nobody_lost = record { below = 0; undoing = []; done = [] }

-- all of them by their numbers
abbrev pub txns : LosersView → List ℕ
txns l = map (λ (x : Loser). x.txn) l.undoing ++ l.done

-- just the losers of the log are listed, each once, with what it has left to undo
pub record AreLosers (log : List Record) (l : LosersView) : Type 0 where
  pub bound : l.below ≤ length log + 1
  pub listed : Lists (IsLoser log l.below) (txns l)
  pub undoing : All (IsAt log) l.undoing
  pub done : All (IsUndone log) l.done

-- an operation of a loser that no compensation names
pub record IsLeft (log : List Record) (below n : ℕ) : Type 0 where
  pub txn : ℕ
  pub loser : IsLoser log below txn
  pub stands : Stands log txn n

-- a loser that has nothing left to undo
pub record MayEnd (log : List Record) (below t : ℕ) : Type 0 where
  pub loser : IsLoser log below t
  pub undone : IsUndone log t

-- the least number of a kind
pub record IsLeast (P : ℕ → Type 0) (n : ℕ) : Type 0 where
  pub is : P n
  pub least : (m : ℕ) → P m → n ≤ m

-- the loser that has the latest operation that is left
pub record LosesNext (log : List Record) (below : ℕ) (x : Loser) : Type 0 where
  pub loser : IsLoser log below x.txn
  pub at : IsAt log x
  pub latest : IsLatest (IsLeft log below) x.left

-- whether no transaction is a loser
abbrev pub TellsNone : LosersView → Bool → Type 0
TellsNone l none = (log : List Record) → AreLosers log l → IsTrue none ↔ ((t : ℕ) → IsLoser log l.below t → ⊥)

-- of all losers the one whose operation is undone next, none where no operation is left
abbrev pub FindsNext : LosersView → Option Loser → Type 0
FindsNext l found =
    (log : List Record) → AreLosers log l
    → MatchOption found ((n : ℕ) → IsLeft log l.below n → ⊥) (LosesNext log l.below)

-- the least loser that has nothing left to undo, none where there is none
abbrev pub FindsEnded : LosersView → Option ℕ → Type 0
FindsEnded l found =
    (log : List Record) → AreLosers log l
    → MatchOption found ((t : ℕ) → MayEnd log l.below t → ⊥) (IsLeast (MayEnd log l.below))

-- the losers are right again after the Comp of this number and undo-next, which names the latest operation left
abbrev pub TakesComp : LosersView → ℕ → ℕ → LosersView → Type 0
TakesComp old number next new =
    (log : List Record) (t u : ℕ) (i : Option Op) → AreLosers log old → IsLegal (is.Comp t u next i ∷ log)
    → IsLatest (IsLeft log old.below) u → number ≡ length log + 1 → AreLosers (is.Comp t u next i ∷ log) new

-- and after the End of the least loser that has nothing left to undo
abbrev pub TakesEnd : LosersView → LosersView → Type 0
TakesEnd old new =
    (log : List Record) (t : ℕ) → AreLosers log old → IsLegal (is.End t ∷ log) → IsLeast (MayEnd log old.below) t
    → AreLosers (is.End t ∷ log) new
