-- What is kept of a log while its records are read one after another: for each open transaction its latest step, and
-- for each key the only transaction that may hold it alone, and those that may hold it for Adds.
use Rattle.std.specs.Prelude.{◌≡◌, ◌≢◌, ◌⊎◌, ℕ, ◌+◌, ◌==◌, ◌&&◌, ◌||◌, Bool, true, false, not, List, [], ◌∷◌, ◌++◌, Option, Some, None, is_some, filter, length, if◌then◌else◌}
use Rattle.std.specs.Bool.{MatchBool}
use Rattle.std.specs.List.{list_all}
use Rattle.std.specs.BTreeMap as tree
use Rattle.std.specs.Ordering.{nat_cmp}
use Rattle.record_key.specs.declared.op.Op.{Op}
use Rattle.record_key.specs.Laws.{key_cmp}
use Rattle.record_key.specs.Table.{Bytes, key_of, is_add}
use Rattle.history.specs.declared.record.Record.{Record}
use Rattle.history.specs.declared.record.Record.TheVariants as is
use Rattle.history.specs.History.{is_among}
use Rattle.history.specs.Log.{IsOpen, IsStepOf, IsOpBy}
use Rattle.history.specs.Legal.{IsLegal, IsIdle, IsLatestOrNone, FitsCheckpoint}
use Rattle.tc_log.specs.declared.analysis.Analysis.{Analysis}
use Rattle.tc_log.specs.declared.replay.Index.{Index}
use Rattle.tc_log.specs.Adders.{adders_in, stays, PutsAdders}
use Rattle.tc_log.specs.Checkpointed.{IsCheckpointed}
use Rattle.tc_log.specs.LogView.{last_not_session}

-- the transaction is open, and this is its latest Op or Comp record, 0 if it has none
pub record OpenAt (log : List Record) (t s : ℕ) : Type 0 where
  pub is_open : IsOpen log t
  pub latest : IsLatestOrNone (IsStepOf log t) s

-- what is kept of a transaction: nothing where it isn't open
abbrev pub KeptOf : List Record → ℕ → Option ℕ → Type 0
KeptOf log t (Some s) = OpenAt log t s
KeptOf log t None = IsOpen log t → ⊥

abbrev pub latest_of : Analysis → ℕ → Option ℕ
latest_of a t = tree.get nat_cmp a.open_txns t

-- who is open is known with the latest steps, and which number is the greatest that a Checkpoint names
pub record IsAnalysis (log : List Record) (a : Analysis) : Type 0 where
  pub open_txns : (t : ℕ) → KeptOf log t (latest_of a t)
  pub checkpointed : IsLatestOrNone (IsCheckpointed log) a.checkpointed

-- which is so again with this record more, of the next number
abbrev pub TakesIn : Record → ℕ → Analysis → Analysis → Type 0
TakesIn r number old new =
    (log : List Record) → IsAnalysis log old → IsLegal (r ∷ log) → number ≡ length log + 1 → IsAnalysis (r ∷ log) new

-- the transaction has an operation on the key that is no Add, and no other open one has
pub record HeldBy (log : List Record) (k : Bytes) (t : ℕ) : Type 0 where
  pub number : ℕ
  pub op : Op
  pub is : IsOpBy log number t op
  pub on_key : key_of op ≡ k
  pub plain : is_add op ≡ false
  pub only : (n u : ℕ) (o : Op) → IsOpBy log n u o → key_of o ≡ k → is_add o ≡ false → IsOpen log u → u ≡ t

-- what is kept of a key: nothing where no open transaction has an operation on it but Adds
abbrev pub KeptOn : List Record → Bytes → Option ℕ → Type 0
KeptOn log k (Some t) = HeldBy log k t
KeptOn log k None = (n u : ℕ) (o : Op) → IsOpBy log n u o → key_of o ≡ k → is_add o ≡ false → IsOpen log u → ⊥

-- the transaction has an Add on the key
pub record AddsTo (log : List Record) (k : Bytes) (u : ℕ) : Type 0 where
  pub number : ℕ
  pub op : Op
  pub is : IsOpBy log number u op
  pub on_key : key_of op ≡ k
  pub adds : is_add op ≡ true

-- the listed ones have Adds on the key; and each open one that has is listed, or holds the key alone
pub record AddedBy (log : List Record) (k : Bytes) (holder : Option ℕ) (us : List ℕ) : Type 0 where
  pub each : (u : ℕ) → is_among u us ≡ true → AddsTo log k u
  pub all : (u : ℕ) → AddsTo log k u → IsOpen log u → (holder ≡ Some u) ⊎ (is_among u us ≡ true)

abbrev pub latest_in : Index → ℕ → Option ℕ
latest_in index t = latest_of index.analysis t

abbrev pub holder_in : Index → Bytes → Option ℕ
holder_in index k = tree.get key_cmp index.holders k

abbrev pub adders_of : Index → Bytes → List ℕ
adders_of index k = adders_in index.adders k

-- a transaction is no hindrance to this one: it is the same, or isn't open
abbrev pub agrees : Index → ℕ → ℕ → Bool
agrees index t u = (u == t) || not (is_some (latest_in index u))

abbrev pub agrees_if : Index → ℕ → Option ℕ → Bool
agrees_if index t None = true
agrees_if index t (Some u) = agrees index t u

-- none that may hold the operation's key is one
abbrev pub is_free : Index → ℕ → Op → Bool
is_free index t o =
    agrees_if index t (holder_in index (key_of o))
    && (is_add o || list_all (agrees index t) (adders_of index (key_of o)))

-- the log is legal, and the index is right for it
pub record IsIndex (log : List Record) (index : Index) : Type 0 where
  pub legal : IsLegal log
  pub analysis : IsAnalysis log index.analysis
  pub held_keys : (k : Bytes) → KeptOn log k (holder_in index k)
  pub added_keys : (k : Bytes) → AddedBy log k (holder_in index k) (adders_of index k)
  pub answered : FitsCheckpoint log index.answered
  pub last : index.last_not_session ≡ last_not_session log

-- what is kept of a transaction that may take its next step: nothing where it isn't open and idle
abbrev pub ReadyOf : List Record → ℕ → Option ℕ → Type 0
ReadyOf log t (Some s) = OpenAt log t s × IsIdle log t
ReadyOf log t None = IsOpen log t → IsIdle log t → ⊥

-- the one function is the other but for this value here
pub record Puts (K : Type 0) (old new : K → Option ℕ) (k : K) (v : Option ℕ) : Type 0 where
  pub here : new k ≡ v
  pub elsewhere : (q : K) → q ≢ k → new q ≡ old q

-- what a record of this number changes of the transactions
abbrev pub Follows : Record → ℕ → (ℕ → Option ℕ) → (ℕ → Option ℕ) → Type 0
Follows is.Begin n old new = Puts ℕ old new n (Some 0)
Follows (is.Op t p o) n old new = Puts ℕ old new t (Some n)
Follows (is.Comp t u x i) n old new = Puts ℕ old new t (Some n)
Follows (is.Commit t) n old new = Puts ℕ old new t None
Follows (is.End t) n old new = Puts ℕ old new t None
Follows _ n old new = (t : ℕ) → new t ≡ old t

-- and of the keys
abbrev pub Holds : Record → (Bytes → Option ℕ) → (Bytes → Option ℕ) → Type 0
Holds (is.Op t p o) old new =
    MatchBool (is_add o) ((k : Bytes) → new k ≡ old k) (Puts Bytes old new (key_of o) (Some t))
Holds _ old new = (k : Bytes) → new k ≡ old k

-- after an Add those before it are kept of other open transactions, and after another operation none
abbrev pub Gains : Record → (ℕ → Option ℕ) → (Bytes → List ℕ) → (Bytes → List ℕ) → Type 0
Gains (is.Op t p o) latest old new =
    PutsAdders old new (key_of o) (if is_add o then filter (stays latest t) (old (key_of o)) ++ t ∷ [] else [])
Gains _ latest old new = (k : Bytes) → new k ≡ old k
