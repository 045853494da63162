-- Steps among leaves, one after another, and what an operation and its inverse come to with others between them.
use Rattle.std.specs.Prelude.{◌≡◌, ℕ, false, true, List, [], ◌∷◌, Some, map}
use Rattle.record_key.specs.declared.op.Op.{Op}
use Rattle.record_key.specs.Table.{Table, key_of, answer_in}
use Rattle.inverse.specs.Inverse.{inverse_of, IsEffective, after_all, AllPassBy}
use Rattle.dc_ab_lsn.specs.AbLsn.{captures}
use Rattle.dc_leaf.specs.Leaf.{LeafView, raised_to}
use Rattle.dc_tree.specs.Leaves.{AreLeaves, leaf_at, rows_of}
use Rattle.dc_tree.specs.Parting.{may_split_at, may_merge_at, split_at, merged_at}
use Rattle.dc_tree.specs.Performs.{performed_at}

-- an operation under a new number, a leaf split, two merged, or low numbers raised
pub data TreeStep : Type 0 where
  Performs : (number : ℕ) → (op : Op) → TreeStep
  Splits : (place : ℕ) → (id : ℕ) → (last : ℕ) → TreeStep
  Merges : (place : ℕ) → (last : ℕ) → TreeStep
  Raises : (low : ℕ) → TreeStep

-- when the step may be taken
abbrev pub MayTake : List LeafView → TreeStep → Type 0
MayTake leaves (Performs n o) = captures (leaf_at leaves (key_of o)).ab n ≡ false
MayTake leaves (Splits p id d) = may_split_at leaves p ≡ true
MayTake leaves (Merges p d) = may_merge_at leaves p ≡ true
MayTake leaves (Raises l) = Unit {0}

-- the leaves that it leaves
abbrev pub after_step : List LeafView → TreeStep → List LeafView
after_step leaves (Performs n o) = performed_at leaves n o
after_step leaves (Splits p id d) = split_at p id d leaves
after_step leaves (Merges p d) = merged_at p d leaves
after_step leaves (Raises l) = map (λ leaf. raised_to leaf l) leaves

abbrev pub MayTakeAll : List LeafView → List TreeStep → Type 0
MayTakeAll leaves [] = Unit {0}
MayTakeAll leaves (step ∷ steps) = MayTake leaves step × MayTakeAll (after_step leaves step) steps

abbrev pub after_steps : List LeafView → List TreeStep → List LeafView
after_steps leaves [] = leaves
after_steps leaves (step ∷ steps) = after_steps (after_step leaves step) steps

-- the operations among steps
abbrev pub ops_of : List TreeStep → List Op
ops_of [] = []
ops_of (Performs n o ∷ steps) = o ∷ ops_of steps
ops_of (Splits p id d ∷ steps) = ops_of steps
ops_of (Merges p d ∷ steps) = ops_of steps
ops_of (Raises l ∷ steps) = ops_of steps

-- the leaves have all keys among them, and their rows are this table's
pub record HasTable (leaves : List LeafView) (m : Table) : Type 0 where
  pub kept : AreLeaves leaves
  pub rows : rows_of leaves ≡ m

-- leaves on which an operation, then any steps with operations that pass it by, and then its inverse were done hold
-- the rows of the others alone, and the inverse did something
pub record UndoneAmongLeaves (leaves new : List LeafView) (steps : List TreeStep) (m : ℕ) (i : Op) : Type 0 where
  pub back : HasTable (performed_at new m i) (after_all (rows_of leaves) (ops_of steps))
  pub effective : IsEffective (answer_in (leaf_at new (key_of i)).rows i)

-- steps leave the table that their operations leave, and an inverse takes back just its operation
pub record TreeUndoLaw : Type 0 where
  pub steps : (leaves : List LeafView) (steps : List TreeStep) → AreLeaves leaves → MayTakeAll leaves steps
      → HasTable (after_steps leaves steps) (after_all (rows_of leaves) (ops_of steps))
  pub undone : (leaves : List LeafView) (n m : ℕ) (o i : Op) (steps : List TreeStep) → AreLeaves leaves
      → MayTakeAll leaves (Performs n o ∷ steps) → AllPassBy o (ops_of steps)
      → inverse_of o (answer_in (leaf_at leaves (key_of o)).rows o) ≡ Some i
      → MayTake (after_steps (performed_at leaves n o) steps) (Performs m i)
      → UndoneAmongLeaves leaves (after_steps (performed_at leaves n o) steps) steps m i
