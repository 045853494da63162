-- Steps among leaves, one after another.
use Rattle.std.proofs.Common.{◌≡◌, ℕ, List, [], ◌∷◌, Some, refl, sym, ap, ◌∙◌, subst}
use Rattle.record_key.specs.declared.op.Op.{Op}
use Rattle.record_key.specs.Table.{Table, key_of, answer_in, after}
use Rattle.inverse.specs.Inverse.{inverse_of, IsEffective, after_all, AllPassBy}
use Rattle.inverse.proofs.Undo.{undone}
use Rattle.dc_leaf.specs.Leaf.{LeafView}
use Rattle.dc_tree.specs.Leaves.{AreLeaves, leaf_at, rows_of}
use Rattle.dc_tree.specs.Performs.{performed_at}
use Rattle.dc_tree.specs.TreeLaw.{PerformsOne}
use Rattle.dc_tree.specs.Steps.{TreeStep, Performs, Splits, Merges, Raises, MayTake, MayTakeAll, after_steps, ops_of, HasTable, UndoneAmongLeaves}
use Rattle.dc_tree.proofs.Stays.{performs_one, raised_stays, split_stays, merged_stays}

-- the table that a step leaves is what further operations find
further : (old new : List LeafView) (ops : List Op) (end : List LeafView) → rows_of new ≡ rows_of old
    → HasTable end (after_all (rows_of new) ops)
    → HasTable end (after_all (rows_of old) ops)
further old new ops end same has = subst (λ (m : Table). HasTable end (after_all m ops)) same has

pub all_taken : (leaves : List LeafView) (steps : List TreeStep) → AreLeaves leaves → MayTakeAll leaves steps
    → HasTable (after_steps leaves steps) (after_all (rows_of leaves) (ops_of steps))
all_taken leaves [] kept may = record { kept = kept; rows = refl }
all_taken leaves (Performs n o ∷ steps) kept may =
    let one : PerformsOne leaves n o = performs_one leaves n o kept may.0 in
    subst (λ (m : Table). HasTable (after_steps (performed_at leaves n o) steps) (after_all m (ops_of steps))) one.rows
    (all_taken (performed_at leaves n o) steps one.kept may.1)
all_taken leaves (Splits p id d ∷ steps) kept may =
    let one = split_stays leaves p id d kept may.0 in
    further leaves _ (ops_of steps) _ one.rows (all_taken _ steps one.leaves may.1)
all_taken leaves (Merges p d ∷ steps) kept may =
    let one = merged_stays leaves p d kept may.0 in
    further leaves _ (ops_of steps) _ one.rows (all_taken _ steps one.leaves may.1)
all_taken leaves (Raises l ∷ steps) kept may =
    let one = raised_stays leaves l kept in
    further leaves _ (ops_of steps) _ one.rows (all_taken _ steps one.leaves may.1)

pub undone_among : (leaves : List LeafView) (n m : ℕ) (o i : Op) (steps : List TreeStep) → AreLeaves leaves
    → MayTakeAll leaves (Performs n o ∷ steps) → AllPassBy o (ops_of steps)
    → inverse_of o (answer_in (leaf_at leaves (key_of o)).rows o) ≡ Some i
    → MayTake (after_steps (performed_at leaves n o) steps) (Performs m i)
    → UndoneAmongLeaves leaves (after_steps (performed_at leaves n o) steps) steps m i
undone_among leaves n m o i steps kept may pass inverse free =
    let new : List LeafView = after_steps (performed_at leaves n o) steps in
    let one : PerformsOne leaves n o = performs_one leaves n o kept may.0 in
    let taken : HasTable new (after_all (after (rows_of leaves) o) (ops_of steps)) =
    all_taken leaves (Performs n o ∷ steps) kept may in
    let last : PerformsOne new m i = performs_one new m i taken.kept free in
    let back = undone (rows_of leaves) o i (ops_of steps) (ap (inverse_of o) (sym one.answer) ∙ inverse) pass in
    record {
      back = record {
        kept = last.kept;
        rows = last.rows ∙ ap (λ (t : Table). after t i) taken.rows ∙ back.0;
      };
      effective = subst IsEffective (sym (last.answer ∙ ap (λ (t : Table). answer_in t i) taken.rows)) back.2;
    }
