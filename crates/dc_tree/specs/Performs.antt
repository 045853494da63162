-- What a request comes to among leaves.
use Rattle.std.specs.Prelude.{◌≡◌, ℕ, true, List, Option, Some, Result, IfOk, IsOk, OnErr, get_or}
use Rattle.std.specs.Bool.{MatchBool}
use Rattle.record_key.specs.declared.op.Op.{Op}
use Rattle.record_key.specs.declared.op.Answer.{Answer}
use Rattle.record_key.specs.declared.refusal.Refusal.{Refusal}
use Rattle.record_key.specs.Table.{key_of, answer_in}
use Rattle.dc_ab_lsn.specs.AbLsn.{captures, saved_in}
use Rattle.dc_leaf.specs.declared.leaf.Done.{Done}
use Rattle.dc_leaf.specs.declared.leaf.Done.TheVariants.{Performed, Repeated}
use Rattle.dc_leaf.specs.Leaf.{LeafView, first, performed}
use Rattle.dc_leaf.specs.Performs.{Performs}
use Rattle.dc_tree.specs.Finding.{IsPlaceOf}
use Rattle.dc_tree.specs.Leaves.{leaf_at, changed_at}
use Rattle.dc_tree.specs.Nodes.{TreeNodeView, IsChangedAt}

-- the leaf of the key performs it, and the others stay as they were
abbrev pub performed_at : List LeafView → ℕ → Op → List LeafView
performed_at leaves n o = changed_at (key_of o) (λ leaf. performed leaf n o) leaves

-- a number that the leaf of the key hasn't captured is performed there, and its answer given; a captured one changes
-- nothing, and its saved answer is given, if that is still kept
abbrev pub PerformsAt : List LeafView → ℕ → Op → Done → Option Answer → List LeafView → Type 0
PerformsAt old n o done answer new =
    MatchBool (captures (leaf_at old (key_of o)).ab n)
    ((done ≡ Repeated) × ((answer ≡ saved_in (leaf_at old (key_of o)).ab.entries n) × (new ≡ old)))
    ((done ≡ Performed)
    × ((answer ≡ Some (answer_in (leaf_at old (key_of o)).rows o)) × (new ≡ performed_at old n o)))

-- what a request at one leaf comes to
pub record IsAsked (old new : LeafView) (n : ℕ) (o : Op) (result : Result Done Refusal)
    (answer : Option Answer) : Type 0 where
  pub done : IfOk result (λ done. Performs old n o done answer new)
  pub repeated : captures old.ab n ≡ true → IsOk result
  pub refused : OnErr result (new ≡ old)

-- and below a node: the leaf of the key alone is asked
pub record IsAskedBelow (old : TreeNodeView) (n : ℕ) (o : Op) (result : Result Done Refusal) (answer : Option Answer)
    (new : TreeNodeView) : Type 0 where
  pub place : ℕ
  pub at : IsPlaceOf old.leaves (key_of o) place
  pub changed : IsChangedAt place old new
  pub asked : IsAsked (get_or old.leaves place first) (get_or new.leaves place first) n o result answer
