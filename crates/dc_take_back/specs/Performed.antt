-- What a list of performances gives, and what of it is left when some are taken back.
use Rattle.std.specs.Prelude.{◌≡◌, ℕ, List, [], ◌∷◌, ◌++◌}
use Rattle.std.specs.List.{AllByRecursion}
use Rattle.record_key.specs.declared.op.Op.{Op}
use Rattle.record_key.specs.declared.op.Answer.{Answer}
use Rattle.record_key.specs.Table.{Table, answer_in, after}
use Rattle.inverse.specs.Inverse.{inverse_of, PassBy}
use Rattle.dc_leaf.specs.TakingBack.{undone_with}

-- a request that was performed
pub record Performance : Type 0 where
  pub number : ℕ
  pub op : Op
  pub answer : Answer

-- the table that they leave of this one, the newest first
abbrev pub replayed : Table → List Performance → Table
replayed opened [] = opened
replayed opened (p ∷ ps) = after (replayed opened ps) p.op

-- each was answered at its place
abbrev pub AreAnsweredInPlace : Table → List Performance → Type 0
AreAnsweredInPlace opened [] = Unit {0}
AreAnsweredInPlace opened (p ∷ ps) = (p.answer ≡ answer_in (replayed opened ps) p.op) × AreAnsweredInPlace opened ps

-- the operation may pass by each of them
abbrev pub PassesAll : Op → List Performance → Type 0
PassesAll o ps = AllByRecursion (λ (p : Performance). PassBy o p.op) ps

-- one after another is taken back, each one that may pass by all that are newer and left: which are left, and the rows
pub data IsBack : List Performance → Table → List Performance → Table → Type 0 where
  stays : (ps : List Performance) → (m : Table) → IsBack ps m ps m
  one : (a : List Performance) → (p : Performance) → (b qs : List Performance) → (m n : Table) → PassesAll p.op a
      → IsBack (a ++ b) (undone_with m (inverse_of p.op p.answer)) qs n → IsBack (a ++ (p ∷ b)) m qs n

-- then the rows are what those that are left give
abbrev pub BackIsReplayed : Type 0
BackIsReplayed =
    (opened : Table) (ps qs : List Performance) (m n : Table) → AreAnsweredInPlace opened ps → m ≡ replayed opened ps
    → IsBack ps m qs n → n ≡ replayed opened qs
