-- What a request comes to at a leaf.
use Rattle.std.specs.Prelude.{◌≡◌, ℕ, Option, Some}
use Rattle.std.specs.Bool.{MatchBool}
use Rattle.record_key.specs.declared.op.Op.{Op}
use Rattle.record_key.specs.declared.op.Answer.{Answer}
use Rattle.record_key.specs.Table.{answer_in}
use Rattle.dc_ab_lsn.specs.AbLsn.{captures, saved_in}
use Rattle.dc_leaf.specs.declared.leaf.Done.{Done}
use Rattle.dc_leaf.specs.declared.leaf.Done.TheVariants.{Performed, Repeated}
use Rattle.dc_leaf.specs.Leaf.{LeafView, performed}

-- a new number is performed and captured, and its answer given; a captured one changes nothing, and its saved answer is
-- given, if that is still kept
abbrev pub Performs : LeafView → ℕ → Op → Done → Option Answer → LeafView → Type 0
Performs old n o done answer new =
    MatchBool (captures old.ab n)
    ((done ≡ Repeated) × ((answer ≡ saved_in old.ab.entries n) × (new ≡ old)))
    ((done ≡ Performed) × ((answer ≡ Some (answer_in old.rows o)) × (new ≡ performed old n o)))
