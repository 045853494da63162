-- What undoes an operation.
use Rattle.std.specs.Prelude.{◌≡◌, ◌≢◌, ◌⊎◌, List, [], ◌∷◌, Option, Some, None}
use Rattle.std.specs.List.{AllByRecursion}
use Rattle.record_key.specs.declared.op.Op.{Op}
use Rattle.record_key.specs.declared.op.Op.TheVariants.{Insert, Update, Delete, Add}
use Rattle.record_key.specs.declared.op.Answer.{Answer}
use Rattle.record_key.specs.declared.op.Answer.TheVariants.{Inserted, Updated, Was, Deleted, Exists, NoRecord, NotNumber, Added}
use Rattle.record_key.specs.Amounts.{negated}
use Rattle.record_key.specs.Table.{Bytes, Table, key_of, AreAdds, answer_in, after}

-- by the key and the answer alone
abbrev pub undo_of : Bytes → Answer → Option Op
undo_of k Inserted = Some (Delete k)
undo_of k (Updated old) = Some (Update k old)
undo_of k (Was None) = Some (Delete k)
undo_of k (Was (Some old)) = Some (Update k old)
undo_of k (Deleted old) = Some (Insert k old)
undo_of k Exists = None
undo_of k NoRecord = None
undo_of k NotNumber = None
undo_of k (Added x) = Some (Add k (negated x))

abbrev pub inverse_of : Op → Answer → Option Op
inverse_of o a = undo_of (key_of o) a

-- the answer of an operation that did something
abbrev pub IsEffective : Answer → Type 0
IsEffective Inserted = Unit {0}
IsEffective (Updated old) = Unit {0}
IsEffective (Was old) = Unit {0}
IsEffective (Deleted old) = Unit {0}
IsEffective Exists = ⊥
IsEffective NoRecord = ⊥
IsEffective NotNumber = ⊥
IsEffective (Added x) = Unit {0}

-- the table after operations in order, and their answers
abbrev pub after_all : Table → List Op → Table
after_all m [] = m
after_all m (o ∷ os) = after_all (after m o) os

abbrev pub answers_in : Table → List Op → List Answer
answers_in m [] = []
answers_in m (o ∷ os) = answer_in m o ∷ answers_in (after m o) os

-- two operations that leave the same in either order: they are on different keys, or both are Adds
abbrev pub PassBy : Op → Op → Type 0
PassBy o p = (key_of p ≢ key_of o) ⊎ AreAdds o p

abbrev pub AllPassBy : Op → List Op → Type 0
AllPassBy o os = AllByRecursion (PassBy o) os

-- an operation, others on other keys, or Adds where it is one, and then its inverse leave what the others leave
abbrev pub Undone : Type 0
Undone = (m : Table) (o i : Op) (w : List Op) → inverse_of o (answer_in m o) ≡ Some i → AllPassBy o w
    → (after (after_all (after m o) w) i ≡ after_all m w)
    × (answers_in (after m o) w ≡ answers_in m w)
    × IsEffective (answer_in (after_all (after m o) w) i)

-- an operation that has no inverse did nothing
abbrev pub WithoutEffect : Type 0
WithoutEffect = (m : Table) (o : Op) → inverse_of o (answer_in m o) ≡ None → after m o ≡ m
