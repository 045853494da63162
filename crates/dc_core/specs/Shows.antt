-- What the leaves show of a request that is asked.
use Rattle.std.specs.Prelude.{◌≡◌, ◌⊎◌, ◌<◌, ◌≤◌, ◌+◌, ℕ, Bool, true, false, None}
use Rattle.std.specs.List.{AllByRecursion}
use Rattle.record_key.specs.declared.op.Op.{Op}
use Rattle.record_key.specs.declared.op.Answer.{Answer}
use Rattle.record_key.specs.declared.op.Answer.TheVariants.{Added}
use Rattle.record_key.specs.declared.entry.Entry.{Entry}
use Rattle.record_key.specs.Table.{Bytes, key_of, is_add}
use Rattle.codec.specs.declared.request.Request.{Request}
use Rattle.codec.specs.declared.request.Request.TheVariants as asks
use Rattle.dc_leaf.specs.Leaf.{LeafView}
use Rattle.dc_tree.specs.Leaves.{leaf_at}
use Rattle.dc_core.specs.DcView.{DcView, leaves, captures_at}
use Rattle.dc_core.specs.Serves.{runs, session_refusal, connect_refusal}

-- an Add was answered so
abbrev pub was_added : Answer → Bool
was_added (Added x) = true
was_added _ = false

-- an operation may follow that of an entry: on another key, above its number, or both being Adds
abbrev pub Follows : ℕ → Op → Entry → Type 0
Follows n o e =
    e.key ≡ key_of o → (e.number < n) ⊎ ((is_add o ≡ true) × (was_added e.answer ≡ true))

-- an entry of this number is on the key
abbrev pub IsOn : ℕ → Bytes → Entry → Type 0
IsOn n k e = e.number ≡ n → e.key ≡ k

abbrev pub IsSavedOn : DcView → ℕ → Bytes → Type 0
IsSavedOn w n k = AllByRecursion (λ (leaf : LeafView). AllByRecursion (IsOn n k) leaf.ab.entries) (leaves w)

-- no low number has hidden this one or one above it
abbrev pub NoneHidden : DcView → ℕ → Type 0
NoneHidden w n = AllByRecursion (λ (leaf : LeafView). leaf.ab.low < n) (leaves w)

-- the operation may follow each entry of its key's leaf
abbrev pub MayCome : DcView → ℕ → Op → Type 0
MayCome w n o = AllByRecursion (Follows n o) (leaf_at (leaves w) (key_of o)).ab.entries

-- the number is on no other key; and where it isn't captured on this one it is above the greatest low number when redo
-- last ended, and the operation may come
abbrev pub ShowsPerform : DcView → ℕ → Op → Type 0
ShowsPerform w n o =
    IsSavedOn w n (key_of o) × (captures_at w (key_of o) n ≡ false → (w.redone_low < n) × MayCome w n o)

abbrev pub ShowsTakeBack : DcView → ℕ → Type 0
ShowsTakeBack w end = (w.opened_to ≤ end) × NoneHidden w (end + 1)

-- the leaves show that a request that isn't refused keeps what its caller owes
abbrev pub Shows : DcView → Request → Type 0
Shows w (asks.Connect s end) = connect_refusal w s ≡ None → runs w s ≡ false → ShowsTakeBack w end
Shows w (asks.Perform s n stable o) = session_refusal w s ≡ None → ShowsPerform w n o
Shows w _ = Unit {0}
