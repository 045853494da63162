-- Leaves by number, as they are while a log is done again.
use Rattle.std.specs.Prelude.{ℕ, ◌<◌, ◌==◌, List, [], ◌∷◌, Option, Some, None, Box, get_or, if◌then◌else◌}
use Rattle.std.specs.Option.{option_map}
use Rattle.std.specs.declared.alloc.Global.{Global}
use Rattle.dc_tree.specs.Lists.{leaf_of as leaf_in}
use Rattle.codec.specs.Images.{IsImage}
use Rattle.codec.specs.declared.dc_record.DcRecord.{DcRecord}
use Rattle.codec.specs.declared.dc_record.DcRecord.TheVariants as is
use Rattle.dc_leaf.specs.Leaf.{LeafView}
use Rattle.dc_recovery.specs.Images.{leaf_of}
use Rattle.dc_recovery.specs.Recovery.{cut_again, merged_again, at_left, page_or}

-- a place for a leaf
abbrev pub Slot : Type 0
Slot = Option (Box LeafView Global)

-- the leaf that stands in a place, if there is one
abbrev pub held : Slot → Option LeafView
held slot = option_map leaf_in slot

-- the leaf of this number, none beyond the last place
abbrev pub leaf_on : List Slot → ℕ → Option LeafView
leaf_on slots id = held (get_or slots id None)

-- the boxes with the leaves, in the order of their numbers
abbrev pub boxes_on : List Slot → List (Box LeafView Global)
boxes_on [] = []
boxes_on (None ∷ slots) = boxes_on slots
boxes_on (Some b ∷ slots) = b ∷ boxes_on slots

-- the leaf of this number once a record is done again, the record of number `d`, if that is what stood there before:
-- the leaf's page, where it has no leaf yet
abbrev pub redone : ℕ → DcRecord → ℕ → Option LeafView → Option LeafView
redone d (is.Accept session) id old = old
redone d (is.Split left cut right) id old =
    if id == right.id then Some (page_or old (leaf_of right)) else at_left id left (cut_again d cut) old
redone d (is.Merge left right merged) id old =
    if id == right then None else at_left id left (merged_again d (leaf_of merged)) old

-- there are places for the leaves that a record names, and its image is one
abbrev pub HasPlaces : DcRecord → ℕ → Type 0
HasPlaces (is.Accept session) count = Unit {0}
HasPlaces (is.Split left cut right) count = (left < right.id) × (right.id < count) × IsImage right
HasPlaces (is.Merge left right merged) count = (left < count) × (right < count) × IsImage merged
