-- What is seen of a leaf.
use Rattle.std.specs.Prelude.{ℕ, Bool, Option, None}
use Rattle.std.specs.FinMap as map
use Rattle.record_key.specs.declared.op.Op.{Op}
use Rattle.record_key.specs.Table.{Bytes, Table, key_of, answer_in, after}
use Rattle.record_key.specs.Order.{is_between}
use Rattle.record_key.specs.Rows.{LieBetween}
use Rattle.record_key.specs.Entries.{RiseAbove, StandBetween}
use Rattle.dc_ab_lsn.specs.AbLsn.{AbLsnView, none_captured, noted, raised}

-- its number, the last system transaction that changed it, its fences, its records, and what it has captured
pub record LeafView : Type 0 where
  pub id : ℕ
  pub last : ℕ
  pub low_fence : Option Bytes
  pub high_fence : Option Bytes
  pub rows : Table
  pub ab : AbLsnView

-- the key belongs to the leaf
abbrev pub is_in_fences : LeafView → Bytes → Bool
is_in_fences leaf k = is_between leaf.low_fence leaf.high_fence k

-- what holds of every leaf: records and entries lie in its fences, and the entries' numbers rise above the low one
pub record IsLeaf (leaf : LeafView) : Type 0 where
  pub rows : LieBetween leaf.low_fence leaf.high_fence (map.entries leaf.rows)
  pub entries : StandBetween leaf.low_fence leaf.high_fence leaf.ab.entries
  pub rising : RiseAbove leaf.ab.low leaf.ab.entries

-- the first leaf: no fences, no records, nothing captured
abbrev pub first : LeafView
first = record { id = 1; last = 0; low_fence = None; high_fence = None; rows = map.empty; ab = none_captured }

-- the leaf once a new number is performed
abbrev pub performed : LeafView → ℕ → Op → LeafView
performed leaf n o = record leaf { rows = after leaf.rows o; ab = noted leaf.ab n (key_of o) (answer_in leaf.rows o) }

-- the leaf once every number up to this one counts as captured
abbrev pub raised_to : LeafView → ℕ → LeafView
raised_to leaf l = record leaf { ab = raised leaf.ab l }
