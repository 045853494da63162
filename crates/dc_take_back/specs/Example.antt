-- Two Adds that came out of their order, and an end between their numbers.
use Rattle.std.specs.Prelude.{◌≡◌, ℕ, List, [], ◌∷◌, None, Some}
use Rattle.std.specs.FinMap as map
use Rattle.record_key.specs.declared.op.Op.TheVariants.{Add}
use Rattle.record_key.specs.declared.op.Answer.TheVariants.{Added}
use Rattle.record_key.specs.declared.entry.Entry.{Entry}
use Rattle.record_key.specs.Table.{Bytes, Table, with_record}
use Rattle.dc_leaf.specs.Leaf.{LeafView}
use Rattle.dc_leaf.specs.TakingBack.{taken_back}
use Rattle.dc_take_back.specs.Performed.{Performance, replayed}
use Rattle.dc_take_back.specs.Listed.{IsListedAt}

abbrev pub key : Bytes
key = 107 ∷ []

-- a number of eight bytes
abbrev pub small : ℕ → Bytes
small n = 0 ∷ 0 ∷ 0 ∷ 0 ∷ 0 ∷ 0 ∷ 0 ∷ n ∷ []

abbrev pub opened : Table
opened = with_record map.empty key (Some (small 5))

-- the newest has a lower number than the Add before it
abbrev pub performances : List Performance
performances =
    record { number = 4; op = Add key 10; answer = Added 10 }
    ∷ record { number = 9; op = Add key 3; answer = Added 3 }
    ∷ []

abbrev pub entries : List Entry
entries =
    record { number = 4; key = key; answer = Added 10 }
    ∷ record { number = 9; key = key; answer = Added 3 }
    ∷ []

abbrev pub leaf : LeafView
leaf = record {
  id = 1;
  last = 0;
  low_fence = None;
  high_fence = None;
  rows = replayed opened performances;
  ab = record { low = 0; entries = entries };
}

-- the older Add is taken back, and what the newer one added stays
pub record AddIsTakenBack : Type 0 where
  pub listed : IsListedAt opened performances 4 key leaf
  pub before : map.get leaf.rows key ≡ Some (small 18)
  pub value : map.get (taken_back leaf 4).rows key ≡ Some (small 15)
