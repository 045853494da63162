-- Laws of the order of keys, and of a write to a table, on which the crates above rest.
use Rattle.std.specs.Prelude.{◌≡◌, ◌≢◌, [], ◌++◌, Option}
use Rattle.std.specs.Ordering.{nat_cmp}
use Rattle.std.specs.Cmp.{IsTotalOrder}
use Rattle.std.specs.Cmp.Lexicographic.{slice_cmp}
use Rattle.std.specs.declared.cmp.Ordering.{Ordering}
use Rattle.std.specs.declared.cmp.Ordering.TheVariants.{Less, Equal}
use Rattle.std.specs.FinMap.{get}
use Rattle.record_key.specs.declared.op.Op.{Op}
use Rattle.record_key.specs.Table.{Bytes, Table, AreAdds, answer_at, value_after, with_record}

-- how two keys compare
abbrev pub key_cmp : Bytes → Bytes → Ordering
key_cmp = slice_cmp nat_cmp

-- a total order in which only equal keys tie, and a beginning comes first
pub record IsKeyOrder : Type 0 where
  pub total : IsTotalOrder key_cmp
  pub tied : (a b : Bytes) → key_cmp a b ≡ Equal → a ≡ b
  pub beginning : (a b : Bytes) → b ≢ [] → key_cmp a (a ++ b) ≡ Less

-- a write is seen at its key and at no other, and tables that have the same everywhere are one
pub record WritesOneKey : Type 0 where
  pub there : (m : Table) (k : Bytes) (r : Option Bytes) → get (with_record m k r) k ≡ r
  pub elsewhere : (m : Table) (k q : Bytes) (r : Option Bytes) → q ≢ k → get (with_record m k r) q ≡ get m q
  pub same : (m n : Table) → ((q : Bytes) → get m q ≡ get n q) → m ≡ n

-- Adds leave the same in either order, and none changes what another is answered
pub record AddsCommute : Type 0 where
  pub value : (o q : Op) (r : Option Bytes) → AreAdds o q
      → value_after o (value_after q r) ≡ value_after q (value_after o r)
  pub answer : (o q : Op) (r : Option Bytes) → AreAdds o q
      → answer_at o (value_after q r) ≡ answer_at o r
