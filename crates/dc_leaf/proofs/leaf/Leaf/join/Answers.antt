use Rattle.std.proofs.Common.{◌≡◌, ◌∙◌, true, Option, Some, sym, ap, refl, subst}
use Rattle.std.specs.Prelude.{IsTrue}
use Rattle.record_key.specs.Table.{Bytes}
use Rattle.record_key.specs.Order.{starts_at_most, ends_above, is_between}
use Rattle.record_key.specs.Rows.{Row, LieBetween}
use Rattle.record_key.specs.Entries.{StandBetween}
use Rattle.record_key.specs.declared.entry.Entry.{Entry}
use Rattle.record_key.proofs.Rows.{entries-table_of}
use Rattle.dc_leaf.specs.Leaf.{LeafView}
use Rattle.record_key.proofs.Lists.{all_from, all_appended}
use Rattle.dc_leaf.proofs.Halves.{all_joined, apart_of, ordered_both, lower_between, upper_between}
use Rattle.dc_leaf.proofs.leaf.Leaf.join.Goals as goal

pub invariant_of-result : goal.invariant_of-result
invariant_of-result c =
    let low = c.self.inside.low_fence in
    let high = c.right.inside.high_fence in
    let fence = c.requires.fence in
    let ends : c.self.inside.high_fence ≡ Some fence =
    ap (λ (v : LeafView). v.high_fence) c.self.view_is ∙ c.requires.ends in
    let begins : c.right.inside.low_fence ≡ Some fence =
    ap (λ (v : LeafView). v.low_fence) c.right.view_is ∙ c.requires.begins in
    let above = subst (λ (v : LeafView). starts_at_most v.low_fence fence ≡ true) (sym c.self.view_is)
    c.requires.above in
    let below = subst (λ (v : LeafView). ends_above v.high_fence fence ≡ true) (sym c.right.view_is) c.requires.below in
    let one : LieBetween low (Some fence) c.self.inside.rows.rows =
    subst (λ (f : Option Bytes). LieBetween low f c.self.inside.rows.rows) ends c.self.invariant.1.0 in
    let two : LieBetween (Some fence) high c.right.inside.rows.rows =
    subst (λ (f : Option Bytes). LieBetween f high c.right.inside.rows.rows) begins c.right.invariant.1.0 in
    let three : StandBetween low (Some fence) c.self.inside.ab.entries =
    subst (λ (f : Option Bytes). StandBetween low f c.self.inside.ab.entries) ends c.self.invariant.1.1 in
    let four : StandBetween (Some fence) high c.right.inside.ab.entries =
    subst (λ (f : Option Bytes). StandBetween f high c.right.inside.ab.entries) begins c.right.invariant.1.1 in
    let P : Entry → Type 0 = λ (e : Entry). IsTrue (is_between low high e.key) in
    rw (
      c.in_ok-add-2.ensures.added,
      c.in_ok-add.ensures.added,
      c.new-rows.ensures,
      c.lent.ensures,
      c.lent-2.ensures,
      c.in_ok-join.ensures.joined,
      c.in_ok-ab.ensures.copied,
      c.copied_fence.ensures,
      c.copied_fence-2.ensures,
      c.as_ref.ensures.value,
      c.as_ref-2.ensures.value,
    ) (
      ordered_both fence c.self.inside.rows.rows c.right.inside.rows.rows c.self.invariant.0 c.right.invariant.0
          (apart_of low high fence _ _ one two),
      (
        all_appended (λ (row : Row). IsTrue (is_between low high row.0)) c.self.inside.rows.rows
            c.right.inside.rows.rows
            (all_from _ _ (λ (row : Row) inside. lower_between low high fence row.0 below inside)
            c.self.inside.rows.rows one)
            (all_from _ _ (λ (row : Row) inside. upper_between low high fence row.0 above inside)
            c.right.inside.rows.rows two),
        all_joined P c.self.inside.ab c.right.inside.ab
            (all_from _ _ (λ (e : Entry) inside. lower_between low high fence e.key below inside)
            c.self.inside.ab.entries three)
            (all_from _ _ (λ (e : Entry) inside. upper_between low high fence e.key above inside)
            c.right.inside.ab.entries four),
      ),
    )

pub returns-clause-joined : goal.returns-clause-joined
returns-clause-joined c =
    rw (
      ← c.self.view_is,
      ← c.right.view_is,
      c.in_ok-add-2.ensures.added,
      c.in_ok-add.ensures.added,
      c.new-rows.ensures,
      c.lent.ensures,
      c.lent-2.ensures,
      c.in_ok-join.ensures.joined,
      c.in_ok-ab.ensures.copied,
      c.copied_fence.ensures,
      c.copied_fence-2.ensures,
      c.as_ref.ensures.value,
      c.as_ref-2.ensures.value,
      entries-table_of c.self.inside.rows.rows c.self.invariant.0,
      entries-table_of c.right.inside.rows.rows c.right.invariant.0,
    ) refl
