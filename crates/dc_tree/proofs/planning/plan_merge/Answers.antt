use Rattle.std.proofs.Common.{sym, ◌∙◌, arith, add-one}
use Rattle.dc_tree.proofs.Places.{merge_within}
use Rattle.dc_tree.proofs.Merging.{AreJoinable, joinable, pair_there}
use Rattle.dc_tree.proofs.planning.plan_merge.Goals as goal

pub leaf-left-requires : goal.leaf-left-requires
leaf-left-requires g c =
    let leaves = g.L.LeafSet.leaves c.args.leaves.now in
    omega (arith, merge_within leaves c.args.place (sym c.may_merge.ensures.may ∙ c.if-not-may_merge.false))

pub overflow_add-place : goal.overflow_add-place
overflow_add-place g c = let fits = c.may_merge.ensures.next c.if-not-may_merge.false in omega (arith, fits)

pub leaf-right-requires : goal.leaf-right-requires
leaf-right-requires g c =
    merge_within (g.L.LeafSet.leaves c.args.leaves.now) c.args.place
    (sym c.may_merge.ensures.may ∙ c.if-not-may_merge.false)

pub join-requires : goal.join-requires
join-requires g c =
    let leaves = g.L.LeafSet.leaves c.args.leaves.now in
    let within = merge_within leaves c.args.place (sym c.may_merge.ensures.may ∙ c.if-not-may_merge.false) in
    rw (c.leaf-left.ensures, c.leaf-right.ensures, add-one)
    (pair_there AreJoinable leaves c.args.place (joinable leaves c.args.place c.kept.ensures) within).next
