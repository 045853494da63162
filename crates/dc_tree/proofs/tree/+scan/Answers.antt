use Rattle.std.proofs.Common.{◌≡◌, ◌+◌, ℕ, suc, ◌*◌, ◌≤◌, Bool, false, List, [], ◌∷◌, take_all, refl, sym, ap, ◌∙◌, subst, arith, add-one, append-nil}
use denote.Param.Weighed.{most}
use Rattle.std.specs.Option.{option_copied}
use Rattle.record_key.specs.Order.{Range}
use Rattle.dc_tree.specs.Nodes.{TreeNodeView, AreChildren, height_in, under}
use Rattle.dc_tree.specs.declared.tree.node.Node.TheDeep.{size-Node}
use Rattle.dc_tree.specs.Below.{seen, IsNode}
use Rattle.dc_tree.specs.Scanned.{IsScannedOn}
use Rattle.dc_tree.proofs.Scanned.{scanned_more, scanned_ended}
use Rattle.dc_tree.proofs.tree.+scan.Goals as goal

-- children lie below their node
lower : (height : ℕ) (ns : List TreeNodeView) → AreChildren height ns → most size-Node ns ≤ 2 * suc height
lower height [] are = omega arith
lower height (n ∷ ns) are = omega (arith, are.0.level, lower height ns are.1)

pub node::Node::scan_on-scan_nodes-requires : goal.node::Node::scan_on-scan_nodes-requires
node::Node::scan_on-scan_nodes-requires g t c κs within =
    let ns = c.in-Inner.children.items in
    let kept = subst (IsNode c.self.inside.low c.self.inside.count c.self.inside.summary) c.in-Inner.is
    c.self.invariant in
    let level : suc (height_in ns) ≡ c.args.self.now.height =
    ap (λ (n : TreeNodeView). n.height) (ap seen (sym c.in-Inner.is) ∙ c.self.view_is) in
    let less : most size-Node c.as_slice.result.now ≤ 2 * c.args.self.now.height =
    rw c.as_slice.ensures.value (omega (arith, lower (height_in ns) ns kept.under_it.children, level)) in
    let bound : 2 * size-Node c.args.self.now + 0 ≡ t = c.decreases in
    (omega (arith, less, bound), within)

pub scanning::scan_nodes-loop-node-init : goal.scanning::scan_nodes-loop-node-init
scanning::scan_nodes-loop-node-init g t c = record {
  rows = sym (append-nil (g.S.RowSink.rows c.args.found.now));
  is = refl;
}

pub scanning::scan_nodes-returns-then-branch-clause-found :
    goal.scanning::scan_nodes-returns-then-branch-clause-found
scanning::scan_nodes-returns-then-branch-clause-found g t c =
    let s : Range = record { lo = c.args.low.now; hi = option_copied c.args.high } in
    scanned_ended s c.args.nodes.now c.loop-node.node-index c.node-item.result c.loop-node-test.true c.node-item.is
    (g.S.RowSink.rows c.args.found.now) (g.S.RowSink.rows c.loop-node.found) (g.S.RowSink.rows c.scan_on.new.found)
    c.loop-node.invariant
    (subst (λ (ended : Bool). IsScannedOn s c.node-item.result.leaves (g.S.RowSink.rows c.loop-node.found)
    (g.S.RowSink.rows c.scan_on.new.found) ended) c.if-branch.true
    c.in_ok-scan_on.ensures.found)

pub scanning::scan_nodes-loop-node-preserved : goal.scanning::scan_nodes-loop-node-preserved
scanning::scan_nodes-loop-node-preserved g t c =
    let s : Range = record { lo = c.args.low.now; hi = option_copied c.args.high } in
    rw add-one
    (scanned_more s c.args.nodes.now c.loop-node.node-index c.node-item.result c.loop-node-test.true c.node-item.is
    (g.S.RowSink.rows c.args.found.now) (g.S.RowSink.rows c.loop-node.found) (g.S.RowSink.rows c.scan_on.new.found)
    c.loop-node.invariant false
    (subst (λ (ended : Bool). IsScannedOn s c.node-item.result.leaves (g.S.RowSink.rows c.loop-node.found)
    (g.S.RowSink.rows c.scan_on.new.found) ended) c.if-branch.false
    c.in_ok-scan_on.ensures.found))

pub scanning::scan_nodes-returns-clause-found : goal.scanning::scan_nodes-returns-clause-found
scanning::scan_nodes-returns-clause-found g t c =
    let s : Range = record { lo = c.args.low.now; hi = option_copied c.args.high } in
    subst (λ (ns : List TreeNodeView). IsScannedOn s (under ns) (g.S.RowSink.rows c.args.found.now)
    (g.S.RowSink.rows c.loop-node.found) false)
    (take_all c.loop-node.node-index c.args.nodes.now (omega (arith, c.loop-node-test.false)))
    c.loop-node.invariant
