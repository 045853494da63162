use Rattle.std.proofs.Common.{◌≡◌, suc, ◌+◌, ◌-◌, Bool, true, false, List, length, get_or, take, drop, IfOk, sym, ap, ◌∙◌, subst}
use Rattle.std.specs.Option.{option_copied}
use Rattle.std.proofs.lemmas.List.{get_or_default}
use Rattle.record_key.specs.Order.{Range}
use Rattle.dc_tree.specs.Nodes.{TreeNodeView, nothing, under}
use Rattle.dc_tree.specs.Finding.{IsNodeOf}
use Rattle.dc_tree.specs.Below.{seen, IsNode}
use Rattle.dc_tree.specs.Scanned.{IsScannedFrom, IsScannedOn}
use Rattle.dc_tree.proofs.Scanned.{from_ended, from_on, nodes_after}
use Rattle.dc_tree.proofs.tree.node.Node.+scan_from.Goals as goal

pub returns-then-branch-clause-found : goal.returns-then-branch-clause-found
returns-then-branch-clause-found g t c =
    let s : Range = record { lo = c.args.low.now; hi = option_copied c.args.high } in
    let ns = c.in-Inner.children.items in
    let i = c.node_of-i.result in
    let old = g.S.RowSink.rows c.args.found.now in
    let new = g.S.RowSink.rows c.scan_from.new.found in
    let kept = subst (IsNode c.self.inside.low c.self.inside.count c.self.inside.summary) c.in-Inner.is
    c.self.invariant in
    let node : IsNodeOf ns c.args.low.now i = rw c.as_slice.ensures.value at c.node_of-i.ensures in
    let child = c.index.ensures ∙ get_or_default ns i c.index.result.now nothing node.there in
    let ended : IsScannedFrom s c.index.result.now.leaves old new true =
    subst (λ (ended : Bool). IsScannedFrom s c.index.result.now.leaves old new ended) c.if-branch.true
    c.in_ok-scan_from-in-Inner.ensures.found in
    let one : IsScannedFrom s (get_or ns i nothing).leaves old new true =
    subst (λ (n : TreeNodeView). IsScannedFrom s n.leaves old new true) child ended in
    subst (λ (n : TreeNodeView). IsScannedFrom s n.leaves old new true) (ap seen (sym c.in-Inner.is) ∙ c.self.view_is)
    (from_ended s _ ns i kept.under_it.children node old new one)

pub returns-else-branch-clause-found : goal.returns-else-branch-clause-found
returns-else-branch-clause-found g t c =
    let s : Range = record { lo = c.args.low.now; hi = option_copied c.args.high } in
    let ns = c.in-Inner.children.items in
    let i = c.node_of-i.result in
    let old = g.S.RowSink.rows c.args.found.now in
    let mid = g.S.RowSink.rows c.scan_from.new.found in
    let new = g.S.RowSink.rows c.scan_nodes.new.found in
    let kept = subst (IsNode c.self.inside.low c.self.inside.count c.self.inside.summary) c.in-Inner.is
    c.self.invariant in
    let node : IsNodeOf ns c.args.low.now i = rw c.as_slice.ensures.value at c.node_of-i.ensures in
    let child = c.index.ensures ∙ get_or_default ns i c.index.result.now nothing node.there in
    let goes : IsScannedFrom s c.index.result.now.leaves old mid false =
    subst (λ (ended : Bool). IsScannedFrom s c.index.result.now.leaves old mid ended) c.if-branch.false
    c.in_ok-scan_from-in-Inner.ensures.found in
    let one : IsScannedFrom s (get_or ns i nothing).leaves old mid false =
    subst (λ (n : TreeNodeView). IsScannedFrom s n.leaves old mid false) child goes in
    let after : take (length c.deref-in-Inner.result.now - (i + 1)) (drop (i + 1) c.deref-in-Inner.result.now)
    ≡ drop (suc i) ns =
    rw c.deref-in-Inner.ensures.value (nodes_after ns i) in
    let more : IfOk c.scan_nodes.result (λ ended. IsScannedOn s (under (drop (suc i) ns)) mid new ended) =
    subst (λ (ms : List TreeNodeView). IfOk c.scan_nodes.result (λ ended. IsScannedOn s (under ms) mid new ended)) after
    c.scan_nodes.ensures.found in
    subst (λ (n : TreeNodeView). IfOk c.scan_nodes.result (λ ended. IsScannedFrom s n.leaves old new ended))
    (ap seen (sym c.in-Inner.is) ∙ c.self.view_is)
    (from_on s _ ns i kept.under_it.children node old mid new c.scan_nodes.result one more)
