use Rattle.std.proofs.Common.{◌≡◌, ◌<◌, ◌++◌, [], ◌∷◌, List, drop, length, sym, ap, ◌∙◌, arith, rules, append_assoc, length-append}
use Rattle.std.specs.List.{remove}
use Rattle.std.proofs.lemmas.List.Edits.{length-remove}
use Rattle.dc_tree.specs.Nodes.{TreeNodeView}
use Rattle.dc_tree.proofs.Taken.{take_removed, drop_removed}
use Rattle.dc_tree.proofs.tree.blocks.move_rest.Goals as goal

pub loop-children-preserved : goal.loop-children-preserved
loop-children-preserved c =
    let xs = c.loop-children.children.items in
    let ys = c.loop-children.block.items in
    let i = c.args.i in
    let x = c.remove-node.result in
    let within : i < length xs = search rules in
    let left = length-remove xs i within in
    let grown = length-append ys (x ∷ []) in
    let moved : drop i xs ≡ x ∷ drop i (remove xs i) =
    drop_removed xs i x within
    ∙ ap (λ (y : TreeNodeView). y ∷ drop i (remove xs i)) (sym c.remove-node.ensures.value) in
    rw (c.push_reserved.ensures.items, c.remove-node.ensures.items) (
      append_assoc ys (x ∷ []) (drop i (remove xs i)) ∙ ap (λ (zs : List TreeNodeView). ys ++ zs) (sym moved)
          ∙ c.loop-children.invariant.0,
      take_removed xs i ∙ c.loop-children.invariant.1,
      omega (arith, within, left),
      omega (arith, within, left, grown, c.loop-children.invariant.2, c.loop-children.invariant.3),
      c.remove-node.ensures.capacity ∙ c.loop-children.invariant.4,
      c.push_reserved.ensures.capacity ∙ c.loop-children.invariant.5,
    )
