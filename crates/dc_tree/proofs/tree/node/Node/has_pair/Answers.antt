use Rattle.std.proofs.Common.{◌∙◌, sym, ap}
use Rattle.dc_tree.specs.Choosing.{is_reached}
use Rattle.dc_tree.specs.declared.tree.summary.Summary.{Summary}
use Rattle.dc_tree.proofs.Summed.{tells_pair}
use Rattle.dc_tree.proofs.tree.node.Node.has_pair.Goals as goal

pub returns : goal.returns
returns c =
    c.is_reached.ensures
    ∙ ap (λ (s : Summary). is_reached c.args.known s.pair) c.summary.ensures
    ∙ sym (tells_pair c.args.known c.args.self.now.leaves)
