use Rattle.std.proofs.Common.{◌∙◌, sym, ap}
use Rattle.dc_tree.specs.Leaves.{all_rows}
use Rattle.dc_tree.proofs.Together.{one_table}
use Rattle.node_laws.specs.dc_core.specs.DcView.{DcView, leaves}
use Rattle.node_sides.proofs.dc_side.DcSide.rows.Goals as goal

pub returns-clause-rows : goal.returns-clause-rows
returns-clause-rows g c =
    c.in_ok-rows.ensures.rows ∙ ap (λ (dc : DcView). all_rows (leaves dc)) c.in_ok-running.ensures.dc
    ∙ sym (one_table (leaves c.args.self.now.dc) c.kept.ensures.system.leaves).listed
