use Rattle.std.proofs.Common.{Bool, sym, subst}
use Rattle.record_key.specs.declared.refusal.Refusal.{Refusal}
use Rattle.shell_scripts.specs.Printed.{Prints, refusal_line}
use Rattle.shell_scripts.specs.View.{log_shown, log_if_up, stable_of}
use Rattle.shell_scripts.proofs.shown.print_log.Goals as goal

pub returns-in-Err : goal.returns-in-Err
returns-in-Err g c =
    let old = g.W.Write.contents c.args.writer.now in
    let new = g.W.Write.contents c.print_refusal.new.writer in
    let P : Bool → Type 0 = λ up. Prints old new c.print_refusal.result
    (log_if_up up (log_shown c.args.world.now) (stable_of c.args.world.now)) in
    let Q : Refusal → Type 0 = λ r. Prints old new c.print_refusal.result (refusal_line r) in
    subst P (sym c.in-Err.ensures.down) (subst Q c.in-Err.ensures.refused c.print_refusal.ensures)
