use Rattle.shell_scripts.specs.Printed.{refusal_line}
use Rattle.shell_scripts.proofs.Running.{alone_cut}
use Rattle.shell_scripts.proofs.script_run.refuse.Goals as goal

pub returns-in-Err : goal.returns-in-Err
returns-in-Err g c = alone_cut (refusal_line c.args.refusal) c.args.status _ _ c.in-Err.ensures
