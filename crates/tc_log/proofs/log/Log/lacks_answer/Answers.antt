use Rattle.std.proofs.Common.{◌∙◌, ap}
use Rattle.std.specs.Prelude.{not}
use Rattle.tc_log.proofs.Answered.{lacks_tells}
use Rattle.tc_log.proofs.log.Log.lacks_answer.Goals as goal

pub returns : goal.returns
returns g c =
    rw (← c.self.view_is)
    (ap not c.is_answered.ensures ∙ lacks_tells c.self.inside.frames.records c.args.number)
