use Rattle.record_key.specs.Lent.{op_lent}
use Rattle.dc_core.specs.Performing.{also_told}
use Rattle.dc_core.proofs.performances.Performances.with.Given as goal

abbrev pub ghost-picked : goal.ghost-picked
ghost-picked g a = also_told a.number (op_lent a.b.now) (g.S.AnswerSink.told a.c.now) a.a.now.items
