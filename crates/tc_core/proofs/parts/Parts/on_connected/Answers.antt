use Rattle.tc_core.specs.Seen.{seen}
use Rattle.tc_core.proofs.KeepsLost.{keeps_connected}
use Rattle.tc_core.proofs.parts.Parts.on_connected.Goals as goal

pub returns-clause-kept : goal.returns-clause-kept
returns-clause-kept g c = keeps_connected (seen c.args.self.now) c.requires.kept c.in-Connecting.is
