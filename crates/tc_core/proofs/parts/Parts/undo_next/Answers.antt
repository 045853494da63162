use Rattle.tc_core.specs.Seen.{seen}
use Rattle.tc_core.proofs.KeepsLosing.{something_left}
use Rattle.tc_core.proofs.parts.Parts.undo_next.Goals as goal

pub unreachable-requires : goal.unreachable-requires
unreachable-requires g c =
    let w = seen c.args.self.now in
    let k = c.requires.kept in
    something_left w k c.requires.undoing (c.in_default.ensures w.log k.lost.losers)
    (c.in-None.ensures w.log k.lost.losers)
