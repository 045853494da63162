use Rattle.tc_restart.specs.declared.findings.Findings.{Findings}
use Rattle.tc_restart.proofs.Found.{found_more}
use Rattle.tc_restart.proofs.findings.Findings.take.Goals as goal

pub returns : goal.returns
returns g c =
    let new : Findings = record {
      analysis = c.follow.new.self;
      winners = c.note_commit.new.winners;
      missing = c.note_missing.new.missing;
    } in
    found_more c.args.log.now.records c.args.found.now c.args.self.now new c.requires.legal
    c.in_ok-note_commit.ensures c.args.number
    c.requires.stands c.requires.so_far c.in_ok-follow.ensures.taken c.in_ok-note_missing.ensures
