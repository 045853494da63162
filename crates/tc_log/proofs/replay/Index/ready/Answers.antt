use Rattle.std.proofs.Common.{◌≡◌, ◌∙◌, ℕ, Option, Some, sym, subst}
use Rattle.tc_log.specs.Replay.{KeptOf, latest_in}
use Rattle.tc_log.proofs.Checks.{ready_test}
use Rattle.tc_log.proofs.replay.Index.ready.Goals as goal

pub returns-then-is_answered : goal.returns-then-is_answered
returns-then-is_answered g c =
    let Of : Option ℕ → Type 0 = λ v. KeptOf c.args.frames.now.records c.args.txn v in
    let some : latest_in c.args.self.now c.args.txn ≡ Some c.in_ok-latest.latest = sym c.latest.ensures
    ∙ c.in_ok-latest.was in
    ready_test _ c.args.txn c.in_ok-latest.latest c.requires.legal (subst Of some (c.requires.analysis.open_txns c.args.txn))
    (sym c.is_answered.ensures ∙ c.if-is_answered.true)
