use Rattle.std.proofs.Common.{None, sym, subst}
use Rattle.tc_core.specs.declared.phase.Phase.TheVariants.{Connecting}
use Rattle.tc_core.specs.TcView.{TcView}
use Rattle.tc_core.specs.Kept.{IsTc}
use Rattle.tc_core.specs.Seen.{seen}
use Rattle.tc_core.proofs.KeepsTc.{keeps_logged, keeps_session}
use Rattle.tc_core.proofs.parts.Parts.reconnect.Goals as goal

pub force-requires : goal.force-requires
force-requires g c =
    let appended = c.in_ok-session.ensures.appended in
    rw appended.log (keeps_logged (seen c.args.self.now) c.requires appended.unspent)

pub returns-clause-kept : goal.returns-clause-kept
returns-clause-kept g c =
    let w = seen c.args.self.now in
    let appended = c.in_ok-session.ensures.appended in
    let P : TcView → Type 0 = λ v. IsTc (record v {
      session = c.in_ok-session.session;
      phase = Connecting;
      announced = 0;
      checkpointing = None;
    }) in
    subst P (sym c.in_ok-committed.ensures.gives.2)
    (rw (appended.log, appended.number_is) (keeps_session w c.requires appended.unspent))
