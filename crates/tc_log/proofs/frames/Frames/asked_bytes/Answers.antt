use Rattle.std.proofs.Common.{ap}
use Rattle.history.specs.Log.{request_in}
use Rattle.tc_log.proofs.Asked.{asked_of, told_asked, told_none}
use Rattle.tc_log.proofs.Framed.{none_kept, tells_kept}
use Rattle.tc_log.proofs.frames.Frames.asked_bytes.Goals as goal

pub returns-in_err-place : goal.returns-in_err-place
returns-in_err-place g c =
    rw c.from_residual.ensures (record {
      asked = tt;
      none = rw (← c.self.view_is) (ap request_in (none_kept _ _ _ _ _ _ c.self.invariant.frames c.args.number
          (rw c.held.ensures at c.in_err-place.ensures.none)));
    })

pub returns : goal.returns
returns g c =
    let t = tells_kept asked_of _ _ _ _ _ _ c.self.invariant.frames c.args.number c.in_ok-place.place
    c.held-2.result.now _ c.held-2.ensures
    (rw c.held.ensures at c.in_ok-place.ensures.some)
    c.asked_bytes.ensures.asked in
    rw (← c.self.view_is) (record {
      asked = told_asked _ c.args.number c.asked_bytes.result c.self.invariant.frames.spellable t c.asked_bytes.ensures.short;
      none = told_none _ c.args.number c.asked_bytes.result t;
    })
