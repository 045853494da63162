use Rattle.std.proofs.Common.{◌≡◌, true, refl}
use Rattle.dc_core.specs.DcView.{DcView}
use Rattle.dc_core.specs.Serves.{with_system, connected}
use Rattle.dc_core.specs.Seen.{seen}
use Rattle.dc_core.proofs.Begun.{keeps_begun, keeps_refused}
use Rattle.dc_core.proofs.dc.Dc.begin.Goals as goal

pub invariant_of-self : goal.invariant_of-self
invariant_of-self g c =
    let w = seen c.self.inside in
    keeps_refused w c.args.session c.args.end c.self.invariant c.in_err-accepted.field-0.0
    (with_system w c.accept-accepted.new.self) c.kept.ensures c.in_err-accepted.ensures.gives refl

pub invariant_of-self-2 : goal.invariant_of-self-2
invariant_of-self-2 g c =
    let w = seen c.self.inside in
    let begun : DcView = record {
      stored = c.args.session;
      session = c.args.session;
      redo = true;
      known = c.args.session;
      opened_to = w.opened_to;
      redone_low = w.redone_low;
      system = c.accept-accepted.new.self;
      opened = w.opened;
      performed = c.up_to-self-inside.result.list.items;
    } in
    let same : begun ≡ connected w c.args.session c.args.end =
    (λ i. record begun { system = c.in_ok-accepted.ensures.gives.1 i; performed = c.up_to-self-inside.ensures i }) in
    keeps_begun w c.args.session c.args.end c.self.invariant begun (rw c.self.view_is c.requires.owed) c.kept.ensures same
