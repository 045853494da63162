use Rattle.std.proofs.Common.{sym, refl, ap, ◌∙◌, nat_cmp}
use Rattle.std.specs.FinMap.{get-empty}
use Rattle.stable.specs.Usage.{called}
use Rattle.file_devices.proofs.no_pages.NoPagesPageDevice.read.Goals as goal

pub returns : goal.returns
returns c = (
  (refl, λ _. tt, (refl, c.in_ok-call.ensures.used ∙ ap called c.self.view_is)),
  record {
    set = rw (← c.self.view_is) c.in_ok-call.ensures.set;
    device = λ _. rw (← c.self.view_is) c.call.ensures.due;
    value = sym (get-empty nat_cmp c.args._id);
    no_memory = tt;
    after = tt;
  },
)
