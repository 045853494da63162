use Rattle.std.proofs.Common.{◌≡◌, ◌∙◌, ap, arith, length}
use Rattle.std.proofs.lemmas.Grind.{common_steps}
use Rattle.framed_log.proofs.Spelled.{length-places}
use Rattle.dc_store.specs.Devices.{framing}
use Rattle.dc_store.proofs.change_log.ChangeLog.len.Goals as goal

pub returns-clause-count : goal.returns-clause-count
returns-clause-count g c =
    let items = c.self.inside.places.items in
    let count : c.len.result ≡ length items = grind (arith, common_steps) in
    rw (← c.self.view_is) (count ∙ ap length c.self.invariant.1.begins_are ∙ length-places framing _)
