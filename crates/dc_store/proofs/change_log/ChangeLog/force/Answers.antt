use Rattle.std.proofs.Common.{◌≡◌, ◌∙◌, ◌++◌, ap, subst, length, arith}
use Rattle.std.proofs.lemmas.Grind.{common_steps}
use Rattle.stable.specs.Usage.{called}
use Rattle.dc_store.specs.LogView.{ChangeLogView}
use Rattle.dc_store.specs.Devices.{framing, records_at}
use Rattle.dc_store.proofs.KeepsLog.{IsKept, kept_forced, kept_so, same_log}
use Rattle.framed_log.proofs.Spelled.{length-places}
use Rattle.dc_store.proofs.change_log.ChangeLog.force.Goals as goal

-- all records are forced
now : (g : Rattle.dc_store.proofs.change_log.ChangeLog.force.Given.Over) (c : goal.After-self-1 g)
    → IsKept g.D.LogDevice.forces_whole (records_at (g.D.LogDevice.forced c.self.inside.device
    ++ g.D.LogDevice.pending c.self.inside.device) c.self.inside.places.items) c.len.result
    (g.D.LogDevice.forced c.force.new.self) (g.D.LogDevice.pending c.force.new.self)
    c.self.inside.places.items c.self.inside.end c.self.inside.next_id
now g c =
    let m = c.self.inside in
    let items = m.places.items in
    let len : c.len.result ≡ length items = grind (arith, common_steps) in
    rw (len ∙ ap length c.self.invariant.1.begins_are ∙ length-places framing _)
    (kept_forced g.D.LogDevice.forces_whole _ m.stable _ _ _ _ items m.end m.next_id c.self.invariant
    c.in_default.ensures.all_forced c.in_default.ensures.none_pending)

pub invariant_of-self-2 : goal.invariant_of-self-2
invariant_of-self-2 g c = kept_so _ _ _ _ _ _ _ _ (now g c)

pub returns-clause-forced : goal.returns-clause-forced
returns-clause-forced g c =
    let log = same_log _ _ _ _ _ _ _ _ (now g c) in
    let items = c.self.inside.places.items in
    let len : c.len.result ≡ length items = grind (arith, common_steps) in
    let count = len ∙ ap length c.self.invariant.1.begins_are ∙ length-places framing _ in
    let counted : g.D.LogDevice.usage c.force.new.self ≡ called (g.D.LogDevice.usage c.self.inside.device) =
    rw c.in_default.is at c.force.ensures.used in
    let Seen : ChangeLogView → Type 0 = λ v. record {
      log = records_at (g.D.LogDevice.forced c.force.new.self ++ g.D.LogDevice.pending c.force.new.self) items;
      stable = c.len.result;
      usage = g.D.LogDevice.usage c.force.new.self;
    }
    ≡ record v { stable = length v.log; usage = called v.usage } in
    subst Seen c.self.view_is (λ i. record { log = log i; stable = count i; usage = counted i })
