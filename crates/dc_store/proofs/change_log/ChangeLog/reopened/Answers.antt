use Rattle.std.proofs.Common.{◌≡◌, ◌∙◌, List, sym, ap, length, ◌++◌, arith}
use Rattle.std.proofs.lemmas.Grind.{common_steps}
use Rattle.codec.specs.declared.dc_record.DcRecord.{DcRecord}
use Rattle.dc_store.specs.Devices.{framing, records_at}
use Rattle.dc_store.proofs.KeepsLog.{IsKept, kept_stable, kept_so, same_log}
use Rattle.framed_log.proofs.Spelled.{length-places}
use Rattle.framed_log.proofs.ReadOnce.{spelled_once}
use Rattle.dc_store.proofs.ReadOnce.{log_framing}
use Rattle.dc_store.proofs.change_log.ChangeLog.reopened.Goals as goal

-- the log whose frames the device holds is kept
now : (g : Rattle.dc_store.proofs.change_log.ChangeLog.reopened.Given.Over) (c : goal.After-new g)
    → IsKept g.D.LogDevice.forces_whole c.requires.records.0 c.len-stable.result (g.D.LogDevice.forced c.args.device)
    (g.D.LogDevice.pending c.args.device) c.args.places.items c.args.end c.args.next_id
now g c =
    let log : List DcRecord = c.requires.records.0 in
    let count : c.len-stable.result ≡ length c.args.places.items = grind (arith, common_steps) in
    let frames = c.requires.records.2 in
    rw (count ∙ ap length frames.begins_are ∙ length-places framing log)
    (kept_stable g.D.LogDevice.forces_whole log _ _ c.args.places.items c.args.end c.args.next_id c.requires.records.1
    c.requires.none_pending frames)

pub invariant_of-result : goal.invariant_of-result
invariant_of-result g c = kept_so _ _ _ _ _ _ _ _ (now g c)

pub returns : goal.returns
returns g c = λ log each is.
    let was : List DcRecord = c.requires.records.0 in
    let frames = c.requires.records.2 in
    let one : was ≡ log = spelled_once log_framing was log frames.spellable each (sym c.requires.records.1 ∙ is) in
    let bytes = g.D.LogDevice.forced c.args.device ++ g.D.LogDevice.pending c.args.device in
    let read : records_at bytes c.args.places.items ≡ log = same_log _ _ _ _ _ _ _ _ (now g c) ∙ one in
    let items : c.len-stable.result ≡ length c.args.places.items = grind (arith, common_steps) in
    let count : c.len-stable.result ≡ length log = items ∙ ap length frames.begins_are ∙ length-places framing was
    ∙ ap length one in
    λ i. record { log = read i; stable = count i; usage = g.D.LogDevice.usage c.args.device }
