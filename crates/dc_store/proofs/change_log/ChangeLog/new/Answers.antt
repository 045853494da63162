use Rattle.std.proofs.Common.{◌≡◌, ◌∙◌, List, ℕ, [], subst, sym, ap, ◌++◌}
use Rattle.codec.specs.declared.dc_record.DcRecord.{DcRecord}
use Rattle.dc_store.specs.Devices.{records_at}
use Rattle.dc_store.proofs.KeepsLog.{IsKept, kept_empty, kept_so, same_log}
use Rattle.dc_store.proofs.change_log.ChangeLog.new.Goals as goal

pub invariant_of-result : goal.invariant_of-result
invariant_of-result g c =
    let forced : List ℕ = g.D.LogDevice.forced c.args.device in
    let pending : List ℕ = g.D.LogDevice.pending c.args.device in
    let whole = g.D.LogDevice.forces_whole in
    let Kept : List ℕ → Type 0 = λ b. IsKept whole (records_at (forced ++ pending) b) 0 forced pending b 0 2 in
    subst Kept (sym c.new.ensures.items)
    (kept_so whole [] 0 forced pending [] 0 2
    (kept_empty whole forced pending c.requires.empty.0 c.requires.empty.1))

pub returns : goal.returns
returns g c =
    let forced : List ℕ = g.D.LogDevice.forced c.args.device in
    let pending : List ℕ = g.D.LogDevice.pending c.args.device in
    let whole = g.D.LogDevice.forces_whole in
    let none : records_at (forced ++ pending) c.new.result.items ≡ [] =
    ap (records_at (forced ++ pending)) c.new.ensures.items
    ∙ same_log whole [] 0 forced pending [] 0 2
    (kept_empty whole forced pending c.requires.empty.0 c.requires.empty.1) in
    ap (λ (l : List DcRecord). record { log = l; stable = 0; usage = g.D.LogDevice.usage c.args.device }) none
