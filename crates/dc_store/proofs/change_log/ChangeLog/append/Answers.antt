use Rattle.std.proofs.Common.{◌≡◌, ◌∙◌, ℕ, ◌+◌, List, [], ◌∷◌, ◌++◌, ap, subst, length}
use Rattle.codec.specs.declared.dc_record.DcRecord.{DcRecord}
use Rattle.codec.specs.DcRecords.{record_in, dc_record_bytes}
use Rattle.codec.specs.Frames.{frame}
use Rattle.stable.specs.Usage.{called}
use Rattle.dc_store.specs.LogView.{ChangeLogView}
use Rattle.dc_store.specs.Devices.{records_at}
use Rattle.dc_store.proofs.KeepsLog.{IsKept, kept_longer, kept_so, same_log}
use Rattle.dc_store.proofs.change_log.ChangeLog.append.Goals as goal

-- one record more
now : (g : Rattle.dc_store.proofs.change_log.ChangeLog.append.Given.Over) (c : goal.After-self-2-1 g)
    → IsKept g.D.LogDevice.forces_whole
    (record_in c.args.change.now ∷ records_at (g.D.LogDevice.forced c.self.inside.device
    ++ g.D.LogDevice.pending c.self.inside.device) c.self.inside.places.items) c.self.inside.stable
    (g.D.LogDevice.forced c.append.new.self) (g.D.LogDevice.pending c.append.new.self)
    c.push_reserved.new.self.items c.in-Some.end c.id_after-self-inside.result
now g c =
    let m = c.self.inside in
    let forced : List ℕ = g.D.LogDevice.forced m.device in
    let pending : List ℕ = g.D.LogDevice.pending m.device in
    let log : List DcRecord = records_at (forced ++ pending) m.places.items in
    let r : DcRecord = record_in c.args.change.now in
    let f : List ℕ = frame (dc_record_bytes r) in
    let bytes : g.D.LogDevice.pending c.append.new.self ≡ pending ++ f = c.in_default-append.ensures.appended
    ∙ ap (λ (b : List ℕ). pending ++ b) (c.deref.ensures.value ∙ c.in_ok-len.ensures.spelling) in
    let begins : c.push_reserved.new.self.items ≡ m.places.items ++ m.end ∷ [] = c.push_reserved.ensures.items
    ∙ ap (λ (xs : List ℕ). xs ++ m.end ∷ []) c.in_ok-reserve.ensures.items in
    let end : c.in-Some.end ≡ m.end + length f = c.in-Some.ensures.1
    ∙ ap (λ (n : ℕ). m.end + n) c.in_ok-len.ensures.length in
    rw (c.append.ensures.forced, bytes, begins, end)
    (kept_longer g.D.LogDevice.forces_whole log m.stable forced pending m.places.items m.end m.next_id r
    c.id_after-self-inside.result c.self.invariant c.in_ok-len.ensures.fits
    (c.id_after-self-inside.ensures log c.self.invariant.1.next_is))

pub invariant_of-self-2 : goal.invariant_of-self-2
invariant_of-self-2 g c = kept_so _ _ _ _ _ _ _ _ (now g c)

pub returns-clause-appended : goal.returns-clause-appended
returns-clause-appended g c =
    let log = same_log _ _ _ _ _ _ _ _ (now g c) in
    let counted : g.D.LogDevice.usage c.append.new.self ≡ called (g.D.LogDevice.usage c.self.inside.device) =
    rw c.in_default-append.is at c.append.ensures.used in
    let Seen : ChangeLogView → Type 0 = λ v. record {
      log = records_at (g.D.LogDevice.forced c.append.new.self ++ g.D.LogDevice.pending c.append.new.self)
          c.push_reserved.new.self.items;
      stable = c.self.inside.stable;
      usage = g.D.LogDevice.usage c.append.new.self;
    }
    ≡ record v { log = record_in c.args.change.now ∷ v.log; usage = called v.usage } in
    subst Seen c.self.view_is (λ i. record { log = log i; stable = c.self.inside.stable; usage = counted i })
