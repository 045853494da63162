use Rattle.std.proofs.Common.{◌≡◌, ◌∙◌, ℕ, ◌≤◌, List, [], ◌++◌, sym, ap, subst, arith, length, drop, take}
use Rattle.std.proofs.lemmas.List.{append-nil, length-append}
use Rattle.stable.specs.Usage.{called}
use Rattle.history.specs.declared.record.Record.{Record}
use Rattle.tc_log.specs.Kept.{AreIndexed, FramesView}
use Rattle.tc_log.specs.Spelled.{spelled, records_of}
use Rattle.tc_log.proofs.Framed.{indexed_so, indexed_cut, same_log, same_left}
use Rattle.tc_log.proofs.frames.Frames.cut.Goals as goal

-- where all bytes are forced, the records' frames end within these
ends_within : (log : List Record) (forced pending left marks : List ℕ) (count : ℕ) (answers : List ℕ) (end : ℕ)
    → AreIndexed log (forced ++ pending) left marks count answers end → pending ≡ [] → end ≤ length forced
ends_within log forced pending left marks count answers end h none =
    let all : forced ≡ spelled log ++ left =
    sym (ap (λ (p : List ℕ). forced ++ p) none ∙ append-nil forced) ∙ h.frames.bytes_are in
    omega (arith, h.frames.end_is, ap length all, length-append (spelled log) left)

pub cut-requires-clause-within : goal.cut-requires-clause-within
cut-requires-clause-within g c =
    let m = c.self.inside in
    ends_within _ (g.D.LogDevice.forced m.device) (g.D.LogDevice.pending m.device) _ _ _ _ _ c.self.invariant
    (rw (← c.self.view_is) at c.requires.none_pending)

cut_bytes : (g : Rattle.tc_log.proofs.frames.Frames.cut.Given.Over) (c : goal.In_default g)
    → g.D.LogDevice.forced c.cut.new.self ++ g.D.LogDevice.pending c.cut.new.self
    ≡ take c.self.inside.end (g.D.LogDevice.forced c.self.inside.device ++ g.D.LogDevice.pending c.self.inside.device)
cut_bytes g c =
    let forced : List ℕ = g.D.LogDevice.forced c.self.inside.device in
    let none : g.D.LogDevice.pending c.self.inside.device ≡ [] = rw (← c.self.view_is) at c.requires.none_pending in
    ap (λ (p : List ℕ). g.D.LogDevice.forced c.cut.new.self ++ p) c.cut.ensures.none_pending
    ∙ append-nil (g.D.LogDevice.forced c.cut.new.self) ∙ c.in_default.ensures.cut
    ∙ ap (take c.self.inside.end) (sym (ap (λ (p : List ℕ). forced ++ p) none ∙ append-nil forced))

-- the records stay
now : (g : Rattle.tc_log.proofs.frames.Frames.cut.Given.Over) (c : goal.In_default g)
    → let m = c.self.inside in
    let bytes : List ℕ = g.D.LogDevice.forced m.device ++ g.D.LogDevice.pending m.device in
    AreIndexed (records_of bytes m.index.count)
    (g.D.LogDevice.forced c.cut.new.self ++ g.D.LogDevice.pending c.cut.new.self) []
    m.index.marks m.index.count m.answers.items m.end
now g c =
    let m = c.self.inside in
    indexed_cut _ (g.D.LogDevice.forced m.device ++ g.D.LogDevice.pending m.device) _ m.index.marks m.index.count
    m.answers.items m.end (g.D.LogDevice.forced c.cut.new.self ++ g.D.LogDevice.pending c.cut.new.self)
    c.self.invariant (cut_bytes g c)

pub invariant_of-self-2 : goal.invariant_of-self-2
invariant_of-self-2 g c = indexed_so _ _ _ _ _ _ _ (now g c)

pub returns-clause-cut : goal.returns-clause-cut
returns-clause-cut g c =
    let m = c.self.inside in
    let forced' : List ℕ = g.D.LogDevice.forced c.cut.new.self in
    let pending' : List ℕ = g.D.LogDevice.pending c.cut.new.self in
    let bytes : List ℕ = g.D.LogDevice.forced m.device ++ g.D.LogDevice.pending m.device in
    let log : List Record = records_of bytes m.index.count in
    let records = same_log _ _ _ _ _ _ (now g c).frames in
    let left = same_left _ _ _ _ _ _ (now g c).frames in
    let forced : forced' ≡ spelled log =
    sym (ap (λ (p : List ℕ). forced' ++ p) c.cut.ensures.none_pending ∙ append-nil forced')
    ∙ (now g c).frames.bytes_are ∙ append-nil (spelled log) in
    let counted : g.D.LogDevice.usage c.cut.new.self ≡ called (g.D.LogDevice.usage m.device) =
    rw c.in_default.is at c.cut.ensures.used in
    let Cut : FramesView → Type 0 = λ v. record {
      records = records_of (forced' ++ pending') m.index.count;
      left = drop m.end (forced' ++ pending');
      device = record { forced = forced'; pending = pending'; usage = g.D.LogDevice.usage c.cut.new.self };
    }
    ≡ record v {
      left = [];
      device = record { forced = spelled v.records; pending = []; usage = called v.device.usage };
    } in
    subst Cut c.self.view_is (λ i. record {
      records = records i;
      left = left i;
      device = record { forced = forced i; pending = c.cut.ensures.none_pending i; usage = counted i };
    })
