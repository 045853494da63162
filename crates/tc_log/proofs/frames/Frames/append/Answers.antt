use Rattle.std.proofs.Common.{◌≡◌, ◌∙◌, ◌<◌, ℕ, ◌+◌, List, [], ◌∷◌, ◌++◌, sym, ap, subst, arith, length, vec_len, drop, append_assoc}
use Rattle.tc_log.specs.Appended.{record_of}
use Rattle.std.proofs.lemmas.Grind.{common_steps}
use Rattle.std.proofs.lemmas.List.{append-nil, length-append}
use Rattle.codec.specs.Frames.{frame}
use Rattle.codec.specs.Marks.{marked}
use Rattle.codec.specs.Records.{record_bytes}
use Rattle.stable.specs.Usage.{called}
use Rattle.history.specs.declared.record.Record.{Record}
use Rattle.tc_log.specs.Index.{noted}
use Rattle.tc_log.specs.Kept.{AreIndexed, FramesView, with_appended}
use Rattle.tc_log.specs.Spelled.{spelled, records_of}
use Rattle.tc_log.proofs.Index.{names_within, length-index}
use Rattle.tc_log.proofs.Framed.{indexed_longer, indexed_so, indexed_count, same_log, same_left}
use Rattle.tc_log.proofs.frames.Frames.append.Goals as goal

pub note-requires-clause-names : goal.note-requires-clause-names
note-requires-clause-names g c =
    let m = c.self.inside in
    let bytes : List ℕ = g.D.LogDevice.forced m.device ++ g.D.LogDevice.pending m.device in
    let counted : vec_len m.answers ≡ length m.answers.items = grind (arith, common_steps) in
    names_within (records_of bytes m.index.count) (record_of c.args.appended.now) _
    (rw (← c.self.view_is) at c.requires.fits)
    (c.in_ok-reserve-2.ensures.len ∙ counted ∙ ap length c.self.invariant.frames.indexed ∙ length-index _)

pub overflow_add-number : goal.overflow_add-number
overflow_add-number g c =
    let m = c.self.inside in
    let bytes : List ℕ = g.D.LogDevice.forced m.device ++ g.D.LogDevice.pending m.device in
    let room : length (records_of bytes m.index.count) < 281474976710655 =
    rw (← c.self.view_is) at c.requires.room in
    omega (arith, c.len.ensures, c.in_ok-reserve.ensures.count, indexed_count _ _ _ _ _ _ _ c.self.invariant, room)

pub push_reserved-requires-clause-few : goal.push_reserved-requires-clause-few
push_reserved-requires-clause-few g c =
    let m = c.self.inside in
    let bytes : List ℕ = g.D.LogDevice.forced m.device ++ g.D.LogDevice.pending m.device in
    let room : length (records_of bytes m.index.count) < 281474976710655 =
    rw (← c.self.view_is) at c.requires.room in
    omega (arith, c.in_ok-reserve.ensures.count, indexed_count _ _ _ _ _ _ _ c.self.invariant, room)

number_of : (g : Rattle.tc_log.proofs.frames.Frames.append.Given.Over) (c : goal.After-self-1 g)
    → let m = c.self.inside in
    let bytes : List ℕ = g.D.LogDevice.forced m.device ++ g.D.LogDevice.pending m.device in
    c.len.result + 1 ≡ length (records_of bytes m.index.count) + 1
number_of g c =
    omega (arith, c.len.ensures, c.in_ok-reserve.ensures.count, indexed_count _ _ _ _ _ _ _ c.self.invariant)

-- one record more
now : (g : Rattle.tc_log.proofs.frames.Frames.append.Given.Over) (c : goal.After-self-1 g)
    → let m = c.self.inside in
    let bytes : List ℕ = g.D.LogDevice.forced m.device ++ g.D.LogDevice.pending m.device in
    AreIndexed ((record_of c.args.appended.now) ∷ records_of bytes m.index.count)
    (g.D.LogDevice.forced c.write.new.device ++ g.D.LogDevice.pending c.write.new.device) []
    c.push_reserved.new.self.marks c.push_reserved.new.self.count c.note.new.answers.items (length c.held.result.now)
now g c =
    let m = c.self.inside in
    let forced : List ℕ = g.D.LogDevice.forced m.device in
    let pending : List ℕ = g.D.LogDevice.pending m.device in
    let forced' : List ℕ = g.D.LogDevice.forced c.write.new.device in
    let pending' : List ℕ = g.D.LogDevice.pending c.write.new.device in
    let old : List ℕ = forced ++ pending in
    let log : List Record = records_of old m.index.count in
    let left : List ℕ = drop m.end old in
    let r : Record = (record_of c.args.appended.now) in
    let f : List ℕ = frame (record_bytes r) in
    let read : left ≡ [] = rw (← c.self.view_is) at c.requires.all_read in
    let room : length log < 281474976710655 = rw (← c.self.view_is) at c.requires.room in
    let whole : old ≡ spelled log =
    c.self.invariant.frames.bytes_are ∙ ap (λ (l : List ℕ). spelled log ++ l) read ∙ append-nil (spelled log) in
    let grown : forced' ++ pending' ≡ spelled log ++ f =
    ap (λ (b : List ℕ). b ++ pending') c.write.ensures.forced
    ∙ ap (λ (b : List ℕ). forced ++ b) c.in_ok-write.ensures.written
    ∙ sym (append_assoc forced pending f) ∙ ap (λ (b : List ℕ). b ++ f) whole in
    let bytes : forced' ++ pending' ≡ spelled log ++ (f ++ []) =
    grown ∙ ap (λ (b : List ℕ). spelled log ++ b) (sym (append-nil f)) in
    let marks : c.push_reserved.new.self.marks ≡ marked m.index.marks m.index.count m.end =
    c.push_reserved.ensures.marks
    ∙ λ i. marked (c.in_ok-reserve.ensures.marks i) (c.in_ok-reserve.ensures.count i) m.end in
    let count : c.push_reserved.new.self.count ≡ m.index.count + 1 = c.push_reserved.ensures.count
    ∙ ap (λ (n : ℕ). n + 1) c.in_ok-reserve.ensures.count in
    let answers : c.note.new.answers.items ≡ noted r (length log + 1) m.answers.items =
    c.note.ensures ∙ ap (noted r (c.len.result + 1)) c.in_ok-reserve-2.ensures.items
    ∙ ap (λ (n : ℕ). noted r n m.answers.items) (number_of g c) in
    let end : (length c.held.result.now) ≡ m.end + length f =
    ap length c.held.ensures ∙ ap length grown ∙ length-append (spelled log) f
    ∙ ap (λ (n : ℕ). n + length f) (sym c.self.invariant.frames.end_is) in
    rw (marks, count, answers, end)
    (indexed_longer log old left m.index.marks m.index.count m.answers.items m.end r (forced' ++ pending') []
    c.self.invariant (rw (← c.self.view_is) at c.requires.fits) c.in_ok-write.ensures.has_spelling room bytes)

pub invariant_of-self-2 : goal.invariant_of-self-2
invariant_of-self-2 g c = indexed_so _ _ _ _ _ _ _ (now g c)

pub returns-clause-appended : goal.returns-clause-appended
returns-clause-appended g c =
    let forced : List ℕ = g.D.LogDevice.forced c.write.new.device in
    let pending : List ℕ = g.D.LogDevice.pending c.write.new.device in
    let records = same_log _ _ _ _ _ _ (now g c).frames in
    let left = same_left _ _ _ _ _ _ (now g c).frames ∙ sym (rw (← c.self.view_is) at c.requires.all_read) in
    let counted : g.D.LogDevice.usage c.write.new.device ≡ called (g.D.LogDevice.usage c.self.inside.device) =
    rw c.in_ok-write.was at c.write.ensures.used in
    let Seen : FramesView → Type 0 = λ v. record {
      records = records_of (forced ++ pending) c.push_reserved.new.self.count;
      left = drop (length c.held.result.now) (forced ++ pending);
      device = record {
        forced = forced;
        pending = pending;
        usage = g.D.LogDevice.usage c.write.new.device;
      };
    }
    ≡ with_appended v (record_of c.args.appended.now) in
    subst Seen c.self.view_is (λ i. record {
      records = records i;
      left = left i;
      device = record { forced = c.write.ensures.forced i; pending = c.in_ok-write.ensures.written i; usage = counted i };
    })
