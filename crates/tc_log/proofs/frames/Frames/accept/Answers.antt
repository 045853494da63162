use Rattle.std.proofs.Common.{◌≡◌, ◌∙◌, ◌<◌, ℕ, ◌+◌, List, ◌∷◌, ◌++◌, sym, ap, arith, length, vec_len, drop}
use Rattle.std.proofs.lemmas.Grind.{common_steps}
use Rattle.codec.specs.Frames.{frame}
use Rattle.codec.specs.Marks.{marked}
use Rattle.codec.specs.Records.{record_bytes}
use Rattle.history.specs.declared.record.Record.{Record}
use Rattle.tc_log.specs.Index.{noted}
use Rattle.tc_log.specs.Kept.{AreIndexed}
use Rattle.tc_log.specs.Spelled.{spelled, records_of, StandsNext}
use Rattle.tc_log.proofs.Index.{names_within, length-index}
use Rattle.tc_log.proofs.Framed.{indexed_longer, indexed_so, indexed_count, same_log}
use Rattle.tc_log.proofs.frames.Frames.accept.Goals as goal

pub note-requires-clause-names : goal.note-requires-clause-names
note-requires-clause-names g c =
    let m = c.self.inside in
    let bytes : List ℕ = g.D.LogDevice.forced m.device ++ g.D.LogDevice.pending m.device in
    let counted : vec_len m.answers ≡ length m.answers.items = grind (arith, common_steps) in
    names_within (records_of bytes m.index.count) c.args.accepted.now _
    (rw (← c.self.view_is) at c.requires.fits)
    (c.in_ok-reserve-2.ensures.len ∙ counted ∙ ap length c.self.invariant.frames.indexed ∙ length-index _)

pub overflow_add-number : goal.overflow_add-number
overflow_add-number g c =
    let m = c.self.inside in
    let bytes : List ℕ = g.D.LogDevice.forced m.device ++ g.D.LogDevice.pending m.device in
    let room : length (records_of bytes m.index.count) < 281474976710655 =
    rw (← c.self.view_is) at c.requires.room in
    omega (arith, c.len.ensures, c.in_ok-reserve.ensures.count, indexed_count _ _ _ _ _ _ _ c.self.invariant, room)

pub push_reserved-requires-clause-few : goal.push_reserved-requires-clause-few
push_reserved-requires-clause-few g c =
    let m = c.self.inside in
    let bytes : List ℕ = g.D.LogDevice.forced m.device ++ g.D.LogDevice.pending m.device in
    let room : length (records_of bytes m.index.count) < 281474976710655 =
    rw (← c.self.view_is) at c.requires.room in
    omega (arith, c.in_ok-reserve.ensures.count, indexed_count _ _ _ _ _ _ _ c.self.invariant, room)

number_of : (g : Rattle.tc_log.proofs.frames.Frames.accept.Given.Over) (c : goal.After-self-1 g)
    → let m = c.self.inside in
    let bytes : List ℕ = g.D.LogDevice.forced m.device ++ g.D.LogDevice.pending m.device in
    c.len.result + 1 ≡ length (records_of bytes m.index.count) + 1
number_of g c =
    omega (arith, c.len.ensures, c.in_ok-reserve.ensures.count, indexed_count _ _ _ _ _ _ _ c.self.invariant)

-- one record more
now : (g : Rattle.tc_log.proofs.frames.Frames.accept.Given.Over) (c : goal.After-self-1 g)
    → let m = c.self.inside in
    let bytes : List ℕ = g.D.LogDevice.forced m.device ++ g.D.LogDevice.pending m.device in
    AreIndexed (c.args.accepted.now ∷ records_of bytes m.index.count) bytes
    (drop (length (frame (record_bytes c.args.accepted.now))) (drop m.end bytes))
    c.push_reserved.new.self.marks c.push_reserved.new.self.count c.note.new.answers.items c.args.next
now g c =
    let m = c.self.inside in
    let old : List ℕ = g.D.LogDevice.forced m.device ++ g.D.LogDevice.pending m.device in
    let log : List Record = records_of old m.index.count in
    let left : List ℕ = drop m.end old in
    let r : Record = c.args.accepted.now in
    let f : List ℕ = frame (record_bytes r) in
    let stands : StandsNext log left r c.args.next = rw (← c.self.view_is) at c.requires.stands in
    let room : length log < 281474976710655 = rw (← c.self.view_is) at c.requires.room in
    let bytes : old ≡ spelled log ++ (f ++ drop (length f) left) = c.self.invariant.frames.bytes_are
    ∙ ap (λ (l : List ℕ). spelled log ++ l) stands.parts in
    let marks : c.push_reserved.new.self.marks ≡ marked m.index.marks m.index.count m.end =
    c.push_reserved.ensures.marks
    ∙ λ i. marked (c.in_ok-reserve.ensures.marks i) (c.in_ok-reserve.ensures.count i) m.end in
    let count : c.push_reserved.new.self.count ≡ m.index.count + 1 = c.push_reserved.ensures.count
    ∙ ap (λ (n : ℕ). n + 1) c.in_ok-reserve.ensures.count in
    let answers : c.note.new.answers.items ≡ noted r (length log + 1) m.answers.items =
    c.note.ensures ∙ ap (noted r (c.len.result + 1)) c.in_ok-reserve-2.ensures.items
    ∙ ap (λ (n : ℕ). noted r n m.answers.items) (number_of g c) in
    let end : c.args.next ≡ m.end + length f = stands.next_is
    ∙ ap (λ (n : ℕ). n + length f) (sym c.self.invariant.frames.end_is) in
    rw (marks, count, answers, end)
    (indexed_longer log old left m.index.marks m.index.count m.answers.items m.end r old
    (drop (length f) left) c.self.invariant (rw (← c.self.view_is) at c.requires.fits) stands.fits room bytes)

pub invariant_of-self-2 : goal.invariant_of-self-2
invariant_of-self-2 g c = indexed_so _ _ _ _ _ _ _ (now g c)

pub returns-clause-records : goal.returns-clause-records
returns-clause-records g c = rw (← c.self.view_is) (same_log _ _ _ _ _ _ (now g c).frames)
