use Rattle.std.proofs.Common.{◌≡◌, ◌∙◌, ◌<◌, ℕ, ◌+◌, List, [], ◌∷◌, ◌++◌, sym, ap, subst, arith, length, is_some, drop, append_assoc}
use Rattle.std.proofs.lemmas.List.{append-nil, length-append}
use Rattle.codec.specs.Frames.{frame}
use Rattle.codec.specs.Marks.{marked}
use Rattle.codec.specs.Records.{record_bytes, HasNumbers}
use Rattle.codec.specs.Undoing.{AreAnsweredAt}
use Rattle.stable.specs.Usage.{called}
use Rattle.history.specs.declared.record.Record.{Record}
use Rattle.history.specs.declared.record.Record.TheVariants as is
use Rattle.history.specs.Legal.{Fits}
use Rattle.inverse.specs.Inverse.{inverse_of}
use Rattle.record_key.specs.declared.op.Op.{Op}
use Rattle.record_key.specs.declared.op.Answer.{Answer}
use Rattle.tc_log.specs.Index.{noted, first_place}
use Rattle.tc_log.specs.Kept.{AreIndexed, FramesView, with_appended}
use Rattle.tc_log.specs.Spelled.{spelled, records_of}
use Rattle.tc_log.specs.Undoing.{comp_at, inverse_at}
use Rattle.tc_log.proofs.Framed.{indexed_longer, indexed_so, indexed_count, same_log, same_left}
use Rattle.tc_log.proofs.Undoing.{comp_has_spelling}
use Rattle.tc_log.proofs.frames.Frames.append_comp.Given as given
use Rattle.tc_log.proofs.frames.Frames.append_comp.Goals as goal

pub overflow_add-number : goal.overflow_add-number
overflow_add-number g c =
    let m = c.self.inside in
    let bytes : List ℕ = g.D.LogDevice.forced m.device ++ g.D.LogDevice.pending m.device in
    let room : length (records_of bytes m.index.count) < 281474976710655 =
    rw (← c.self.view_is) at c.requires.room in
    omega (arith, c.len.ensures, c.in_ok-reserve.ensures.count, indexed_count _ _ _ _ _ _ _ c.self.invariant, room)

pub push_reserved-requires-clause-few : goal.push_reserved-requires-clause-few
push_reserved-requires-clause-few g c =
    let m = c.self.inside in
    let bytes : List ℕ = g.D.LogDevice.forced m.device ++ g.D.LogDevice.pending m.device in
    let room : length (records_of bytes m.index.count) < 281474976710655 =
    rw (← c.self.view_is) at c.requires.room in
    omega (arith, c.in_ok-reserve.ensures.count, indexed_count _ _ _ _ _ _ _ c.self.invariant, room)

number_of : (g : given.Over) (c : goal.After-self-1 g)
    → let m = c.self.inside in
    let bytes : List ℕ = g.D.LogDevice.forced m.device ++ g.D.LogDevice.pending m.device in
    c.len.result + 1 ≡ length (records_of bytes m.index.count) + 1
number_of g c =
    omega (arith, c.len.ensures, c.in_ok-reserve.ensures.count, indexed_count _ _ _ _ _ _ _ c.self.invariant)

-- what is read of the operation and its answer
answered : (g : given.Over) (c : goal.After-self-1 g)
    → let m = c.self.inside in
    AreAnsweredAt (g.D.LogDevice.forced m.device ++ g.D.LogDevice.pending m.device)
    c.undo_sources-op_at.result.0 c.undo_sources-op_at.result.1 c.requires.fits.inverse.op
    c.requires.fits.inverse.answer
answered g c =
    let inverts = c.requires.fits.inverse in
    let told : AreAnsweredAt (c.args.self.now.device.forced ++ c.args.self.now.device.pending)
    c.undo_sources-op_at.result.0 c.undo_sources-op_at.result.1 inverts.op inverts.answer =
    c.undo_sources-op_at.ensures.places inverts.txn inverts.op inverts.answer inverts.is inverts.answered in
    rw (← c.self.view_is) at told

asks_is : (g : given.Over) (c : goal.After-self-1 g)
    → c.in_ok-asks.asks ≡ is_some (inverse_at c.args.self.now.records c.args.undoes)
asks_is g c = c.in_ok-asks.ensures.asks c.requires.fits.inverse.op c.requires.fits.inverse.answer (answered g c)
    ∙ ap is_some (sym c.requires.fits.inverse.inverse)

-- so the record is the one that is written
written : (g : given.Over) (c : goal.After-self-1 g)
    → g.D.LogDevice.pending c.write_comp.new.device ≡ g.D.LogDevice.pending c.self.inside.device
    ++ frame (record_bytes (comp_at c.args.self.now.records c.args.txn c.args.undoes))
written g c =
    let inverts = c.requires.fits.inverse in
    c.in_ok-asks.ensures.written inverts.op inverts.answer (answered g c)
    ∙ λ i. g.D.LogDevice.pending c.self.inside.device
    ++ frame (record_bytes (is.Comp c.args.txn c.args.undoes (c.undo_sources-op_at.ensures.next i) (sym inverts.inverse i)))

-- one record more
now : (g : given.Over) (c : goal.After-self-1 g)
    → let m = c.self.inside in
    let bytes : List ℕ = g.D.LogDevice.forced m.device ++ g.D.LogDevice.pending m.device in
    let log : List Record = records_of bytes m.index.count in
    AreIndexed (comp_at log c.args.txn c.args.undoes ∷ log)
    (g.D.LogDevice.forced c.write_comp.new.device ++ g.D.LogDevice.pending c.write_comp.new.device) []
    c.push_reserved.new.self.marks c.push_reserved.new.self.count c.note_comp.new.answers.items
    (length c.held.result.now)
now g c =
    let m = c.self.inside in
    let forced : List ℕ = g.D.LogDevice.forced m.device in
    let pending : List ℕ = g.D.LogDevice.pending m.device in
    let forced' : List ℕ = g.D.LogDevice.forced c.write_comp.new.device in
    let pending' : List ℕ = g.D.LogDevice.pending c.write_comp.new.device in
    let old : List ℕ = forced ++ pending in
    let log : List Record = records_of old m.index.count in
    let left : List ℕ = drop m.end old in
    let r : Record = comp_at log c.args.txn c.args.undoes in
    let f : List ℕ = frame (record_bytes r) in
    let o : Op = c.requires.fits.inverse.op in
    let a : Answer = c.requires.fits.inverse.answer in
    let read : left ≡ [] = rw (← c.self.view_is) at c.requires.all_read in
    let room : length log < 281474976710655 = rw (← c.self.view_is) at c.requires.room in
    let fits : Fits log r = rw (← c.self.view_is) at c.requires.fits in
    let numbers : HasNumbers r = rw (← c.self.view_is) at c.requires.numbers in
    let same : inverse_at c.args.self.now.records c.args.undoes ≡ inverse_of o a = c.requires.fits.inverse.inverse in
    let inverse : inverse_at log c.args.undoes ≡ inverse_of o a = rw (← c.self.view_is) at same in
    let whole : old ≡ spelled log =
    c.self.invariant.frames.bytes_are ∙ ap (λ (l : List ℕ). spelled log ++ l) read ∙ append-nil (spelled log) in
    let told = written g c in
    let longer : pending' ≡ pending ++ f = rw (← c.self.view_is) at told in
    let grown : forced' ++ pending' ≡ spelled log ++ f =
    ap (λ (b : List ℕ). b ++ pending') c.write_comp.ensures.forced
    ∙ ap (λ (b : List ℕ). forced ++ b) longer
    ∙ sym (append_assoc forced pending f) ∙ ap (λ (b : List ℕ). b ++ f) whole in
    let bytes : forced' ++ pending' ≡ spelled log ++ (f ++ []) =
    grown ∙ ap (λ (b : List ℕ). spelled log ++ b) (sym (append-nil f)) in
    let marks : c.push_reserved.new.self.marks ≡ marked m.index.marks m.index.count m.end =
    c.push_reserved.ensures.marks
    ∙ λ i. marked (c.in_ok-reserve.ensures.marks i) (c.in_ok-reserve.ensures.count i) m.end in
    let count : c.push_reserved.new.self.count ≡ m.index.count + 1 = c.push_reserved.ensures.count
    ∙ ap (λ (n : ℕ). n + 1) c.in_ok-reserve.ensures.count in
    let asked = asks_is g c in
    let asks : c.in_ok-asks.asks ≡ is_some (inverse_at log c.args.undoes) = rw (← c.self.view_is) at asked in
    let answers : c.note_comp.new.answers.items ≡ noted r (length log + 1) m.answers.items =
    c.note_comp.ensures (inverse_at log c.args.undoes) asks
    ∙ ap (λ (b : List ℕ). b ++ first_place (inverse_at log c.args.undoes) ∷ []) c.in_ok-reserve-2.ensures.items in
    let end : (length c.held.result.now) ≡ m.end + length f =
    ap length c.held.ensures ∙ ap length grown ∙ length-append (spelled log) f
    ∙ ap (λ (n : ℕ). n + length f) (sym c.self.invariant.frames.end_is) in
    let spells = comp_has_spelling log c.args.txn c.args.undoes o a old _ _ (sym inverse) numbers (answered g c) in
    rw (marks, count, answers, end)
    (indexed_longer log old left m.index.marks m.index.count m.answers.items m.end r (forced' ++ pending') []
    c.self.invariant fits spells room bytes)

pub invariant_of-self-2 : goal.invariant_of-self-2
invariant_of-self-2 g c = indexed_so _ _ _ _ _ _ _ (now g c)

pub returns-clause-appended : goal.returns-clause-appended
returns-clause-appended g c =
    let m = c.self.inside in
    let forced : List ℕ = g.D.LogDevice.forced c.write_comp.new.device in
    let pending : List ℕ = g.D.LogDevice.pending c.write_comp.new.device in
    let old : List ℕ = g.D.LogDevice.pending m.device in
    let log : List Record = records_of (g.D.LogDevice.forced m.device ++ old) m.index.count in
    let records = same_log _ _ _ _ _ _ (now g c).frames in
    let left = same_left _ _ _ _ _ _ (now g c).frames ∙ sym (rw (← c.self.view_is) at c.requires.all_read) in
    let told = written g c in
    let longer : pending ≡ old ++ frame (record_bytes (comp_at log c.args.txn c.args.undoes)) =
    rw (← c.self.view_is) at told in
    let counted : g.D.LogDevice.usage c.write_comp.new.device ≡ called (g.D.LogDevice.usage m.device) =
    rw c.in_ok-asks.was at c.write_comp.ensures.used in
    let Seen : FramesView → Type 0 = λ v. record {
      records = records_of (forced ++ pending) c.push_reserved.new.self.count;
      left = drop (length c.held.result.now) (forced ++ pending);
      device = record {
        forced = forced;
        pending = pending;
        usage = g.D.LogDevice.usage c.write_comp.new.device;
      };
    }
    ≡ with_appended v (comp_at v.records c.args.txn c.args.undoes) in
    subst Seen c.self.view_is (λ i. record {
      records = records i;
      left = left i;
      device = record { forced = c.write_comp.ensures.forced i; pending = longer i; usage = counted i };
    })

pub returns-clause-told : goal.returns-clause-told
returns-clause-told g c = record {
  number = rw (← c.self.view_is) (number_of g c);
  next = c.undo_sources-op_at.ensures.next;
  asks = asks_is g c;
}
