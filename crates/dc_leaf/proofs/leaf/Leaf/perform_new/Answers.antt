use Rattle.std.proofs.Common.{◌≡◌, ℕ, Some, refl, ap, ◌∙◌}
use Rattle.record_key.specs.declared.op.Op.{Op}
use Rattle.record_key.specs.declared.op.Answer.{Answer}
use Rattle.record_key.specs.Table.{Table, key_of, answer_at, answer_in, after}
use Rattle.std.specs.Prelude.{IsTrue}
use Rattle.record_key.specs.Order.{is_between}
use Rattle.record_key.specs.Rows.{IsPlaceOf, table_of}
use Rattle.dc_ab_lsn.specs.AbLsn.{AbLsnView, noted}
use Rattle.dc_leaf.specs.Leaf.{LeafView, is_in_fences, performed}
use Rattle.record_key.specs.Lent.{op_lent, answer_lent}
use Rattle.record_key.specs.Table.{Bytes}
use Rattle.record_key.specs.declared.entry.Entry.{Entry}
use Rattle.dc_leaf.proofs.Writes.{Writes, writes, all_written}
use Rattle.dc_leaf.proofs.Performing.{all_placed}
use Rattle.dc_leaf.proofs.leaf.Leaf.perform_new.Goals as goal

pub invariant_of-self-2 : goal.invariant_of-self-2
invariant_of-self-2 g c =
    let o = op_lent c.args.op.now in
    let place : IsPlaceOf (key_of o) c.self.inside.rows.rows c.place_of-place.result =
    rw (c.lent-rows.ensures, c.make_room.ensures.same, c.key.ensures) at c.place_of-place.ensures.place in
    let low = c.self.inside.low_fence in
    let high = c.self.inside.high_fence in
    let inside : IsTrue (is_between low high (key_of o)) =
    ap (λ (v : LeafView). is_in_fences v (key_of o)) c.self.view_is ∙ c.requires.within in
    rw (c.write_at.ensures, c.make_room.ensures.same, c.in_ok-note.ensures.noted, c.key-3.ensures) (
      (writes c.self.inside.rows.rows o c.place_of-place.result c.self.invariant.0 place).ordered,
      (
        all_written (λ (k : Bytes). IsTrue (is_between low high k)) c.self.inside.rows.rows o c.place_of-place.result
            c.self.invariant.1.0 inside,
        all_placed (λ (e : Entry). IsTrue (is_between low high e.key))
            (record { number = c.args.number; key = key_of o; answer = answer_lent c.answer_at-answer.result })
            c.self.inside.ab.entries inside c.self.invariant.1.1,
      ),
    )

-- a new number
anew : (old : LeafView) (n : ℕ) (o : Op) (a : Answer) (rows : Table) (ab : AbLsnView) → a ≡ answer_in old.rows o
    → rows ≡ after old.rows o
    → ab ≡ noted old.ab n (key_of o) a → ◌≡◌ {A = LeafView} (record old { rows = rows; ab = ab }) (performed old n o)
anew old n o a rows ab right table more =
    λ i. record old { rows = table i; ab = (more ∙ ap (noted old.ab n (key_of o)) right) i }

-- the answer is the one that the rows give
right : (g : _) (c : goal.After-write_at g) → answer_lent c.answer_at-answer.result
    ≡ answer_in (table_of c.self.inside.rows.rows) (op_lent c.args.op.now)
right g c =
    c.answer_at-answer.ensures
    ∙ ap (answer_at (op_lent c.args.op.now))
    (c.value_at.ensures ∙ rw (c.lent-rows.ensures, c.make_room.ensures.same, c.key-2.ensures) refl)

pub returns-clause-answer : goal.returns-clause-answer
returns-clause-answer g c = rw (← c.self.view_is) (c.take.ensures.told ∙ ap Some (right g c))

pub returns-clause-performed : goal.returns-clause-performed
returns-clause-performed g c =
    let o = op_lent c.args.op.now in
    let answer = answer_lent c.answer_at-answer.result in
    let place : IsPlaceOf (key_of o) c.self.inside.rows.rows c.place_of-place.result =
    rw (c.lent-rows.ensures, c.make_room.ensures.same, c.key.ensures) at c.place_of-place.ensures.place in
    let written : Writes c.self.inside.rows.rows c.write_at.new.rows.rows o =
    rw (c.write_at.ensures, c.make_room.ensures.same)
    (writes c.self.inside.rows.rows o c.place_of-place.result c.self.invariant.0 place) in
    let more : c.note.new.self ≡ noted c.self.inside.ab c.args.number (key_of o) answer =
    rw (c.key-3.ensures) at c.in_ok-note.ensures.noted in
    rw (← c.self.view_is)
    (anew _ c.args.number o answer (table_of c.write_at.new.rows.rows) c.note.new.self (right g c)
    written.table more)
