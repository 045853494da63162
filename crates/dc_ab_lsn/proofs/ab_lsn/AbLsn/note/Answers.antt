use Rattle.std.proofs.Common.{arith, ◌≡◌, ℕ, ap, ◌∙◌, List}
use Rattle.std.specs.List.{insert}
use Rattle.record_key.specs.Table.{Bytes}
use Rattle.record_key.specs.declared.op.Answer.{Answer}
use Rattle.record_key.specs.declared.entry.Entry.{Entry}
use Rattle.record_key.specs.Lent.{answer_lent}
use Rattle.dc_ab_lsn.specs.AbLsn.{AbLsnView, captures, noted}
use Rattle.dc_ab_lsn.proofs.Rising.{rises, gap_placed}
use Rattle.dc_ab_lsn.proofs.Capturing.{noted_captures}
use Rattle.dc_ab_lsn.proofs.Noting.{uncaptured, no_place, noted_rises}
use Rattle.dc_ab_lsn.proofs.ab_lsn.AbLsn.note.Goals as goal

pub place_of-requires : goal.place_of-requires
place_of-requires c = rises c.self.inside.low c.self.inside.entries c.self.invariant

pub unreachable-requires : goal.unreachable-requires
unreachable-requires c = grind (arith, no_place, uncaptured)

pub invariant_of-self : goal.invariant_of-self
invariant_of-self c = grind (arith, noted_rises)

put : (v : AbLsnView) (n : ℕ) (k : Bytes) (a : Answer) (p : ℕ) (es : List Entry)
    → es ≡ insert v.entries p (record { number = n; key = k; answer = a })
    → insert v.entries p (record { number = n; key = k; answer = a }) ≡ (noted v n k a).entries
    → ◌≡◌ {A = AbLsnView} (record { low = v.low; entries = es }) (noted v n k a)
put v n k a p es is placed = λ i. record { low = v.low; entries = (is ∙ placed) i }

pub returns-clause-noted : goal.returns-clause-noted
returns-clause-noted c = grind (arith, put, gap_placed)

pub returns-clause-captured : goal.returns-clause-captured
returns-clause-captured c = λ m.
    ap (λ (v : AbLsnView). captures v m) (returns-clause-noted c)
    ∙ noted_captures c.args.self.now c.args.number c.args.key.now (answer_lent c.args.answer.now) m
