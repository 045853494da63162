use Rattle.std.proofs.Common.{◌≡◌, ◌∙◌, length, ap, vec_len, arith}
use Rattle.std.proofs.lemmas.Grind.{common_steps}
use Rattle.record_key.specs.Lent.{answer_lent}
use Rattle.record_key.proofs.Packing.{put_filled, put_listed}
use Rattle.record_key.proofs.compacting.put_at.Goals as goal

ends : (c : goal.After-put) → c.len-place.result ≡ length c.args.bytes.now.items
ends c =
    let counted : vec_len c.reserve.new.self ≡ length c.reserve.new.self.items = grind (arith, common_steps) in
    c.len-place.ensures ∙ counted ∙ ap length c.in_ok-reserve.ensures.items

pub returns-clause-filled : goal.returns-clause-filled
returns-clause-filled c =
    rw (c.in_ok-insert.ensures.ok, c.put.ensures.packed, c.in_ok-reserve.ensures.items)
    (put_filled c.args.bytes.now.items c.args.slots.now.items c.requires.filled c.args.at c.args.number
    c.len-place.result (ends c) c.args.key.now (answer_lent c.args.answer.now) c.put.ensures.lengths)

pub returns-clause-inserted : goal.returns-clause-inserted
returns-clause-inserted c =
    rw (c.in_ok-insert.ensures.ok, c.put.ensures.packed, c.in_ok-reserve.ensures.items)
    (put_listed c.args.bytes.now.items c.args.slots.now.items c.requires.filled c.args.at c.args.number
    c.len-place.result (ends c) c.args.key.now (answer_lent c.args.answer.now) c.put.ensures.lengths)
