use Rattle.std.proofs.Common.{arith}
use Rattle.codec.proofs.RowEdits.{two_texts}
use Rattle.codec.proofs.row_buffer.put.Goals as goal

pub returns-clause-put : goal.returns-clause-put
returns-clause-put c =
    let key = c.as_bytes-key.ensures.bytes in
    let value = c.as_bytes-value.ensures.bytes in
    two_texts c.args.bytes.now.items c.fit.new.bytes.items c.put_text_at.new.bytes.items c.put_text_at-2.new.bytes.items
    c.args.key.now c.args.value.now c.args.start c.args.end
    (omega (arith, c.fit.ensures.count, c.requires.ordered, c.requires.within, c.fit.new.bytes.ok))
    c.fit.ensures.before
    (rw (key, value) at c.fit.ensures.after)
    (rw (key) at c.put_text_at.ensures.written)
    (rw (key, value) at c.put_text_at-2.ensures.written)
