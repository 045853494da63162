use Rattle.std.proofs.Common.{Some, Ok, refl, sym, ap, ◌∙◌}
use Rattle.jakumshe.proofs.OnNode.{on_node}
use Rattle.jakumshe.proofs.exports.jakumshe_raw_get.Goals as goal

pub returns-in-Ok-ended-clause-read : goal.returns-in-Ok-ended-clause-read
returns-in-Ok-ended-clause-read c some short =
    on_node _ _ c.deref_mut.result.now c.get-ended.new.self _ _
    (c.in-Ok.ensures.taken ∙ ap Some (sym c.deref_mut.ensures.value)) c.put.ensures (
      Ok c.in-Ok-ended.found,
      refl,
      (c.in-Ok-ended.ensures.read some short, c.put-in-Ok-ended.ensures, c.in-Ok-ended.ensures.rows),
    )
