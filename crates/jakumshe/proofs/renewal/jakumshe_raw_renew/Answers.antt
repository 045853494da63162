use Rattle.std.proofs.Common.{Some, Err, w32, refl, sym, ap, ◌∙◌}
use Rattle.std.proofs.lemmas.Int.{to_z-of_z}
use Rattle.jakumshe.proofs.OnNode.{on_node}
use Rattle.jakumshe.proofs.renewal.jakumshe_raw_renew.Goals as goal

pub returns-in-Err-made-clause-cause : goal.returns-in-Err-made-clause-cause
returns-in-Err-made-clause-cause c none =
    on_node _ _ c.deref_mut.result.now c.renewed-made.new.self _ _
    (c.in-Ok-take.ensures.taken ∙ ap Some (sym c.deref_mut.ensures.value)) c.put-2.ensures (λ undone unopened. (
      Err c.in-Err-made.fault,
      to_z-of_z w32 c.status-in-Err-made.result (record { sfits = c.status-in-Err-made.type_inv })
          ∙ c.status-in-Err-made.ensures,
      c.in-Err-made.ensures.refused,
    ))

pub returns-in-Ok-new-clause-cause : goal.returns-in-Ok-new-clause-cause
returns-in-Ok-new-clause-cause c none =
    on_node _ _ c.deref_mut.result.now c.renewed-made.new.self _ _
    (c.in-Ok-take.ensures.taken ∙ ap Some (sym c.deref_mut.ensures.value)) c.put-2.ensures
    (λ undone unopened. absurd (undone refl))
