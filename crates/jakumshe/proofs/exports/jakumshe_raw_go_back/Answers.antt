use Rattle.std.proofs.Common.{Some, ℤ, w32, sym, ap, subst, ◌∙◌}
use Rattle.std.proofs.lemmas.Int.{to_z-of_z}
use Rattle.jakumshe.specs.Statuses.{EndsWithStatus}
use Rattle.jakumshe.proofs.OnNode.{on_node}
use Rattle.jakumshe.proofs.exports.jakumshe_raw_go_back.Goals as goal

pub returns : goal.returns
returns c = record {
  back = on_node _ _ c.deref_mut.result.now c.go_back-ended.new.self _ _
      (c.in-Ok.ensures.taken ∙ ap Some (sym c.deref_mut.ensures.value)) c.put.ensures (
        c.go_back-ended.result,
        subst (λ (z : ℤ). EndsWithStatus z c.go_back-ended.result) (sym (to_z-of_z w32 c.status_of.result (record { sfits = c.status_of.type_inv })))
            c.status_of.ensures.status,
        (c.go_back-ended.ensures.back, c.go_back-ended.ensures.rows),
      );
}
