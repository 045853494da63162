-- A request that was performed, or that was a repeated one, leaves the component as it must be.
use Rattle.std.proofs.Common.{◌≡◌, ℕ, List, Option, sym, ap, ◌∙◌, subst, inl, inr}
use Rattle.std.proofs.lemmas.Bool.{cases_Bool}
use Rattle.record_key.specs.declared.op.Op.{Op}
use Rattle.record_key.specs.declared.op.Answer.{Answer}
use Rattle.record_key.specs.Table.{key_of}
use Rattle.dc_leaf.specs.declared.leaf.Done.{Done}
use Rattle.dc_leaf.specs.declared.leaf.Done.TheVariants.{Performed}
use Rattle.dc_tree.specs.Performs.{PerformsAt}
use Rattle.dc_store.specs.SystemView.{SystemView}
use Rattle.dc_store.specs.Kept.{IsSystem}
use Rattle.dc_core.specs.declared.performance.Performance.{Performance}
use Rattle.dc_core.specs.DcView.{DcView, leaves, captures_at}
use Rattle.dc_core.specs.Serves.{MayPerform, performs}
use Rattle.dc_core.specs.Kept.{IsDc}
use Rattle.dc_core.specs.Performing.{also_told}
use Rattle.dc_core.proofs.KeepsDc.{keeps_performed, is_performed}

-- what a request that came to this, with this answer, leaves
pub record IsAsked (w : DcView) (n : ℕ) (o : Op) (came : Done) (answer : Option Answer) (v : SystemView) : Type 0 where
  pub done : PerformsAt (leaves w) n o came answer v.leaves
  pub rest : v ≡ record w.system { leaves = v.leaves }

module _ (w : DcView) (n : ℕ) (o : Op) (v : SystemView) (kept : IsDc w) where
  pub keeps_asked : (a : Option Answer) (ps : List Performance) → MayPerform w n o → IsSystem v
      → IsAsked w n o Performed a v → ps ≡ also_told n o a w.performed
      → IsDc (record w { system = v; performed = ps })
  keeps_asked a ps may is asked list =
      elim (cases_Bool (captures_at w (key_of o) n)) [
        | inl captured ↦ let same = rw captured at asked.done in absurd (cc same.0)
        | inr out ↦
            let now = rw out at asked.done in
            let newer : ps ≡ (performs w n o).performed =
            list ∙ ap (λ (a : Option Answer). also_told n o a w.performed) now.1.0 in
            let system : v ≡ (performs w n o).system =
            asked.rest ∙ ap (λ ls. record w.system { leaves = ls }) now.1.1 in
            subst IsDc (sym (is_performed w n o v ps newer system))
            (keeps_performed w n o kept may out (subst IsSystem system is))
      ]
