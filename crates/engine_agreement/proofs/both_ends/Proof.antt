-- `both_ends` makes a ledger of one part, and hands out its book and its share.
use mathlib.Core.Path.{refl}
use mathlib.Core.List.{List, [], ◌∷◌, ◌++◌}
use Prim.Native.Nat.{ℕ}
use seplogic.Ra.Ura.{Ura}
use mir.Syntax.{Fn}
use mir.Val.{Val, vstruct, vcons, vnil, of_list}
use base.Logic.{SProp, ent}
use base.Fml.{Fml, ftrue, fsep, feq}
use prog.Wp.{WpFn}
use prog.Model.{Model}
use types.Logic.{Logic}
use contract.Running.{Running, MachineTables, tables, tables_of}
use sound.WpLaws.{WpFn-mono}
use types.Kit.{‵, raw, ◌⊛◌, some, later, ◌$◌, ◌∵◌, !, qed, move, keep, join, fsplit, fjoin, fjoin3, fpack, pick, suffices, frame, use0, feq_i, await}
use types.Run.{no_more, and_then, returns, enter}
use types.ByLocal.{alloc_all, pass_all, free_all, look_at, get, sets}
use types.Part.{agg}
use denote.RattleType.{RattleType, Valss, owns}
use denote.Signature.{types_at}
use denote.Builtin.{unit}
use denote.Steps.{nothing}
use denote.Triple.Clauses.{Clauses, closing}
use denote.Triple.Spec.{Meets, triple_of}
use denote.Triple.Table.{entered}
use denote.Triple.Walked.{Stays, walk_of, ends_at, walk_Meets}
use contract.CodeStep
use Rattle.core.specs.Sync.Ledger.{book_owns, share_owns}
use Rattle.core.proofs.ledger.Steps as steps
use Rattle.core.proofs.ledger.Walks.{token, Mark, made, tells, tells_last}
use Rattle.engine_agreement.specs.contracts.Far as far
use Rattle.engine_agreement.specs.contracts.Near as near
use Rattle.engine_agreement.specs.contracts.both_ends.{ended, clauses}
use Rattle.engine_agreement.specs.contracts.both_ends.Key.{name as #self}
use Rattle.engine_agreement.proofs.both_ends.Statement as stated
use Rattle.engine_agreement.proofs.both_ends.Code as code

module _ {M : Type 1} {𝓤 : Ura M} (𝓛 : Logic 𝓤) (𝓜 : Model 𝓤 𝓛.H) (𝓡 : Running 𝓤 𝓛.H 𝓜) where
  open 𝓛 use {H}

  abbrev function : Fn
  function = code.function

  abbrev A : RattleType
  A = far.the_row

  abbrev B : RattleType
  B = near.the_row

  abbrev stayed : Stays ended.signature.params ended.kept
  stayed = tt

  abbrev 𝓣 : MachineTables 𝓤 H 𝓜
  𝓣 = tables 𝓤 H 𝓜 𝓡 𝓡.env

  abbrev held : Clauses 𝓤 ended
  held = clauses 𝓛 𝓜.mem 𝓡.returns

  module _ (z : (walk_of 𝓛 ended stayed held).Ghost) where
    abbrev Goes : Type 1
    Goes = ent 𝓤 ((walk_of 𝓛 ended stayed held).pre z) (WpFn 𝓤 H 𝓣.C 𝓣.Λ function ((walk_of 𝓛 ended stayed held).args z) ((walk_of 𝓛 ended stayed held).post z))

    abbrev args : Fml
    args = owns (types_at ended.signature.params z.0.0) z.0.3 z.0.4

    abbrev asked : SProp 𝓤
    asked = (held z.0.0 z.0.3).requires z.1

    walks : Goes
    walks =
        let v : Val = vstruct (vcons token (vcons token vnil)) in
        qed 𝓛 ((‵ ftrue ⊛ ‵ args) ∷ raw asked ∷ []) ∵ keep ! [] $ enter ! 𝓣.C 𝓣.Λ function [] _ $ alloc_all ! (λ l. pass_all ! refl tt $
        use0 𝓛 (later (some (λ (γ : ℕ). ‵ (fsep (book_owns γ 1 0) (share_owns γ 1 1 0))))) (steps.begins 𝓛 1) $ await ! tt $ pick ! (λ γ. fsplit ! $
        let far₀ : A.Denot = record { marker = record {}; name = γ; value = 0 } in let near₀ : B.Denot = record { marker = record {}; name = γ; value = 0 } in
        sets ! (agg ! (no_more !)) refl (tt, tt) $ sets ! (agg ! (and_then ! (get ! refl) (no_more !))) refl (tt, (tt, tt)) $ sets ! (agg ! (no_more !)) refl (tt, tt) $ sets ! (agg ! (and_then ! (get ! refl) (no_more !))) refl (tt, (tt, tt)) $
        sets ! (agg ! (and_then ! (get ! refl) (and_then ! (get ! refl) (no_more !)))) refl (tt, ((tt, tt), ((tt, tt), tt))) $
        returns ! (look_at ! 0 refl) $ free_all ! refl $ suffices ! _ (ends_at 𝓛 ended stayed held z v (far₀, near₀) tt tt) $
        use0 𝓛 (‵ ((Mark (far.the_type).name [] unit).own_val (tt, tt) (token ∷ []))) (made (far.the_type).name [] unit 𝓛) $ fjoin ! $ move ! (1 ∷ []) $ use0 𝓛 (‵ ((Mark (near.the_type).name [] unit).own_val (tt, tt) (token ∷ []))) (made (near.the_type).name [] unit 𝓛) $ fjoin ! $ nothing ! $ move ! (2 ∷ 1 ∷ 0 ∷ []) $ fjoin3 ! $ feq_i ! (List Val) (v ∷ []) (v ∷ []) refl $ fjoin ! $
        fpack ! (Valss (A ∷ B ∷ [])) (λ vss. fsep (feq (List Val) (v ∷ []) (vstruct (of_list (vss.0 ++ (vss.1.0 ++ []))) ∷ [])) (owns (A ∷ B ∷ []) (far₀, (near₀, tt)) vss)) (token ∷ [], (token ∷ [], tt)) $
        nothing ! $ join ! $ nothing ! $ join ! $ frame ! $ tells ! refl $ tells ! refl $ tells_last ! refl))

  meets : Meets 𝓛 ended.signature (WpFn 𝓤 H 𝓣.C 𝓣.Λ function) (closing 𝓛 ended held)
  unfolding tables_of contract.CodeStep.c_Tables
  meets =
      walk_Meets 𝓛 ended stayed tt held
      (WpFn 𝓤 H 𝓣.C 𝓣.Λ function) (WpFn-mono 𝓤 H 𝓛.laws (tables_of 𝓤 H 𝓜 𝓣) function)
      (λ z. walks z)

pub both_ends_spec : {M : Type 1} → stated.statement M
both_ends_spec 𝓤 𝓛 𝓜 𝓡 wired = let 𝓣' = tables 𝓤 𝓛.H 𝓜 𝓡 𝓡.env in
    entered 𝓤 𝓛.H (triple_of 𝓛 ended.signature (closing 𝓛 ended (held 𝓛 𝓜 𝓡))) 𝓣'.C 𝓣'.Λ #self (function 𝓛 𝓜 𝓡)
    (code.unfolded 𝓤 𝓛.H 𝓜 𝓡 wired) (meets 𝓛 𝓜 𝓡)
