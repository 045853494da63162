-- `up_to` makes a value of no bytes, at all that the entry shows.
use mathlib.Core.Path.{refl}
use mathlib.Core.List.{[], ◌∷◌}
use seplogic.Ra.Ura.{Ura}
use mir.Syntax.{named}
use mir.Val.{Val, vstruct, vcons, vnil}
use base.Logic.{SProp}
use base.Fml.{ftrue, flft}
use prog.Memory.{Memory}
use prog.Routine.{Routine}
use prog.Wp.{WpFn, Tables}
use types.Logic.{Logic}
use contract.Monad.{Fun}
use contract.Running.{tables, tables_of}
use sound.WpLaws.{WpFn-mono}
use types.Kit.{‵, raw, ◌⊛◌, ◌$◌, ◌∵◌, !, qed, keep, move, split, join, fjoin, suffices, done}
use types.Run.{no_more, and_then, returns, enter}
use types.Part.{agg}
use types.ByLocal.{alloc_all, pass_all, free_all, look_at, get, sets}
use denote.Builtin.{RefOf}
use denote.Exit.{yes}
use denote.RattleType.{RattleType, owns}
use denote.Ref.{ShrRef, shr_vals, shr_Tells}
use denote.Shadow.{pure_i}
use denote.Signature.{plain}
use denote.Steps.{nothing}
use denote.Triple.Spec.{Meets, triple_of}
use denote.Triple.Table.{entered}
use denote.Triple.Walked.{says, Stays, stay_dropped, Goes-dropped, ends_at, walked, walk_Meets}
use Rattle.engine_history.specs.Slots.{through}
use Rattle.engine_history.specs.contracts.entry.Entry as D
use Rattle.engine_history.specs.declared.trace.Trace.{Trace}
use Rattle.engine_history.specs.contracts.trace.Trace as T
use Rattle.engine_history.specs.contracts.tracing.up_to.Key.{name as #it}
use Rattle.engine_history.specs.contracts.tracing.up_to as it
use Rattle.engine_history.proofs.tracing.up_to.Statement as stated
use Rattle.engine_history.proofs.tracing.up_to.Code as code

abbrev Seen : RattleType
Seen = D.the_row

abbrev v : Val
v = vstruct (vcons (vstruct vnil) vnil)

abbrev stayed : Stays (it.ended).signature.params (it.ended).kept
stayed = (stay_dropped (RefOf (0 ∷ []) tt (plain (λ _. Seen)) (λ _. tt)) yes, tt)

meets : {M : Type 1} {𝓤 : Ura M} (𝓛 : Logic 𝓤) → (at_mem : Memory → SProp 𝓤) (run : Routine → Fun 𝓤) (𝓣 : Tables 𝓤 𝓛.H)
    → Meets 𝓛 it.signature (WpFn 𝓤 𝓛.H 𝓣.C 𝓣.Λ code.function) (it.spec 𝓛 at_mem run)
meets {𝓤 = 𝓤} 𝓛 at_mem run 𝓣 =
    let c = it.clauses 𝓛 at_mem run in
    walk_Meets 𝓛 it.ended stayed
    (Goes-dropped 𝓛 1 (RefOf (0 ∷ []) tt (plain (λ _. Seen)) (λ _. tt)) yes (λ κs x f. refl), tt) c
    (WpFn 𝓤 𝓛.H 𝓣.C 𝓣.Λ code.function)
    (WpFn-mono 𝓤 𝓛.H 𝓛.laws 𝓣 code.function)
    (walked 𝓛 it.ended stayed c (WpFn 𝓤 𝓛.H 𝓣.C 𝓣.Λ code.function) (λ κs. (shr_vals, tt))
    (λ κs. (shr_Tells (named 0) κs.0 Seen, tt)) (λ κs qs bounds a g _.
    let r : Trace = record { marker = record {}; steps = through a.0.now } in
    qed 𝓛 (((‵ (flft κs.0 qs.0) ⊛ ‵ ftrue) ⊛ ‵ (owns (ShrRef (named 0) κs.0 Seen ∷ []) a (shr_vals a.0, tt)))
    ∷ raw ((c κs a).requires g) ∷ []) ∵
    split ! $ split ! $ keep ! (0 ∷ []) $
    enter ! 𝓣.C 𝓣.Λ code.function (shr_vals a.0) _ $ alloc_all ! (λ l. pass_all ! refl ((tt, tt), tt) $
    sets ! (agg ! (no_more !)) refl (tt, tt) $ sets ! (agg ! (and_then ! (get ! refl) (no_more !))) refl (tt, (tt, tt))
    $
    returns ! (look_at ! 0 refl) $ free_all ! refl $
    pure_i ! ((T.the_row).own_val r (v ∷ [])) ((λ vss. (tt, ((λ uss. (tt, tt)), tt))), tt)
    (((vstruct vnil ∷ [], tt), (refl, ((tt, (refl, tt)), tt))), tt) $
    suffices ! _ (ends_at 𝓛 it.ended stayed c ((κs, qs, bounds, a, (shr_vals a.0, tt)), g) v r (tt, tt) (tt, tt)) $
    says ! refl $ nothing ! $ nothing ! $ fjoin ! $ join ! $ nothing ! $ move ! (2 ∷ 0 ∷ []) $ join ! $ join ! $ done
    !)))

pub up_to_spec : {M : Type 1} → stated.statement M
unfolding tables_of
up_to_spec 𝓤 𝓛 𝓜 𝓡 wired =
    entered 𝓤 𝓛.H (triple_of 𝓛 it.signature (it.spec 𝓛 𝓜.mem 𝓡.returns))
    (tables 𝓤 𝓛.H 𝓜 𝓡 𝓡.env).C (tables 𝓤 𝓛.H 𝓜 𝓡 𝓡.env).Λ #it code.function (code.unfolded 𝓤 𝓛.H 𝓜 𝓡 wired)
    (meets 𝓛 𝓜.mem 𝓡.returns (tables_of 𝓤 𝓛.H 𝓜 (tables 𝓤 𝓛.H 𝓜 𝓡 𝓡.env)))
