-- `of` makes a value of no bytes, at the records of the leaves that it is shown.
use mathlib.Core.Path.{refl}
use mathlib.Core.List.{[], ◌∷◌}
use mir.Syntax.{Args, Fn, a_type, dcons, dnil, named}
use mir.Val.{Val, vstruct, vcons, vnil}
use mir.MapTy.{inst_fn}
use prog.Wp.{WpFn}
use contract.Running.{tables, tables_of}
use sound.WpLaws.{WpFn-mono}
use types.Kit.{‵, raw, ◌⊛◌, ◌$◌, ◌∵◌, !, qed, keep, move, split, join, fjoin, suffices, done}
use types.Run.{no_more, and_then, returns, enter}
use types.Part.{agg}
use types.ByLocal.{alloc_all, pass_all, free_all, look_at, get, sets}
use denote.Builtin.{RefOf}
use denote.Exit.{yes}
use denote.Param.{param, bounded}
use denote.RattleType.{RattleType, owns}
use denote.Ref.{ShrRef, shr_vals, shr_Tells}
use denote.Shadow.{pure_i}
use denote.Signature.{plain}
use denote.Steps.{nothing}
use denote.Triple.Entry.{alive}
use denote.Triple.Spec.{triple_of}
use denote.Triple.Table.{entered}
use denote.Triple.Walked.{says, Stays, stay_dropped, Goes-dropped, ends_at, walked, walk_Meets}
use Rattle.dc_tree.specs.Leaves.{rows_of}
use Rattle.dc_tree.specs.contracts.tree.Tree as L
use Rattle.dc_tree.specs.contracts.tree.TreeLeafSet.TheImpl as leaf_set
use Rattle.dc_store.specs.contracts.system.SystemTxns as S
use Rattle.dc_core.specs.declared.base.Base.{Base}
use Rattle.dc_core.specs.contracts.base.Base as T
use Rattle.dc_core.specs.contracts.base.Base.of.Key.{name as #it}
use Rattle.dc_core.specs.contracts.base.Base.of as it
use Rattle.dc_core.proofs.base.Base.of.Statement as stated
use Rattle.dc_core.proofs.base.Base.of.Code as code

abbrev v : Val
v = vstruct (vcons (vstruct vnil) vnil)

pub of_spec : {M : Type 1} → stated.statement M
unfolding tables_of
of_spec 𝓤 𝓛 𝓜 𝓡 wired D P LD LP gd dd gp dp md mp =
    let inst : Args = bounded (a_type ∷ a_type ∷ []) (D, (P, tt)) (dcons dd (dcons dp dnil)) in
    let fn : Fn = inst_fn inst code.function in
    let Sy : RattleType = S.the_row L.the_row (param 0 D) (param 1 P) leaf_set.ghosts gd gp in
    let En = it.ended D P gd dd gp dp in
    let c = it.clauses D P gd dd gp dp 𝓛 𝓜.mem 𝓡.returns in
    let 𝓣 = tables_of 𝓤 𝓛.H 𝓜 (tables 𝓤 𝓛.H 𝓜 𝓡 𝓡.env) in
    let hs : Stays En.signature.params En.kept =
    (stay_dropped (RefOf (0 ∷ []) tt (plain (λ _. Sy)) (λ _. tt)) yes, tt) in
    entered 𝓤 𝓛.H (triple_of 𝓛 En.signature (it.spec D P gd dd gp dp 𝓛 𝓜.mem 𝓡.returns))
    (tables 𝓤 𝓛.H 𝓜 𝓡 𝓡.env).C (tables 𝓤 𝓛.H 𝓜 𝓡 𝓡.env).Λ (#it inst) fn
    (code.unfolded 𝓤 𝓛.H 𝓜 𝓡 wired (D, (P, tt)) dd dp)
    (walk_Meets 𝓛 En hs
    (Goes-dropped 𝓛 3 (RefOf (0 ∷ []) tt (plain (λ _. Sy)) (λ _. tt)) yes (λ κs x f. refl), tt) c
    (WpFn 𝓤 𝓛.H 𝓣.C 𝓣.Λ fn)
    (WpFn-mono 𝓤 𝓛.H 𝓛.laws 𝓣 fn)
    (walked 𝓛 En hs c (WpFn 𝓤 𝓛.H 𝓣.C 𝓣.Λ fn) (λ κs. (shr_vals, tt))
    (λ κs. (shr_Tells (named 0) κs.0 Sy, tt)) (λ κs qs bounds a g _.
    let r : Base = record { marker = record {}; table = rows_of a.0.now.leaves } in
    qed 𝓛 ((raw (alive 𝓛 En.signature κs qs) ⊛ ‵ (owns (ShrRef (named 0) κs.0 Sy ∷ []) a (shr_vals a.0, tt)))
    ∷ raw ((c κs a).requires g) ∷ []) ∵ split ! $ keep ! (0 ∷ []) $
    enter ! 𝓣.C 𝓣.Λ fn (shr_vals a.0) _ $ alloc_all ! (λ l. pass_all ! refl ((tt, tt), tt) $
    sets ! (agg ! (no_more !)) refl (tt, tt) $ sets ! (agg ! (and_then ! (get ! refl) (no_more !))) refl (tt, (tt, tt))
    $
    returns ! (look_at ! 0 refl) $ free_all ! refl $
    pure_i ! ((T.the_row).own_val r (v ∷ [])) ((λ vss. (tt, ((λ uss. (tt, tt)), tt))), tt)
    (((vstruct vnil ∷ [], tt), (refl, ((tt, (refl, tt)), tt))), tt) $
    suffices ! _ (ends_at 𝓛 En hs c ((κs, qs, bounds, a, (shr_vals a.0, tt)), g) v r (tt, tt) (tt, tt)) $
    says ! refl $ nothing ! $ nothing ! $ fjoin ! $ join ! $ move ! (1 ∷ 0 ∷ []) $ join ! $ done !))))
