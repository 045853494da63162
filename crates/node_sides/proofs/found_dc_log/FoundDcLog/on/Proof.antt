-- `on` makes a value of no bytes, at the records that the log holds.
use mathlib.Core.Path.{refl}
use mathlib.Core.List.{List, [], ◌∷◌}
use mir.Syntax.{Args, Fn, a_type, dcons, dnil, named}
use mir.Val.{Val, vstruct, vcons, vnil}
use mir.MapTy.{inst_fn}
use prog.Wp.{WpFn}
use contract.Monad.{fact}
use contract.Running.{tables, tables_of}
use sound.WpLaws.{WpFn-mono}
use types.Kit.{‵, raw, ◌⊛◌, ◌$◌, ◌∵◌, !, qed, keep, move, split, join, fjoin, suffices, done}
use types.Run.{no_more, and_then, returns, enter}
use types.Part.{agg}
use types.ByLocal.{alloc_all, pass_all, free_all, look_at, get, sets}
use denote.Builtin.{RefOf}
use denote.Exit.{yes}
use denote.Param.{param, bounded}
use denote.RattleType.{RattleType, owns}
use denote.Ref.{ShrRef, shr_vals, shr_Tells}
use denote.Shadow.{pure_i}
use denote.Signature.{plain}
use denote.Steps.{nothing, heard}
use denote.Triple.Entry.{alive}
use denote.Triple.Spec.{triple_of}
use denote.Triple.Table.{entered}
use denote.Triple.Walked.{says, Stays, stay_dropped, Goes-dropped, ends_at, walked, walk_Meets}
use Rattle.codec.specs.declared.dc_record.DcRecord.{DcRecord}
use Rattle.node_laws.specs.dc_store.specs.Recovering.{HoldsFrames}
use Rattle.node_sides.specs.declared.found_dc_log.FoundDcLog.{FoundDcLog}
use Rattle.node_sides.specs.contracts.found_dc_log.FoundDcLog as T
use Rattle.node_sides.specs.contracts.found_dc_log.FoundDcLog.on.Key.{name as #it}
use Rattle.node_sides.specs.contracts.found_dc_log.FoundDcLog.on as it
use Rattle.node_sides.proofs.found_dc_log.FoundDcLog.on.Statement as stated
use Rattle.node_sides.proofs.found_dc_log.FoundDcLog.on.Code as code

abbrev v : Val
v = vstruct (vcons (vstruct vnil) vnil)

pub on_spec : {M : Type 1} → stated.statement M
unfolding tables_of
on_spec 𝓤 𝓛 𝓜 𝓡 wired D L d dict met =
    let inst : Args = bounded (a_type ∷ []) (D, tt) (dcons dict dnil) in
    let fn : Fn = inst_fn inst code.function in
    let Log : RattleType = param 0 D in
    let En = it.ended D d dict in
    let c = it.clauses D d dict 𝓛 𝓜.mem 𝓡.returns in
    let 𝓣 = tables_of 𝓤 𝓛.H 𝓜 (tables 𝓤 𝓛.H 𝓜 𝓡 𝓡.env) in
    let hs : Stays En.signature.params En.kept =
    (stay_dropped (RefOf (0 ∷ []) tt (plain (λ _. Log)) (λ _. tt)) yes, tt) in
    entered 𝓤 𝓛.H (triple_of 𝓛 En.signature (it.spec D d dict 𝓛 𝓜.mem 𝓡.returns))
    (tables 𝓤 𝓛.H 𝓜 𝓡 𝓡.env).C (tables 𝓤 𝓛.H 𝓜 𝓡 𝓡.env).Λ (#it inst) fn
    (code.unfolded 𝓤 𝓛.H 𝓜 𝓡 wired (D, tt) dict)
    (walk_Meets 𝓛 En hs
    (Goes-dropped 𝓛 2 (RefOf (0 ∷ []) tt (plain (λ _. Log)) (λ _. tt)) yes (λ κs x f. refl), tt) c
    (WpFn 𝓤 𝓛.H 𝓣.C 𝓣.Λ fn)
    (WpFn-mono 𝓤 𝓛.H 𝓛.laws 𝓣 fn)
    (walked 𝓛 En hs c (WpFn 𝓤 𝓛.H 𝓣.C 𝓣.Λ fn) (λ κs. (shr_vals, tt))
    (λ κs. (shr_Tells (named 0) κs.0 Log, tt)) (λ κs qs bounds a g _.
    let Asked : Type 0 = (records : List DcRecord) × HoldsFrames (d.forced a.0.now) records in
    qed 𝓛 ((raw (alive 𝓛 En.signature κs qs) ⊛ ‵ (owns (ShrRef (named 0) κs.0 Log ∷ []) a (shr_vals a.0, tt)))
    ∷ raw (fact 𝓤 _) ∷ raw (fact 𝓤 Asked) ∷ []) ∵ move ! (2 ∷ []) $ heard ! Asked (λ asked.
    let r : FoundDcLog = record { marker = record {}; log = asked.0 } in
    split ! $ keep ! (0 ∷ []) $
    enter ! 𝓣.C 𝓣.Λ fn (shr_vals a.0) _ $ alloc_all ! (λ l. pass_all ! refl ((tt, tt), tt) $
    sets ! (agg ! (no_more !)) refl (tt, tt) $ sets ! (agg ! (and_then ! (get ! refl) (no_more !))) refl (tt, (tt, tt))
    $
    returns ! (look_at ! 0 refl) $ free_all ! refl $
    pure_i ! ((T.the_row).own_val r (v ∷ [])) ((λ vss. (tt, ((λ uss. (tt, tt)), tt))), tt)
    (((vstruct vnil ∷ [], tt), (refl, ((tt, (refl, tt)), tt))), tt) $
    suffices ! _ (ends_at 𝓛 En hs c ((κs, qs, bounds, a, (shr_vals a.0, tt)), g) v r (tt, tt) (tt, tt)) $
    says ! asked.1 $ nothing ! $ nothing ! $ fjoin ! $ join ! $ move ! (1 ∷ 0 ∷ []) $ join ! $ done !)))))
