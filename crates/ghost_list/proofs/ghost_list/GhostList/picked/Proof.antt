-- `picked` makes a value of no bytes, at the items that the caller picks.
use mathlib.Core.Path.{refl}
use mathlib.Core.List.{[], ◌∷◌}
use mir.Syntax.{Args, Fn, a_type, named, w64}
use mir.Val.{Val, vstruct, vcons, vnil, vptr, vint}
use mir.MapTy.{inst_fn}
use prog.Wp.{WpFn}
use contract.Running.{tables, tables_of}
use sound.WpLaws.{WpFn-mono}
use types.Kit.{‵, raw, ◌⊛◌, ◌$◌, ◌∵◌, !, qed, keep, move, split, join, fjoin, suffices, done}
use types.Run.{no_more, and_then, returns, enter}
use types.Part.{agg}
use types.ByLocal.{alloc_all, pass_all, free_all, look_at, get, sets}
use denote.Builtin.{RefOf, u64}
use denote.Exit.{yes}
use denote.Param.{param, layouts}
use denote.Plain.{uint_vals, uint_Tells}
use denote.RattleType.{RattleType, owns}
use denote.Ref.{shr_vals, shr_Tells}
use denote.Shadow.{pure_i}
use denote.Signature.{plain, types_at}
use denote.Steps.{nothing}
use denote.Triple.Entry.{alive}
use denote.Triple.Spec.{triple_of}
use denote.Triple.Table.{entered}
use denote.Triple.Walked.{says, Stays, stay_dropped, Goes-dropped, ends_at, walked, walk_Meets}
use Rattle.ghost_list.specs.contracts.ghost_list.GhostList as GhostList
use Rattle.ghost_list.specs.contracts.ghost_list.GhostList.picked.Key.{name as #it}
use Rattle.ghost_list.specs.contracts.ghost_list.GhostList.picked as it
use Rattle.ghost_list.proofs.ghost_list.GhostList.picked.Statement as stated
use Rattle.ghost_list.proofs.ghost_list.GhostList.picked.Code as code

abbrev v : Val
v = vstruct (vcons (vstruct vnil) vnil)

pub picked_spec : {M : Type 1} → stated.statement M
unfolding tables_of
picked_spec 𝓤 𝓛 𝓜 𝓡 wired T A B C LT LA LB LC =
    let inst : Args = layouts (a_type ∷ a_type ∷ a_type ∷ a_type ∷ []) (T, (A, (B, (C, tt)))) in
    let fn : Fn = inst_fn inst code.function in
    let Row : RattleType = GhostList.the_row (param 0 T) in
    let En = it.ended T A B C in
    let c = it.clauses T A B C 𝓛 𝓜.mem 𝓡.returns in
    let 𝓣 = tables_of 𝓤 𝓛.H 𝓜 (tables 𝓤 𝓛.H 𝓜 𝓡 𝓡.env) in
    let number = plain (λ _. u64) in
    let one = RefOf (0 ∷ []) tt (plain (λ _. param 1 A)) (λ _. tt) in
    let two = RefOf (1 ∷ []) tt (plain (λ _. param 2 B)) (λ _. tt) in
    let three = RefOf (2 ∷ []) tt (plain (λ _. param 3 C)) (λ _. tt) in
    let hs : Stays En.signature.params En.kept =
    (stay_dropped number yes, (stay_dropped one yes, (stay_dropped two yes, (stay_dropped three yes, tt)))) in
    entered 𝓤 𝓛.H (triple_of 𝓛 En.signature (it.spec T A B C 𝓛 𝓜.mem 𝓡.returns))
    (tables 𝓤 𝓛.H 𝓜 𝓡 𝓡.env).C (tables 𝓤 𝓛.H 𝓜 𝓡 𝓡.env).Λ (#it inst) fn
    (code.unfolded 𝓤 𝓛.H 𝓜 𝓡 wired (T, (A, (B, (C, tt)))))
    (walk_Meets 𝓛 En hs (
      Goes-dropped 𝓛 7 number yes (λ κs x f. refl),
      (
        Goes-dropped 𝓛 7 one yes (λ κs x f. refl),
        (Goes-dropped 𝓛 7 two yes (λ κs x f. refl), (Goes-dropped 𝓛 7 three yes (λ κs x f. refl), tt)),
      ),
    ) c
    (WpFn 𝓤 𝓛.H 𝓣.C 𝓣.Λ fn)
    (WpFn-mono 𝓤 𝓛.H 𝓛.laws 𝓣 fn)
    (walked 𝓛 En hs c (WpFn 𝓤 𝓛.H 𝓣.C 𝓣.Λ fn)
    (λ κs. (uint_vals w64, (shr_vals, (shr_vals, (shr_vals, tt)))))
    (λ κs. (
      uint_Tells w64,
      (
        shr_Tells (named 0) κs.0 (param 1 A),
        (shr_Tells (named 1) κs.1.0 (param 2 B), (shr_Tells (named 2) κs.1.1.0 (param 3 C), tt)),
      ),
    )) (λ κs qs bounds a g are.
    let r : Row.Denot = record { marker = record {}; items = g } in
    qed 𝓛 ((raw (alive 𝓛 En.signature κs qs) ⊛ ‵ (owns (types_at En.signature.params κs) a (uint_vals w64 a.0, (shr_vals a.1.0, (shr_vals a.1.1.0, (shr_vals a.1.1.1.0, tt))))))
    ∷ raw ((c κs a).requires g) ∷ []) ∵
    split ! $ keep ! (0 ∷ []) $
    enter ! 𝓣.C 𝓣.Λ fn
    (vint w64 a.0 ∷ vptr a.1.0.ref_ptr.0 a.1.0.ref_ptr.1 ∷ vptr a.1.1.0.ref_ptr.0 a.1.1.0.ref_ptr.1
    ∷ vptr a.1.1.1.0.ref_ptr.0 a.1.1.1.0.ref_ptr.1 ∷ []) _ $
    alloc_all ! (λ l.
    pass_all ! refl ((tt, record { fits = are.0.1 }), ((tt, tt), ((tt, tt), ((tt, tt), tt)))) $
    sets ! (agg ! (no_more !)) refl (tt, tt) $ sets ! (agg ! (and_then ! (get ! refl) (no_more !))) refl (tt, (tt, tt))
    $
    returns ! (look_at ! 0 refl) $ free_all ! refl $
    pure_i ! (Row.own_val r (v ∷ [])) ((λ vss. (tt, ((λ uss. (tt, tt)), tt))), tt)
    (((vstruct vnil ∷ [], tt), (refl, ((tt, (refl, tt)), tt))), tt) $
    suffices ! _ (ends_at 𝓛 En hs c ((κs, qs, bounds, a, (uint_vals w64 a.0, (shr_vals a.1.0, (shr_vals a.1.1.0, (shr_vals a.1.1.1.0, tt))))), g) v r (tt, (tt, (tt, (tt, tt)))) (tt, (tt, (tt, (tt, tt))))) $
    says ! refl $ nothing ! $ nothing ! $ fjoin ! $ nothing ! $ fjoin ! $ nothing ! $ fjoin ! $ nothing ! $ fjoin ! $
    join ! $ move ! (1 ∷ 0 ∷ []) $ join ! $ done !))))
