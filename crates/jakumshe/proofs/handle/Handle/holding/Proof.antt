-- `holding` takes the box apart, and puts its pointer into the struct.
use Rattle.std.proofs.Common.{◌≡◌, List, [], ◌∷◌, ◌++◌, refl, sym, subst}
use mir.Val.{Val, vptr}
use base.Logic.{SProp, ent, emp, id⊢}
use base.Fml.{ftrue, fsep, fex}
use prog.Wp.{WpFn}
use types.Kit.{‵, raw, ◌⊛◌, ◌$◌, ◌∵◌, !, qed, by, move, keep, split, fsplit, fjoin, fpack, use0, use1, suffices, rewrite}
use types.Run.{stop, fld, of_opd, no_more, and_then, returns, enter}
use types.ByLocal.{alloc_all, pass_all, free_all, look_at, get, get_in, sets, lands_as}
use types.Part.{agg, sub, whole}
use contract.Monad.{fact, fact_i}
use contract.Running.{tables, tables_of}
use denote.Exit.{yes}
use denote.RattleType.{owns}
use denote.Signature.{types_at, plain}
use denote.RawPtr.{block_ptr}
use denote.Steps.{nothing}
use denote.Triple.Entry.{alive}
use denote.Triple.Walked.{Stays, stay_dropped, walk_of, Goes-dropped}
use Rattle.std.specs.Prelude.{Option, Some}
use Rattle.std.proofs.raw_atomic.Walks.{proved_at, leaves}
use Rattle.std.specs.contracts.impls.GlobalAllocator.TheImpl.{ghosts, dict}
use Rattle.std.proofs.impls.GlobalAllocator.TheImpl.Met.{passed}
use Rattle.std_alloc.proofs.boxed.Box.into_raw_with_allocator.Met.{met}
use Rattle.std.proofs.cell.Inside.{one}
use denote.Param.{layout}
use Rattle.jakumshe.proofs.Destruct++none.drop.Symbol.{glues}
use denote.Triple.Call.{calls_at}
use denote.Triple.Table.{framed}
use Rattle.jakumshe.specs.Holding.{boxed}
use Rattle.jakumshe.proofs.HandleSteps.{N, pair, heap_arg, heap_drop, handle_good, handle_in}
use Rattle.jakumshe.proofs.BoxCalls.{Boxed, node_arg, node_arg_laws, heap_arg_laws, boxed_laws, node_drop, node_glue, Apart, apart_at, apart_goes, apart_gives}
use Rattle.jakumshe.specs.contracts.handle.Handle.holding.{ended, clauses}
use Rattle.jakumshe.specs.contracts.handle.Handle.holding.Key.{name as #self}
use Rattle.jakumshe.proofs.handle.Handle.holding.Statement.{statement}
use Rattle.jakumshe.proofs.handle.Handle.holding.Code as code

pub holding_spec : {M : Type 1} → statement M
unfolding tables_of
holding_spec {M} 𝓤 𝓛 𝓜 𝓡 wired =
    let H = 𝓛.H in let 𝓣 = tables 𝓤 H 𝓜 𝓡 𝓡.env in let c = clauses 𝓛 𝓜.mem 𝓡.returns in let fn = code.function in
    let heap = passed 𝓡.env (code.calls-std_heap::GlobalAllocator::allocate 𝓡.env wired) (code.calls-std_heap::GlobalAllocator::deallocate 𝓡.env wired) (code.calls-std_heap::GlobalAllocator::grow 𝓡.env wired) (code.calls-std_heap::GlobalAllocator::shrink 𝓡.env wired) M 𝓤 𝓛 𝓜 𝓡 in
    let heap_glue = glues 𝓡.env (code.calls-jakumshe::Destruct++none::drop 𝓡.env wired) heap_arg heap_arg_laws M 𝓤 𝓛 𝓜 𝓡 in
    let glue = node_glue 𝓤 𝓛 𝓜 𝓡 (code.calls-jakumshe::jakumshe++node++Node+Destruct::drop 𝓡.env wired) in
    let parts = met 𝓤 𝓛 𝓜 𝓡 (code.calls-std_alloc::boxed::Box::into_raw_with_allocator 𝓡.env wired) node_arg heap_arg node_arg_laws heap_arg_laws ghosts dict heap_drop node_drop heap heap_glue glue in
    let hs : Stays ended.signature.params ended.kept = (stay_dropped (plain (λ _. Boxed)) yes, tt) in
    proved_at 𝓛 ended hs c 𝓜 𝓡 (Goes-dropped 𝓛 0 (plain (λ _. Boxed)) yes (λ κs x f. refl), tt) #self fn (code.unfolded 𝓤 H 𝓜 𝓡 wired) (λ z are.
    let κs = z.0.0 in let qs = z.0.1 in let d = z.0.3.0 in let Post : Val → SProp 𝓤 = (walk_of 𝓛 ended hs c).post z in let Run : List Val → SProp 𝓤 = λ ws. WpFn 𝓤 H 𝓣.C 𝓣.Λ fn ws Post in
    let w = one (layout Boxed) z.0.4.0 ((boxed_laws.lawful 𝓛).typed d z.0.4.0 are.0) in let n : Option N.Denot = Some d.value in
    qed 𝓛 ((raw (alive 𝓛 ended.signature κs qs) ⊛ ‵ (owns (types_at ended.signature.params κs) z.0.3 z.0.4)) ∷ raw ((c κs z.0.3).requires z.1) ∷ []) ∵ split ! $ move ! (1 ∷ []) $ fsplit ! $
    rewrite ! 0 (λ (us : List Val). ‵ (Boxed.own_val d us)) w.1 refl $ use1 𝓛 (raw ((Apart 𝓤 𝓛 𝓜 𝓡).pre (apart_at 𝓤 𝓛 𝓜 𝓡 d w.0))) (apart_goes 𝓤 𝓛 𝓜 𝓡 d w.0) $
    suffices ! (Run (w.0 ∷ [])) (subst (λ (us : List Val). ent 𝓤 (Run (w.0 ∷ [])) (Run us)) (sym (λ i. w.1 i ++ [])) (id⊢ 𝓤 (Run (w.0 ∷ [])))) $
    enter ! 𝓣.C 𝓣.Λ fn (w.0 ∷ []) Post $ alloc_all ! (λ l. pass_all ! refl (w.2, tt) $ sets ! (of_opd ! (get ! refl)) refl w.2 $
    calls_at ! (framed 𝓤 H 𝓜 𝓣) (Apart 𝓤 𝓛 𝓜 𝓡) parts (apart_at 𝓤 𝓛 𝓜 𝓡 d w.0) (and_then ! (get ! refl) (no_more !)) (λ u.
    apart_gives 𝓤 𝓛 𝓜 𝓡 ! tt d w.0 u (λ b o h told fits. let p = block_ptr b o in let good = handle_good p h fits in
    nothing ! $ fpack ! (n ≡ Some d.value) (λ _. ftrue) refl $ move ! (1 ∷ 0 ∷ []) $ fjoin ! $ fpack ! N.Denot (λ x. fsep (boxed N d.alloc p x) (fex (n ≡ Some x) (λ _. ftrue))) d.value $
    handle_in ! p h d.alloc n $ use0 𝓛 (raw (fact 𝓤 (n ≡ Some d.value))) (fact_i 𝓤 (n ≡ Some d.value) (emp 𝓤) refl) $ nothing ! $ nothing ! $ fjoin ! $
    lands_as ! told refl good $ sets ! (of_opd ! (get_in ! (fld ! refl (stop !)) (sub ! 0 refl (whole !)))) refl (tt, tt) $ sets ! (of_opd ! (get_in ! (fld ! refl (stop !)) (sub ! 1 refl (whole !)))) refl fits $
    sets ! (of_opd ! (get ! refl)) refl (tt, tt) $ sets ! (agg ! (and_then ! (get ! refl) (and_then ! (get ! refl) (no_more !)))) refl good $
    returns ! (look_at ! 0 refl) $ free_all ! refl $ keep ! (4 ∷ 0 ∷ 2 ∷ 1 ∷ []) $ by ! (leaves 𝓛 ended hs c z (pair (vptr b o) h) (record { at = p; alloc = d.alloc; node = n }) (tt, tt) (tt, tt))))))
