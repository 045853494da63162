-- The machine values of a `Handle`, and what it owns. Assumes `Logic`.
--     pair         a pointer beside a `Global`
--     heap_arg, heap_drop, heap_al      `Global` as a type argument; its glue; `Global` as an allocator
use Rattle.std.specs.Prelude.{Option, None, Some}
use Rattle.std.proofs.Common.{◌≡◌, ℕ, List, [], ◌∷◌, ◌++◌, refl, ◌∙◌, lit<}
use lib.Dec.{T}
use mathlib.Core.Bool.{◌&&◌, true}
use seplogic.Ra.Ura.{Ura}
use mir.Raw.{raw as bare}
use mir.Syntax.{Dict, ty_ptr, impl, tcons, tnil, dnil}
use mir.Val.{Val, vstruct, vcons, vnil, of_list, has_ty, WT}
use base.Logic.{via, snd∗, guard_i}
use base.Fraction.{full_share}
use types.Logic.{Logic, sem}
use types.Kit.{Item, Goal, Seq, Step, step, given, learn, ‵, ◌$◌, move, drop, fsplit, fjoin, fpick, fpack, feq_i, feq_l, use1}
use contract.Monad.{fact_use}
use denote.RattleType.{RattleType, Valss}
use denote.Builtin.{RawPtr}
use denote.Memory.{lone}
use denote.RawPtr.{Ptr, block_ptr, null_ptr, ptr_val, lies_at, Testable}
use denote.Steps.{nothing}
use denote.Exit.{no}
use denote.Param.{layout, arg}
use denote.Struct.Struct.{within}
use denote.Struct.Owning.{shape}
use Rattle.std.proofs.GlobalToken.{dealloc_token-Testable}
use Rattle.std.proofs.alloc.Calls.{Al, handle_tells}
use Rattle.std.proofs.cell.Inside.{Good}
use Rattle.std.proofs.ResultValues.{and_tt}
use Rattle.std.specs.contracts.alloc.Global as heap
use Rattle.std.specs.contracts.impls.GlobalAllocator.TheImpl.{ghosts, dict}
use Rattle.std.proofs.alloc.Global.TheLaws as heap_laws
use Rattle.jakumshe.specs.Holding.{boxed, kept}
use Rattle.jakumshe.specs.contracts.handle.Handle as handle
use Rattle.jakumshe.specs.contracts.node.Node as node

abbrev pub N : RattleType
N = node.the_row

abbrev pub Z : RattleType
Z = heap.the_row

abbrev pub pair : Val → Val → Val
pair pointer h = vstruct (vcons pointer (vcons h vnil))

abbrev pub heap_arg : RattleType
heap_arg = arg (bare (layout Z)) no Z

abbrev pub heap_drop : Dict
heap_drop = impl ("jakumshe::Destruct++none::drop" ∷ []) (tcons (layout heap_arg) tnil) dnil

abbrev pub heap_al : Al
heap_al = record { row = Z; laws = heap_laws.the_row_laws; g = ghosts; d = dict; drops = heap_drop }

-- a struct's machine value, from those of its two fields
pub of_parts : {whole firsts seconds : List Val} {pointer h : Val} → whole ≡ vstruct (of_list (firsts ++ (seconds ++ []))) ∷ [] → firsts ≡ pointer ∷ [] → seconds ≡ h ∷ [] → whole ≡ pair pointer h ∷ []
of_parts made first second = made ∙ (λ n. vstruct (of_list (first n ++ (second n ++ []))) ∷ [])

pub pointer_good : (p : Ptr) → T (has_ty ty_ptr (ptr_val p)) × WT (ptr_val p)
pointer_good (block_ptr b o) = (tt, tt)
pointer_good null_ptr = (tt, record { fits = lit< tt })

pub handle_good : (p : Ptr) (h : Val) → Good (layout Z) h → T (has_ty ty_ptr (ptr_val p) && (has_ty (layout Z) h && true)) × WT (pair (ptr_val p) h)
handle_good (block_ptr b o) h fits = (and_tt (has_ty (layout Z) h) fits.0, (tt, (fits.1, tt)))
handle_good null_ptr h fits = (and_tt (has_ty (layout Z) h) fits.0, (record { fits = lit< tt }, (fits.1, tt)))

module _ {M : Type 1} {𝓤 : Ura M} {𝓛 : Logic 𝓤} {K : Type 0} {Γ : List (Item 𝓤)} {G : Goal 𝓤 𝓛.H} where
  pub handle_out : K → (d : handle.the_row.Denot) (vs : List Val)
      → ((h : Val) → vs ≡ pair (ptr_val d.at) h ∷ [] → Good (layout Z) h → Seq K 𝓛 (‵ (kept N d.alloc d.at d.node) ∷ ‵ (Z.own_val d.alloc (h ∷ [])) ∷ Γ) G)
      → Seq K 𝓛 (‵ (handle.the_row.own_val d vs) ∷ Γ) G
  handle_out t d vs k =
      fsplit t $ fpick t (λ vss. fsplit t $ feq_l t (λ ev. fsplit t $ feq_l t (λ ep. fsplit t $ handle_tells heap_al t d.alloc vss.1.0 (λ h ea fits. move t (1 ∷ []) $ drop t $ move t (1 ∷ []) $
      k h (of_parts ev ep ea) fits))))

  pub handle_in : K → (p : Ptr) (h : Val) (a : Z.Denot) (n : Option N.Denot)
      → Step K 𝓛 (‵ (handle.the_row.own_val (record { at = p; alloc = a; node = n }) (pair (ptr_val p) h ∷ [])) ∷ Γ) G (‵ (kept N a p n) ∷ ‵ (Z.own_val a (h ∷ [])) ∷ Γ) G
  handle_in t p h a n = step (λ s. let v : Val = pair (ptr_val p) h in
      nothing t $ move t (2 ∷ 0 ∷ []) $ fjoin t $ feq_i t (List Val) (ptr_val p ∷ []) (ptr_val p ∷ []) refl $ fjoin t $ feq_i t (List Val) (v ∷ []) (v ∷ []) refl $ fjoin t $
      fpack t (Valss (RawPtr ∷ Z ∷ [])) (within (shape handle.the_type) (p, (((a.memory.seal, tt), tt), tt)) (v ∷ [])) (ptr_val p ∷ [], (h ∷ [], tt)) $ fjoin t $ s)

  -- at null nothing is owned, and any other pointer may be tested
  pub either_kept : K → (a : Z.Denot) (p : Ptr) (n : Option N.Denot) → (p ≡ null_ptr → n ≡ None → Seq K 𝓛 Γ G)
      → ((b o : ℕ) (x : N.Denot) → p ≡ block_ptr b o → n ≡ Some x → Testable (block_ptr b o) → Seq K 𝓛 (‵ (boxed N a (block_ptr b o) x) ∷ Γ) G) → Seq K 𝓛 (‵ (kept N a p n) ∷ Γ) G
  either_kept t a null_ptr n none one = fpick t (λ e. drop t $ none refl e)
  either_kept t a (block_ptr b o) n none one = fpick t (λ x. fsplit t $ move t (1 ∷ []) $ fpick t (λ e. drop t $ let p : Ptr = block_ptr b o in
      use1 𝓛 (given (Testable p) (‵ (boxed N a p x)))
      (fact_use 𝓤 (Testable p) (via 𝓤 _ (snd∗ 𝓤 (sem 𝓛 (lies_at N full_share p x)) (sem 𝓛 (ghosts.dealloc_token a (bare (lone N.mir)) p))) (dealloc_token-Testable 𝓛 a (bare (lone N.mir)) p))
      (guard_i 𝓤 (Testable p) (sem 𝓛 (boxed N a p x)))) $ learn t (λ s. one b o x refl e s)))
