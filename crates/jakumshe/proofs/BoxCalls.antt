-- The two calls of `Box` by which a handle takes a node's box apart and makes it again. Assumes `Logic`.
--     Boxed, one_box      the box as a row; what is owned of one is one machine value
--     node_arg, node_drop, node_glue      `Node` as a type argument, with its laws; its glue, and that it is so
--     Apart, apart_at     `into_raw_with_allocator` at a node.        apart_goes, apart_gives     what it is handed, and what the caller has of it
--     Again, again_at     `from_raw` at a node.        again_goes, again_gives     the same of it
-- Neither call needs a lifetime, so each is given the longest.
use Rattle.std.proofs.Common.{◌≡◌, ℕ, List, [], ◌∷◌, refl, ap, ◌∙◌}
use seplogic.Ra.Ura.{Ura}
use mir.Raw.{raw as bare}
use mir.Syntax.{Dict, impl, tnil, dnil, method}
use mir.Val.{Val, vptr}
use base.Fraction.{full_share}
use base.Logic.{SProp, ent, emp, never, id⊢, fst∗}
use base.Fml.{ftrue, fsep, flft}
use prog.Model.{Model}
use prog.Wired.{Wired}
use types.Logic.{Logic, sem}
use types.Kit.{Item, Goal, Seq, Soaks, ‵, raw, ◌⊛◌, some, later, ◌$◌, ◌∵◌, !, qed, move, drop, split, split3, join, fsplit, fjoin, fpick, pick, use0, use1, await, rewrite, feq_i, feq_l, done}
use contract.BorrowLft.{◌⊑◌}
use contract.Monad.{fact, fact_i}
use contract.Running.{Running}
use denote.RattleType.{RattleType}
use denote.Builtin.{RawPtr}
use denote.RawPtr.{Ptr, block_ptr, null_ptr, ptr_val, in_a_block}
use denote.Laws.{Is, shows}
use denote.Steps.{nothing, only, heard, peeks}
use denote.Memory.{lone}
use denote.Exit.{no}
use denote.Param.{layout, layouts, arg}
use denote.Param.Laws.{Laws, arg_laws}
use denote.Param.Glue as glue
use denote.Struct.Tuple.{Tuple}
use denote.Triple.Carry.{AllWithin}
use denote.Triple.Clauses.{Ended, Lasts, lasts, at_exit}
use denote.Triple.Spec.{triple_of}
use denote.Triple.Statement.{Contract}
use denote.Triple.Walked.{Fit}
use borrow.Fn.Glue.{glue_ps, glue_by}
use borrow.Fn.Impl.{via_longer, method_Known}
use borrow.Fn.Kinds.{r_unit, ended_of, stays}
use borrow.Fn.Run.{Over}
use Rattle.std.proofs.cell.Inside.{Good}
use Rattle.std.proofs.alloc.Calls.{handle_tells}
use Rattle.std.proofs.alloc.Global.TheLaws as heap_laws
use Rattle.std.specs.contracts.impls.GlobalAllocator.TheImpl.{ghosts, dict}
use Rattle.std_alloc.specs.contracts.boxed.Box as box
use Rattle.std_alloc.specs.contracts.boxed.Box.into_raw_with_allocator as apart
use Rattle.std_alloc.specs.contracts.boxed.Box.from_raw as again
use Rattle.std_alloc.proofs.boxed.Box.TheLaws as box_laws
use Rattle.jakumshe.specs.Holding.{boxed}
use Rattle.jakumshe.proofs.node.Node.TheLaws as node_laws
use Rattle.jakumshe.proofs.jakumshe++node++Node+Destruct.drop.Symbol as node_drops
use Rattle.jakumshe.proofs.jakumshe++node++Node+Destruct.drop.Kinds as kinds
use Rattle.jakumshe.proofs.jakumshe++node++Node+Destruct.drop.Reads as reads
use Rattle.jakumshe.proofs.jakumshe++node++Node+Destruct.drop.Met as node_met
use Rattle.jakumshe.proofs.HandleSteps.{N, Z, pair, of_parts, heap_arg, heap_drop, heap_al}

abbrev pub Boxed : RattleType
Boxed = box.the_row N Z ghosts

abbrev pub boxed_laws : Laws Boxed
boxed_laws = box_laws.the_row_laws N Z ghosts node_laws.the_row_laws heap_laws.the_row_laws

abbrev pub node_arg : RattleType
node_arg = arg (bare (layout N)) no N

abbrev pub node_arg_laws : Laws node_arg
node_arg_laws = arg_laws (bare (layout N)) no N node_laws.the_row_laws refl

abbrev pub heap_arg_laws : Laws heap_arg
heap_arg_laws = arg_laws (bare (layout Z)) no Z heap_laws.the_row_laws refl

abbrev pub node_drop : Dict
node_drop = impl ("jakumshe::jakumshe++node++Node+Destruct::drop" ∷ []) tnil dnil

module _ {M : Type 1} (𝓤 : Ura M) (𝓛 : Logic 𝓤) (𝓜 : Model 𝓤 𝓛.H) (𝓡 : Running 𝓤 𝓛.H 𝓜) where
  pub node_glue : Wired 𝓡.env node_drops.code → glue.Met 𝓛 𝓜 𝓡 𝓡.env node_arg node_drop
  node_glue wired =
      let k = method node_drop 0 (layouts [] tt) in let En = ended_of 0 kinds.ps kinds.r in
      glue_by node_arg node_arg_laws (record { M = M; 𝓤 = 𝓤; 𝓛 = 𝓛; 𝓜 = 𝓜; 𝓡 = 𝓡 }) node_drop 𝓡.env
      (λ κs a. Lasts En tt a) (λ κs a. lasts En tt a) (λ κs a x ws. Fit En (stays kinds.ps) tt a ws × reads.Learnt tt a x (at_exit En tt a ws)) (λ κs a. AllWithin 1 (κs.0, tt) (N.lives, tt) × Unit {0}) 0 tt (λ κs a h. ((h, tt), tt))
      (via_longer 𝓛 (Over 𝓛 𝓜 𝓡 𝓡.env) 1 (glue_ps node_arg node_arg_laws) r_unit
      (λ κs a. Lasts En tt a) (λ κs a. lasts En tt a) (λ κs a x ws. Fit En (stays kinds.ps) tt a ws × reads.Learnt tt a x (at_exit En tt a ws)) (λ κs a. AllWithin 1 (κs.0, tt) (N.lives, tt) × Unit {0})
      k 0 tt (λ κs. tt) (λ κs a. reads.Asked tt a) (λ κs a p. (tt, tt)) (λ κs bd within a vss qs.
      method_Known 0 kinds.ps kinds.r reads.requires reads.ensures reads.Asked reads.Learnt reads.known (record { M = M; 𝓤 = 𝓤; 𝓛 = 𝓛; 𝓜 = 𝓜; 𝓡 = 𝓡 }) node_drops.name k (node_drops.as_method 𝓡.env wired k refl) (node_met.met 𝓤 𝓛 𝓜 𝓡 wired) ((tt, qs, tt, a, vss), tt)))

  abbrev pub Apart : Contract 𝓤
  Apart = triple_of 𝓛 (apart.signature node_arg heap_arg ghosts dict heap_drop node_drop) (apart.spec node_arg heap_arg ghosts dict heap_drop node_drop 𝓛 𝓜.mem 𝓡.returns)

  abbrev pub apart_at : Boxed.Denot → Val → Apart.Ghost
  apart_at d w = ((([], ([], tt)), (full_share, (full_share, tt)), tt, (d, tt), (w ∷ [], tt)), tt)

  abbrev pub Again : Contract 𝓤
  Again = triple_of 𝓛 (again.signature node_arg heap_arg ghosts dict heap_drop) (again.spec node_arg heap_arg ghosts dict heap_drop 𝓛 𝓜.mem 𝓡.returns)

  abbrev pub again_at : ℕ → ℕ → Val → Z.Denot → N.Denot → Again.Ghost
  again_at b o h a x = ((([], ([], tt)), (full_share, (full_share, tt)), tt, (a, (block_ptr b o, tt)), (h ∷ [], (vptr b o ∷ [], tt))), x)

  -- the tokens of two lifetimes that never end
  abbrev always : Item 𝓤
  always = ‵ (flft [] full_share) ⊛ ‵ (flft [] full_share) ⊛ ‵ ftrue

  abbrev node_lasts : SProp 𝓤
  node_lasts = fact 𝓤 ([] ⊑ N.lives)

  abbrev heap_lasts : SProp 𝓤
  heap_lasts = fact 𝓤 ([] ⊑ Z.lives)

  pub apart_goes : (d : Boxed.Denot) (w : Val) → ent 𝓤 (sem 𝓛 (Boxed.own_val d (w ∷ []))) (Apart.pre (apart_at d w))
  apart_goes d w =
      qed 𝓛 (‵ (Boxed.own_val d (w ∷ [])) ∷ []) ∵ nothing ! $ use0 𝓛 (raw heap_lasts) (fact_i 𝓤 ([] ⊑ Z.lives) (emp 𝓤) (heap_laws.the_within [])) $ join ! $
      use0 𝓛 (raw node_lasts) (fact_i 𝓤 ([] ⊑ N.lives) (emp 𝓤) (node_laws.the_within [])) $ join ! $ nothing ! $ move ! (2 ∷ []) $ fjoin ! $
      nothing ! $ use0 𝓛 (‵ (flft [] full_share)) (𝓛.lfts.lft-nil full_share) $ join ! $ use0 𝓛 (‵ (flft [] full_share)) (𝓛.lfts.lft-nil full_share) $ join ! $ join ! $ join ! $ done !

  pub again_goes : (b o : ℕ) (h : Val) (a : Z.Denot) (x : N.Denot)
      → ent 𝓤 (sem 𝓛 (fsep (boxed N a (block_ptr b o) x) (Z.own_val a (h ∷ [])))) (Again.pre (again_at b o h a x))
  again_goes b o h a x =
      qed 𝓛 (‵ (fsep (boxed N a (block_ptr b o) x) (Z.own_val a (h ∷ []))) ∷ []) ∵ fsplit ! $ use0 𝓛 (raw heap_lasts) (fact_i 𝓤 ([] ⊑ Z.lives) (emp 𝓤) (heap_laws.the_within [])) $ join ! $
      use0 𝓛 (raw node_lasts) (fact_i 𝓤 ([] ⊑ N.lives) (emp 𝓤) (node_laws.the_within [])) $ join ! $
      nothing ! $ feq_i ! (List Val) (vptr b o ∷ []) (vptr b o ∷ []) refl $ fjoin ! $ move ! (2 ∷ []) $ fjoin ! $
      nothing ! $ use0 𝓛 (‵ (flft [] full_share)) (𝓛.lfts.lft-nil full_share) $ join ! $ use0 𝓛 (‵ (flft [] full_share)) (𝓛.lfts.lft-nil full_share) $ join ! $ join ! $ join ! $ done !

  module _ {K : Type 0} {Γ : List (Item 𝓤)} {G : Goal 𝓤 𝓛.H} where
    -- [the box's memory; the allocator]
    pub apart_gives : K → Soaks G → (d : Boxed.Denot) (w u : Val)
        → ((b o : ℕ) (h : Val) → u ≡ pair (vptr b o) h → Good (layout Z) h → Seq K 𝓛 (‵ (boxed N d.alloc (block_ptr b o) d.value) ∷ ‵ (Z.own_val d.alloc (h ∷ [])) ∷ Γ) G)
        → Seq K 𝓛 (raw (Apart.post (apart_at d w) u) ∷ Γ) G
    apart_gives t z d w u next =
        let Pair : RattleType = Tuple (RawPtr ∷ Z ∷ []) in let Taken : Ended = apart.ended node_arg heap_arg ghosts dict heap_drop node_drop in
        use1 𝓛 (later (some (λ (r : Ptr × Z.Denot). (always ⊛ ‵ (Pair.own_val r (u ∷ []))) ⊛ some (λ (ls : Lasts Taken ([], ([], tt)) (d, tt)). ‵ (lasts Taken ([], ([], tt)) (d, tt) ls) ⊛ (raw (fact 𝓤 (r.1 ≡ d.alloc)) ⊛ ‵ (boxed N d.alloc r.0 d.value)))))) (id⊢ 𝓤 (Apart.post (apart_at d w) u)) $
        await t z $ pick t (λ r. split t $ split t $ drop t $ move t (1 ∷ []) $ pick t (λ _. split3 t $ drop t $ heard t (r.1 ≡ d.alloc) (λ same.
        in_a_block t r.0 (λ p. boxed N d.alloc p d.value) (fst∗ 𝓤 (never 𝓤) (sem 𝓛 (ghosts.dealloc_token d.alloc (bare (lone N.mir)) null_ptr))) (λ b o at. move t (1 ∷ []) $
        fpick t (λ parts. fsplit t $ feq_l t (λ whole. fsplit t $ feq_l t (λ first. fsplit t $ rewrite t 0 (λ (a : Z.Denot). ‵ (Z.own_val a parts.1.0)) same refl $ handle_tells heap_al t d.alloc parts.1.0 (λ h second fits. move t (1 ∷ []) $ drop t $
        move t (1 ∷ []) $ next b o h (ap only (of_parts whole (first ∙ ap (λ (p : Ptr). ptr_val p ∷ []) at) second)) fits))))))))

    -- [the box]
    pub again_gives : K → Soaks G → (b o : ℕ) (h : Val) (a : Z.Denot) (x : N.Denot) (u : Val)
        → ((d : Boxed.Denot) → d.value ≡ x → Good (layout Boxed) u → Seq K 𝓛 (‵ (Boxed.own_val d (u ∷ [])) ∷ Γ) G)
        → Seq K 𝓛 (raw (Again.post (again_at b o h a x) u) ∷ Γ) G
    again_gives t z b o h a x u next =
        use1 𝓛 (later (some (λ (d : Boxed.Denot). (always ⊛ ‵ (Boxed.own_val d (u ∷ []))) ⊛ some (λ (ls : Lasts (again.ended node_arg heap_arg ghosts dict heap_drop) ([], ([], tt)) (a, (block_ptr b o, tt))).
        ‵ (lasts (again.ended node_arg heap_arg ghosts dict heap_drop) ([], ([], tt)) (a, (block_ptr b o, tt)) ls) ⊛ (raw (fact 𝓤 (d.value ≡ x)) ⊛ raw (fact 𝓤 (d.alloc ≡ a))))))) (id⊢ 𝓤 (Again.post (again_at b o h a x) u)) $
        await t z $ pick t (λ d. split t $ split t $ drop t $ move t (1 ∷ []) $ pick t (λ _. split3 t $ drop t $ heard t (d.value ≡ x) (λ same. drop t $
        peeks t Boxed (Is Boxed) (shows 𝓛 Boxed) d (u ∷ []) (λ is. next d same ((boxed_laws.lawful 𝓛).typed d (u ∷ []) is).0))))
