-- One number more captured: one before which only Adds are left out, where it is an Add.
use Rattle.std.proofs.Common.{◌≡◌, ◌≢◌, ◌⊎◌, ℕ, ◌<◌, ◌≤◌, Bool, true, false, cond, List, [], ◌∷◌, refl, sym, ap, ◌∙◌, subst, arith, inl, inr, true≢false, eq-eqb, ne_eqb}
use Rattle.std.specs.List.{AllByRecursion}
use Rattle.std.proofs.lemmas.Bool.{cases_eq}
use Rattle.record_key.specs.declared.op.Op.{Op}
use Rattle.record_key.specs.Table.{AreAdds, value_after}
use Rattle.record_key.proofs.Adds.{adds_commute}
use Rattle.history.specs.Honest.{Numbered, AreCapturedBut, LeavesOutAdds, value_of}
use Rattle.dc_leaf.proofs.OnKey.{captured_but_alike, left_out_alike, value_alike}
use Rattle.dc_leaf.proofs.Captured.{Fall, Stands, captured_there}

-- what is left out are Adds among Adds still, and the captured ones give what the operation leaves
pub record Grows (old new : ℕ → Bool) (o : Op) (done : List Numbered) : Type 0 where
  pub left_out : LeavesOutAdds new done
  pub value : value_of new done ≡ value_after o (value_of old done)

module _ (old new : ℕ → Bool) (n : ℕ) (o : Op) (out : old n ≡ false) (got : new n ≡ true)
    (others : (m : ℕ) → m ≢ n → new m ≡ old m) where
  -- what the operation may come after
  abbrev pub Before : Numbered → Type 0
  Before d = d.number < n → (old d.number ≡ true) ⊎ AreAdds o d.op

  -- what was captured is
  more : (m : ℕ) → old m ≡ true → new m ≡ true
  more m was = elim (cases_eq m n) [ inl e ↦ ap new e ∙ got | inr apart ↦ others m apart ∙ was ]

  all_more : (done : List Numbered) → AllByRecursion (λ d. old d.number ≡ true → new d.number ≡ true) done
  all_more [] = tt
  all_more (d ∷ done) = (more d.number, all_more done)

  -- those before it
  all_older : (l : ℕ) (done : List Numbered) → l ≤ n → Fall l done → AllByRecursion Before done
      → AreCapturedBut o old done
  all_older l [] le falls each = tt
  all_older l (d ∷ done) le falls each =
      (each.0 (omega (arith, le, falls.0)), all_older d.number done (omega (arith, le, falls.0)) falls.1 each.1)

  all_alike : (l : ℕ) (done : List Numbered) → l ≤ n → Fall l done
      → AllByRecursion (λ d. old d.number ≡ new d.number) done
  all_alike l [] le falls = tt
  all_alike l (d ∷ done) le falls = (
    sym (others d.number (λ same. omega (arith, same, le, falls.0))),
    all_alike d.number done (omega (arith, le, falls.0)) falls.1,
  )

  grown_here : (d : Numbered) (done : List Numbered) → d.number ≡ n → d.op ≡ o → Fall d.number done
      → AllByRecursion Before done → LeavesOutAdds old done → Grows old new o (d ∷ done)
  grown_here d done at is falls each h =
      let le : d.number ≤ n = omega (arith, at) in
      let was : old d.number ≡ false = ap old at ∙ out in
      let now : new d.number ≡ true = ap new at ∙ got in
      let alike : AllByRecursion (λ d. old d.number ≡ new d.number) done = all_alike d.number done le falls in
      let all : AreCapturedBut o new done =
      captured_but_alike o old new done (all_more done) (all_older d.number done le falls each) in
      record {
        left_out = (
          λ _. subst (λ x. AreCapturedBut x new done) (sym is) all,
          left_out_alike old new done alike h,
        );
        value = rw (now, was, is) (ap (value_after o) (sym (value_alike old new done alike)));
      }

  -- one that was captured above it is an Add, as it is
  passed : (d : Numbered) (done : List Numbered) (b : Bool) → old d.number ≡ b → Stands n o done
      → LeavesOutAdds old (d ∷ done) → value_of new done ≡ value_after o (value_of old done)
      → (cond b (value_after d.op (value_of new done)) (value_of new done))
      ≡ value_after o (cond b (value_after d.op (value_of old done)) (value_of old done))
  passed d done true was stands h e =
      elim (captured_there d.op old n o done (h.0 was) stands) [
        | inl there ↦ absurd (true≢false (sym there ∙ out))
        | inr both ↦ ap (value_after d.op) e ∙ adds_commute.value d.op o (value_of old done) both
      ]
  passed d done false was stands h e = e

  grown_later : (d : Numbered) (done : List Numbered) → d.number ≢ n → Stands n o done → LeavesOutAdds old (d ∷ done)
      → Grows old new o done → Grows old new o (d ∷ done)
  grown_later d done apart stands h rest =
      let same : new d.number ≡ old d.number = others d.number apart in
      record {
        left_out = (
          λ now. captured_but_alike d.op old new done (all_more done) (h.0 (sym same ∙ now)),
          rest.left_out,
        );
        value = ap (λ b. cond b (value_after d.op (value_of new done)) (value_of new done)) same
            ∙ passed d done (old d.number) refl stands h rest.value;
      }

  pub one_more : (l : ℕ) (done : List Numbered) → Fall l done → Stands n o done → AllByRecursion Before done
      → LeavesOutAdds old done → Grows old new o done
  one_more l [] falls stands each h = absurd stands
  one_more l (d ∷ done) falls stands each h =
      elim (cases_eq d.number n) [
        | inl e ↦ grown_here d done e (rw (eq-eqb d.number n e) at stands) falls.1 each.1 h.1
        | inr apart ↦
            let later : Stands n o done = rw (ne_eqb d.number n apart) at stands in
            grown_later d done apart later h (one_more d.number done falls.1 later each.1 h.1)
      ]
