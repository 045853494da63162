-- The example's log is legal, and its pages fit it.
use Rattle.std.proofs.Common.{◌≡◌, ℕ, Some, None, refl, sym, subst, arith, inl, inr, eq-eqb, ne_eqb}
use Rattle.std.proofs.lemmas.Bool.{cases_eq}
use Rattle.dc_leaf.specs.Leaf.{LeafView}
use Rattle.dc_recovery.specs.Images.{leaf_of}
use Rattle.dc_recovery.specs.Shape.{IsLegal}
use Rattle.dc_recovery.specs.Recovery.{IsPageOf}
use Rattle.dc_recovery.specs.Example.{image, m, t, log, pages, part, ExampleHolds}

log_is_legal : IsLegal log
log_is_legal = (
  record {
    old = part 1 None (Some t);
    there = refl;
    inside = record { above = refl; under = refl };
    next = refl;
    last = refl;
    fences = refl;
  },
  (
    record { neighbours = refl; id = refl; last = refl; fences = refl },
    (
      tt,
      (
        record {
          old = part 2 (Some m) None;
          there = refl;
          inside = record { above = refl; under = refl };
          next = refl;
          last = refl;
          fences = refl;
        },
        (
          record {
            old = part 1 None None;
            there = refl;
            inside = record { above = refl; under = refl };
            next = refl;
            last = refl;
            fences = refl;
          },
          tt,
        ),
      ),
    ),
  ),
)

same_page : (id : ℕ) (x y : LeafView) → Some x ≡ Some y → IsPageOf log 1 id x → IsPageOf log 1 id y
same_page id x y e h = let same : x ≡ y = cc in subst (λ (z : LeafView). IsPageOf log 1 id z) same h

each_page : (id : ℕ) (page : LeafView) → pages id ≡ Some page → IsPageOf log 1 id page
each_page id page found =
    elim (cases_eq id 1) [
      | inl e ↦
          subst (λ (n : ℕ). IsPageOf log 1 n page) (sym e)
          (same_page 1 (leaf_of (image 1 1 None (Some m))) page (rw (eq-eqb id 1 e) at found)
          (record { own = refl; last = omega arith; fences = refl }))
      | inr other ↦ elim (cases_eq id 2) [
        | inl e ↦
            subst (λ (n : ℕ). IsPageOf log 1 n page) (sym e)
            (same_page 2 (leaf_of (image 2 1 (Some m) None)) page (rw (ne_eqb id 1 other, eq-eqb id 2 e) at found)
            (record { own = refl; last = omega arith; fences = refl }))
        | inr none ↦ let no : None ≡ Some page = rw (ne_eqb id 1 other, ne_eqb id 2 none) at found in absurd (cc)
      ]
    ]

-- the law
pub example_holds : ExampleHolds
example_holds = record {
  legal = log_is_legal;
  fit = record { kept = omega arith; each = each_page };
  parts = refl;
  lasts = refl;
}
