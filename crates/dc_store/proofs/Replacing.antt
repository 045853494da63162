-- Leaves that are replaced, one after another, by what they are once all above an end is taken back.
use Rattle.std.proofs.Common.{◌≡◌, ℕ, zero, suc, ◌+◌, ◌<◌, ◌≤◌, true, List, [], ◌∷◌, ◌++◌, length, get_or, set, map, Box, refl, sym, ap, ◌∙◌, arith, add-one}
use Rattle.std.specs.declared.alloc.Global.{Global}
use Rattle.std.proofs.lemmas.Bool.{leb-true}
use Rattle.record_key.specs.Entries.{top_in}
use Rattle.record_key.specs.declared.entry.Entry.{Entry}
use Rattle.record_key.proofs.Lists.{all_appended}
use Rattle.dc_leaf.specs.Leaf.{LeafView, first}
use Rattle.dc_leaf.specs.TakingBack.{taken_back}
use Rattle.dc_leaf.specs.Tops.{top, is_within}
use Rattle.dc_leaf.proofs.UpTo.{AreUpTo, all_stay, none_back}
use Rattle.dc_tree.proofs.Raising.{each_below, each_all, each_next}
use Rattle.dc_store.specs.Replacing.{replaced, FitsFences, AllFit}
use Rattle.dc_store.specs.declared.taking_back.Replacement.{Replacement}

-- ---- a leaf without an entry above the end

pub up_to_top : (end : ℕ) (es : List Entry) → top_in es ≤ end → AreUpTo end es
up_to_top end [] le = tt
up_to_top end (e ∷ es) le = (omega (arith, le), up_to_top end es (omega (arith, le)))

within_stays : (end : ℕ) (leaf : LeafView) → is_within end leaf ≡ true → taken_back leaf end ≡ leaf
within_stays end leaf within =
    let all : AreUpTo end leaf.ab.entries = up_to_top end leaf.ab.entries (leb-true (top leaf) end within) in
    (λ i. record leaf {
      rows = none_back end leaf.ab.entries leaf.rows all i;
      ab = record leaf.ab { entries = all_stay end leaf.ab.entries all i };
    })

-- ---- the leaves so far

-- those before the place are as they will be
abbrev pub back_below : ℕ → ℕ → List LeafView → List LeafView
back_below end p leaves = each_below (λ leaf. taken_back leaf end) p leaves

at_next : (f : LeafView → LeafView) (p : ℕ) (leaves : List LeafView)
    → get_or (each_below f p leaves) p first ≡ get_or leaves p first
at_next f zero leaves = refl
at_next f (suc p) [] = refl
at_next f (suc p) (leaf ∷ leaves) = at_next f p leaves

next_stays : (f : LeafView → LeafView) (p : ℕ) (leaves : List LeafView) → p < length leaves
    → f (get_or leaves p first) ≡ get_or leaves p first → each_below f (suc p) leaves ≡ each_below f p leaves
next_stays f p [] there same = absurd (omega (arith, there))
next_stays f zero (leaf ∷ leaves) there same = ap (λ (l : LeafView). l ∷ leaves) same
next_stays f (suc p) (leaf ∷ leaves) there same =
    ap (λ (rest : List LeafView). f leaf ∷ rest) (next_stays f p leaves (omega (arith, there)) same)

replaced_more : (leaves : List LeafView) (rs : List Replacement) (r : Replacement)
    → replaced leaves (rs ++ r ∷ []) ≡ set (replaced leaves rs) r.place r.leaf.value
replaced_more leaves [] r = refl
replaced_more leaves (q ∷ rs) r = replaced_more (set leaves q.place q.leaf.value) rs r

-- these leave them so, each in its place
abbrev pub AreTaken : ℕ → ℕ → List LeafView → List Replacement → Type 0
AreTaken end p leaves rs = AllFit leaves rs × (replaced leaves rs ≡ back_below end p leaves)

module _ (end p : ℕ) (leaves : List LeafView) (leaf : LeafView) (rs : List Replacement) (there : p < length leaves)
    (at : leaf ≡ get_or leaves p first) (so_far : AreTaken end p leaves rs) where
  abbrev back : LeafView → LeafView
  back l = taken_back l end

  pub within_taken : is_within end leaf ≡ true → AreTaken end (p + 1) leaves rs
  within_taken within = (
    so_far.0,
    so_far.1 ∙ rw add-one (sym (next_stays back p leaves there
        (within_stays end (get_or leaves p first) (ap (is_within end) (sym at) ∙ within)))),
  )

  pub copy_taken : (copy : Box LeafView Global) → copy.value ≡ taken_back leaf end
      → AreTaken end (p + 1) leaves (rs ++ record { place = p; leaf = copy } ∷ [])
  copy_taken copy is =
      let r : Replacement = record { place = p; leaf = copy } in
      let is_back : copy.value ≡ back (get_or leaves p first) = is ∙ ap back at in (
        all_appended (FitsFences leaves) rs (r ∷ []) so_far.0 (
          record {
            there = there;
            low = ap (λ (l : LeafView). l.low_fence) is_back;
            high = ap (λ (l : LeafView). l.high_fence) is_back;
          },
          tt,
        ),
        replaced_more leaves rs r
            ∙ (λ i. set (so_far.1 i) p ((is_back ∙ ap back (sym (at_next back p leaves))) i))
            ∙ rw add-one (each_next back p leaves first there),
      )

pub all_taken : (end p : ℕ) (leaves : List LeafView) (rs : List Replacement) → p ≡ length leaves
    → AreTaken end p leaves rs → replaced leaves rs ≡ map (λ leaf. taken_back leaf end) leaves
all_taken end p leaves rs past taken =
    taken.1 ∙ ap (λ (n : ℕ). back_below end n leaves) past ∙ each_all (λ leaf. taken_back leaf end) leaves
