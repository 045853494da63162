-- Leaves that are written one after another.
use Rattle.std.proofs.Common.{◌≡◌, ℕ, ◌+◌, ◌<◌, ◌≤◌, List, ◌∷◌, length, get_or, drop, refl, sym, ap, ◌∙◌, subst, inl, inr}
use Rattle.std.proofs.lemmas.List.{drop_more, drop_all}
use Rattle.codec.specs.Images.{IsImage}
use Rattle.dc_leaf.specs.Leaf.{LeafView, first}
use Rattle.dc_recovery.specs.Images.{image_of}
use Rattle.dc_store.specs.Changes.{written_to, written_all}
use Rattle.dc_store.specs.Gives.{HaveImages, FailsWriting, FailsAmong}
use Rattle.dc_store.specs.Kept.{IsSystem}
use Rattle.dc_store.specs.SystemView.{SystemView}
use Rattle.dc_store.proofs.Written.{keeps_written_at}

-- what is left to write comes to the same from here as all of it from the start
pub record WritesOn (start now : SystemView) (p : ℕ) : Type 0 where
  pub kept : IsSystem now
  pub same : now.leaves ≡ start.leaves
  pub written : written_all start start.leaves ≡ written_all now (drop p start.leaves)
  pub fails : (new : SystemView) → FailsAmong now (drop p start.leaves) new → FailsAmong start start.leaves new
  pub images : HaveImages (drop p start.leaves) → HaveImages start.leaves

pub begins : (v : SystemView) → IsSystem v → WritesOn v v 0
begins v h = record { kept = h; same = refl; written = refl; fails = λ new f. f; images = λ all. all }

-- the place is among the leaves that are there now
pub within_now : (start now : SystemView) (p : ℕ) → WritesOn start now p → p < length start.leaves
    → p < length now.leaves
within_now start now p h there = subst (λ (n : ℕ). p < n) (sym (ap length h.same)) there

-- one leaf more is written
pub goes_on : (start now new : SystemView) (p : ℕ) → WritesOn start now p → p < length start.leaves
    → new.leaves ≡ now.leaves → IsImage (image_of (get_or now.leaves p first))
    → new ≡ written_to now (get_or now.leaves p first)
    → WritesOn start new (p + 1)
goes_on start now new p h there same image is =
    let leaf : LeafView = get_or start.leaves p first in
    let rest : List LeafView = drop (p + 1) start.leaves in
    let here : get_or now.leaves p first ≡ leaf = ap (λ (leaves : List LeafView). get_or leaves p first) h.same in
    let left : drop p start.leaves ≡ leaf ∷ rest = drop_more start.leaves p first there in
    let then_is : new ≡ written_to now leaf = is ∙ ap (written_to now) here in
    let fits : IsImage (image_of leaf) = subst (λ (l : LeafView). IsImage (image_of l)) here image in
    record {
      kept = subst IsSystem (sym is) (keeps_written_at now p h.kept (within_now start now p h there) image);
      same = same ∙ h.same;
      written = h.written ∙ ap (written_all now) left ∙ ap (λ (v : SystemView). written_all v rest) (sym then_is);
      fails = λ last f. h.fails last (subst (λ (leaves : List LeafView). FailsAmong now leaves last) (sym left)
          (inr (fits, subst (λ (v : SystemView). FailsAmong v rest last) then_is f)));
      images = λ all. h.images (subst HaveImages (sym left) (fits, all));
    }

-- a device fails in a write
pub fails_here : (start now new : SystemView) (p : ℕ) → WritesOn start now p → p < length start.leaves
    → FailsWriting now (get_or now.leaves p first) new → FailsAmong start start.leaves new
fails_here start now new p h there fails =
    let here : get_or now.leaves p first ≡ get_or start.leaves p first =
    ap (λ (leaves : List LeafView). get_or leaves p first) h.same in
    h.fails new
    (subst (λ (leaves : List LeafView). FailsAmong now leaves new) (sym (drop_more start.leaves p first there))
    (inl (subst (λ (leaf : LeafView). FailsWriting now leaf new) here fails)))

-- all are written
pub written_now : (start now : SystemView) (p : ℕ) → WritesOn start now p → length start.leaves ≤ p
    → now ≡ written_all start start.leaves
written_now start now p h past = sym (h.written ∙ ap (written_all now) (drop_all p start.leaves past))

pub images_now : (start now : SystemView) (p : ℕ) → WritesOn start now p → length start.leaves ≤ p
    → HaveImages start.leaves
images_now start now p h past = h.images (subst HaveImages (sym (drop_all p start.leaves past)) tt)
