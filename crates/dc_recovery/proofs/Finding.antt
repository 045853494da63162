-- Parts that are found by their numbers.
use Rattle.std.proofs.Common.{◌≡◌, ◌≢◌, ℕ, List, [], ◌∷◌, ◌++◌, Some, None, refl, sym, ap, ◌∙◌, subst, inl, inr, eq-eqb, ne_eqb}
use Rattle.std.proofs.lemmas.Bool.{cases_eq}
use Rattle.dc_leaf.specs.Tiles.{Part}
use Rattle.dc_recovery.specs.Shape.{part_in, first_id, next_id, IsOnce}

-- a part that is found has the number
pub part_own : (id : ℕ) (ps : List Part) (p : Part) → part_in id ps ≡ Some p → p.id ≡ id
part_own id [] p h = absurd (cc)
part_own id (q ∷ ps) p h =
    elim (cases_eq q.id id) [
      | inl e ↦
          let found : Some q ≡ Some p = rw (eq-eqb q.id id e) at h in
          let same : q ≡ p = cc in
          ap (λ (x : Part). x.id) (sym same) ∙ e
      | inr apart ↦ part_own id ps p (rw (ne_eqb q.id id apart) at h)
    ]

-- neither the first part nor any after it has the number
pub record IsNotIn (id : ℕ) (p : Part) (ps : List Part) : Type 0 where
  pub first : p.id ≢ id
  pub rest : part_in id ps ≡ None

pub not_in : (id : ℕ) (p : Part) (ps : List Part) → part_in id (p ∷ ps) ≡ None → IsNotIn id p ps
not_in id p ps h =
    elim (cases_eq p.id id) [
      | inl e ↦ let no : Some p ≡ None = rw (eq-eqb p.id id e) at h in absurd (cc)
      | inr apart ↦ record { first = apart; rest = rw (ne_eqb p.id id apart) at h }
    ]

pub none_in : (id : ℕ) (p : Part) (ps : List Part) → p.id ≢ id → part_in id ps ≡ None → part_in id (p ∷ ps) ≡ None
none_in id p ps apart h = rw (ne_eqb p.id id apart) h

pub found_first : (p : Part) (ps : List Part) → part_in p.id (p ∷ ps) ≡ Some p
found_first p ps = rw (eq-eqb p.id p.id refl) refl

-- a part after another, where no number stands twice
pub found_later : (p : Part) (ps : List Part) (id : ℕ) (q : Part) → part_in p.id ps ≡ None → part_in id ps ≡ Some q
    → part_in id (p ∷ ps) ≡ Some q
found_later p ps id q none h =
    elim (cases_eq p.id id) [
      | inl e ↦ let no : None ≡ Some q = sym none ∙ ap (λ (x : ℕ). part_in x ps) e ∙ h in absurd (cc)
      | inr apart ↦ rw (ne_eqb p.id id apart) h
    ]

-- the part that comes next is there, and so is the one before it
pub next_there : (left right : ℕ) (ps : List Part) → next_id left ps ≡ Some right → part_in right ps ≢ None
next_there left right [] next none = absurd (cc)
next_there left right (p ∷ ps) next none =
    let out = not_in right p ps none in
    elim (cases_eq p.id left) [
      | inl e ↦ first_there ps (rw (eq-eqb p.id left e) at next) out.rest
      | inr apart ↦ next_there left right ps (rw (ne_eqb p.id left apart) at next) out.rest
    ]
  where
    first_there : (qs : List Part) → first_id qs ≡ Some right → part_in right qs ≢ None
    first_there [] h none = absurd (cc)
    first_there (q ∷ qs) h none = let e : q.id ≡ right = cc in (not_in right q qs none).first e

pub next_left : (left right : ℕ) (ps : List Part) → next_id left ps ≡ Some right → part_in left ps ≢ None
next_left left right [] next none = absurd (cc)
next_left left right (p ∷ ps) next none =
    let out = not_in left p ps none in next_left left right ps (rw (ne_eqb p.id left out.first) at next) out.rest

-- what stands nowhere among parts stands in none of the last ones
none_amid : (id : ℕ) (ps qs : List Part) → part_in id (ps ++ qs) ≡ None → part_in id qs ≡ None
none_amid id [] qs none = none
none_amid id (x ∷ ps) qs none = none_amid id ps qs (not_in id x (ps ++ qs) none).rest

-- where no number stands twice, one that stands further on doesn't stand before
pub not_before : (id : ℕ) (ps qs : List Part) → IsOnce (ps ++ qs) → part_in id qs ≢ None → part_in id ps ≡ None
not_before id [] qs once there = refl
not_before id (x ∷ ps) qs once there =
    none_in id x ps (λ same. there (none_amid id ps qs (subst (λ (n : ℕ). part_in n (ps ++ qs) ≡ None) same once.0)))
    (not_before id ps qs once.1 there)

pub once_after : (ps qs : List Part) → IsOnce (ps ++ qs) → IsOnce qs
once_after [] qs once = once
once_after (x ∷ ps) qs once = once_after ps qs once.1

-- the next of two that stand side by side
pub next_at : (ps qs : List Part) (p q : Part) → part_in p.id ps ≡ None → next_id p.id (ps ++ p ∷ q ∷ qs) ≡ Some q.id
next_at [] qs p q none = rw (eq-eqb p.id p.id refl) refl
next_at (x ∷ ps) qs p q none =
    let out = not_in p.id x ps none in rw (ne_eqb x.id p.id out.first) (next_at ps qs p q out.rest)
