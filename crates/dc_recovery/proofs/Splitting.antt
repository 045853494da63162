-- What a cut of a part leaves of parts that tile the keys.
use Rattle.std.proofs.Common.{◌≡◌, ◌≢◌, ℕ, ◌==◌, true, List, [], ◌∷◌, ◌++◌, Option, Some, None, MatchOption, refl, sym, ap, ◌∙◌, subst, inl, inr, eq-eqb, ne_eqb}
use Rattle.std.specs.Prelude.{if◌then◌else◌}
use Rattle.std.proofs.lemmas.Bool.{cases_eq}
use Rattle.record_key.specs.Table.{Bytes}
use Rattle.record_key.specs.Order.{ends_above}
use Rattle.dc_leaf.specs.Tiles.{Part, starts_below, IsInside, TileFrom}
use Rattle.dc_recovery.specs.Shape.{part_in, lower_part, upper_part, split_parts, IsOnce}
use Rattle.dc_recovery.proofs.Finding.{not_in, none_in}

-- a cut changes no other part
pub split_other : (left new id : ℕ) (cut : Bytes) (ps : List Part) → id ≢ left → id ≢ new
    → part_in id (split_parts left cut new ps) ≡ part_in id ps
split_other left new id cut [] other fresh = refl
split_other left new id cut (p ∷ ps) other fresh =
    elim (cases_eq p.id left) [
      | inl e ↦
          rw (
            eq-eqb p.id left e,
            ne_eqb p.id id (λ same. other (sym same ∙ e)),
            ne_eqb new id
                (λ same. fresh (sym same)),
          ) refl
      | inr apart ↦
          rw (ne_eqb p.id left apart)
          (ap (λ x. if p.id == id then Some p else x) (split_other left new id cut ps other fresh))
    ]

pub split_left : (left new : ℕ) (cut : Bytes) (ps : List Part) (p : Part) → part_in left ps ≡ Some p
    → part_in left (split_parts left cut new ps) ≡ Some (lower_part p cut)
split_left left new cut [] p h = absurd (cc)
split_left left new cut (q ∷ ps) p h =
    elim (cases_eq q.id left) [
      | inl e ↦
          let found : Some q ≡ Some p = rw (eq-eqb q.id left e) at h in
          let same : q ≡ p = cc in
          rw (eq-eqb q.id left e, eq-eqb q.id left e) (ap (λ (x : Part). Some (lower_part x cut)) same)
      | inr apart ↦
          rw (ne_eqb q.id left apart, ne_eqb q.id left apart)
          (split_left left new cut ps p (rw (ne_eqb q.id left apart) at h))
    ]

-- the new part
pub split_new : (left new : ℕ) (cut : Bytes) (ps : List Part) (p : Part) → part_in left ps ≡ Some p
    → part_in new ps ≡ None → part_in new (split_parts left cut new ps) ≡ Some (upper_part p cut new)
split_new left new cut [] p there fresh = absurd (cc)
split_new left new cut (q ∷ ps) p there fresh =
    let out = not_in new q ps fresh in
    elim (cases_eq q.id left) [
      | inl e ↦
          let found : Some q ≡ Some p = rw (eq-eqb q.id left e) at there in
          let same : q ≡ p = cc in
          rw (eq-eqb q.id left e, ne_eqb q.id new out.first, eq-eqb new new refl)
          (ap (λ (x : Part). Some (upper_part x cut new)) same)
      | inr apart ↦
          rw (ne_eqb q.id left apart, ne_eqb q.id new out.first)
          (split_new left new cut ps p (rw (ne_eqb q.id left apart) at there) out.rest)
    ]

pub split_once : (left new : ℕ) (cut : Bytes) (ps : List Part) → left ≢ new → part_in new ps ≡ None → IsOnce ps
    → IsOnce (split_parts left cut new ps)
split_once left new cut [] apart fresh once = tt
split_once left new cut (p ∷ ps) apart fresh once =
    let out = not_in new p ps fresh in
    elim (cases_eq p.id left) [
      | inl e ↦
          rw (eq-eqb p.id left e)
          (none_in p.id (upper_part p cut new) ps (λ same. out.first (sym same)) once.0, (out.rest, once.1))
      | inr other ↦
          rw (ne_eqb p.id left other)
          (split_other left new p.id cut ps other out.first ∙ once.0, split_once left new cut ps apart out.rest once.1)
    ]

-- the parts after one with these fences, that tile the keys with it
abbrev pub Rest : Option Bytes → Option Bytes → List Part → Type 0
Rest low high ps = MatchOption high (ps ≡ []) (λ h. (starts_below low h ≡ true) × TileFrom (Some h) ps)

pub rest_kept : (low high : Option Bytes) (ps qs : List Part) → (ps ≡ [] → qs ≡ [])
    → ((h : Bytes) → TileFrom (Some h) ps → TileFrom (Some h) qs) → Rest low high ps → Rest low high qs
rest_kept low None ps qs none more r = none r
rest_kept low (Some h) ps qs none more r = (r.0, more h r.1)

rest_cut : (low high : Option Bytes) (cut : Bytes) (ps : List Part) → ends_above high cut ≡ true → Rest low high ps
    → Rest (Some cut) high ps
rest_cut low None cut ps under r = r
rest_cut low (Some h) cut ps under r = (under, r.1)

pub split_tile : (left new : ℕ) (cut : Bytes) (ps : List Part) (from : Option Bytes) (old : Part)
    → part_in left ps ≡ Some old → IsInside old cut → TileFrom from ps → TileFrom from (split_parts left cut new ps)
split_tile left new cut [] from old there inside tile = absurd tile
split_tile left new cut (p ∷ ps) from old there inside tile =
    elim (cases_eq p.id left) [
      | inl e ↦
          let found : Some p ≡ Some old = rw (eq-eqb p.id left e) at there in
          let same : old ≡ p = cc in
          let within : IsInside p cut = subst (λ (x : Part). IsInside x cut) same inside in
          rw (eq-eqb p.id left e) (tile.0, (within.above, (refl, rest_cut p.low p.high cut ps within.under tile.1)))
      | inr apart ↦
          let later : part_in left ps ≡ Some old = rw (ne_eqb p.id left apart) at there in
          rw (ne_eqb p.id left apart) (
            tile.0,
            rest_kept p.low p.high ps (split_parts left cut new ps) (λ e. ap (split_parts left cut new) e)
                (λ h r. split_tile left new cut ps (Some h) old later inside r) tile.1,
          )
    ]

-- the cut of a part amid others
pub split_at : (ps qs : List Part) (p : Part) (cut : Bytes) (new : ℕ) → part_in p.id ps ≡ None
    → split_parts p.id cut new (ps ++ p ∷ qs) ≡ ps ++ lower_part p cut ∷ upper_part p cut new ∷ qs
split_at [] qs p cut new none = rw (eq-eqb p.id p.id refl) refl
split_at (x ∷ ps) qs p cut new none =
    let out = not_in p.id x ps none in
    rw (ne_eqb x.id p.id out.first) (ap (λ (rest : List Part). x ∷ rest) (split_at ps qs p cut new out.rest))
