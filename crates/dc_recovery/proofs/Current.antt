-- Leaves as the log has them, one record later.
use Rattle.std.proofs.Common.{◌≡◌, ◌≢◌, ℕ, ◌+◌, ◌≤◌, List, [], ◌∷◌, length, Some, refl, sym, ap, ◌∙◌, arith}
use Rattle.record_key.specs.Table.{Bytes}
use Rattle.codec.specs.declared.image.LeafImage.{LeafImage}
use Rattle.codec.specs.declared.dc_record.DcRecord.{DcRecord}
use Rattle.codec.specs.declared.dc_record.DcRecord.TheVariants.{Accept, Split, Merge}
use Rattle.framed_log.proofs.Beginning.{whole, shorter}
use Rattle.dc_leaf.specs.Leaf.{LeafView, first}
use Rattle.dc_leaf.specs.Parting.{lower_of}
use Rattle.dc_leaf.specs.Tiles.{part_of}
use Rattle.dc_recovery.specs.Images.{leaf_of}
use Rattle.dc_recovery.specs.Shape.{part_in, shape, FitsSplit, FitsMerge}
use Rattle.dc_recovery.specs.Laws.{leaf_in, IsSeen, IsCurrent}
use Rattle.dc_recovery.specs.Ready.{LeavesStayCurrent}
use Rattle.dc_recovery.proofs.Finding.{part_own}
use Rattle.dc_recovery.proofs.Splitting.{split_left, split_other}
use Rattle.dc_recovery.proofs.Merging.{merge_other}

-- the record's leaf, if it has one, is another
abbrev pub IsOther : DcRecord → ℕ → Type 0
IsOther r id = (made : LeafView) → leaf_in r ≡ Some made → made.id ≢ id

pub accept_is_other : (session id : ℕ) → IsOther (Accept session) id
accept_is_other session id made at = absurd (cc)

pub split_is_other : (left : ℕ) (cut : Bytes) (right : LeafImage) (id : ℕ) → id ≢ right.id
    → IsOther (Split left cut right) id
split_is_other left cut right id other made at same =
    let e : leaf_of right ≡ made = cc in other (sym (ap (λ (x : LeafView). x.id) e ∙ same))

pub merge_is_other : (log : List DcRecord) (left right : ℕ) (merged : LeafImage) (id : ℕ)
    → FitsMerge log left right merged → id ≢ left → IsOther (Merge left right merged) id
merge_is_other log left right merged id fits other made at same =
    let e : leaf_of merged ≡ made = cc in other (sym (sym fits.id ∙ ap (λ (x : LeafView). x.id) e ∙ same))

-- every record is seen by its end
seen_all : (log : List DcRecord) (id n : ℕ) → length log ≤ n → IsSeen id n log
seen_all [] id n le = tt
seen_all (r ∷ log) id n le = (λ made at own. omega (arith, le), seen_all log id n (omega (arith, le)))

-- what the newest record made, or wrote
pub now_current : (r : DcRecord) (log : List DcRecord) (id : ℕ) (leaf : LeafView) → leaf.last ≡ length log + 1
    → part_in id (shape (r ∷ log)) ≡ Some (part_of leaf) → IsCurrent (r ∷ log) id leaf
now_current r log id leaf last at = record {
  own = part_own id (shape (r ∷ log)) (part_of leaf) at;
  last = omega (arith, last);
  fences = at;
  written = ap (λ (l : List DcRecord). part_in id (shape l)) (whole (r ∷ log) leaf.last (omega (arith, last))) ∙ at;
  seen = seen_all (r ∷ log) id leaf.last (omega (arith, last));
}

-- what it leaves as it was
pub stays_current : (r : DcRecord) (log : List DcRecord) (id : ℕ) (leaf : LeafView)
    → part_in id (shape (r ∷ log)) ≡ part_in id (shape log) → IsOther r id → IsCurrent log id leaf
    → IsCurrent (r ∷ log) id leaf
stays_current r log id leaf same other old = record {
  own = old.own;
  last = omega (arith, old.last);
  fences = same ∙ old.fences;
  written = ap (λ (l : List DcRecord). part_in id (shape l)) (shorter r log leaf.last old.last) ∙ old.written;
  seen = (λ made at own. absurd (other made at own), old.seen);
}

pub first_current : (id : ℕ) → id ≡ 1 → IsCurrent [] id first
first_current id e =
    let at : part_in id (shape []) ≡ Some (part_of first) = ap (λ (z : ℕ). part_in z (shape [])) e in
    record { own = sym e; last = omega arith; fences = at; written = at; seen = tt }

pub accept_current : (log : List DcRecord) (session id : ℕ) (leaf : LeafView) → IsCurrent log id leaf
    → IsCurrent (Accept session ∷ log) id leaf
accept_current log session id leaf old =
    stays_current (Accept session) log id leaf refl (accept_is_other session id) old

pub new_current : (log : List DcRecord) (left : ℕ) (cut : Bytes) (right : LeafImage) → FitsSplit log left cut right
    → IsCurrent (Split left cut right ∷ log) right.id (leaf_of right)
new_current log left cut right fits =
    now_current (Split left cut right) log right.id (leaf_of right) fits.last fits.fences

pub cut_current : (log : List DcRecord) (left : ℕ) (cut : Bytes) (right : LeafImage) (leaf : LeafView)
    → FitsSplit log left cut right → IsCurrent log left leaf
    → IsCurrent (Split left cut right ∷ log) left (lower_of leaf cut (length log + 1))
cut_current log left cut right leaf fits old =
    now_current (Split left cut right) log left (lower_of leaf cut (length log + 1)) refl
    (split_left left right.id cut (shape log) (part_of leaf) old.fences)

pub split_current : (log : List DcRecord) (left : ℕ) (cut : Bytes) (right : LeafImage) (leaf : LeafView) (id : ℕ)
    → FitsSplit log left cut right → id ≢ left → id ≢ right.id → IsCurrent log id leaf
    → IsCurrent (Split left cut right ∷ log) id leaf
split_current log left cut right leaf id fits other fresh old =
    stays_current (Split left cut right) log id leaf (split_other left right.id id cut (shape log) other fresh)
    (split_is_other left cut right id fresh) old

pub merged_current : (log : List DcRecord) (left right : ℕ) (merged : LeafImage) → FitsMerge log left right merged
    → IsCurrent (Merge left right merged ∷ log) left (leaf_of merged)
merged_current log left right merged fits =
    now_current (Merge left right merged) log left (leaf_of merged) fits.last fits.fences

pub merge_current : (log : List DcRecord) (left right : ℕ) (merged : LeafImage) (leaf : LeafView) (id : ℕ)
    → FitsMerge log left right merged → id ≢ left → id ≢ right → IsCurrent log id leaf
    → IsCurrent (Merge left right merged ∷ log) id leaf
merge_current log left right merged leaf id fits other gone old =
    stays_current (Merge left right merged) log id leaf
    (merge_other left right id (shape log) other gone fits.neighbours)
    (merge_is_other log left right merged id fits other) old

-- the law
pub current_stays : LeavesStayCurrent
current_stays = record {
  first_leaf = first_current 1 refl;
  accept = accept_current;
  split = split_current;
  split_left = cut_current;
  split_right = new_current;
  merge = merge_current;
  merge_left = merged_current;
}
