-- Which leaf recovery has of a number, one record later.
use Rattle.std.proofs.Common.{◌≡◌, ◌≢◌, ◌⊎◌, ℕ, ◌+◌, ◌<◌, ◌≤◌, List, [], ◌∷◌, length, Option, Some, None, refl, inl, inr, eq-eqb, ne_eqb, le-ltb, lt-ltb}
use Rattle.std.proofs.lemmas.Bool.{cases_eq}
use Rattle.record_key.specs.Table.{Bytes}
use Rattle.codec.specs.declared.image.LeafImage.{LeafImage}
use Rattle.codec.specs.declared.dc_record.DcRecord.{DcRecord}
use Rattle.codec.specs.declared.dc_record.DcRecord.TheVariants.{Split, Merge}
use Rattle.dc_leaf.specs.Leaf.{LeafView, first}
use Rattle.dc_leaf.specs.Parting.{lower_of}
use Rattle.dc_recovery.specs.Images.{leaf_of}
use Rattle.dc_recovery.specs.Recovery.{Pages, cut_again, merged_again, changed, page_or, recovered}

some_same : (a b : LeafView) → Some a ≡ Some b → a ≡ b
some_same a b e = cc

-- a changed leaf was there before
pub record WasThere (f : LeafView → LeafView) (o : Option LeafView) (leaf : LeafView) : Type 0 where
  pub was : LeafView
  pub there : o ≡ Some was
  pub now : f was ≡ leaf

was_there : (f : LeafView → LeafView) (o : Option LeafView) (leaf : LeafView) → changed f o ≡ Some leaf
    → WasThere f o leaf
was_there f None leaf h = absurd (cc)
was_there f (Some x) leaf h = record { was = x; there = refl; now = some_same (f x) leaf h }

-- what a record does again, or passes over
pub cut_older : (d : ℕ) (cut : Bytes) (x : LeafView) → x.last < d → cut_again d cut x ≡ lower_of x cut d
cut_older d cut x less = rw (lt-ltb x.last d less) refl

pub cut_newer : (d : ℕ) (cut : Bytes) (x : LeafView) → d ≤ x.last → cut_again d cut x ≡ x
cut_newer d cut x ge = rw (le-ltb x.last d ge) refl

pub merged_older : (d : ℕ) (merged x : LeafView) → x.last < d → merged_again d merged x ≡ merged
merged_older d merged x less = rw (lt-ltb x.last d less) refl

pub merged_newer : (d : ℕ) (merged x : LeafView) → d ≤ x.last → merged_again d merged x ≡ x
merged_newer d merged x ge = rw (le-ltb x.last d ge) refl

-- the leaf that a record makes is the page, or the one in the record
pub record Source (o : Option LeafView) (other leaf : LeafView) : Type 0 where
  pub from : (o ≡ Some leaf) ⊎ ((o ≡ None) × (other ≡ leaf))

source : (o : Option LeafView) (other leaf : LeafView) → Some (page_or o other) ≡ Some leaf → Source o other leaf
source None other leaf h = record { from = inr (refl, some_same other leaf h) }
source (Some page) other leaf h = record { from = inl h }

-- which leaf recovery has, one record later
pub at_new : (pages : Pages) (log : List DcRecord) (left id : ℕ) (cut : Bytes) (right : LeafImage) (leaf : LeafView)
    → id ≡ right.id
    → recovered pages (Split left cut right ∷ log) id ≡ Some leaf → Source (pages id) (leaf_of right) leaf
at_new pages log left id cut right leaf e h = source (pages id) (leaf_of right) leaf (rw (eq-eqb id right.id e) at h)

pub at_cut : (pages : Pages) (log : List DcRecord) (left id : ℕ) (cut : Bytes) (right : LeafImage) (leaf : LeafView)
    → id ≢ right.id → id ≡ left
    → recovered pages (Split left cut right ∷ log) id ≡ Some leaf
    → WasThere (cut_again (length log + 1) cut) (recovered pages log id) leaf
at_cut pages log left id cut right leaf other e h =
    was_there (cut_again (length log + 1) cut) (recovered pages log id) leaf
    (rw (ne_eqb id right.id other, eq-eqb id left e) at h)

pub by_split : (pages : Pages) (log : List DcRecord) (left id : ℕ) (cut : Bytes) (right : LeafImage) (leaf : LeafView)
    → id ≢ right.id → id ≢ left
    → recovered pages (Split left cut right ∷ log) id ≡ Some leaf → recovered pages log id ≡ Some leaf
by_split pages log left id cut right leaf other apart h = rw (ne_eqb id right.id other, ne_eqb id left apart) at h

pub at_gone : (pages : Pages) (log : List DcRecord) (left right id : ℕ) (merged : LeafImage) (leaf : LeafView)
    → id ≡ right → recovered pages (Merge left right merged ∷ log) id ≢ Some leaf
at_gone pages log left right id merged leaf e h = let no : None ≡ Some leaf = rw (eq-eqb id right e) at h in cc

pub at_merged : (pages : Pages) (log : List DcRecord) (left right id : ℕ) (merged : LeafImage) (leaf : LeafView)
    → id ≢ right → id ≡ left
    → recovered pages (Merge left right merged ∷ log) id ≡ Some leaf
    → WasThere (merged_again (length log + 1) (leaf_of merged)) (recovered pages log id) leaf
at_merged pages log left right id merged leaf other e h =
    was_there (merged_again (length log + 1) (leaf_of merged)) (recovered pages log id) leaf
    (rw (ne_eqb id right other, eq-eqb id left e) at h)

pub by_merge : (pages : Pages) (log : List DcRecord) (left right id : ℕ) (merged : LeafImage) (leaf : LeafView)
    → id ≢ right → id ≢ left
    → recovered pages (Merge left right merged ∷ log) id ≡ Some leaf → recovered pages log id ≡ Some leaf
by_merge pages log left right id merged leaf other apart h = rw (ne_eqb id right other, ne_eqb id left apart) at h

-- the first leaf is its page, or the empty one
pub at_first : (pages : Pages) (id : ℕ) (leaf : LeafView) → recovered pages [] id ≡ Some leaf
    → (id ≡ 1) × Source (pages id) first leaf
at_first pages id leaf h =
    elim (cases_eq id 1) [
      | inl e ↦ (e, source (pages id) first leaf (rw (eq-eqb id 1 e) at h))
      | inr other ↦ let no : None ≡ Some leaf = rw (ne_eqb id 1 other) at h in absurd (cc)
    ]
