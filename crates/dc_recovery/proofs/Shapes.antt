-- The shape of a legal log.
use Rattle.std.proofs.Common.{◌≡◌, ◌≢◌, ℕ, ◌<◌, List, [], ◌∷◌, Some, None, refl, sym, ap, ◌∙◌, arith}
use Rattle.record_key.specs.Table.{Bytes}
use Rattle.codec.specs.declared.image.LeafImage.{LeafImage}
use Rattle.codec.specs.declared.dc_record.DcRecord.{DcRecord}
use Rattle.codec.specs.declared.dc_record.DcRecord.TheVariants.{Accept, Split, Merge}
use Rattle.dc_leaf.specs.Tiles.{Tile}
use Rattle.dc_recovery.specs.Shape.{part_in, shape, named, FitsSplit, IsLegal, IsOnce}
use Rattle.framed_log.specs.Beginning.{beginning}
use Rattle.framed_log.proofs.Beginning.{of_beginning}
use Rattle.dc_recovery.specs.Laws.{ShapesAreWellFormed}
use Rattle.dc_recovery.proofs.Finding.{none_in}
use Rattle.dc_recovery.proofs.Splitting.{split_other, split_once, split_tile}
use Rattle.dc_recovery.proofs.Merging.{merge_none, merge_once, merge_tile}
use Rattle.dc_recovery.proofs.Holders.{holders}

-- no part above the greatest number named
pub known : (log : List DcRecord) (id : ℕ) → IsLegal log → named log < id → part_in id (shape log) ≡ None
known [] id legal above = none_in id (record { id = 1; low = None; high = None }) [] (λ e. omega (arith, e, above)) refl
known (Accept session ∷ log) id legal above = known log id legal.1 above
known (Split left cut right ∷ log) id legal above =
    let fits : FitsSplit log left cut right = legal.0 in
    let none : part_in id (shape log) ≡ None = known log id legal.1 (omega (arith, above, fits.next)) in
    split_other left right.id id cut (shape log)
    (λ e. let no : Some fits.old ≡ None = sym fits.there ∙ ap (λ (x : ℕ). part_in x (shape log)) (sym e)
    ∙ none in absurd (cc))
    (λ e. omega (arith, e, above))
    ∙ none
known (Merge left right merged ∷ log) id legal above = merge_none left id (shape log) (known log id legal.1 above)

-- so the new part is new
pub new_part : (log : List DcRecord) (left : ℕ) (cut : Bytes) (right : LeafImage) → IsLegal log
    → FitsSplit log left cut right → part_in right.id (shape log) ≡ None
new_part log left cut right legal fits = known log right.id legal (omega (arith, fits.next))

pub new_apart : (log : List DcRecord) (left : ℕ) (cut : Bytes) (right : LeafImage) → IsLegal log
    → FitsSplit log left cut right → left ≢ right.id
new_apart log left cut right legal fits e =
    let no : Some fits.old ≡ None =
    sym fits.there ∙ ap (λ (x : ℕ). part_in x (shape log)) e ∙ new_part log left cut right legal fits in
    absurd (cc)

pub once : (log : List DcRecord) → IsLegal log → IsOnce (shape log)
once [] legal = (refl, tt)
once (Accept session ∷ log) legal = once log legal.1
once (Split left cut right ∷ log) legal =
    split_once left right.id cut (shape log) (new_apart log left cut right legal.1 legal.0)
    (new_part log left cut right legal.1 legal.0) (once log legal.1)
once (Merge left right merged ∷ log) legal = merge_once left (shape log) (once log legal.1)

pub tile : (log : List DcRecord) → IsLegal log → Tile (shape log)
tile [] legal = (refl, refl)
tile (Accept session ∷ log) legal = tile log legal.1
tile (Split left cut right ∷ log) legal =
    let fits : FitsSplit log left cut right = legal.0 in
    split_tile left right.id cut (shape log) None fits.old fits.there fits.inside (tile log legal.1)
tile (Merge left right merged ∷ log) legal = merge_tile left (shape log) None (tile log legal.1)

-- the law
pub well_formed : ShapesAreWellFormed
well_formed log legal = record {
  tile = tile log legal;
  once = once log legal;
  known = λ id above. known log id legal above;
  covers = λ k. holders k (shape log) None (tile log legal);
}

-- a number that isn't named yet had no part before either
pub known_before : (log : List DcRecord) (n id : ℕ) → IsLegal log → named log < id
    → part_in id (shape (beginning log n)) ≡ None
known_before log n id legal above =
    let left = of_beginning (λ (l : List DcRecord). IsLegal l × (named l < id)) n
    (λ r l more h. (h.0.1, grown r l id h.0 h.1)) log (legal, above) in
    known (beginning log n) id left.0 left.1
  where
    grown : (r : DcRecord) (log : List DcRecord) (id : ℕ) → IsLegal (r ∷ log) → named (r ∷ log) < id → named log < id
    grown (Accept session) log id legal above = above
    grown (Split left cut right) log id legal above =
        let fits : FitsSplit log left cut right = legal.0 in omega (arith, fits.next, above)
    grown (Merge left right merged) log id legal above = above
