-- Which leaf the data component's log gives which keys.
use Rattle.std.specs.Prelude.{◌≡◌, ℕ, ◌+◌, ◌==◌, List, [], ◌∷◌, Option, Some, None, length, if◌then◌else◌}
use Rattle.record_key.specs.Table.{Bytes}
use Rattle.codec.specs.declared.image.LeafImage.{LeafImage}
use Rattle.codec.specs.declared.dc_record.DcRecord.{DcRecord}
use Rattle.codec.specs.declared.dc_record.DcRecord.TheVariants as is
use Rattle.dc_leaf.specs.Tiles.{Part, part_of, IsInside}
use Rattle.dc_recovery.specs.Images.{leaf_of}

-- the part of this number
abbrev pub part_in : ℕ → List Part → Option Part
part_in id [] = None
part_in id (p ∷ ps) = if p.id == id then Some p else part_in id ps

-- no number stands twice
abbrev pub IsOnce : List Part → Type 0
IsOnce [] = Unit {0}
IsOnce (p ∷ ps) = (part_in p.id ps ≡ None) × IsOnce ps

-- the first part's number
abbrev pub first_id : List Part → Option ℕ
first_id [] = None
first_id (p ∷ ps) = Some p.id

-- the number of the part that comes after the one of this number
abbrev pub next_id : ℕ → List Part → Option ℕ
next_id id [] = None
next_id id (p ∷ ps) = if p.id == id then first_id ps else next_id id ps

-- the part below a cut
abbrev pub lower_part : Part → Bytes → Part
lower_part p cut = record p { high = Some cut }

-- the new part from the cut on
abbrev pub upper_part : Part → Bytes → ℕ → Part
upper_part p cut new = record { id = new; low = Some cut; high = p.high }

-- the parts once the left one is cut
abbrev pub split_parts : ℕ → Bytes → ℕ → List Part → List Part
split_parts left cut new [] = []
split_parts left cut new (p ∷ ps) =
    if p.id == left then lower_part p cut ∷ upper_part p cut new ∷ ps else p ∷ split_parts left cut new ps

-- a part that takes in the first of those after it
abbrev pub with_next : Part → List Part → List Part
with_next p [] = p ∷ []
with_next p (q ∷ ps) = record p { high = q.high } ∷ ps

-- the parts once the left one takes in the one after it
abbrev pub merge_parts : ℕ → List Part → List Part
merge_parts left [] = []
merge_parts left (p ∷ ps) = if p.id == left then with_next p ps else p ∷ merge_parts left ps

-- which leaf has which keys after the log, the newest record first: its parts in key order
abbrev pub shape : List DcRecord → List Part
shape [] = record { id = 1; low = None; high = None } ∷ []
shape (is.Accept session ∷ log) = shape log
shape (is.Split left cut right ∷ log) = split_parts left cut right.id (shape log)
shape (is.Merge left right merged ∷ log) = merge_parts left (shape log)

-- the number that was given last, which is the greatest in a legal log
abbrev pub named : List DcRecord → ℕ
named [] = 1
named (is.Accept session ∷ log) = named log
named (is.Split left cut right ∷ log) = right.id
named (is.Merge left right merged ∷ log) = named log

-- the left leaf is there and has the cut inside; the new leaf has the next number, this record's number, and
-- the fences that the record gives it
pub record FitsSplit (log : List DcRecord) (left : ℕ) (cut : Bytes) (right : LeafImage) : Type 0 where
  pub old : Part
  pub there : part_in left (shape log) ≡ Some old
  pub inside : IsInside old cut
  pub next : right.id ≡ named log + 1
  pub last : right.last ≡ length log + 1
  pub fences : part_in right.id (split_parts left cut right.id (shape log)) ≡ Some (part_of (leaf_of right))

-- the two are neighbours; the merged leaf has the left one's number, this record's number, and the keys of both
pub record FitsMerge (log : List DcRecord) (left right : ℕ) (merged : LeafImage) : Type 0 where
  pub neighbours : next_id left (shape log) ≡ Some right
  pub id : merged.id ≡ left
  pub last : merged.last ≡ length log + 1
  pub fences : part_in left (merge_parts left (shape log)) ≡ Some (part_of (leaf_of merged))

-- the record may come next
abbrev pub Fits : List DcRecord → DcRecord → Type 0
Fits log (is.Accept session) = Unit {0}
Fits log (is.Split left cut right) = FitsSplit log left cut right
Fits log (is.Merge left right merged) = FitsMerge log left right merged

-- each record fits those before it
abbrev pub IsLegal : List DcRecord → Type 0
IsLegal [] = Unit {0}
IsLegal (r ∷ log) = Fits log r × IsLegal log
