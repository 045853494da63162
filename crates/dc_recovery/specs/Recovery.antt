-- What recovery makes of pages and the data component's log.
use Rattle.std.specs.Prelude.{◌≡◌, ℕ, ◌+◌, ◌≤◌, ◌==◌, List, [], ◌∷◌, Option, Some, None, length, max, nat_lt, if◌then◌else◌}
use Rattle.record_key.specs.Table.{Bytes}
use Rattle.codec.specs.declared.dc_record.DcRecord.{DcRecord}
use Rattle.codec.specs.declared.dc_record.DcRecord.TheVariants as is
use Rattle.dc_leaf.specs.Leaf.{LeafView, first}
use Rattle.dc_leaf.specs.Parting.{lower_of}
use Rattle.dc_leaf.specs.Tiles.{Part, part_of}
use Rattle.dc_recovery.specs.Images.{leaf_of}
use Rattle.dc_recovery.specs.Shape.{part_in, shape}
use Rattle.framed_log.specs.Beginning.{beginning}

-- the last image of each leaf that was written
abbrev pub Pages : Type 0
Pages = ℕ → Option LeafView

-- a cut done again, unless the leaf has it
abbrev pub cut_again : ℕ → Bytes → LeafView → LeafView
cut_again d cut leaf = if nat_lt leaf.last d then lower_of leaf cut d else leaf

-- a merge done again, unless the leaf has it
abbrev pub merged_again : ℕ → LeafView → LeafView → LeafView
merged_again d merged leaf = if nat_lt leaf.last d then merged else leaf

-- the leaf changed, if there is one
abbrev pub changed : (LeafView → LeafView) → Option LeafView → Option LeafView
changed f None = None
changed f (Some leaf) = Some (f leaf)

-- the left leaf changed, and no other
abbrev pub at_left : ℕ → ℕ → (LeafView → LeafView) → Option LeafView → Option LeafView
at_left id left f old = if id == left then changed f old else old

-- the leaf's page, if it has one
abbrev pub page_or : Option LeafView → LeafView → LeafView
page_or None leaf = leaf
page_or (Some page) leaf = page

-- the leaf of this number once the log is done again
abbrev pub recovered : Pages → List DcRecord → ℕ → Option LeafView
recovered pages [] id = if id == 1 then Some (page_or (pages id) first) else None
recovered pages (is.Accept session ∷ log) id = recovered pages log id
recovered pages (is.Split left cut right ∷ log) id =
    if id == right.id
    then Some (page_or (pages id) (leaf_of right))
    else at_left id left (cut_again (length log + 1) cut) (recovered pages log id)
recovered pages (is.Merge left right merged ∷ log) id =
    if id == right
    then None
    else at_left id left (merged_again (length log + 1) (leaf_of merged)) (recovered pages log id)

-- one leaf more, if there is one
abbrev pub with_leaf : Option LeafView → List LeafView → List LeafView
with_leaf None leaves = leaves
with_leaf (Some leaf) leaves = leaf ∷ leaves

-- the leaves of these parts
abbrev pub leaves_of : (ℕ → Option LeafView) → List Part → List LeafView
leaves_of at [] = []
leaves_of at (p ∷ ps) = with_leaf (at p.id) (leaves_of at ps)

-- the leaves once the log is done again, in key order
abbrev pub recover : Pages → List DcRecord → List LeafView
recover pages log = leaves_of (recovered pages log) (shape log)

-- the greatest session that was accepted
abbrev pub stored_session : List DcRecord → ℕ
stored_session [] = 0
stored_session (is.Accept session ∷ log) = max session (stored_session log)
stored_session (r ∷ log) = stored_session log

-- the page is its leaf's, no younger than what was forced, and has the fences that the leaf had then
pub record IsPageOf (log : List DcRecord) (forced id : ℕ) (page : LeafView) : Type 0 where
  pub own : page.id ≡ id
  pub last : page.last ≤ forced
  pub fences : part_in id (shape (beginning log page.last)) ≡ Some (part_of page)

-- so many of the log's records were forced, and the pages are of no later ones
pub record FitPages (pages : Pages) (log : List DcRecord) (forced : ℕ) : Type 0 where
  pub kept : forced ≤ length log
  pub each : (id : ℕ) (page : LeafView) → pages id ≡ Some page → IsPageOf log forced id page

-- the pages once a leaf is written
abbrev pub written : Pages → ℕ → LeafView → Pages
written pages id leaf other = if other == id then Some leaf else pages other
