-- What a running data component keeps, so that recovery after any crash gives good leaves; and that it can read
-- every legal log.
use Rattle.std.specs.Prelude.{◌≡◌, ◌≢◌, ℕ, ◌+◌, ◌≤◌, true, List, [], ◌∷◌, Some, None, length, is_some}
use Rattle.std.specs.List.{AllByRecursion}
use Rattle.record_key.specs.Table.{Bytes}
use Rattle.history.specs.declared.record.Record.{Record}
use Rattle.dc_ab_lsn.specs.AbLsn.{captures}
use Rattle.codec.specs.declared.image.LeafImage.{LeafImage}
use Rattle.codec.specs.declared.dc_record.DcRecord.{DcRecord}
use Rattle.codec.specs.declared.dc_record.DcRecord.TheVariants as is
use Rattle.dc_leaf.specs.Leaf.{LeafView, first}
use Rattle.dc_leaf.specs.Honest.{IsHonestLeaf}
use Rattle.dc_leaf.specs.Parting.{lower_of, upper_of, joined_of}
use Rattle.dc_leaf.specs.Tiles.{part_of, IsInside}
use Rattle.dc_recovery.specs.Images.{leaf_of, image_of}
use Rattle.dc_recovery.specs.Shape.{part_in, next_id, shape, named, FitsSplit, FitsMerge, IsLegal}
use Rattle.framed_log.specs.Beginning.{beginning}
use Rattle.dc_recovery.specs.Recovery.{Pages, recovered, FitPages, written}
use Rattle.dc_recovery.specs.Laws.{leaf_in, IsCurrent, SourcesHave}

-- the old leaves that a record names are there, and a new one has the next number
abbrev pub IsReadable : Pages → List DcRecord → DcRecord → Type 0
IsReadable pages log (is.Accept session) = Unit {0}
IsReadable pages log (is.Split left cut right) =
    (is_some (recovered pages log left) ≡ true) × (right.id ≡ named log + 1)
IsReadable pages log (is.Merge left right merged) =
    (is_some (recovered pages log left) ≡ true) × (is_some (recovered pages log right) ≡ true)

-- that is so of each record
abbrev pub AreReadable : Pages → List DcRecord → Type 0
AreReadable pages [] = Unit {0}
AreReadable pages (r ∷ log) = IsReadable pages log r × AreReadable pages log

-- whatever the pages hold
abbrev pub LegalIsReadable : Type 0
LegalIsReadable = (pages : Pages) (log : List DcRecord) → IsLegal log → AreReadable pages log

-- a leaf as the log has it stays so
pub record LeavesStayCurrent : Type 0 where
  pub first_leaf : IsCurrent [] 1 first
  pub accept : (log : List DcRecord) (session id : ℕ) (leaf : LeafView) → IsCurrent log id leaf
      → IsCurrent (is.Accept session ∷ log) id leaf
  pub split : (log : List DcRecord) (left : ℕ) (cut : Bytes) (right : LeafImage) (leaf : LeafView) (id : ℕ)
      → FitsSplit log left cut right → id ≢ left → id ≢ right.id → IsCurrent log id leaf
      → IsCurrent (is.Split left cut right ∷ log) id leaf
  pub split_left : (log : List DcRecord) (left : ℕ) (cut : Bytes) (right : LeafImage) (leaf : LeafView)
      → FitsSplit log left cut right → IsCurrent log left leaf
      → IsCurrent (is.Split left cut right ∷ log) left (lower_of leaf cut (length log + 1))
  pub split_right : (log : List DcRecord) (left : ℕ) (cut : Bytes) (right : LeafImage)
      → FitsSplit log left cut right → IsCurrent (is.Split left cut right ∷ log) right.id (leaf_of right)
  pub merge : (log : List DcRecord) (left right : ℕ) (merged : LeafImage) (leaf : LeafView) (id : ℕ)
      → FitsMerge log left right merged → id ≢ left → id ≢ right → IsCurrent log id leaf
      → IsCurrent (is.Merge left right merged ∷ log) id leaf
  pub merge_left : (log : List DcRecord) (left right : ℕ) (merged : LeafImage) → FitsMerge log left right merged
      → IsCurrent (is.Merge left right merged ∷ log) left (leaf_of merged)

-- halves of a leaf that the log has, and two neighbours together, make records that fit: any with these numbers
-- and fences, so also those of the leaf that the cut gives and of the one that the join gives
pub record HalvesFit : Type 0 where
  pub split : (log : List DcRecord) (left : ℕ) (cut : Bytes) (leaf : LeafView) (right : LeafImage)
      → IsLegal log → IsCurrent log left leaf → IsInside (part_of leaf) cut
      → right.id ≡ named log + 1 → right.last ≡ length log + 1
      → right.low_fence ≡ Some cut → right.high_fence ≡ leaf.high_fence → FitsSplit log left cut right
  pub merge : (log : List DcRecord) (left right : ℕ) (leaf other : LeafView) (merged : LeafImage)
      → IsLegal log → IsCurrent log left leaf → IsCurrent log right other → next_id left (shape log) ≡ Some right
      → merged.id ≡ left → merged.last ≡ length log + 1
      → merged.low_fence ≡ leaf.low_fence → merged.high_fence ≡ other.high_fence → FitsMerge log left right merged
  pub cut : (log : List DcRecord) (leaf : LeafView) (cut : Bytes)
      → IsLegal log → IsCurrent log leaf.id leaf → IsInside (part_of leaf) cut
      → FitsSplit log leaf.id cut (image_of (upper_of leaf cut (named log + 1) (length log + 1)))
  pub join : (log : List DcRecord) (left right : LeafView) → IsLegal log → IsCurrent log left.id left
      → IsCurrent log right.id right → next_id left.id (shape log) ≡ Some right.id
      → FitsMerge log left.id right.id (image_of (joined_of left right (length log + 1)))

-- pages go on to fit: the log grows, more of it is forced, a leaf is written, a crash leaves a beginning
pub record PagesStayFit : Type 0 where
  pub grow : (pages : Pages) (r : DcRecord) (log : List DcRecord) (forced : ℕ) → FitPages pages log forced
      → FitPages pages (r ∷ log) forced
  pub force : (pages : Pages) (log : List DcRecord) (forced more : ℕ) → FitPages pages log forced → forced ≤ more
      → more ≤ length log → FitPages pages log more
  pub write : (pages : Pages) (log : List DcRecord) (forced id : ℕ) (leaf : LeafView) → FitPages pages log forced
      → IsCurrent log id leaf → leaf.last ≤ forced → FitPages (written pages id leaf) log forced
  pub crash : (pages : Pages) (log : List DcRecord) (forced n : ℕ) → FitPages pages log forced → forced ≤ n
      → FitPages pages (beginning log n) (length (beginning log n))

-- whatever beginning a crash leaves, the leaves that recovery then takes have it
abbrev pub IsReady : (LeafView → Type 0) → Pages → List DcRecord → ℕ → Type 0
IsReady P pages log forced =
    (n id : ℕ) → forced ≤ n → part_in id (shape (beginning log n)) ≢ None → SourcesHave P pages id (beginning log n)

-- so every leaf has it after any crash
abbrev pub Recovers : (LeafView → Type 0) → Type 0
Recovers P =
    (pages : Pages) (log : List DcRecord) (forced n id : ℕ) (leaf : LeafView) → IsLegal log → FitPages pages log forced
    → IsReady P pages log forced → forced ≤ n → recovered pages (beginning log n) id ≡ Some leaf → P leaf

-- each leaf that is there has a page that is as the log has it
abbrev pub AreWritten : (LeafView → Type 0) → Pages → List DcRecord → Type 0
AreWritten P pages log =
    (id : ℕ) → part_in id (shape log) ≢ None
    → (page : LeafView) × (pages id ≡ Some page) × IsCurrent log id page × P page

-- each page, each leaf in a record, and the first leaf have it
pub record AllHave (P : LeafView → Type 0) (pages : Pages) (log : List DcRecord) : Type 0 where
  pub first_leaf : P first
  pub page : (id : ℕ) (page : LeafView) → pages id ≡ Some page → P page
  pub logged : AllByRecursion (λ (r : DcRecord). (leaf : LeafView) → leaf_in r ≡ Some leaf → P leaf) log

-- how pages and log come to be ready, and stay so
pub record ReadyStays (P : LeafView → Type 0) : Type 0 where
  pub none : P first → IsReady P (λ id. None) [] 0
  pub all : (pages : Pages) (log : List DcRecord) (forced : ℕ) → AllHave P pages log → IsReady P pages log forced
  pub written_all : (pages : Pages) (log : List DcRecord) (forced : ℕ) → IsLegal log → FitPages pages log forced
      → AreWritten P pages log → IsReady P pages log forced
  pub grow : (pages : Pages) (r : DcRecord) (log : List DcRecord) (forced : ℕ) → IsLegal (r ∷ log)
      → FitPages pages log forced → ((leaf : LeafView) → leaf_in r ≡ Some leaf → P leaf)
      → IsReady P pages log forced → IsReady P pages (r ∷ log) forced
  pub force : (pages : Pages) (log : List DcRecord) (forced more : ℕ) → forced ≤ more → IsReady P pages log forced
      → IsReady P pages log more
  pub write : (pages : Pages) (log : List DcRecord) (forced id : ℕ) (leaf : LeafView) → IsCurrent log id leaf
      → P leaf → IsReady P pages log forced → IsReady P (written pages id leaf) log forced
  pub crash : (pages : Pages) (log : List DcRecord) (forced n : ℕ) → forced ≤ n → IsReady P pages log forced
      → IsReady P pages (beginning log n) (length (beginning log n))

-- a low number of at least a checkpoint's
abbrev pub IsLow : ℕ → LeafView → Type 0
IsLow l leaf = l ≤ leaf.ab.low

-- low numbers stay that high
pub record LowIsRecovered (l : ℕ) : Type 0 where
  pub recovers : Recovers (IsLow l)
  pub stays : ReadyStays (IsLow l)

-- leaves stay honest
pub record HonestIsRecovered (log : List Record) : Type 0 where
  pub recovers : Recovers (IsHonestLeaf log)
  pub stays : ReadyStays (IsHonestLeaf log)

-- honest for a log, with no number captured above this one
pub record IsHonestTo (log : List Record) (end : ℕ) (leaf : LeafView) : Type 0 where
  pub honest : IsHonestLeaf log leaf
  pub within : (n : ℕ) → captures leaf.ab n ≡ true → n ≤ end

-- leaves stay so, also where the log grows from there on
pub record BoundedIsRecovered : Type 0 where
  pub recovers : (log : List Record) (end : ℕ) → Recovers (IsHonestTo log end)
  pub stays : (log : List Record) (end : ℕ) → ReadyStays (IsHonestTo log end)
  pub grow : (r : Record) (log : List Record) (end : ℕ) (pages : Pages) (changes : List DcRecord) (forced : ℕ)
      → end ≤ length log → IsReady (IsHonestTo log end) pages changes forced
      → IsReady (IsHonestTo (r ∷ log) end) pages changes forced
  pub rise : (log : List Record) (end more : ℕ) (pages : Pages) (changes : List DcRecord) (forced : ℕ) → end ≤ more
      → IsReady (IsHonestTo log end) pages changes forced → IsReady (IsHonestTo log more) pages changes forced
