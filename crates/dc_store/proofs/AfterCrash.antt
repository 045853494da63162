-- What a crash leaves is as it must be: every leaf that recovery gives has what pages and logged leaves have.
use Rattle.std.proofs.Common.{◌≡◌, ℕ, ◌<◌, ◌≤◌, ◌^◌, List, [], ◌∷◌, length, Option, Some, None, refl, sym, ap, ◌∙◌, subst, arith}
use Rattle.std.specs.List.{AllByRecursion}
use Rattle.std.specs.FinMap as table
use Rattle.codec.specs.declared.image.LeafImage.{LeafImage}
use Rattle.codec.specs.declared.dc_record.DcRecord.{DcRecord}
use Rattle.codec.specs.declared.dc_record.DcRecord.TheVariants as is
use Rattle.codec.specs.DcRecords.{FitsFrame}
use Rattle.codec.specs.Entries.{HasEntryNumber}
use Rattle.codec.specs.Fields.{IsNumber}
use Rattle.codec.specs.Images.{IsImage}
use Rattle.stable.specs.PagesState.{Pages}
use Rattle.record_key.proofs.Lists.{all_from}
use Rattle.dc_leaf.specs.Leaf.{LeafView, IsLeaf, first}
use Rattle.dc_leaf.specs.Tiles.{Part, Tile}
use Rattle.dc_tree.proofs.Kept.{kept_lower}
use Rattle.codec.specs.Reading.{◌>>=◌}
use Rattle.dc_recovery.specs.Images.{leaf_of, image_of, HasLeafNumbers}
use Rattle.dc_recovery.specs.Laws.{leaf_in, IsCurrent, IsKeptByCuts, IsSafeBeginning}
use Rattle.dc_recovery.specs.Leaves.{AreCurrent}
use Rattle.dc_recovery.specs.Ready.{IsReady, AllHave}
use Rattle.dc_recovery.specs.Recovery as recovery
use Rattle.dc_recovery.specs.Recovery.{recovered, leaves_of, recover, with_leaf, FitPages}
use Rattle.dc_recovery.specs.Shape.{IsLegal, shape, named}
use Rattle.framed_log.specs.Beginning.{beginning}
use Rattle.framed_log.proofs.Beginning.{of_beginning}
use Rattle.dc_recovery.proofs.Beginnings.{legal_beginning}
use Rattle.dc_recovery.proofs.Fitting.{fit_beginning}
use Rattle.dc_recovery.proofs.Images.{leaf_again, images_keep_leaves, numbers_stay}
use Rattle.dc_recovery.proofs.Leaves.{recovered_current}
use Rattle.dc_recovery.proofs.Ready.{ready_stays, recovers}
use Rattle.dc_recovery.proofs.Shapes.{tile}
use Rattle.dc_store.specs.Devices.{IsPage, page_in, pages_of}
use Rattle.dc_store.specs.Kept.{IsSystem, IsRecoverable}
use Rattle.dc_store.specs.Crashed.{crashed}
use Rattle.dc_store.specs.SystemView.{SystemView}
use Rattle.dc_store.proofs.Fresh.{first_kept}
use Rattle.dc_store.proofs.PageReading.{image_found}
use Rattle.dc_store.proofs.Restarting.{beginnings}

-- ---- what all sources have

all_of : (P : LeafView → Type 0) (at : ℕ → Option LeafView) → ((id : ℕ) (leaf : LeafView) → at id ≡ Some leaf → P leaf)
    → (ps : List Part)
    → AllByRecursion P (leaves_of at ps)
all_of P at each [] = tt
all_of P at each (p ∷ ps) = by (at p.id) refl (all_of P at each ps)
  where
    by : (x : Option LeafView) → at p.id ≡ x → AllByRecursion P (leaves_of at ps)
        → AllByRecursion P (with_leaf x (leaves_of at ps))
    by None none rest = rest
    by (Some leaf) some rest = (each p.id leaf some, rest)

-- each leaf that is recovered from the first records has what they are ready for, if cuts keep it
pub ready_recovered : (P : LeafView → Type 0) (pages : recovery.Pages) (log : List DcRecord) (forced n : ℕ)
    → IsKeptByCuts P → IsLegal log → FitPages pages log forced
    → forced ≤ n → IsReady P pages log forced → AllByRecursion P (recover pages (beginning log n))
ready_recovered P pages log forced n keeps legal fit le ready =
    all_of P (recovered pages (beginning log n))
    (λ id leaf at. recovers P keeps pages log forced n id leaf legal fit ready le at) (shape (beginning log n))

-- so has each where pages and logged leaves all have it
pub all_recovered : (P : LeafView → Type 0) (pages : recovery.Pages) (log : List DcRecord) (forced n : ℕ)
    → IsKeptByCuts P → IsLegal log → FitPages pages log forced
    → forced ≤ n → AllHave P pages log → AllByRecursion P (recover pages (beginning log n))
all_recovered P pages log forced n keeps legal fit le have =
    ready_recovered P pages log forced n keeps legal fit le ((ready_stays P).all pages log forced have)

-- what each record has, those of a beginning have
pub all_beginning : (P : DcRecord → Type 0) (log : List DcRecord) (n : ℕ) → AllByRecursion P log
    → AllByRecursion P (beginning log n)
all_beginning P log n all = of_beginning (AllByRecursion P) n (λ r l more h. h.1) log all

pub have_beginning : (P : LeafView → Type 0) (pages : recovery.Pages) (log : List DcRecord) (n : ℕ)
    → AllHave P pages log → AllHave P pages (beginning log n)
have_beginning P pages log n h = record {
  first_leaf = h.first_leaf;
  page = h.page;
  logged = all_beginning (λ (r : DcRecord). (leaf : LeafView) → leaf_in r ≡ Some leaf → P leaf) log n h.logged;
}

-- ---- leaves, and numbers that have spellings

-- its last change aside, which the log has
record IsSound (leaf : LeafView) : Type 0 where
  kept : IsLeaf leaf
  id : IsNumber leaf.id
  low : IsNumber leaf.ab.low
  entries : AllByRecursion HasEntryNumber leaf.ab.entries

sound_of : (leaf : LeafView) → IsLeaf leaf → HasLeafNumbers leaf → IsSound leaf
sound_of leaf kept numbers = record { kept = kept; id = numbers.id; low = numbers.low; entries = numbers.entries }

sound_image : (image : LeafImage) → IsImage image → IsSound (leaf_of image)
sound_image image fits = let both = images_keep_leaves.spelled image fits in sound_of (leaf_of image) both.0 both.1

sound_in : (r : DcRecord) → FitsFrame r → (leaf : LeafView) → leaf_in r ≡ Some leaf → IsSound leaf
sound_in (is.Accept session) fits leaf at = absurd (cc)
sound_in (is.Split left cut right) fits leaf at =
    subst IsSound (let same : leaf_of right ≡ leaf = cc in same) (sound_image right fits.0.1.1)
sound_in (is.Merge left right merged) fits leaf at =
    subst IsSound (let same : leaf_of merged ≡ leaf = cc in same) (sound_image merged fits.0.0.1.1)

cuts_keep : IsKeptByCuts IsSound
cuts_keep leaf d cut less inside h =
    let lower =
    numbers_stay.lower (record leaf { last = 0 }) cut 0
    (record { id = h.id; last = omega arith; low = h.low; entries = h.entries }) (omega arith) in
    record { kept = kept_lower leaf cut d h.kept; id = h.id; low = h.low; entries = lower.entries }

sound_page : (pages : Pages)
    → ((id : ℕ) (bytes : List ℕ) → table.get pages id ≡ Some bytes → (leaf : LeafView) × IsPage bytes leaf)
    → (id : ℕ) (page : LeafView) → pages_of pages id ≡ Some page → IsSound page
sound_page pages images id page at = by (table.get pages id) refl
  where
    by : (x : Option (List ℕ)) → table.get pages id ≡ x → IsSound page
    by None none =
        absurd (let no : None ≡ Some page = sym (ap (λ (o : Option (List ℕ)). o >>= page_in) none) ∙ at in cc)
    by (Some bytes) some =
        let leaf = images id bytes some in
        let same : Some leaf.0 ≡ Some page = sym (image_found pages id bytes leaf.0 some leaf.1) ∙ at in
        let image = sound_image (image_of leaf.0) leaf.1.image in
        subst IsSound (let e : leaf.0 ≡ page = cc in e) (subst IsSound (leaf_again leaf.0) image)

sources_sound : (v : SystemView) → IsSystem v → AllHave IsSound (pages_of v.pages) v.log
sources_sound v h = record {
  first_leaf = sound_of first first_kept numbers_stay.first;
  page = sound_page v.pages h.pages;
  logged =
      all_from FitsFrame (λ (r : DcRecord). (leaf : LeafView) → leaf_in r ≡ Some leaf → IsSound leaf) sound_in v.log
      h.records;
}

-- ---- after a crash

named_older : (r : DcRecord) (log : List DcRecord) → IsLegal (r ∷ log) → named log ≤ named (r ∷ log)
named_older (is.Accept session) log legal = omega arith
named_older (is.Split left cut right) log legal = omega (arith, legal.0.next)
named_older (is.Merge left right merged) log legal = omega arith

pub named_shorter : (log : List DcRecord) (n : ℕ) → IsLegal log → named (beginning log n) ≤ named log
named_shorter log n legal =
    (of_beginning (λ (l : List DcRecord). IsLegal l × (named l ≤ named log)) n
    (λ r l more h. (h.0.1, omega (arith, h.1, named_older r l h.0))) log (legal, omega arith)).1

length_shorter : (log : List DcRecord) (n : ℕ) → length (beginning log n) ≤ length log
length_shorter log n =
    of_beginning (λ (l : List DcRecord). length l ≤ length log) n (λ r l more h. omega (arith, h)) log (omega arith)

-- numbers of a leaf whose last change is among so many records
numbered : (log : List DcRecord) (leaf : LeafView) → length log < 2 ^ 48 → IsCurrent log leaf.id leaf → IsSound leaf
    → HasLeafNumbers leaf
numbered log leaf few current sound =
    record { id = sound.id; last = omega (arith, few, current.last); low = sound.low; entries = sound.entries }

all_numbered : (log : List DcRecord) (leaves : List LeafView) → length log < 2 ^ 48
    → AllByRecursion (λ (leaf : LeafView). IsCurrent log leaf.id leaf) leaves
    → AllByRecursion IsSound leaves → AllByRecursion HasLeafNumbers leaves
all_numbered log [] few current sound = tt
all_numbered log (leaf ∷ leaves) few current sound =
    (numbered log leaf few current.0 sound.0, all_numbered log leaves few current.1 sound.1)

pub crashed_kept : (v : SystemView) (n : ℕ) → IsSystem v → IsRecoverable v → v.stable ≤ n → IsSystem (crashed v n)
crashed_kept v n h r le =
    let log : List DcRecord = beginning v.log n in
    let sound : AllByRecursion IsSound (recover (pages_of v.pages) log) =
    all_recovered IsSound (pages_of v.pages) v.log v.stable n cuts_keep r.legal r.fit le (sources_sound v h) in
    let legal : IsLegal log = legal_beginning v.log n r.legal in
    let current : AreCurrent log (recover (pages_of v.pages) log) =
    recovered_current (pages_of v.pages) log v.stable legal
    (fit_beginning (pages_of v.pages) v.log v.stable n r.fit le) in
    let few : length log < 2 ^ 48 = omega (arith, length_shorter v.log n, h.numbered) in
    record {
      leaves = record {
        each = all_from IsSound IsLeaf (λ leaf s. s.kept) (recover (pages_of v.pages) log) sound;
        tile = subst Tile (sym current.parts) (tile log legal);
      };
      numbers = all_numbered log (recover (pages_of v.pages) log) few current.each sound;
      records = all_beginning FitsFrame v.log n h.records;
      numbered = few;
      named = omega (arith, named_shorter v.log n r.legal, h.named);
      pages = h.pages;
    }

pub crashed_recoverable : (v : SystemView) (n : ℕ) → IsRecoverable v → v.stable ≤ n → IsRecoverable (crashed v n)
crashed_recoverable v n r le =
    let log : List DcRecord = beginning v.log n in
    let safe : IsSafeBeginning (pages_of v.pages) log (length log) = beginnings v n r le in
    record {
      legal = safe.legal;
      current = recovered_current (pages_of v.pages) log (length log) safe.legal safe.fit;
      fit = safe.fit;
    }
