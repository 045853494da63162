-- Pages that are the images of their own leaves.
use Rattle.std.proofs.Common.{◌≡◌, ◌≢◌, ℕ, ◌≤◌, List, [], length, Option, Some, refl, sym, ap, ◌∙◌, subst, append-nil}
use Rattle.std.specs.FinMap as table
use Rattle.codec.specs.declared.image.LeafImage.{LeafImage}
use Rattle.codec.specs.declared.taken.Taken.{Taken}
use Rattle.codec.specs.declared.taken.Taken.TheVariants as took
use Rattle.codec.specs.Images.{image_bytes, IsImage}
use Rattle.codec.specs.Reading.{◌>>=◌, image_at}
use Rattle.codec.proofs.Images.{image_reads}
use Rattle.stable.specs.PagesState.{Pages}
use Rattle.dc_leaf.specs.Leaf.{LeafView}
use Rattle.dc_recovery.specs.Images.{leaf_of, image_of}
use Rattle.dc_recovery.proofs.Images.{images_keep_leaves}
use Rattle.dc_store.specs.Devices.{IsPage, page_in, pages_of}
use Rattle.dc_store.specs.Paging.{IsOwnPage, IsOwnIfAny}

same_image : (image : LeafImage) → IsImage image → image_of (leaf_of image) ≡ image
same_image image fits = images_keep_leaves.image image fits.rows.1

-- the leaf of a page whose bytes are an image
pub image_page : (image : LeafImage) (bytes : List ℕ) → IsImage image → bytes ≡ image_bytes image
    → page_in bytes ≡ Some (leaf_of image)
unfolding page_in
image_page image bytes fits is =
    let all : image_at bytes ≡ Some (image, []) =
    ap image_at (is ∙ sym (append-nil (image_bytes image))) ∙ image_reads.again image [] fits in
    rw all refl

-- so of a page that a leaf was written to that leaf is read
pub page_again : (leaf : LeafView) → IsImage (image_of leaf) → page_in (image_bytes (image_of leaf)) ≡ Some leaf
page_again leaf fits =
    image_page (image_of leaf) (image_bytes (image_of leaf)) fits refl
    ∙ ap (λ (l : LeafView). Some l) (images_keep_leaves.leaf leaf)

pub image_found : (pages : Pages) (id : ℕ) (bytes : List ℕ) (leaf : LeafView) → table.get pages id ≡ Some bytes
    → IsPage bytes leaf → pages_of pages id ≡ Some leaf
image_found pages id bytes leaf is page =
    ap (λ (o : Option (List ℕ)). o >>= page_in) is ∙ ap page_in page.spelled ∙ page_again leaf page.image

-- it is that leaf's own page
pub own_page : (image : LeafImage) (bytes : List ℕ) (id count : ℕ) → IsImage image → bytes ≡ image_bytes image
    → image.id ≡ id → image.last ≤ count → IsOwnPage bytes id count
own_page image bytes id count fits is own last = (
  leaf_of image,
  record {
    kept = (images_keep_leaves.spelled image fits).0;
    image = subst IsImage (sym (same_image image fits)) fits;
    spelled = is ∙ ap image_bytes (sym (same_image image fits));
  },
  own,
  last,
)

-- the image that is read of a page is taken whatever leaf it is of
abbrev pub TakesImages : List ℕ → Taken LeafImage → Type 0
TakesImages bytes taken =
    (image : LeafImage) → IsImage image → bytes ≡ image_bytes image → taken ≡ took.Record image (length bytes)

-- no image was read, so it is no leaf's page
pub no_image : (bytes : List ℕ) (taken : Taken LeafImage) (id count : ℕ) → TakesImages bytes taken
    → ((image : LeafImage) (next : ℕ) → taken ≢ took.Record image next) → IsOwnIfAny (Some bytes) id count → ⊥
no_image bytes taken id count takes none own =
    let page = own bytes refl in
    none (image_of page.0) (length bytes) (takes (image_of page.0) page.1.image page.1.spelled)

-- the image that was read isn't that of this leaf, or is too young
pub other_image : (bytes : List ℕ) (taken : Taken LeafImage) (image : LeafImage) (next id count : ℕ)
    → TakesImages bytes taken → taken ≡ took.Record image next
    → (image.id ≡ id → image.last ≤ count → ⊥) → IsOwnIfAny (Some bytes) id count → ⊥
other_image bytes taken image next id count takes is apart own =
    let page = own bytes refl in
    let both : took.Record image next ≡ took.Record (image_of page.0) (length bytes) =
    sym is ∙ takes (image_of page.0) page.1.image page.1.spelled in
    let same : image ≡ image_of page.0 = cc in
    apart (ap (λ (i : LeafImage). i.id) same ∙ page.2)
    (subst (λ n. n ≤ count) (sym (ap (λ (i : LeafImage). i.last) same)) page.3)

-- a page that was written
pub own_if : (page : Option (List ℕ)) (bytes : List ℕ) (id count : ℕ) → page ≡ Some bytes → IsOwnPage bytes id count
    → IsOwnIfAny page id count
own_if page bytes id count is own other e =
    let both : Some bytes ≡ Some other = sym is ∙ e in
    let same : bytes ≡ other = cc in
    subst (λ (b : List ℕ). IsOwnPage b id count) same own
