-- A leaf's image keeps the leaf, and its numbers have spellings.
use Rattle.std.proofs.Common.{◌≡◌, ℕ, Bool, List, filter, refl, ap, arith, inl, inr, le-ltb, lt-ltb}
use Rattle.std.specs.List.{AllByRecursion}
use Rattle.std.specs.FinMap as map
use Rattle.std.proofs.lemmas.Bool.{cases_lt}
use Rattle.record_key.specs.Table.{Table, key_of, answer_in}
use Rattle.record_key.specs.Rows.{Row, AreInOrder}
use Rattle.record_key.specs.declared.entry.Entry.{Entry}
use Rattle.record_key.proofs.Lists.{all_from}
use Rattle.record_key.proofs.Rows.{entries-table_of, table_of_entries, own_rows}
use Rattle.dc_ab_lsn.specs.AbLsn.{AbLsnView, raised}
use Rattle.dc_ab_lsn.specs.Parting.{is_under, is_from}
use Rattle.codec.specs.declared.image.LeafImage.{LeafImage}
use Rattle.codec.specs.Fields.{IsNumber}
use Rattle.codec.specs.Entries.{HasEntryNumber, IsEntry}
use Rattle.codec.specs.Images.{IsOrderedImage, IsImage}
use Rattle.dc_leaf.specs.Leaf.{LeafView, IsLeaf}
use Rattle.dc_leaf.proofs.Performing.{all_placed}
use Rattle.dc_leaf.proofs.Raising.{all_raised}
use Rattle.dc_leaf.proofs.Halves.{all_kept, all_joined}
use Rattle.dc_recovery.specs.Images.{leaf_of, image_of, HasLeafNumbers, ImagesKeepLeaves, NumbersStay}

pub leaf_again : (leaf : LeafView) → leaf_of (image_of leaf) ≡ leaf
leaf_again leaf =
    ap (λ (rows : Table). record leaf { rows = rows })
    (table_of_entries leaf.rows (map.entries leaf.rows) (own_rows leaf.rows) refl)

image_again : (image : LeafImage) → AreInOrder image.rows → image_of (leaf_of image) ≡ image
image_again image ordered =
    ap (λ (rows : List Row). record image { rows = rows }) (entries-table_of image.rows ordered)

ordered_image : (leaf : LeafView) → IsLeaf leaf → HasLeafNumbers leaf → IsOrderedImage (image_of leaf)
ordered_image leaf kept numbers = record {
  id = numbers.id;
  last = numbers.last;
  low = numbers.low;
  rows = own_rows leaf.rows;
  numbers = numbers.entries;
  bounds = record { rows = kept.rows; entries = kept.entries; rising = kept.rising };
}

spelled_image : (image : LeafImage) → IsImage image → IsLeaf (leaf_of image) × HasLeafNumbers (leaf_of image)
spelled_image image spelled = (
  record {
    rows = rw (entries-table_of image.rows spelled.rows.1) spelled.bounds.rows;
    entries = spelled.bounds.entries;
    rising = spelled.bounds.rising;
  },
  record {
    id = spelled.id;
    last = spelled.last;
    low = spelled.low;
    entries = all_from IsEntry HasEntryNumber (λ (e : Entry) entry. entry.0) image.entries spelled.entries.1;
  },
)

-- the law of images
pub images_keep_leaves : ImagesKeepLeaves
images_keep_leaves = record { leaf = leaf_again; image = image_again; ordered = ordered_image; spelled = spelled_image }

-- the low number of both is one of the two
raised_low : (v : AbLsnView) (l : ℕ) → IsNumber v.low → IsNumber l → IsNumber (raised v l).low
raised_low v l old new =
    elim (cases_lt v.low l) [
      | inl less ↦ rw (lt-ltb v.low l less) new
      | inr ge ↦ rw (le-ltb v.low l ge) old
    ]

left_numbers : (test : Entry → Bool) (es : List Entry) → AllByRecursion HasEntryNumber es
    → AllByRecursion HasEntryNumber (filter test es)
left_numbers test es all = all_kept HasEntryNumber HasEntryNumber test (λ (e : Entry) number passes. number) es all

-- the law of numbers
pub numbers_stay : NumbersStay
numbers_stay = record {
  first = record { id = omega arith; last = omega arith; low = omega arith; entries = tt };
  perform = λ leaf n o has new. record {
    id = has.id;
    last = has.last;
    low = has.low;
    entries = all_placed HasEntryNumber (record { number = n; key = key_of o; answer = answer_in leaf.rows o })
        leaf.ab.entries new has.entries;
  };
  raise = λ leaf l has new. record {
    id = has.id;
    last = has.last;
    low = raised_low leaf.ab l has.low new;
    entries = all_raised HasEntryNumber leaf.ab l has.entries;
  };
  lower = λ leaf cut d has last. record {
    id = has.id;
    last = last;
    low = has.low;
    entries = left_numbers (λ (e : Entry). is_under cut e.key) leaf.ab.entries has.entries;
  };
  upper = λ leaf cut id d has own last. record {
    id = own;
    last = last;
    low = has.low;
    entries = left_numbers (λ (e : Entry). is_from cut e.key) leaf.ab.entries has.entries;
  };
  join = λ left right d has other last. record {
    id = has.id;
    last = last;
    low = raised_low left.ab right.ab.low has.low other.low;
    entries = all_joined HasEntryNumber left.ab right.ab has.entries other.entries;
  };
}
