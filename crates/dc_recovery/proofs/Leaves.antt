-- The leaves of a running data component stay those of the log's shape.
use Rattle.std.proofs.Common.{◌≡◌, ◌≢◌, ℕ, ◌+◌, ◌≤◌, List, [], ◌∷◌, ◌++◌, length, Option, Some, None, refl, sym, ap, ◌∙◌, subst, arith}
use Rattle.std.specs.List.{AllByRecursion}
use Rattle.record_key.specs.Table.{Bytes}
use Rattle.record_key.proofs.Lists.{all_appended}
use Rattle.codec.specs.declared.dc_record.DcRecord.{DcRecord}
use Rattle.codec.specs.declared.dc_record.DcRecord.TheVariants.{Accept}
use Rattle.dc_leaf.specs.Leaf.{LeafView}
use Rattle.dc_leaf.specs.Parting.{lower_of, upper_of, joined_of}
use Rattle.dc_leaf.specs.Tiles.{Part, part_of, parts_of, IsInside}
use Rattle.dc_recovery.specs.Images.{image_of}
use Rattle.dc_recovery.specs.Shape.{part_in, next_id, shape, named, split_parts, merge_parts, FitsSplit, FitsMerge, IsLegal}
use Rattle.framed_log.specs.Beginning.{beginning}
use Rattle.dc_recovery.specs.Recovery.{Pages, with_leaf, leaves_of, recover, FitPages}
use Rattle.dc_recovery.specs.Laws.{IsSeen, IsCurrent, HasShape}
use Rattle.dc_recovery.specs.Leaves.{AreCurrent, lasts_of, split_of, merge_of, LeavesAreTheShapes}
use Rattle.dc_recovery.proofs.Images.{leaf_again}
use Rattle.dc_recovery.proofs.Finding.{not_in, none_in}
use Rattle.dc_recovery.proofs.Splitting.{split_at}
use Rattle.dc_recovery.proofs.Merging.{merge_at}
use Rattle.dc_recovery.proofs.Current.{first_current, accept_current, split_current, cut_current, new_current, merge_current, merged_current}
use Rattle.dc_recovery.proofs.Presence.{have_shape}
use Rattle.dc_recovery.proofs.Halves.{cut_fits, join_fits}
use Rattle.dc_recovery.proofs.Places.{parts_amid, apart_of, second_apart, second_next, current_named, leaves_once, in_place}

-- each leaf is as the log has it
abbrev Each : List DcRecord → List LeafView → Type 0
Each log leaves = AllByRecursion (λ (leaf : LeafView). IsCurrent log leaf.id leaf) leaves

first_each : (log : List DcRecord) (before after : List LeafView) → Each log (before ++ after) → Each log before
first_each log [] after all = tt
first_each log (x ∷ before) after all = (all.0, first_each log before after all.1)

last_each : (log : List DcRecord) (before after : List LeafView) → Each log (before ++ after) → Each log after
last_each log [] after all = all
last_each log (x ∷ before) after all = last_each log before after all.1

-- leaves with other numbers stay as the log has them, if each does
others_stay : (log more : List DcRecord) (id other : ℕ) (leaves : List LeafView)
    → ((leaf : LeafView) → leaf.id ≢ id → leaf.id ≢ other → IsCurrent log leaf.id leaf → IsCurrent more leaf.id leaf)
    → part_in id (parts_of leaves) ≡ None → part_in other (parts_of leaves) ≡ None → Each log leaves → Each more leaves
others_stay log more id other [] stay none neither all = tt
others_stay log more id other (x ∷ leaves) stay none neither all =
    let out = not_in id (part_of x) (parts_of leaves) none in
    let away = not_in other (part_of x) (parts_of leaves) neither in
    (stay x out.first away.first all.0, others_stay log more id other leaves stay out.rest away.rest all.1)

-- ---- a session is accepted

accept_each : (log : List DcRecord) (session : ℕ) (leaves : List LeafView) → Each log leaves
    → Each (Accept session ∷ log) leaves
accept_each log session [] all = tt
accept_each log session (x ∷ leaves) all =
    (accept_current log session x.id x all.0, accept_each log session leaves all.1)

-- ---- a leaf is cut

-- no leaf has a number that was never given
fresh : (log : List DcRecord) (leaves : List LeafView) → IsLegal log → Each log leaves
    → part_in (named log + 1) (parts_of leaves) ≡ None
fresh log [] legal all = refl
fresh log (x ∷ leaves) legal all =
    none_in (named log + 1) (part_of x) (parts_of leaves) (λ same. omega (arith, same, current_named log x legal all.0))
    (fresh log leaves legal all.1)

module _ (log : List DcRecord) (before after : List LeafView) (leaf : LeafView) (cut : Bytes) (legal : IsLegal log)
    (current : AreCurrent log (before ++ leaf ∷ after)) (inside : IsInside (part_of leaf) cut) where
  -- the leaf below the cut
  abbrev lower : LeafView
  lower = lower_of leaf cut (length log + 1)

  -- the leaf from the cut on
  abbrev upper : LeafView
  upper = upper_of leaf cut (named log + 1) (length log + 1)

  cut_apart : (part_in leaf.id (parts_of before) ≡ None) × (part_in leaf.id (parts_of after) ≡ None)
  cut_apart = apart_of before after leaf (leaves_once log (before ++ leaf ∷ after) legal current)

  cut_parts : parts_of (before ++ lower ∷ upper ∷ after) ≡ shape (split_of log leaf cut ∷ log)
  cut_parts =
      parts_amid before (lower ∷ upper ∷ after)
      ∙ sym (split_at (parts_of before) (parts_of after) (part_of leaf) cut (named log + 1) cut_apart.0)
      ∙ ap (split_parts leaf.id cut (named log + 1)) (sym (parts_amid before (leaf ∷ after)) ∙ current.parts)

  cut_each : Each (split_of log leaf cut ∷ log) (before ++ lower ∷ upper ∷ after)
  cut_each =
      let firsts : Each log before = first_each log before (leaf ∷ after) current.each in
      let lasts : Each log (leaf ∷ after) = last_each log before (leaf ∷ after) current.each in
      let fits : FitsSplit log leaf.id cut (image_of upper) = cut_fits log leaf cut legal lasts.0 inside in
      let stay : (x : LeafView) → x.id ≢ leaf.id → x.id ≢ named log + 1 → IsCurrent log x.id x
      → IsCurrent (split_of log leaf cut ∷ log) x.id x =
      λ x other new old. split_current log leaf.id cut (image_of upper) x x.id fits other new old in
      all_appended (λ (x : LeafView). IsCurrent (split_of log leaf cut ∷ log) x.id x) before (lower ∷ upper ∷ after)
      (others_stay log (split_of log leaf cut ∷ log) leaf.id (named log + 1) before stay cut_apart.0
      (fresh log before legal firsts) firsts) (
        cut_current log leaf.id cut (image_of upper) leaf fits lasts.0,
        (
          subst (λ (x : LeafView). IsCurrent (split_of log leaf cut ∷ log) x.id x) (leaf_again upper)
              (new_current log leaf.id cut (image_of upper) fits),
          others_stay log (split_of log leaf cut ∷ log) leaf.id (named log + 1) after stay cut_apart.1
              (fresh log after legal lasts.1) lasts.1,
        ),
      )

  pub cut_stays : AreCurrent (split_of log leaf cut ∷ log) (before ++ lower ∷ upper ∷ after)
  cut_stays = record { parts = cut_parts; each = cut_each }

-- ---- two neighbours are merged

module _ (log : List DcRecord) (before after : List LeafView) (left right : LeafView) (legal : IsLegal log)
    (current : AreCurrent log (before ++ left ∷ right ∷ after)) where
  -- the leaf of both
  abbrev both : LeafView
  both = joined_of left right (length log + 1)

  left_apart : (part_in left.id (parts_of before) ≡ None) × (part_in left.id (parts_of (right ∷ after)) ≡ None)
  left_apart = apart_of before (right ∷ after) left (leaves_once log (before ++ left ∷ right ∷ after) legal current)

  join_parts : parts_of (before ++ both ∷ after) ≡ shape (merge_of log left right ∷ log)
  join_parts =
      parts_amid before (both ∷ after)
      ∙ sym (merge_at (parts_of before) (parts_of after) (part_of left) (part_of right) left_apart.0)
      ∙ ap (merge_parts left.id) (sym (parts_amid before (left ∷ right ∷ after)) ∙ current.parts)

  join_each : Each (merge_of log left right ∷ log) (before ++ both ∷ after)
  join_each =
      let firsts : Each log before = first_each log before (left ∷ right ∷ after) current.each in
      let lasts : Each log (left ∷ right ∷ after) = last_each log before (left ∷ right ∷ after) current.each in
      let next : next_id left.id (shape log) ≡ Some right.id =
      ap (next_id left.id) (sym current.parts)
      ∙ second_next before after left right (leaves_once log (before ++ left ∷ right ∷ after) legal current) in
      let fits : FitsMerge log left.id right.id (image_of both) =
      join_fits log left right legal lasts.0 lasts.1.0 next in
      let apart = second_apart before after left right
      (leaves_once log (before ++ left ∷ right ∷ after) legal current) in
      let stay : (x : LeafView) → x.id ≢ left.id → x.id ≢ right.id → IsCurrent log x.id x
      → IsCurrent (merge_of log left right ∷ log) x.id x =
      λ x other gone old. merge_current log left.id right.id (image_of both) x x.id fits other gone old in
      all_appended (λ (x : LeafView). IsCurrent (merge_of log left right ∷ log) x.id x) before (both ∷ after)
      (others_stay log (merge_of log left right ∷ log) left.id right.id before stay left_apart.0 apart.0 firsts) (
        subst (λ (x : LeafView). IsCurrent (merge_of log left right ∷ log) x.id x) (leaf_again both)
            (merged_current log left.id right.id (image_of both) fits),
        others_stay log (merge_of log left right ∷ log) left.id right.id after stay
            (not_in left.id (part_of right) (parts_of after) left_apart.1).rest apart.1 lasts.1.1,
      )

  pub join_stays : AreCurrent (merge_of log left right ∷ log) (before ++ both ∷ after)
  join_stays = record { parts = join_parts; each = join_each }

-- ---- leaves change and keep their places

current_like : (log : List DcRecord) (x y : LeafView) → part_of y ≡ part_of x → y.last ≡ x.last → IsCurrent log x.id x
    → IsCurrent log y.id y
current_like log x y part last old = record {
  own = refl;
  last = subst (λ (n : ℕ). n ≤ length log) (sym last) old.last;
  fences = subst (λ (p : Part). part_in p.id (shape log) ≡ Some p) (sym part) old.fences;
  written =
      subst (λ (n : ℕ). part_in y.id (shape (beginning log n)) ≡ Some (part_of y)) (sym last)
      (subst (λ (p : Part). part_in p.id (shape (beginning log x.last)) ≡ Some p) (sym part) old.written);
  seen =
      subst (λ (n : ℕ). IsSeen y.id n log) (sym last)
      (subst (λ (p : Part). IsSeen p.id x.last log) (sym part) old.seen);
}

each_like : (log : List DcRecord) (leaves others : List LeafView) → parts_of others ≡ parts_of leaves
    → lasts_of others ≡ lasts_of leaves → Each log leaves → Each log others
each_like log [] [] parts lasts all = tt
each_like log [] (y ∷ ys) parts lasts all = absurd (cc)
each_like log (x ∷ xs) [] parts lasts all = absurd (cc)
each_like log (x ∷ xs) (y ∷ ys) parts lasts all =
    let part : part_of y ≡ part_of x = cc in
    let last : y.last ≡ x.last = cc in
    let more : parts_of ys ≡ parts_of xs = cc in
    let later : lasts_of ys ≡ lasts_of xs = cc in
    (current_like log x y part last all.0, each_like log xs ys more later all.1)

pub change_stays : (log : List DcRecord) (leaves others : List LeafView) → AreCurrent log leaves
    → parts_of others ≡ parts_of leaves → lasts_of others ≡ lasts_of leaves → AreCurrent log others
change_stays log leaves others current parts lasts = record {
  parts = parts ∙ current.parts;
  each = each_like log leaves others parts lasts current.each;
}

-- ---- leaves are recovered

with_each : (log : List DcRecord) (o : Option LeafView) (leaves : List LeafView)
    → ((leaf : LeafView) → o ≡ Some leaf → IsCurrent log leaf.id leaf) → Each log leaves → Each log (with_leaf o leaves)
with_each log None leaves here all = all
with_each log (Some x) leaves here all = (here x refl, all)

recovered_each : (log : List DcRecord) (at : ℕ → Option LeafView) (ps : List Part)
    → ((id : ℕ) (leaf : LeafView) → at id ≡ Some leaf → IsCurrent log id leaf) → Each log (leaves_of at ps)
recovered_each log at [] each = tt
recovered_each log at (p ∷ ps) each =
    with_each log (at p.id) (leaves_of at ps)
    (λ leaf found.
    let has : IsCurrent log p.id leaf = each p.id leaf found in
    subst (λ (n : ℕ). IsCurrent log n leaf) (sym has.own) has)
    (recovered_each log at ps each)

pub recovered_current : (pages : Pages) (log : List DcRecord) (forced : ℕ) → IsLegal log → FitPages pages log forced
    → AreCurrent log (recover pages log)
recovered_current pages log forced legal fit =
    let has : HasShape pages log = have_shape pages log forced legal fit in
    record { parts = has.all; each = recovered_each log _ (shape log) has.each }

-- the law
pub leaves_are_the_shapes : LeavesAreTheShapes
leaves_are_the_shapes = record {
  start = record { parts = refl; each = (first_current 1 refl, tt) };
  recovered = recovered_current;
  accept =
      λ log session leaves current.
      record { parts = current.parts; each = accept_each log session leaves current.each };
  split = cut_stays;
  merge = join_stays;
  change = change_stays;
  place = in_place;
}
