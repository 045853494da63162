-- The rows and entries of a leaf that is parted at a key, and of two that are put together.
use Rattle.std.proofs.Common.{◌≡◌, ℕ, Bool, true, false, cond, filter, List, [], ◌∷◌, ◌++◌, Option, Some, None, refl, sym, ap, ◌∙◌, inl, inr, true≢false}
use Rattle.std.specs.Prelude.{not, ◌&&◌, nat_lt, T}
use Rattle.std.specs.List.{AllByRecursion}
use Rattle.std.specs.Ordering.{is_lt, ordering_reverse}
use Rattle.std.specs.declared.cmp.Ordering.{Ordering}
use Rattle.std.specs.declared.cmp.Ordering.TheVariants.{Less, Equal, Greater}
use Rattle.std.specs.FinMap as map
use Rattle.std.specs.FinMap.Entries.{below_all, find-where_key, is_sorted-where_key}
use Rattle.std.proofs.lemmas.Bool.{and_parts, and_from, cases_Bool, not-true, not_from_false}
use Rattle.std.proofs.lemmas.Cmp.{nat_list_cmp_total, alike_right}
use Rattle.std.proofs.lemmas.Map.Lookups.{exact_bytes}
use Rattle.record_key.specs.Table.{Bytes, Table}
use Rattle.record_key.specs.Laws.{key_cmp}
use Rattle.record_key.specs.Order.{is_below, starts_at_most, ends_above, is_between}
use Rattle.record_key.specs.Rows.{Row, AreInOrder, LieBetween, table_of}
use Rattle.record_key.specs.declared.entry.Entry.{Entry}
use Rattle.record_key.proofs.Lists.{all_from}
use Rattle.record_key.proofs.Truths.{is_lt-Less, as_T, from_T, and_first, and_second, both_T}
use Rattle.record_key.proofs.Tables.{same_table}
use Rattle.record_key.proofs.Rows.{get-table_of, table_of_entries, own_rows}
use Rattle.dc_ab_lsn.specs.AbLsn.{AbLsnView, stands_in}
use Rattle.dc_ab_lsn.specs.Parting.{is_under, is_from, placed_above, placed_all, joined_with}
use Rattle.dc_leaf.proofs.Performing.{all_placed}
use Rattle.dc_leaf.proofs.Raising.{all_raised}

-- ---- what is kept of all

kept_here : {X : Type 0} (Q : X → Type 0) (b : Bool) (x : X) (xs : List X) → (b ≡ true → Q x) → AllByRecursion Q xs
    → AllByRecursion Q (cond b (x ∷ xs) xs)
kept_here Q true x xs here all = (here refl, all)
kept_here Q false x xs here all = all

pub all_kept : {X : Type 0} (P Q : X → Type 0) (test : X → Bool) → ((x : X) → P x → test x ≡ true → Q x) → (xs : List X)
    → AllByRecursion P xs → AllByRecursion Q (filter test xs)
all_kept P Q test from [] all = tt
all_kept P Q test from (x ∷ xs) all =
    kept_here Q (test x) x (filter test xs) (from x all.0) (all_kept P Q test from xs all.1)

either_all : (P : Entry → Type 0) (b : Bool) (es fs : List Entry) → AllByRecursion P es → AllByRecursion P fs
    → AllByRecursion P (cond b es fs)
either_all P true es fs all more = all
either_all P false es fs all more = more

all_put : (P : Entry → Type 0) (low : ℕ) (fs es : List Entry) → AllByRecursion P fs → AllByRecursion P es
    → AllByRecursion P (placed_all low fs es)
all_put P low [] es all more = more
all_put P low (f ∷ fs) es all more =
    all_put P low fs (placed_above low f es) all.1
    (either_all P (nat_lt low f.number && not (stands_in es f.number)) _ es (all_placed P f es all.0 more) more)

pub all_joined : (P : Entry → Type 0) (v w : AbLsnView) → AllByRecursion P v.entries → AllByRecursion P w.entries
    → AllByRecursion P (joined_with v w).entries
all_joined P v w all more = all_put P _ w.entries _ more (all_raised P v w.low all)

-- ---- keys and fences

-- what is below a key is below what isn't
below_other : (x fence y : Bytes) (o : Ordering) → key_cmp x fence ≡ Less → key_cmp y fence ≡ o → is_lt o ≡ false
    → key_cmp x y ≡ Less
below_other x fence y Less less is free = absurd (true≢false free)
below_other x fence y Equal less is free = alike_right nat_list_cmp_total y fence x is ∙ less
below_other x fence y Greater less is free =
    nat_list_cmp_total.trans x fence y less (nat_list_cmp_total.antisymm fence y ∙ ap ordering_reverse is)

pub less_of : (x y : Bytes) → is_below x y ≡ true → key_cmp x y ≡ Less
less_of x y below = is_lt-Less _ (as_T (is_below x y) below)

pub below_free : (x fence y : Bytes) → is_below x fence ≡ true → is_below y fence ≡ false → is_below x y ≡ true
below_free x fence y below free = ap is_lt (below_other x fence y (key_cmp y fence) (less_of x fence below) refl free)

pub below_trans : (x y z : Bytes) → is_below x y ≡ true → is_below y z ≡ true → is_below x z ≡ true
below_trans x y z one two = ap is_lt (nat_list_cmp_total.trans x y z (less_of x y one) (less_of y z two))

pub under_high : (high : Option Bytes) (x fence : Bytes) → is_below x fence ≡ true → ends_above high fence ≡ true
    → ends_above high x ≡ true
under_high None x fence below ends = refl
under_high (Some high) x fence below ends = below_trans x fence high below ends

-- a low fence at most a key is at most what isn't below the key
pub free_below : (x fence low : Bytes) → is_below x fence ≡ false → is_below fence low ≡ false → is_below x low ≡ false
free_below x fence low free starts =
    elim (cases_Bool (is_below x low)) [
      | inl below ↦ absurd (true≢false (sym (below_free x low fence below starts) ∙ free))
      | inr out ↦ out
    ]

pub from_low : (low : Option Bytes) (x fence : Bytes) → is_below x fence ≡ false → starts_at_most low fence ≡ true
    → starts_at_most low x ≡ true
from_low None x fence free starts = refl
from_low (Some low) x fence free starts =
    not_from_false (is_below x low) (free_below x fence low free (not-true (is_below fence low) starts))

-- in a leaf's fences and on a side of a key
pub between_lower : (low high : Option Bytes) (fence x : Bytes) → is_between low high x ≡ true → is_under fence x ≡ true
    → is_between low (Some fence) x ≡ true
between_lower low high fence x inside under =
    and_from (starts_at_most low x) (is_below x fence) (and_parts _ _ inside).0 under

pub between_upper : (low high : Option Bytes) (fence x : Bytes) → is_between low high x ≡ true → is_from fence x ≡ true
    → is_between (Some fence) high x ≡ true
between_upper low high fence x inside from =
    and_from (not (is_below x fence)) (ends_above high x) from (and_parts _ _ inside).1

-- and back
pub lower_between : (low high : Option Bytes) (fence x : Bytes) → ends_above high fence ≡ true
    → is_between low (Some fence) x ≡ true → is_between low high x ≡ true
lower_between low high fence x ends inside =
    let both = and_parts (starts_at_most low x) (is_below x fence) inside in
    and_from _ _ both.0 (under_high high x fence both.1 ends)

pub upper_between : (low high : Option Bytes) (fence x : Bytes) → starts_at_most low fence ≡ true
    → is_between (Some fence) high x ≡ true → is_between low high x ≡ true
upper_between low high fence x starts inside =
    let both = and_parts (not (is_below x fence)) (ends_above high x) inside in
    and_from _ _ (from_low low x fence (not-true (is_below x fence) both.0) starts) both.1

-- ---- rows

-- rows whose keys pass a test
pub tied_alike : (test : Bytes → Bool) (q x : Bytes) → key_cmp q x ≡ Equal → test x ≡ test q
tied_alike test q x tied = ap test (sym (exact_bytes q x tied))

pub retained : (rows : List Row) (test : Bytes → Bool) → AreInOrder rows
    → AreInOrder (filter (λ (row : Row). test row.0) rows)
    × (table_of (filter (λ (row : Row). test row.0) rows) ≡ map.retain_keys (table_of rows) test)
retained rows test ordered =
    let left : AreInOrder (filter (λ (row : Row). test row.0) rows) =
    from_T _ (is_sorted-where_key key_cmp test rows (as_T _ ordered)) in (
      left,
      same_table _ _ (λ q.
          get-table_of _ q left
          ∙ find-where_key key_cmp test q (tied_alike test q) rows
          ∙ ap (λ (found : Option Bytes). cond (test q) found None) (sym (get-table_of rows q ordered))
          ∙ sym (map.get-retain_keys (table_of rows) test q (tied_alike test q))),
    )

-- what stands at a key that passes
pub get_retained : (m : Table) (test : Bytes → Bool) (k : Bytes) → test k ≡ true
    → map.get (map.retain_keys m test) k ≡ map.get m k
get_retained m test k passes =
    map.get-retain_keys m test k (tied_alike test k) ∙ ap (λ b. cond b (map.get m k) None) passes

below_right : (x fence : Bytes) (rows : List Row) → is_below x fence ≡ true
    → AllByRecursion (λ (row : Row). is_below row.0 fence ≡ false) rows
    → T (below_all key_cmp x rows)
below_right x fence [] below free = tt
below_right x fence (row ∷ rows) below free =
    both_T (is_below x row.0) _ (as_T _ (below_free x fence row.0 below free.0)) (below_right x fence rows below free.1)

below_both : (x : Bytes) (rows more : List Row) → T (below_all key_cmp x rows) → T (below_all key_cmp x more)
    → T (below_all key_cmp x (rows ++ more))
below_both x [] more one two = two
below_both x (row ∷ rows) more one two =
    both_T (is_below x row.0) _ (and_first _ _ one) (below_both x rows more (and_second _ _ one) two)

sorted_both : (fence : Bytes) (rows more : List Row) → T (map.is_sorted key_cmp rows) → T (map.is_sorted key_cmp more)
    → AllByRecursion (λ (row : Row). is_below row.0 fence ≡ true) rows
    → AllByRecursion (λ (row : Row). is_below row.0 fence ≡ false) more
    → T (map.is_sorted key_cmp (rows ++ more))
sorted_both fence [] more one two under free = two
sorted_both fence (row ∷ rows) more one two under free =
    both_T (below_all key_cmp row.0 (rows ++ more)) _
    (below_both row.0 rows more (and_first _ _ one) (below_right row.0 fence more under.0 free))
    (sorted_both fence rows more (and_second _ _ one) two under.1 free)

all_pass : (test : Bytes → Bool) (rows : List Row) → AllByRecursion (λ (row : Row). test row.0 ≡ true) rows
    → filter (λ (row : Row). test row.0) rows ≡ rows
all_pass test [] all = refl
all_pass test (row ∷ rows) all = rw all.0 (ap (λ (rest : List Row). row ∷ rest) (all_pass test rows all.1))

pub none_pass : (test : Bytes → Bool) (rows : List Row) → AllByRecursion (λ (row : Row). test row.0 ≡ false) rows
    → filter (λ (row : Row). test row.0) rows ≡ []
none_pass test [] all = refl
none_pass test (row ∷ rows) all = rw all.0 (none_pass test rows all.1)

first_left : (test : Bytes → Bool) (rows more : List Row) → AllByRecursion (λ (row : Row). test row.0 ≡ true) rows
    → AllByRecursion (λ (row : Row). test row.0 ≡ false) more → filter (λ (row : Row). test row.0) (rows ++ more) ≡ rows
first_left test [] more all none = none_pass test more none
first_left test (row ∷ rows) more all none =
    rw all.0 (ap (λ (rest : List Row). row ∷ rest) (first_left test rows more all.1 none))

second_left : (test : Bytes → Bool) (rows more : List Row) → AllByRecursion (λ (row : Row). test row.0 ≡ false) rows
    → AllByRecursion (λ (row : Row). test row.0 ≡ true) more → filter (λ (row : Row). test row.0) (rows ++ more) ≡ more
second_left test [] more none all = all_pass test more all
second_left test (row ∷ rows) more none all = rw none.0 (second_left test rows more none.1 all)

-- rows below a fence, and rows from it on
pub record Apart (fence : Bytes) (rows more : List Row) : Type 0 where
  pub under : AllByRecursion (λ (row : Row). is_below row.0 fence ≡ true) rows
  pub free : AllByRecursion (λ (row : Row). is_below row.0 fence ≡ false) more

pub apart_of : (low high : Option Bytes) (fence : Bytes) (rows more : List Row) → LieBetween low (Some fence) rows
    → LieBetween (Some fence) high more
    → Apart fence rows more
apart_of low high fence rows more one two = record {
  under = all_from _ _ (λ (row : Row) inside. (and_parts (starts_at_most low row.0) (is_below row.0 fence) inside).1)
      rows one;
  free = all_from _ _ (λ (row : Row) inside. not-true (is_below row.0 fence)
      (and_parts (not (is_below row.0 fence)) (ends_above high row.0) inside).0) more two;
}

pub ordered_both : (fence : Bytes) (rows more : List Row) → AreInOrder rows → AreInOrder more → Apart fence rows more
    → AreInOrder (rows ++ more)
ordered_both fence rows more one two apart =
    from_T _ (sorted_both fence rows more (as_T _ one) (as_T _ two) apart.under apart.free)

-- a cut of both at the fence gives each back
pub table_again : (m : Table) → table_of (map.entries m) ≡ m
table_again m = table_of_entries m (map.entries m) (own_rows m) refl

entries_ordered : (fence : Bytes) (l r : Table) → Apart fence (map.entries l) (map.entries r)
    → AreInOrder (map.entries l ++ map.entries r)
entries_ordered fence l r apart = ordered_both fence (map.entries l) (map.entries r) (own_rows l) (own_rows r) apart

pub first_again : (fence : Bytes) (l r : Table) → Apart fence (map.entries l) (map.entries r)
    → map.retain_keys (table_of (map.entries l ++ map.entries r)) (is_under fence) ≡ l
first_again fence l r apart =
    sym (retained (map.entries l ++ map.entries r) (is_under fence) (entries_ordered fence l r apart)).1
    ∙ ap table_of (first_left (is_under fence) (map.entries l) (map.entries r) apart.under apart.free)
    ∙ table_again l

pub second_again : (fence : Bytes) (l r : Table) → Apart fence (map.entries l) (map.entries r)
    → map.retain_keys (table_of (map.entries l ++ map.entries r)) (is_from fence) ≡ r
second_again fence l r apart =
    sym (retained (map.entries l ++ map.entries r) (is_from fence) (entries_ordered fence l r apart)).1
    ∙ ap table_of (second_left (is_from fence) (map.entries l) (map.entries r)
    (all_from _ _ (λ (row : Row) under. ap not under) (map.entries l) apart.under)
    (all_from _ _ (λ (row : Row) free. ap not free) (map.entries r) apart.free))
    ∙ table_again r
