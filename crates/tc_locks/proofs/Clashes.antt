-- The test of two spans finds exactly what conflicts.
use Rattle.std.proofs.Common.{arith, ◌≡◌, ◌||◌, Bool, true, false, cond, List, [], ◌∷◌, Option, inl, inr, ◌⊎◌}
use Rattle.std.specs.Prelude.{not, T}
use Rattle.std.specs.List.{list_any}
use Rattle.std.specs.Ordering.{is_lt, ordering_reverse}
use Rattle.std.specs.declared.cmp.Ordering.{Ordering}
use Rattle.std.specs.declared.cmp.Ordering.TheVariants.{Less}
use Rattle.std.proofs.lemmas.Cmp.{nat_list_cmp_total, tied_itself}
use Rattle.record_key.specs.Table.{Bytes}
use Rattle.record_key.specs.Laws.{key_cmp}
use Rattle.record_key.proofs.Truths.{is_lt-Less, as_T, from_T, and_first, and_second, both_T}
use Rattle.history.specs.Spans.{Span, Conflict, AnyConflict}
use Rattle.record_key.specs.Order.{is_below, ends_above}
use Rattle.tc_locks.specs.Meant.{clash}

-- a key below another is at most it
pub not_below_itself : (a : Bytes) → T (not (is_below a a))
not_below_itself a = rw (tied_itself nat_list_cmp_total a) tt

reversed : (o : Ordering) → T (is_lt o) → T (not (is_lt (ordering_reverse o)))
reversed o h = grind arith

pub not_below_lower : (a b : Bytes) → T (is_below a b) → T (not (is_below b a))
not_below_lower a b h = rw (nat_list_cmp_total.antisymm b a) (reversed (key_cmp a b) h)

not_below : (b : Bool) → b ≡ false → T (not b)
not_below b e = rw e tt

-- the later of two keys is below neither
late_first : (a b : Bytes) (t : Bool) → is_below a b ≡ t → T (not (is_below (cond t b a) a))
late_first a b t e = grind (arith, not_below_lower, as_T, not_below_itself)

pub late_second : (a b : Bytes) (t : Bool) → is_below a b ≡ t → T (not (is_below (cond t b a) b))
late_second a b t e = grind (arith, not_below_itself, not_below)

-- what an upper end is above, it is above what comes before
at_most : (l k h : Bytes) (o : Ordering) → key_cmp l k ≡ o → T (not (is_below k l)) → key_cmp k h ≡ Less
    → T (is_below l h)
at_most l k h o e not_under above =
    grind (arith, nat_list_cmp_total.trans, nat_list_cmp_total.congr, nat_list_cmp_total.antisymm)

pub ends_lower : (h : Option Bytes) (l k : Bytes) → T (not (is_below k l)) → T (ends_above h k) → T (ends_above h l)
ends_lower h l k not_under above = grind (arith, at_most, is_lt-Less)

late_at_most : (a b k : Bytes) (t : Bool) → T (not (is_below k a)) → T (not (is_below k b))
    → T (not (is_below k (cond t b a)))
late_at_most a b k t x y = grind arith

pub conflict_from_clash : (s r : Span) → T (clash s r) → Conflict s r
conflict_from_clash s r h = grind (arith, and_first, and_second, from_T, both_T, late_first, late_second)

pub clash_from_conflict : (s r : Span) → Conflict s r → T (clash s r)
clash_from_conflict s r c = grind (arith, as_T, late_at_most, and_first, both_T, ends_lower, and_second)

-- the same of a list
either : (b c : Bool) → T (b || c) → T b ⊎ T c
either b c h = grind arith

or_first : (b c : Bool) → T b → T (b || c)
or_first b c h = grind arith

or_second : (b c : Bool) → T c → T (b || c)
or_second b c h = grind arith

conflicts_from : (s : Span) (rs : List Span) → T (list_any (clash s) rs) → AnyConflict s rs
conflicts_from s [] h = h
conflicts_from s (r ∷ rs) h =
    elim (either (clash s r) (list_any (clash s) rs) h) [
      | inl here ↦ inl (conflict_from_clash s r here)
      | inr there ↦ inr (conflicts_from s rs there)
    ]

clashes_from : (s : Span) (rs : List Span) → AnyConflict s rs → T (list_any (clash s) rs)
clashes_from s [] c = c
clashes_from s (r ∷ rs) c =
    elim c [
      | inl here ↦ or_first (clash s r) (list_any (clash s) rs) (clash_from_conflict s r here)
      | inr there ↦ or_second (clash s r) (list_any (clash s) rs) (clashes_from s rs there)
    ]

pub conflicts_from_clashes : (s : Span) (rs : List Span) → list_any (clash s) rs ≡ true → AnyConflict s rs
conflicts_from_clashes s rs h = conflicts_from s rs (as_T _ h)

pub clashes_from_conflicts : (s : Span) (rs : List Span) → AnyConflict s rs → list_any (clash s) rs ≡ true
clashes_from_conflicts s rs c = from_T _ (clashes_from s rs c)
