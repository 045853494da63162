-- Nodes at one height, each whole, of which one is another, is put in or is taken out.
use Rattle.std.proofs.Common.{◌≡◌, ℕ, zero, suc, ◌<◌, ◌≤◌, List, [], ◌∷◌, length, get_or, set, take, drop, sym, ap, subst, arith, length-append}
use Rattle.std.specs.List.{AllByRecursion, remove}
use Rattle.record_key.proofs.Lists.{all_appended}
use Rattle.dc_tree.specs.Nodes.{TreeNodeView, under, over_nodes, height_in, AreChildren, IsChild}

module _ {X : Type 0} (P : X → Type 0) where
  pub all_get : (xs : List X) (i : ℕ) (d : X) → i < length xs → AllByRecursion P xs → P (get_or xs i d)
  all_get [] i d within all = absurd (omega (arith, within))
  all_get (x ∷ xs) zero d within all = all.0
  all_get (x ∷ xs) (suc i) d within all = all_get xs i d (omega (arith, within)) all.1

  pub all_set : (xs : List X) (i : ℕ) (x : X) → P x → AllByRecursion P xs → AllByRecursion P (set xs i x)
  all_set [] i x is all = tt
  all_set (y ∷ xs) zero x is all = (is, all.1)
  all_set (y ∷ xs) (suc i) x is all = (all.0, all_set xs i x is all.1)

  pub all_take : (i : ℕ) (xs : List X) → AllByRecursion P xs → AllByRecursion P (take i xs)
  all_take zero xs all = tt
  all_take (suc i) [] all = tt
  all_take (suc i) (x ∷ xs) all = (all.0, all_take i xs all.1)

  pub all_drop : (i : ℕ) (xs : List X) → AllByRecursion P xs → AllByRecursion P (drop i xs)
  all_drop zero xs all = all
  all_drop (suc i) [] all = tt
  all_drop (suc i) (x ∷ xs) all = all_drop i xs all.1

  pub all_removed : (xs : List X) (i : ℕ) → AllByRecursion P xs → AllByRecursion P (remove xs i)
  all_removed xs i all = all_appended P (take i xs) (drop (suc i) xs) (all_take i xs all) (all_drop (suc i) xs all)

-- nodes at one height are at the height of the first
pub at_first : (height : ℕ) (ns : List TreeNodeView) → AreChildren height ns → AreChildren (height_in ns) ns
at_first height [] are = tt
at_first height (n ∷ ns) are = subst (λ (h : ℕ). AreChildren h (n ∷ ns)) (sym are.0.level) are

pub height_of : (height : ℕ) (ns : List TreeNodeView) → 0 < length ns → AreChildren height ns → height_in ns ≡ height
height_of height [] some are = absurd (omega (arith, some))
height_of height (n ∷ ns) some are = are.0.level

pub some_under : (height : ℕ) (ns : List TreeNodeView) → 0 < length ns → AreChildren height ns → 0 < length (under ns)
some_under height [] some are = absurd (omega (arith, some))
some_under height (n ∷ ns) some are = omega (arith, length-append n.leaves (under ns), are.0.whole.some)

-- a node over two to eight of them
pub child_over : (height : ℕ) (ns : List TreeNodeView) → AreChildren height ns → 2 ≤ length ns → length ns ≤ 8
    → IsChild (suc height) (over_nodes ns)
child_over height ns are two eight = record {
  level = ap suc (height_of height ns (omega (arith, two)) are);
  whole = record {
    some = some_under height ns (omega (arith, two)) are;
    one = λ level. absurd (omega (arith, level));
    two = λ inner. two;
    eight = eight;
  };
}
