use Rattle.std.proofs.Common.{◌≡◌, List, [], ◌∷◌, length, Ordering, None, refl, sym, ap, ◌∙◌, arith, true≢false}
use Rattle.std.specs.BTreeMap.{BTreeMap, btree_map_len, is_at, get}
use Rattle.std.specs.Map.{lookup}
use Rattle.std.specs.Ordering.{nat_cmp}
use Rattle.record_key.specs.Laws.{key_cmp}
use Rattle.tc_log.specs.Adders.{items_of}
use Rattle.tc_log.proofs.Following.{forgotten}
use Rattle.tc_log.proofs.replay.Index.forget.Goals as goal

none_in : {K X : Type 0} (cmp : K → K → Ordering) (es : List (K × X)) → length es ≡ 0 → (k : K)
    → lookup (is_at (cmp k)) es ≡ None
none_in cmp [] none k = refl
none_in cmp (e ∷ es) none k = absurd (omega (arith, none))

none_there : {K X : Type 0} (cmp : K → K → Ordering) (m : BTreeMap K X) → btree_map_len m ≡ 0 → (k : K)
    → get cmp m k ≡ None
none_there cmp m none k = none_in cmp m.entries none k

pub returns-then-is_empty-clause-index : goal.returns-then-is_empty-clause-index
returns-then-is_empty-clause-index c log h =
    forgotten log _ _ h (none_there nat_cmp c.args.self.now.analysis.open_txns (c.is_empty.ensures.0 c.if-is_empty.true)) refl
    (none_there key_cmp c.clear.new.self c.clear.ensures.len)
    (λ k. ap items_of (none_there key_cmp c.clear-then-is_empty.new.self c.clear-then-is_empty.ensures.len k)) refl refl

pub returns-then-is_empty-clause-forgotten : goal.returns-then-is_empty-clause-forgotten
returns-then-is_empty-clause-forgotten c none = omega (arith, c.clear.ensures.len, c.clear-then-is_empty.ensures.len)

pub returns-else-is_empty-clause-forgotten : goal.returns-else-is_empty-clause-forgotten
returns-else-is_empty-clause-forgotten c none = absurd (true≢false (sym (c.is_empty.ensures.1 none) ∙ c.if-is_empty.false))
