-- A value that was put at the key of an operation is what the operation leaves there.
use Rattle.std.proofs.Common.{◌≡◌, Bool, true, false, cond, Option, Some, refl, sym, ap, ◌∙◌}
use Rattle.std.specs.Ordering.{eq_by_cmp}
use Rattle.std.specs.BTreeMap.{BTreeMap}
use Rattle.std.specs.Cmp.{Equal-is}
use Rattle.std.proofs.lemmas.Cmp.{nat_list_cmp_total, eq_by_cmp_equiv}
use Rattle.std.proofs.lemmas.Map.Lookups.{exact_bytes}
use Rattle.record_key.specs.declared.op.Op.{Op}
use Rattle.record_key.specs.Laws.{key_cmp}
use Rattle.record_key.specs.Table.{Bytes, key_of, value_after}
use Rattle.history.specs.Values.{is_on, value_with}
use Rattle.log_replay.specs.Kept.{value_held, PutsAt}

-- which of two keys comes first makes no difference to whether they are one
turned : (a b : Bytes) → eq_by_cmp key_cmp a b ≡ eq_by_cmp key_cmp b a
turned a b = (eq_by_cmp_equiv nat_list_cmp_total).symm a b

same_key : (a b : Bytes) → eq_by_cmp key_cmp a b ≡ true → a ≡ b
same_key a b h = exact_bytes a b ((Equal-is (key_cmp a b)).0 h)

-- where a test holds, this may stand for that
where_so : (b : Bool) (v w x : Option Bytes) → (b ≡ true → v ≡ w) → cond b v x ≡ cond b w x
where_so b v w x h = elim b as (λ c. (c ≡ true → v ≡ w) → cond c v x ≡ cond c w x)
    [ true ↦ λ same. same refl | false ↦ λ same. refl ] h

pub applied : (old new : BTreeMap Bytes Bytes) (o : Op) (key : Bytes) (v : Option Bytes) → key ≡ key_of o
    → v ≡ value_after o (value_held old key)
    → PutsAt old new key v
    → (k : Bytes) → value_held new k ≡ value_with k (Some o) (value_held old k)
applied old new o key v own left put k =
    put k ∙ ap (λ b. cond b v (value_held old k)) (turned key k ∙ ap (eq_by_cmp key_cmp k) own)
    ∙ where_so (is_on k o) v _ (value_held old k)
    (λ on. left ∙ ap (λ q. value_after o (value_held old q)) (own ∙ sym (same_key k (key_of o) on)))
