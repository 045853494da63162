-- Writes to a table, one after another: by what the tables have at each key.
use Rattle.std.proofs.Common.{◌≡◌, ◌≢◌, Bool, true, false, cond, Option, Some, None, refl, sym, ap, ◌∙◌}
use Rattle.std.specs.Ordering.{nat_cmp, eq_by_cmp}
use Rattle.std.specs.Cmp.{Equal-is}
use Rattle.std.specs.Cmp.Lexicographic.{slice_cmp}
use Rattle.std.proofs.lemmas.Cmp.{nat_list_cmp_total, eq_by_cmp_equiv}
use Rattle.std.specs.FinMap.{get, get-insert, get-remove, same_map}
use Rattle.std.proofs.lemmas.Map.Lookups.{exact_bytes}
use Rattle.record_key.specs.declared.op.Op.{Op}
use Rattle.record_key.specs.Table.{Bytes, Table, with_record, key_of, value_after, after}

-- whether two keys are one
abbrev pub is_same : Bytes → Bytes → Bool
is_same a b = eq_by_cmp (slice_cmp nat_cmp) a b

pub is_same-refl : (k : Bytes) → is_same k k ≡ true
is_same-refl k = (eq_by_cmp_equiv nat_list_cmp_total).refl k

pub is_same-true : (a b : Bytes) → is_same a b ≡ true → a ≡ b
is_same-true a b h = exact_bytes a b ((Equal-is (slice_cmp nat_cmp a b)).0 h)

-- what a written table has at a key
pub get-with_record : (m : Table) (k : Bytes) (r : Option Bytes) (q : Bytes)
    → get (with_record m k r) q ≡ cond (is_same q k) r (get m q)
get-with_record m k None q = get-remove nat_list_cmp_total m k q
get-with_record m k (Some v) q = get-insert nat_list_cmp_total m k v q

-- tables that have the same at each key are one
pub same_table : (m n : Table) → ((q : Bytes) → get m q ≡ get n q) → m ≡ n
same_table m n h = same_map nat_list_cmp_total exact_bytes m n h

cond-again : {X : Type 0} (b : Bool) (s r x : X) → cond b s (cond b r x) ≡ cond b s x
cond-again true s r x = refl
cond-again false s r x = refl

cond-there : {X : Type 0} (b : Bool) (r x : X) → (b ≡ true → r ≡ x) → cond b r x ≡ x
cond-there true r x h = h refl
cond-there false r x h = refl

cond-swap : {X : Type 0} (a b : Bool) (r s x : X) → (a ≡ true → b ≡ true → ⊥)
    → cond b s (cond a r x) ≡ cond a r (cond b s x)
cond-swap true true r s x h = absurd (h refl refl)
cond-swap true false r s x h = refl
cond-swap false true r s x h = refl
cond-swap false false r s x h = refl

-- a second write at the key is the only one
pub with_record-again : (m : Table) (k : Bytes) (r s : Option Bytes)
    → with_record (with_record m k r) k s ≡ with_record m k s
with_record-again m k r s = same_table _ _ (λ q.
    get-with_record (with_record m k r) k s q ∙ ap (cond (is_same q k) s) (get-with_record m k r q)
    ∙ cond-again (is_same q k) s r (get m q) ∙ sym (get-with_record m k s q))

-- to write what stands there changes nothing
pub with_record-there : (m : Table) (k : Bytes) (r : Option Bytes) → r ≡ get m k → with_record m k r ≡ m
with_record-there m k r there = same_table _ _ (λ q.
    get-with_record m k r q ∙ cond-there (is_same q k) r (get m q) (λ h. there ∙ ap (get m) (sym (is_same-true q k h))))

-- writes at two keys come in either order
pub with_record-swap : (m : Table) (k l : Bytes) (r s : Option Bytes) → k ≢ l
    → with_record (with_record m k r) l s ≡ with_record (with_record m l s) k r
with_record-swap m k l r s apart = same_table _ _ (λ q.
    get-with_record (with_record m k r) l s q ∙ ap (cond (is_same q l) s) (get-with_record m k r q)
    ∙ cond-swap (is_same q k) (is_same q l) r s (get m q) (λ a b. apart (sym (is_same-true q k a) ∙ is_same-true q l b))
    ∙ sym (get-with_record (with_record m l s) k r q ∙ ap (cond (is_same q k) r) (get-with_record m l s q)))

-- what stands at the key, and at another
pub get-with_record_same : (m : Table) (k : Bytes) (r : Option Bytes) → get (with_record m k r) k ≡ r
get-with_record_same m k r = get-with_record m k r k ∙ ap (λ b. cond b r (get m k)) (is_same-refl k)

cond-left : {X : Type 0} (b : Bool) (r x : X) → (b ≡ true → ⊥) → cond b r x ≡ x
cond-left true r x h = absurd (h refl)
cond-left false r x h = refl

pub get-with_record_other : (m : Table) (k q : Bytes) (r : Option Bytes) → q ≢ k → get (with_record m k r) q ≡ get m q
get-with_record_other m k q r apart =
    get-with_record m k r q ∙ cond-left (is_same q k) r (get m q) (λ h. apart (is_same-true q k h))

-- an operation that leaves what stands at its key leaves the table
pub after-idle : (m : Table) (o : Op) (r : Option Bytes) → r ≡ get m (key_of o) → value_after o r ≡ r → m ≡ after m o
after-idle m o r there idle =
    sym (ap (λ x. with_record m (key_of o) (value_after o x)) (sym there) ∙ ap (with_record m (key_of o)) idle
    ∙ with_record-there m (key_of o) r there)
