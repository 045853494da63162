-- The rows of a span are told by what stands at the keys within it.
use Rattle.std.proofs.Common.{◌≡◌, Bool, true, false, cond, None, refl, sym, ap, ◌∙◌}
use Rattle.std.specs.FinMap.{get, find, entries, entries_sorted, get-entries}
use Rattle.std.specs.FinMap.Entries.{same_entries, is_sorted-where_key, find-where_key}
use Rattle.std.proofs.lemmas.Cmp.{nat_list_cmp_total}
use Rattle.std.proofs.lemmas.Map.Lookups.{exact_bytes}
use Rattle.record_key.specs.Table.{Bytes, Table}
use Rattle.record_key.specs.Laws.{key_cmp}
use Rattle.record_key.specs.Order.{Range, has_key, rows_in}

-- what is found among the rows of a span
found_in : (s : Range) (m : Table) (k : Bytes) → find key_cmp k (rows_in s m) ≡ cond (has_key s k) (get m k) None
found_in s m k =
    find-where_key key_cmp (has_key s) k (λ x tied. ap (has_key s) (sym (exact_bytes k x tied))) (entries m)
    ∙ ap (λ r. cond (has_key s k) r None) (sym (get-entries m k))

-- tables that have the same at each key of a span have the same rows there
pub rows_alike : (s : Range) (m n : Table) → ((k : Bytes) → has_key s k ≡ true → get m k ≡ get n k)
    → rows_in s m ≡ rows_in s n
rows_alike s m n same =
    same_entries key_cmp nat_list_cmp_total exact_bytes (rows_in s m) (rows_in s n)
    (is_sorted-where_key key_cmp (has_key s) (entries m) (entries_sorted m))
    (is_sorted-where_key key_cmp (has_key s) (entries n) (entries_sorted n))
    (λ k. found_in s m k ∙ pick k (has_key s k) refl ∙ sym (found_in s n k))
  where
    pick : (k : Bytes) (b : Bool) → has_key s k ≡ b → cond b (get m k) None ≡ cond b (get n k) None
    pick k true within = same k within
    pick k false outside = refl
