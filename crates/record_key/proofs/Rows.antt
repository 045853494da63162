-- What an edit at a key's place among sorted rows does to the table.
use Rattle.std.proofs.Common.{◌≡◌, ℕ, zero, suc, Bool, true, false, cond, List, [], ◌∷◌, get_or, set, Some, None, refl, sym, ap, ◌∙◌, subst, arith, inl, inr}
use Rattle.std.specs.Prelude.{not, T}
use Rattle.std.specs.List.{insert, remove}
use Rattle.std.specs.Ordering.{eq_by_cmp, is_eq}
use Rattle.std.specs.declared.cmp.Ordering.TheVariants.{Less, Equal}
use Rattle.std.proofs.lemmas.Bool.{cases_Bool, and_right}
use Rattle.std.proofs.lemmas.Cmp.{nat_list_cmp_total, alike_right, eq_by_cmp_equiv}
use Rattle.std.proofs.lemmas.Map.Lookups.{exact_bytes}
use Rattle.std.specs.FinMap as map
use Rattle.std.specs.FinMap.{put, find, is_sorted}
use Rattle.std.specs.FinMap.Entries.{below_all, where_key, find-where_key, is_sorted-put, is_sorted-where_key}
use Rattle.record_key.specs.Table.{Bytes, Table}
use Rattle.record_key.specs.Laws.{key_cmp}
use Rattle.record_key.proofs.Tables.{same_table}
use Rattle.record_key.specs.Order.{is_below}
use Rattle.record_key.specs.Rows.{Row, table_of, rises, AreInOrder, IsAt, IsGapFor}
use Rattle.record_key.proofs.Truths.{is_lt-Less, and_first, and_second, as_T, from_T}

-- rows in order are the entries of their table
pub entries-table_of : (rows : List Row) → AreInOrder rows → map.entries (table_of rows) ≡ rows
entries-table_of rows ordered = map.entries-from_sorted key_cmp rows (as_T (map.is_sorted key_cmp rows) ordered)

-- a table is that of its entries
pub table_of_entries : (m : Table) (rows : List Row) → AreInOrder rows → map.entries m ≡ rows → table_of rows ≡ m
table_of_entries m rows ordered is = map.same_entries_map (table_of rows) m (entries-table_of rows ordered ∙ sym is)

-- the entries of a table are in order
pub own_rows : (m : Table) → AreInOrder (map.entries m)
own_rows m = from_T _ (map.entries_sorted m)

-- rows in order, by the first two of them
below_further : (x y : Bytes) (rows : List Row) → key_cmp x y ≡ Less → T (below_all key_cmp y rows)
    → T (below_all key_cmp x rows)
below_further x y [] less above = tt
below_further x y (row ∷ rows) less above =
    let here : key_cmp x row.0 ≡ Less = nat_list_cmp_total.trans x y row.0 less (is_lt-Less _ (and_first _ _ above)) in
    rw here (below_further x y rows less (and_second _ _ above))

pub rises_next : (first second : Row) (rows : List Row) → is_below first.0 second.0 ≡ true
    → rises (first ∷ second ∷ rows) ≡ rises (second ∷ rows)
rises_next first second rows below =
    elim (cases_Bool (rises (second ∷ rows))) [
      | inl ordered ↦
          let less : key_cmp first.0 second.0 ≡ Less = is_lt-Less _ (as_T _ below) in
          let above = below_further first.0 second.0 rows less (and_first _ _ (as_T (rises (second ∷ rows)) ordered)) in
          rw (below, from_T _ above) refl
      | inr mixed ↦ and_right _ (rises (second ∷ rows)) mixed ∙ sym mixed
    ]

pub falls_next : (first second : Row) (rows : List Row) → is_below first.0 second.0 ≡ false
    → rises (first ∷ second ∷ rows) ≡ false
falls_next first second rows above = rw above refl

-- what stands at the key
pub get-table_of : (rows : List Row) (k : Bytes) → AreInOrder rows → map.get (table_of rows) k ≡ find key_cmp k rows
get-table_of rows k ordered = map.get-entries (table_of rows) k ∙ ap (find key_cmp k) (entries-table_of rows ordered)

find-at : (k : Bytes) (rows : List Row) (p : ℕ) (d : Row) → IsAt k rows p
    → find key_cmp k rows ≡ Some (get_or rows p d).1
find-at k [] p d at = absurd at
find-at k (row ∷ rows) zero d at = rw at refl
find-at k (row ∷ rows) (suc p) d at = rw at.0 (find-at k rows p d at.1)

-- below the first key there is nothing
find-below : (k x : Bytes) (rows : List Row) → key_cmp k x ≡ Less → T (below_all key_cmp x rows)
    → find key_cmp k rows ≡ None
find-below k x [] below above = refl
find-below k x (row ∷ rows) below above =
    let here : key_cmp k row.0 ≡ Less = nat_list_cmp_total.trans k x row.0 below (is_lt-Less _ (and_first _ _ above)) in
    rw here (find-below k x rows below (and_second _ _ above))

find-gap : (k : Bytes) (rows : List Row) (p : ℕ) → T (map.is_sorted key_cmp rows) → IsGapFor k rows p
    → find key_cmp k rows ≡ None
find-gap k [] p ordered gap = refl
find-gap k (row ∷ rows) zero ordered gap = rw gap (find-below k row.0 rows gap (and_first _ _ ordered))
find-gap k (row ∷ rows) (suc p) ordered gap = rw gap.0 (find-gap k rows p (and_second _ _ ordered) gap.1)

put-gap : (k v : Bytes) (rows : List Row) (p : ℕ) → IsGapFor k rows p → put key_cmp k v rows ≡ insert rows p (k, v)
put-gap k v [] zero gap = refl
put-gap k v [] (suc p) gap = absurd (omega (arith, gap))
put-gap k v (row ∷ rows) zero gap = rw gap refl
put-gap k v (row ∷ rows) (suc p) gap = rw gap.0 (ap (λ rest. row ∷ rest) (put-gap k v rows p gap.1))

put-at : (k v : Bytes) (rows : List Row) (p : ℕ) → IsAt k rows p → put key_cmp k v rows ≡ set rows p (k, v)
put-at k v [] p at = absurd at
put-at k v (row ∷ rows) zero at = rw (at, exact_bytes k row.0 at) refl
put-at k v (row ∷ rows) (suc p) at = rw at.0 (ap (λ rest. row ∷ rest) (put-at k v rows p at.1))

turned : {A : Type 0} (b : Bool) (x y : A) → cond (not b) x y ≡ cond b y x
turned true x y = refl
turned false x y = refl

where_key-below : (k x : Bytes) (rows : List Row) → key_cmp k x ≡ Equal → T (below_all key_cmp x rows)
    → where_key key_cmp (λ y. not (eq_by_cmp key_cmp k y)) rows ≡ rows
where_key-below k x [] same above = refl
where_key-below k x (row ∷ rows) same above =
    let here : key_cmp k row.0 ≡ Less = nat_list_cmp_total.congr k x row.0 same ∙ is_lt-Less _ (and_first _ _ above) in
    rw here (ap (λ rest. row ∷ rest) (where_key-below k x rows same (and_second _ _ above)))

where_key-at : (k : Bytes) (rows : List Row) (p : ℕ) → T (map.is_sorted key_cmp rows) → IsAt k rows p
    → where_key key_cmp (λ y. not (eq_by_cmp key_cmp k y)) rows ≡ remove rows p
where_key-at k [] p ordered at = absurd at
where_key-at k (row ∷ rows) zero ordered at = rw at (where_key-below k row.0 rows at (and_first _ _ ordered))
where_key-at k (row ∷ rows) (suc p) ordered at =
    rw at.0 (ap (λ rest. row ∷ rest) (where_key-at k rows p (and_second _ _ ordered) at.1))

-- a row put at the key's place
module _ (rows : List Row) (ordered : AreInOrder rows) (k : Bytes) (p : ℕ) where
  sorted : T (map.is_sorted key_cmp rows)
  sorted = as_T (map.is_sorted key_cmp rows) ordered

  put_ordered : (v : Bytes) → AreInOrder (put key_cmp k v rows)
  put_ordered v = from_T _ (is_sorted-put key_cmp nat_list_cmp_total k v rows sorted)

  put_table : (v : Bytes) → table_of (put key_cmp k v rows) ≡ map.insert (table_of rows) k v
  put_table v = table_of_entries (map.insert (table_of rows) k v) (put key_cmp k v rows) (put_ordered v)
      (map.entries-insert nat_list_cmp_total (table_of rows) k v ∙ ap (put key_cmp k v) (entries-table_of rows ordered))

  pub inserted : (v : Bytes) → IsGapFor k rows p
      → AreInOrder (insert rows p (k, v)) × (table_of (insert rows p (k, v)) ≡ map.insert (table_of rows) k v)
  inserted v gap =
      let is = put-gap k v rows p gap in
      let P : List Row → Type 0 = λ new. AreInOrder new × (table_of new ≡ map.insert (table_of rows) k v) in
      subst P is (put_ordered v, put_table v)

  pub replaced : (v : Bytes) → IsAt k rows p
      → AreInOrder (set rows p (k, v)) × (table_of (set rows p (k, v)) ≡ map.insert (table_of rows) k v)
  replaced v at =
      let is = put-at k v rows p at in
      let P : List Row → Type 0 = λ new. AreInOrder new × (table_of new ≡ map.insert (table_of rows) k v) in
      subst P is (put_ordered v, put_table v)

  pub found : (d : Row) → IsAt k rows p → map.get (table_of rows) k ≡ Some (get_or rows p d).1
  found d at = get-table_of rows k ordered ∙ find-at k rows p d at

  pub absent : IsGapFor k rows p → map.get (table_of rows) k ≡ None
  absent gap = get-table_of rows k ordered ∙ find-gap k rows p sorted gap

  without_ordered : AreInOrder (where_key key_cmp (λ y. not (eq_by_cmp key_cmp k y)) rows)
  without_ordered = from_T _ (is_sorted-where_key key_cmp (λ y. not (eq_by_cmp key_cmp k y)) rows sorted)

  without_table : table_of (where_key key_cmp (λ y. not (eq_by_cmp key_cmp k y)) rows) ≡ map.remove (table_of rows) k
  without_table = same_table _ _ (λ q.
      get-table_of _ q without_ordered
      ∙ find-where_key key_cmp (λ y. not (eq_by_cmp key_cmp k y)) q
      (λ x tied. ap (λ r. not (is_eq r)) (sym (alike_right nat_list_cmp_total q x k tied))) rows
      ∙ turned (eq_by_cmp key_cmp k q) (find key_cmp q rows) None
      ∙ ap (λ b. cond b None (find key_cmp q rows)) ((eq_by_cmp_equiv nat_list_cmp_total).symm k q)
      ∙ ap (cond (eq_by_cmp key_cmp q k) None) (sym (get-table_of rows q ordered))
      ∙ sym (map.get-remove nat_list_cmp_total (table_of rows) k q))

  pub removed : IsAt k rows p → AreInOrder (remove rows p) × (table_of (remove rows p) ≡ map.remove (table_of rows) k)
  removed at =
      let is = where_key-at k rows p sorted at in
      let P : List Row → Type 0 = λ new. AreInOrder new × (table_of new ≡ map.remove (table_of rows) k) in
      subst P is (without_ordered, without_table)

pub table_of_none : table_of [] ≡ map.empty
table_of_none = same_table _ _ (λ q. get-table_of [] q refl ∙ sym (map.get-empty key_cmp q))
