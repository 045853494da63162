-- What is left of rows that are taken off one after another, and where a key stands among them.
use Rattle.std.proofs.Common.{◌≡◌, ℕ, ◌+◌, ◌<◌, ◌≤◌, List, [], ◌∷◌, length, drop, get_or, Option, Some, None, IfSome, IfNone, sym, ap, ◌∙◌, arith, inl, inr}
use Rattle.std.specs.Ordering.{ordering_reverse}
use Rattle.std.specs.declared.cmp.Ordering.{Ordering}
use Rattle.std.specs.declared.cmp.Ordering.TheVariants.{Less, Equal, Greater}
use Rattle.std.proofs.Math.Nat.{eq-or-lt_of_le}
use Rattle.std.proofs.lemmas.Cmp.{nat_list_cmp_total}
use Rattle.std.proofs.lemmas.List.{drop_more, length-drop}
use Rattle.record_key.specs.Table.{Bytes}
use Rattle.record_key.specs.Laws.{key_cmp}
use Rattle.record_key.specs.Rows.{Row, IsAt, IsGapFor}
use Rattle.record_key.proofs.Search.{stands_from, belongs_from}

module _ {X : Type 0} (xs left : List X) (at : ℕ) (is : left ≡ drop at xs) where
  pub none_left : left ≡ [] → length xs ≤ at
  none_left none = omega (arith, length-drop at xs, ap length (sym is ∙ none))

  module _ (x : X) (rest : List X) (taken : left ≡ x ∷ rest) where
    pub one_left : at < length xs
    one_left = omega (arith, length-drop at xs, ap length (sym is ∙ taken))

    parts : (d : X) → get_or xs at d ∷ drop (at + 1) xs ≡ x ∷ rest
    parts d = sym (drop_more xs at d one_left) ∙ sym is ∙ taken

    pub item_is : (d : X) → get_or xs at d ≡ x
    item_is d = ap (λ (l : List X). get_or l 0 d) (parts d)

    pub rest_is : rest ≡ drop (at + 1) xs
    rest_is = sym (ap (drop 1) (parts x))

  pub taken_off : {Y : Type 0} (f : Y → X) (result : Option Y) (rest : List X)
      → IfSome result (λ y. left ≡ f y ∷ rest) → IfNone result (left ≡ []) → at < length xs
      → rest ≡ drop (at + 1) xs
  taken_off f None rest some none within = absurd (omega (arith, within, none_left none))
  taken_off f (Some y) rest some none within = rest_is (f y) rest some

-- how the key compares with a row that was compared with it
turned : (k x : Bytes) (o : Ordering) → key_cmp x k ≡ o → key_cmp k x ≡ ordering_reverse o
turned k x o e = nat_list_cmp_total.antisymm k x ∙ ap ordering_reverse e

-- the key is above each of the rows before this place
abbrev pub IsAbove : Bytes → List Row → ℕ → Type 0
IsAbove k rows at = (j : ℕ) (d : Row) → j < at → key_cmp k (get_or rows j d).0 ≡ Greater

pub ends : (k : Bytes) (rows : List Row) (at : ℕ) → at ≡ length rows → IsAbove k rows at → IsGapFor k rows at
ends k rows at all above =
    belongs_from (λ (row : Row). key_cmp k row.0) rows at ([], []) (omega (arith, all)) (λ j. above j ([], []))
    (λ more. absurd (omega (arith, more, all)))

module _ (k : Bytes) (rows left : List Row) (at : ℕ) (is : left ≡ drop at rows) (above : IsAbove k rows at) where
  module _ (row : Row) (rest : List Row) (taken : left ≡ row ∷ rest) where
    at_row : (d : Row) (o : Ordering) → key_cmp row.0 k ≡ o → key_cmp k (get_or rows at d).0 ≡ ordering_reverse o
    at_row d o e = ap (λ (r : Row). key_cmp k r.0) (item_is rows left at is row rest taken d) ∙ turned k row.0 o e

    pub stands : key_cmp row.0 k ≡ Equal → IsAt k rows at
    stands e =
        stands_from (λ (r : Row). key_cmp k r.0) rows at row (one_left rows left at is row rest taken)
        (λ j. above j row) (at_row row Equal e)

    pub belongs : key_cmp row.0 k ≡ Greater → IsGapFor k rows at
    belongs e =
        let less : at < length rows = one_left rows left at is row rest taken in
        belongs_from (λ (r : Row). key_cmp k r.0) rows at row (omega (arith, less)) (λ j. above j row)
        (λ _. at_row row Greater e)

    pub one_above : key_cmp row.0 k ≡ Less → IsAbove k rows (at + 1)
    one_above e j d less =
        let most : j ≤ at = omega (arith, less) in
        elim (eq-or-lt_of_le most) [
          | inl same ↦ rw same (at_row d Less e)
          | inr lower ↦ above j d lower
        ]
