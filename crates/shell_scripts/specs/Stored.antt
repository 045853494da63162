-- The exact bytes of the table and of a leaf.
use Rattle.std.specs.Prelude.{ℕ, List, [], ◌∷◌, ◌++◌, codes, decimal, length, flat_map}
use Rattle.std.specs.List.{concat}
use Rattle.std.specs.FinMap.{entries}
use Rattle.record_key.specs.Rows.{Row}
use Rattle.record_key.specs.declared.entry.Entry.{Entry}
use Rattle.dc_leaf.specs.Leaf.{LeafView}
use Rattle.shell_scripts.specs.Printed.{shown, shown_if, numbered}

abbrev pub row_line : Row → List ℕ
row_line row = concat (shown row.0 ∷ codes "=" ∷ shown row.1 ∷ codes "\n" ∷ [])

abbrev pub table_text : List Row → List ℕ
table_text rows = flat_map row_line rows ++ numbered (codes "rows ") (length rows)

-- its fences, a dash where there is no bound
abbrev pub fences_text : LeafView → List ℕ
fences_text leaf = concat
    (codes "leaf " ∷ decimal leaf.id ∷ codes " " ∷ shown_if leaf.low_fence ∷ codes " " ∷ shown_if leaf.high_fence ∷ [])

-- the low number, the last system transaction, and how many records there are
abbrev pub counts_text : LeafView → List ℕ
counts_text leaf = concat
    (codes " low " ∷ decimal leaf.ab.low ∷ codes " last " ∷ decimal leaf.last ∷ codes " n " ∷ decimal
    (length (entries leaf.rows)) ∷ codes " set " ∷ [])

abbrev pub further_number : Entry → List ℕ
further_number e = concat (codes "," ∷ decimal e.number ∷ [])

-- the numbers behind the first, and the end of the line
abbrev pub more_line : List Entry → List ℕ
more_line es = flat_map further_number es ++ codes "\n"

-- the numbers joined by commas, or a dash where there is none
abbrev pub set_line : List Entry → List ℕ
set_line [] = codes "-\n"
set_line (e ∷ es) = decimal e.number ++ more_line es

abbrev pub leaf_line : LeafView → List ℕ
leaf_line leaf = fences_text leaf ++ (counts_text leaf ++ set_line leaf.ab.entries)
