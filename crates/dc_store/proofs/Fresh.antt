-- What holds of the first leaf on devices that hold nothing.
use Rattle.std.proofs.Common.{◌≡◌, ℕ, [], ◌∷◌, Some, None, refl, sym, ap, ◌∙◌, arith}
use Rattle.std.specs.FinMap as table
use Rattle.std.specs.Ordering.{nat_cmp}
use Rattle.std.proofs.lemmas.List.{nil_from_length}
use Rattle.record_key.specs.Laws.{key_cmp}
use Rattle.record_key.specs.Table.{Bytes}
use Rattle.stable.specs.PagesState.{Pages}
use Rattle.stable.specs.Usage.{Usage}
use Rattle.dc_leaf.specs.Leaf.{IsLeaf, first}
use Rattle.dc_tree.specs.Leaves.{AreLeaves}
use Rattle.dc_recovery.proofs.Images.{numbers_stay}
use Rattle.dc_store.specs.Kept.{IsSystem}
use Rattle.dc_store.specs.SystemView.{fresh_system}

no_rows : table.entries first.rows ≡ []
no_rows =
    nil_from_length (table.entries first.rows) (sym (table.len-entries first.rows) ∙ table.len-empty key_cmp Bytes)

pub first_kept : IsLeaf first
first_kept = record { rows = rw no_rows tt; entries = tt; rising = tt }

pub first_alone : AreLeaves (first ∷ [])
first_alone = record { each = (first_kept, tt); tile = (refl, refl) }

-- no page was written
pub no_page : (id : ℕ) (pages : Pages) → pages ≡ table.empty → table.get pages id ≡ None
no_page id pages none = ap (λ (m : Pages). table.get m id) none ∙ table.get-empty nat_cmp id

pub fresh_kept : (log_usage page_usage : Usage) → IsSystem (fresh_system log_usage page_usage)
fresh_kept log_usage page_usage = record {
  leaves = first_alone;
  numbers = (numbers_stay.first, tt);
  records = tt;
  numbered = omega arith;
  named = omega arith;
  pages = λ id bytes is. absurd (let no : None ≡ Some bytes = sym (no_page id table.empty refl) ∙ is in cc);
}
