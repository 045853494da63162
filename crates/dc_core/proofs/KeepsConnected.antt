-- What a session that begins leaves of the data component, once what was performed above its end is taken back, is as
-- it must be at every moment.
use Rattle.std.proofs.Common.{◌≡◌, ℕ, ◌<◌, ◌≤◌, ◌==◌, true, false, List, [], ◌∷◌, None, map, refl, sym, ap, ◌∙◌, subst, arith, inl, inr, true≢false, eqb-true, lt-ltb, le-ltb}
use Rattle.std.specs.Prelude.{nat_le, not}
use Rattle.std.specs.List.{AllByRecursion}
use Rattle.std.specs.FinMap.{get}
use Rattle.std.proofs.lemmas.Bool.{cases_lt, or_cases, and_parts, lt-leb}
use Rattle.record_key.specs.declared.entry.Entry.{Entry}
use Rattle.record_key.specs.Table.{Bytes, Table, key_of}
use Rattle.record_key.proofs.Lists.{all_from}
use Rattle.record_key.proofs.Tables.{same_table}
use Rattle.dc_ab_lsn.specs.AbLsn.{stands_in, captures, up_to}
use Rattle.dc_ab_lsn.proofs.Popping.{popped_same}
use Rattle.dc_leaf.specs.Leaf.{LeafView, IsLeaf}
use Rattle.dc_leaf.specs.TakingBack.{taken_back as leaf_taken_back}
use Rattle.dc_take_back.specs.Performed as laws
use Rattle.dc_take_back.specs.Listed as listing
use Rattle.dc_take_back.proofs.Kept.{once_kept, falls_kept, listed_kept, answered_kept}
use Rattle.dc_take_back.proofs.Listed.{taken_replayed}
use Rattle.dc_tree.specs.Leaves.{AreLeaves, leaf_at, rows_of}
use Rattle.dc_tree.proofs.AtKey.{all_at}
use Rattle.dc_tree.proofs.Carried.{AreLows}
use Rattle.dc_tree.proofs.Changing.{all_mapped, leaf_mapped}
use Rattle.dc_tree.proofs.Tiling.{there_from}
use Rattle.dc_tree.proofs.Together.{value_from}
use Rattle.dc_store.specs.Kept.{IsSystem}
use Rattle.dc_store.specs.Changes.{accepted}
use Rattle.dc_core.specs.declared.performance.Performance.{Performance}
use Rattle.dc_core.specs.DcView.{DcView, leaves}
use Rattle.dc_core.specs.Serves.{MayTakeBack, kept_to, connected}
use Rattle.dc_core.specs.Kept.{IsDc, Saves, IsListed, AreListed, for_law, for_laws, IsPerformed, ArePerformed, IsShown}
use Rattle.dc_core.proofs.LowNumbers.{shown_after}
use Rattle.dc_core.proofs.KeepsDc.{all_both, all_for, IsCaptured, AllSave, all_save}
use Rattle.dc_core.proofs.Stored.{stored_all}

for_laws_kept : (end : ℕ) (ps : List Performance) → for_laws (kept_to end ps) ≡ listing.kept end (for_laws ps)
for_laws_kept end [] = refl
for_laws_kept end (p ∷ ps) =
    elim (cases_lt end p.number) [
      | inl over ↦ rw (lt-ltb end p.number over) (for_laws_kept end ps)
      | inr within ↦
          rw (le-ltb end p.number within)
          (ap (λ (qs : List laws.Performance). for_law p ∷ qs) (for_laws_kept end ps))
    ]

-- those that are left aren't above the end
all_left : (P : Performance → Type 0) (Q : Performance → Type 0) (end : ℕ)
    → ((p : Performance) → P p → p.number ≤ end → Q p) → (ps : List Performance) → AllByRecursion P ps
    → AllByRecursion Q (kept_to end ps)
all_left P Q end step [] all = tt
all_left P Q end step (p ∷ ps) all =
    elim (cases_lt end p.number) [
      | inl over ↦ rw (lt-ltb end p.number over) (all_left P Q end step ps all.1)
      | inr within ↦ rw (le-ltb end p.number within) (step p all.0 within, all_left P Q end step ps all.1)
    ]

all_entries : (P Q : Entry → Type 0) (end : ℕ) → ((e : Entry) → P e → e.number ≤ end → Q e) → (es : List Entry)
    → AllByRecursion P es → AllByRecursion Q (up_to end es)
all_entries P Q end step [] all = tt
all_entries P Q end step (e ∷ es) all =
    elim (cases_lt end e.number) [
      | inl over ↦ rw (lt-ltb end e.number over) (all_entries P Q end step es all.1)
      | inr within ↦ rw (le-ltb end e.number within) (step e all.0 within, all_entries P Q end step es all.1)
    ]

-- a captured number above the low one stands in an entry
pub stands : (leaf : LeafView) (n : ℕ) → captures leaf.ab n ≡ true → leaf.ab.low < n → stands_in leaf.ab.entries n ≡ true
stands leaf n got above =
    elim (or_cases (nat_le n leaf.ab.low) (stands_in leaf.ab.entries n) got) [
      | inl low ↦ absurd (true≢false (sym low ∙ lt-leb n leaf.ab.low above))
      | inr there ↦ there
    ]

-- which is that of its performance
pub saved_there : (p : Performance) (es : List Entry) → AllByRecursion (Saves p) es → stands_in es p.number ≡ true
    → listing.IsSaved es (for_law p)
saved_there p [] saves there = absurd (true≢false (sym there))
saved_there p (e ∷ es) saves there =
    elim (or_cases (p.number == e.number) (stands_in es p.number) there) [
      | inl here ↦
          let number : p.number ≡ e.number = eqb-true p.number e.number here in
          let same = saves.0 number in
          inl (record { number = number; key = same.0; answer = same.1 })
      | inr later ↦ inr (saved_there p es saves.1 later)
    ]

module _ (w : DcView) (end : ℕ) (k : IsDc w) (back : MayTakeBack w end) where
  abbrev IsAboveLow : Performance → Type 0
  IsAboveLow p = end < p.number → (leaf_at (leaves w) (key_of p.op)).ab.low < p.number

  -- one above the end has its entry in the leaf of its key
  abbrev HasEntry : Performance → Type 0
  HasEntry p = end < p.number → listing.IsSaved (leaf_at (leaves w) (key_of p.op)).ab.entries (for_law p)

  abbrev Stands : Performance → Type 0
  Stands p = end < p.number → stands_in (leaf_at (leaves w) (key_of p.op)).ab.entries p.number ≡ true

  all_stand : AllByRecursion Stands w.performed
  all_stand =
      all_both (IsCaptured (leaves w)) IsAboveLow Stands
      (λ p got shown over. stands (leaf_at (leaves w) (key_of p.op)) p.number got (shown over)) w.performed k.captured
      back.shown

  have_entries : AllByRecursion HasEntry w.performed
  have_entries =
      all_both Stands (AllSave (leaves w)) HasEntry
      (λ p there saves over. saved_there p (leaf_at (leaves w) (key_of p.op)).ab.entries
      (all_at (λ (leaf : LeafView). AllByRecursion (Saves p) leaf.ab.entries) (leaves w) (key_of p.op) k.system.leaves
      saves) (there over)) w.performed all_stand (all_save w.performed (leaves w) k.saved)

  -- ---- the leaves

  abbrev new : List LeafView
  new = map (λ leaf. leaf_taken_back leaf end) (leaves w)

  leaf_new : (q : Bytes) → leaf_at new q ≡ leaf_taken_back (leaf_at (leaves w) q) end
  leaf_new q =
      leaf_mapped (λ leaf. leaf_taken_back leaf end) (λ leaf. refl) (leaves w) q
      (there_from None (leaves w) q k.system.leaves.tile refl)

  abbrev all : List laws.Performance
  all = for_laws w.performed

  listed_at : (q : Bytes) → listing.IsListedAt w.opened all end q (leaf_at (leaves w) q)
  listed_at q =
      let leaf : LeafView = leaf_at (leaves w) q in
      let each : AllByRecursion (IsPerformed w.opened_to all) leaf.ab.entries =
      all_at (ArePerformed w.opened_to all) (leaves w) q k.system.leaves k.added in record {
        value = sym (value_from None (leaves w) q k.system.leaves.tile k.system.leaves.each refl)
            ∙ ap (λ (m : Table). get m q) k.rows;
        answered = k.answered;
        once = k.once;
        falls = k.falls q;
        rising = (all_at IsLeaf (leaves w) q k.system.leaves k.system.leaves.each).rising;
        listed = all_from (IsPerformed w.opened_to all)
            (λ (e : Entry). e.key ≡ q → end < e.number → listing.IsListed all e)
            (λ e was on over. was (let opened = back.opened in omega (arith, opened, over))) leaf.ab.entries each;
        saved = all_for
            (λ (p : laws.Performance). key_of p.op ≡ q → end < p.number → listing.IsSaved leaf.ab.entries p)
            w.performed (all_from HasEntry
            (λ (p : Performance). key_of p.op ≡ q → end < p.number → listing.IsSaved leaf.ab.entries (for_law p))
            (λ p has on over. subst (λ (z : Bytes). listing.IsSaved (leaf_at (leaves w) z).ab.entries (for_law p)) on
            (has over)) w.performed have_entries);
      }

  module _ (kept : AreLeaves new) where
    value_new : (q : Bytes) → get (rows_of new) q ≡ get (laws.replayed w.opened (listing.kept end all)) q
    value_new q =
        value_from None new q kept.tile kept.each refl
        ∙ ap (λ (leaf : LeafView). get leaf.rows q) (leaf_new q)
        ∙ taken_replayed w.opened all end q (leaf_at (leaves w) q) (listed_at q)

    rows_new : rows_of new ≡ laws.replayed w.opened (listing.kept end all)
    rows_new = same_table (rows_of new) (laws.replayed w.opened (listing.kept end all)) value_new

  captured_new : AllByRecursion (IsCaptured new) (kept_to end w.performed)
  captured_new =
      all_left (IsCaptured (leaves w)) (IsCaptured new) end
      (λ p was le. ap (λ (leaf : LeafView). captures leaf.ab p.number) (leaf_new (key_of p.op))
      ∙ popped_same (leaf_at (leaves w) (key_of p.op)).ab end p.number le ∙ was) w.performed k.captured

  saved_new : AllByRecursion (AreListed (kept_to end w.performed)) new
  saved_new =
      all_mapped (AreListed w.performed) (AreListed (kept_to end w.performed)) (λ leaf. leaf_taken_back leaf end)
      (λ leaf was. all_entries (IsListed w.performed) (IsListed (kept_to end w.performed)) end
      (λ e listed le. all_left (λ (p : Performance). Saves p e) (λ (p : Performance). Saves p e) end
      (λ p saves _. saves) w.performed listed) leaf.ab.entries was) (leaves w) k.saved

  added_new : AllByRecursion (ArePerformed w.opened_to (listing.kept end all)) new
  added_new =
      all_mapped (ArePerformed w.opened_to all) (ArePerformed w.opened_to (listing.kept end all))
      (λ leaf. leaf_taken_back leaf end)
      (λ leaf was. all_entries (IsPerformed w.opened_to all) (IsPerformed w.opened_to (listing.kept end all)) end
      (λ e listed le over. listed_kept end e all le (listed over)) leaf.ab.entries was) (leaves w) k.added

  lows_new : (P : ℕ → Type 0) → AreLows P (leaves w) → AreLows P new
  lows_new P all =
      all_mapped (λ (leaf : LeafView). P leaf.ab.low) (λ (leaf : LeafView). P leaf.ab.low)
      (λ leaf. leaf_taken_back leaf end) (λ leaf low. low) (leaves w) all

  shown_new : AllByRecursion (IsShown w.redone_low new) (kept_to end w.performed)
  shown_new =
      all_left (IsShown w.redone_low (leaves w)) (IsShown w.redone_low new) end
      (λ p was le. shown_after w.redone_low (leaves w) new lows_new
      (λ q. ap (λ (leaf : LeafView). leaf.ab.low) (leaf_new q)) p was) w.performed k.shown

  module _ (s : ℕ) where
    -- with the list for the laws
    pub keeps_connected : IsSystem (connected w s end).system → IsDc (connected w s end)
    keeps_connected is =
        let same : listing.kept end all ≡ for_laws (kept_to end w.performed) = sym (for_laws_kept end w.performed) in
        record {
          system = is;
          rows = rows_new is.leaves ∙ ap (laws.replayed w.opened) same;
          once = subst listing.IsOnce same (once_kept end all k.once);
          captured = captured_new;
          saved = saved_new;
          answered = subst (laws.AreAnsweredInPlace w.opened) same (answered_kept w.opened all end k.answered k.falls);
          falls = λ q. subst (listing.FallOn q) same (falls_kept end q all (k.falls q));
          added = subst (λ (ps : List laws.Performance). AllByRecursion (ArePerformed w.opened_to ps) new) same
              added_new;
          shown = shown_new;
          level = λ may. absurd (true≢false (sym (and_parts (not (s == 0)) false may).1));
          session = inr refl;
          stored = omega (arith, stored_all (accepted w.system s).log);
        }
