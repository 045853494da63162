-- What the leaves tell of the performances, of which each that no low number hides has its entry.
use Rattle.std.proofs.Common.{◌≡◌, ℕ, ◌<◌, ◌≤◌, ◌+◌, Option, None, Some, true, false, List, [], ◌∷◌, refl, ap, sym, subst, ◌∙◌, inl, inr, true≢false, arith}
use Rattle.std.specs.Prelude.{◌⊎◌}
use Rattle.std.specs.List.{AllByRecursion}
use Rattle.std.proofs.lemmas.Bool.{cases_lt}
use Rattle.record_key.specs.declared.op.Op.{Op}
use Rattle.record_key.specs.declared.op.Op.TheVariants.{Insert, Update, Upsert, Delete, Add}
use Rattle.record_key.specs.declared.entry.Entry.{Entry}
use Rattle.record_key.specs.Table.{Bytes, Table, key_of, is_add, AreAdds, answer_at}
use Rattle.record_key.proofs.Lists.{all_from}
use Rattle.codec.specs.declared.request.Request.{Request}
use Rattle.codec.specs.declared.request.Request.TheVariants as asks
use Rattle.dc_leaf.specs.Leaf.{LeafView}
use Rattle.dc_take_back.specs.Performed as laws
use Rattle.dc_take_back.specs.Listed as listing
use Rattle.dc_tree.specs.Leaves.{leaf_at}
use Rattle.dc_tree.proofs.AtKey.{all_at}
use Rattle.dc_core.specs.declared.performance.Performance.{Performance}
use Rattle.dc_core.specs.DcView.{DcView, leaves, captures_at}
use Rattle.dc_core.specs.Shows.{was_added, Follows, IsOn, IsSavedOn, NoneHidden, MayCome, Shows}
use Rattle.dc_core.specs.Kept.{IsDc, Saves, IsShown, for_law, for_laws}
use Rattle.dc_core.specs.Serves.{ComesNext, MayAsk}
use Rattle.dc_core.proofs.KeepsDc.{all_both, above_low, IsCaptured, AllSave, all_save}
use Rattle.dc_core.proofs.KeepsConnected.{stands, saved_there}

-- what is so of each entry is so of that of a performance
saved_has : (P : Entry → Type 0) (Q : Type 0) (p : laws.Performance) (es : List Entry)
    → ((e : Entry) → listing.IsOf p e → P e → Q) → AllByRecursion P es → listing.IsSaved es p → Q
saved_has P Q p [] from all saved = absurd saved
saved_has P Q p (e ∷ es) from all (inl here) = from e here all.0
saved_has P Q p (e ∷ es) from all (inr later) = saved_has P Q p es from all.1 later

-- only an Add is answered as one
added_at : (o : Op) (old : Option Bytes) → was_added (answer_at o old) ≡ true → is_add o ≡ true
added_at (Insert k v) None was = absurd (true≢false (sym was))
added_at (Insert k v) (Some old) was = absurd (true≢false (sym was))
added_at (Update k v) None was = absurd (true≢false (sym was))
added_at (Update k v) (Some old) was = absurd (true≢false (sym was))
added_at (Upsert k v) old was = absurd (true≢false (sym was))
added_at (Delete k) None was = absurd (true≢false (sym was))
added_at (Delete k) (Some old) was = absurd (true≢false (sym was))
added_at (Add k x) old was = refl

abbrev IsAdd : Performance → Type 0
IsAdd p = was_added p.answer ≡ true → is_add p.op ≡ true

all_add : (opened : Table) (ps : List Performance) → laws.AreAnsweredInPlace opened (for_laws ps) → AllByRecursion IsAdd ps
all_add opened [] all = tt
all_add opened (p ∷ ps) all = (
  λ was. added_at p.op _ (sym (ap was_added all.0) ∙ was),
  all_add opened ps all.1,
)

module _ (w : DcView) (k : IsDc w) where
  -- one that isn't hidden has its entry
  abbrev HasEntry : Performance → Type 0
  HasEntry p = (leaf_at (leaves w) (key_of p.op)).ab.low < p.number
      → listing.IsSaved (leaf_at (leaves w) (key_of p.op)).ab.entries (for_law p)

  have_entries : AllByRecursion HasEntry w.performed
  have_entries =
      all_both (IsCaptured (leaves w)) (AllSave (leaves w)) HasEntry
      (λ p got saves above. saved_there p (leaf_at (leaves w) (key_of p.op)).ab.entries
      (all_at (λ (leaf : LeafView). AllByRecursion (Saves p) leaf.ab.entries) (leaves w) (key_of p.op) k.system.leaves
      saves) (stands (leaf_at (leaves w) (key_of p.op)) p.number got above)) w.performed k.captured
      (all_save w.performed (leaves w) k.saved)

  -- the number is on this key: a performance of it has its entry, since what hides it everywhere would capture it here
  listed_on : (n : ℕ) (o : Op) → captures_at w (key_of o) n ≡ false → w.redone_low < n → IsSavedOn w n (key_of o)
      → AllByRecursion (λ (p : Performance). p.number ≡ n → key_of p.op ≡ key_of o) w.performed
  listed_on n o out over on =
      all_both HasEntry (IsShown w.redone_low (leaves w))
      (λ (p : Performance). p.number ≡ n → key_of p.op ≡ key_of o)
      (λ p has shown same. elim (shown (omega (arith, over, same))) [
        | inl below ↦
            saved_has (IsOn n (key_of o)) (key_of p.op ≡ key_of o) (for_law p)
            (leaf_at (leaves w) (key_of p.op)).ab.entries (λ e of its. of.key ∙ its (sym of.number ∙ same))
            (all_at (λ (l : LeafView). AllByRecursion (IsOn n (key_of o)) l.ab.entries) (leaves w) (key_of p.op)
            k.system.leaves on) (has below)
        | inr all ↦
            let here : p.number ≤ (leaf_at (leaves w) (key_of o)).ab.low =
            all_at (λ (l : LeafView). p.number ≤ l.ab.low) (leaves w) (key_of o) k.system.leaves all in
            let above = above_low (leaf_at (leaves w) (key_of o)) n out in
            absurd (omega (arith, here, above, same))
      ]) w.performed have_entries k.shown

  -- a new operation comes after those on its key
  comes_next : (n : ℕ) (o : Op) → MayCome w n o → captures_at w (key_of o) n ≡ false → ComesNext w n o
  comes_next n o may out =
      all_both HasEntry IsAdd (λ (p : Performance). key_of p.op ≡ key_of o → (p.number < n) ⊎ AreAdds o p.op) next
      w.performed have_entries (all_add w.opened w.performed k.answered)
    where
      low : ℕ
      low = (leaf_at (leaves w) (key_of o)).ab.low

      above : low < n
      above = above_low (leaf_at (leaves w) (key_of o)) n out

      follow : (p : Performance) → IsAdd p → key_of p.op ≡ key_of o → (e : Entry) → listing.IsOf (for_law p) e
          → Follows n o e → (p.number < n) ⊎ AreAdds o p.op
      follow p adds on e of its =
          elim (its (sym of.key ∙ on)) [
            | inl lt ↦ let number = of.number in inl (omega (arith, lt, number))
            | inr both ↦ inr (both.0, adds (ap was_added of.answer ∙ both.1))
          ]

      next : (p : Performance) → HasEntry p → IsAdd p → key_of p.op ≡ key_of o → (p.number < n) ⊎ AreAdds o p.op
      next p has adds on =
          let same : leaf_at (leaves w) (key_of p.op) ≡ leaf_at (leaves w) (key_of o) = ap (leaf_at (leaves w)) on in
          let lows : (leaf_at (leaves w) (key_of p.op)).ab.low ≡ low = ap (λ (l : LeafView). l.ab.low) same in
          elim (cases_lt low p.number) [
            | inl over ↦
                saved_has (Follows n o) ((p.number < n) ⊎ AreAdds o p.op) (for_law p)
                (leaf_at (leaves w) (key_of p.op)).ab.entries (follow p adds on)
                (subst (λ (l : LeafView). AllByRecursion (Follows n o) l.ab.entries) (sym same) may)
                (has (omega (arith, over, lows)))
            | inr under ↦ inl (omega (arith, under, above))
          ]

  -- nothing above the end is hidden
  none_hidden : (end : ℕ) → NoneHidden w (end + 1)
      → AllByRecursion (λ (p : Performance). end < p.number → (leaf_at (leaves w) (key_of p.op)).ab.low < p.number)
      w.performed
  none_hidden end low =
      all_from HasEntry
      (λ (p : Performance). end < p.number → (leaf_at (leaves w) (key_of p.op)).ab.low < p.number)
      (λ p has over.
      let below : (leaf_at (leaves w) (key_of p.op)).ab.low < end + 1 =
      all_at (λ (l : LeafView). l.ab.low < end + 1) (leaves w) (key_of p.op) k.system.leaves low in
      omega (arith, below, over)) w.performed have_entries

  -- what the leaves show is what the caller owes
  pub owed : (request : Request) → Shows w request → MayAsk w request
  owed (asks.Connect s end) shows =
      λ allowed begins.
      let it = shows allowed begins in
      record { opened = it.0; shown = none_hidden end it.1 }
  owed (asks.Perform s n stable o) shows =
      λ allowed out.
      let it = shows allowed in
      let next = it.1 out in
      (record { listed = listed_on n o out next.0 it.0; saved = it.0 }, comes_next n o next.1 out)
  owed (asks.Get s r key) shows = tt
  owed (asks.Scan s r low high) shows = tt
  owed (asks.LowWater s l) shows = tt
  owed (asks.Checkpoint s l) shows = tt
  owed (asks.RedoEnd s) shows = tt
  owed (asks.StableEnd s stable) shows = tt
