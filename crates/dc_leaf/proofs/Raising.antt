-- An honest leaf whose low number rises over captured ones stays honest.
use Rattle.std.proofs.Common.{◌≡◌, ℕ, ◌≤◌, ◌||◌, Bool, true, false, cond, filter, List, [], ◌∷◌, refl, sym, ap, ◌∙◌, inl, inr}
use Rattle.std.specs.Prelude.{nat_le, nat_lt}
use Rattle.std.specs.List.{AllByRecursion}
use Rattle.std.specs.FinMap.{get}
use Rattle.std.proofs.lemmas.Bool.{cases_lt, lt-leb, lt-ltb, le-ltb}
use Rattle.history.specs.declared.record.Record.{Record}
use Rattle.history.specs.Honest.{Numbered, numbered_on, IsHonestAt}
use Rattle.record_key.specs.declared.entry.Entry.{Entry}
use Rattle.dc_ab_lsn.specs.AbLsn.{AbLsnView, captures, raised}
use Rattle.dc_ab_lsn.proofs.Capturing.{raised_captures}
use Rattle.dc_leaf.specs.Leaf.{LeafView, is_in_fences, raised_to}
use Rattle.dc_leaf.specs.Honest.{IsSavedRight, IsHonestLeaf, IsCapturedTo}
use Rattle.dc_leaf.proofs.OnKey.{all_done, left_out_alike, value_alike}

kept : (P : Entry → Type 0) (b : Bool) (e : Entry) (es : List Entry) → P e → AllByRecursion P es
    → AllByRecursion P (cond b (e ∷ es) es)
kept P true e es here all = (here, all)
kept P false e es here all = all

pub all_filtered : (P : Entry → Type 0) (p : Entry → Bool) (es : List Entry) → AllByRecursion P es
    → AllByRecursion P (filter p es)
all_filtered P p [] all = tt
all_filtered P p (e ∷ es) all = kept P (p e) e (filter p es) all.0 (all_filtered P p es all.1)

pub all_raised : (P : Entry → Type 0) (v : AbLsnView) (l : ℕ) → AllByRecursion P v.entries
    → AllByRecursion P (raised v l).entries
all_raised P v l all =
    elim (cases_lt v.low l) [
      | inl lt ↦ rw (lt-ltb v.low l lt) (all_filtered P (λ (e : Entry). nat_lt l e.number) v.entries all)
      | inr ge ↦ rw (le-ltb v.low l ge) all
    ]

pub or_there : (a b : Bool) → (b ≡ true → a ≡ true) → a ≡ (a || b)
or_there true b h = refl
or_there false true h = h refl
or_there false false h = refl

captured_to : (leaf : LeafView) (l m : ℕ) → (m ≤ l → captures leaf.ab m ≡ true) → nat_le m l ≡ true
    → captures leaf.ab m ≡ true
captured_to leaf l m h le =
    elim (cases_lt l m) [
      | inl lt ↦ let no : true ≡ false = sym le ∙ lt-leb m l lt in cc
      | inr ge ↦ h ge
    ]

pub honest_raised : (log : List Record) (leaf : LeafView) (l : ℕ) → IsHonestLeaf log leaf → IsCapturedTo log leaf l
    → IsHonestLeaf log (raised_to leaf l)
honest_raised log leaf l honest to = record {
  at = λ k within.
      let old : ℕ → Bool = λ (m : ℕ). captures leaf.ab m in
      let new : ℕ → Bool = λ (m : ℕ). captures (raised leaf.ab l) m in
      let h : IsHonestAt log old k (get leaf.rows k) = honest.at k within in
      let alike : AllByRecursion (λ (d : Numbered). old d.number ≡ new d.number) (numbered_on k log) =
      all_done (λ (m : ℕ). old m ≡ new m) k log (λ m q asks on.
      or_there (captures leaf.ab m) (nat_le m l)
      (captured_to leaf l m (to.all m q asks (ap (is_in_fences leaf) on ∙ within)))
      ∙ sym (raised_captures leaf.ab l m)) in
      record {
        left_out = left_out_alike old new (numbered_on k log) alike h.left_out;
        right = h.right ∙ value_alike old new (numbered_on k log) alike;
      };
  saved = all_raised (IsSavedRight log) leaf.ab l honest.saved;
}
