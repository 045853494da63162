-- What a label stands for, before and after a key was put into the map of labels.
use Rattle.std.proofs.Common.{◌≡◌, ℕ, Bool, true, false, cond, List, Option, Some, None, Result, Ok, Err, unwrap_or, ap, sym, ◌∙◌, refl}
use Rattle.std.specs.Prelude.{is_some, IsSome, OnOk, OnErr}
use Rattle.std.specs.Ordering.{nat_cmp}
use Rattle.std.specs.Cmp.{Equal-is}
use Rattle.std.specs.Cmp.Lexicographic.{slice_cmp}
use Rattle.std.specs.BTreeMap.{BTreeMap, get, is_at, Updates}
use Rattle.std.proofs.lemmas.Map.Lookups.{exact_bytes}

at_label : (label q : List ℕ) → is_at (slice_cmp nat_cmp label) q ≡ true → label ≡ q
at_label label q h = exact_bytes label q ((Equal-is (slice_cmp nat_cmp label q)).0 h)

zero_by : (label q : List ℕ) (m : BTreeMap (List ℕ) ℕ) (b : Bool) → is_at (slice_cmp nat_cmp label) q ≡ b
    → get (slice_cmp nat_cmp) m label ≡ None
    → unwrap_or (cond b (Some 0) (get (slice_cmp nat_cmp) m q)) 0 ≡ unwrap_or (get (slice_cmp nat_cmp) m q) 0
zero_by label q m true e none =
    sym (ap (λ v. unwrap_or v 0) (ap (get (slice_cmp nat_cmp) m) (sym (at_label label q e)) ∙ none))
zero_by label q m false e none = refl

-- a label that wasn't there and is put in with 0 stands for what it stood for
pub put_zero : (m n : BTreeMap (List ℕ) ℕ) (label : List ℕ) → get (slice_cmp nat_cmp) m label ≡ None
    → Updates (slice_cmp nat_cmp) m n label (Some 0) → (q : List ℕ)
    → unwrap_or (get (slice_cmp nat_cmp) n q) 0 ≡ unwrap_or (get (slice_cmp nat_cmp) m q) 0
put_zero m n label none h q =
    ap (λ v. unwrap_or v 0) (h.0 q) ∙ zero_by label q m (is_at (slice_cmp nat_cmp label) q) refl none

apart_by : (label q : List ℕ) (b : Bool) → is_at (slice_cmp nat_cmp label) q ≡ b → (q ≡ label → ⊥) → b ≡ false
apart_by label q true e h = absurd (h (sym (at_label label q e)))
apart_by label q false e h = refl

-- another label than the one that was put in
pub put_elsewhere : (m n : BTreeMap (List ℕ) ℕ) (label : List ℕ) (w : Option ℕ)
    → Updates (slice_cmp nat_cmp) m n label w → (q : List ℕ) → (q ≡ label → ⊥)
    → unwrap_or (get (slice_cmp nat_cmp) n q) 0 ≡ unwrap_or (get (slice_cmp nat_cmp) m q) 0
put_elsewhere m n label w h q ne =
    ap (λ v. unwrap_or v 0) (h.2 q (apart_by label q (is_at (slice_cmp nat_cmp label) q) refl ne))

pub put_here : (m n : BTreeMap (List ℕ) ℕ) (label : List ℕ) (number : ℕ)
    → Updates (slice_cmp nat_cmp) m n label (Some number) → unwrap_or (get (slice_cmp nat_cmp) n label) 0 ≡ number
put_here m n label number h = ap (λ v. unwrap_or v 0) h.1

pub none_there : (o : Option ℕ) → is_some o ≡ false → o ≡ None
none_there None h = refl
none_there (Some x) h = cc h

absent : (o : Option ℕ) → o ≡ None → IsSome o → ⊥
absent None e h = cc h
absent (Some x) e h = cc e

-- a key that is there can't be refused
pub put_surely : {A E P : Type 0} (o : Option ℕ) (r : Result A E) → IsSome o → OnErr r (o ≡ None) → OnOk r P → P
put_surely o (Ok x) there refused h = h
put_surely o (Err e) there refused h = absurd (absent o refused there)
