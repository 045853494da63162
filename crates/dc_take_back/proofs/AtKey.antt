-- What taking back leaves at one key.
use Rattle.std.proofs.Common.{◌≡◌, ℕ, ◌<◌, ◌≤◌, ◌==◌, Bool, true, false, filter, List, [], ◌∷◌, Option, Some, None, refl, sym, ap, ◌∙◌, subst, arith, inl, inr, lt-ltb, le-ltb, eq-eqb, ne_eqb}
use Rattle.std.specs.Prelude.{not, nat_lt, if◌then◌else◌}
use Rattle.std.specs.List.{AllByRecursion}
use Rattle.std.specs.FinMap.{get}
use Rattle.std.proofs.lemmas.Bool.{cases_lt, cases_Bool}
use Rattle.record_key.specs.declared.op.Op.{Op}
use Rattle.record_key.specs.declared.entry.Entry.{Entry}
use Rattle.record_key.specs.Entries.{RiseAbove}
use Rattle.record_key.specs.Table.{Bytes, Table, key_of, is_add, answer_at}
use Rattle.record_key.proofs.Adds.{adds_commute}
use Rattle.record_key.proofs.Tables.{is_same, is_same-refl, is_same-true}
use Rattle.inverse.specs.Inverse.{undo_of, inverse_of}
use Rattle.inverse.proofs.Undo.{Outcome, outcome}
use Rattle.dc_leaf.specs.TakingBack.{undone_by, rows_back}
use Rattle.dc_leaf.proofs.Undoing.{undone_value, undone_here, undone_elsewhere}
use Rattle.dc_take_back.specs.Performed.{Performance}
use Rattle.dc_take_back.specs.Listed.{IsSaved}

pub not_same : (k : Bytes) (q : Bytes) → is_same q k ≡ false → q ≡ k → ⊥
not_same k q apart on = let yes : true ≡ false = sym (ap (λ x. is_same x k) on ∙ is_same-refl k) ∙ apart in cc

-- an entry above the end on the key counts, latest first
abbrev counts : Bytes → ℕ → Entry → Bool
counts k end e = if nat_lt end e.number then is_same e.key k else false

abbrev pub back_on : Bytes → ℕ → List Entry → Option Bytes → Option Bytes
back_on k end [] v = v
back_on k end (e ∷ es) v =
    if counts k end e then undone_value (undo_of e.key e.answer) (back_on k end es v) else back_on k end es v

at_one : (k : Bytes) (end : ℕ) (e : Entry) (m : Table) (v : Option Bytes) (over : Bool) → nat_lt end e.number ≡ over
    → get m k ≡ v
    → get (if nat_lt end e.number then undone_by m e else m) k
    ≡ (if counts k end e then undone_value (undo_of e.key e.answer) v else v)
at_one k end e m v true is rest =
    elim (cases_Bool (is_same e.key k)) [
      | inl on ↦
          let key : e.key ≡ k = is_same-true e.key k on in
          rw (is, on) (ap (get (undone_by m e)) (sym key) ∙ undone_here m e
          ∙ ap (undone_value (undo_of e.key e.answer)) (ap (get m) key ∙ rest))
      | inr off ↦ rw (is, off) (undone_elsewhere m e k (λ same. not_same k e.key off (sym same)) ∙ rest)
    ]
at_one k end e m v false is rest = rw is rest

pub rows_at : (k : Bytes) (end : ℕ) (es : List Entry) (m : Table)
    → get (rows_back end es m) k ≡ back_on k end es (get m k)
rows_at k end [] m = refl
rows_at k end (e ∷ es) m =
    at_one k end e (rows_back end es m) (back_on k end es (get m k)) (nat_lt end e.number) refl (rows_at k end es m)

counted : (k : Bytes) (end : ℕ) (e : Entry) → counts k end e ≡ true → (end < e.number) × (e.key ≡ k)
counted k end e h =
    elim (cases_lt end e.number) [
      | inl less ↦ (less, is_same-true e.key k (rw (lt-ltb end e.number less) at h))
      | inr ge ↦ absurd (let no : false ≡ true = rw (le-ltb end e.number ge) at h in cc)
    ]

-- what holds of the entries on the key above the end
abbrev pub AllCounted : Bytes → ℕ → (Entry → Type 0) → List Entry → Type 0
AllCounted k end P es = AllByRecursion (λ (e : Entry). e.key ≡ k → end < e.number → P e) es

pub none_on : (k : Bytes) (end : ℕ) (es : List Entry) (v : Option Bytes) → AllCounted k end (λ e. ⊥) es
    → back_on k end es v ≡ v
none_on k end [] v none = refl
none_on k end (e ∷ es) v none =
    elim (cases_Bool (counts k end e)) [
      | inl on ↦ let is = counted k end e on in absurd (none.0 is.1 is.0)
      | inr off ↦ rw off (none_on k end es v none.1)
    ]

-- an Add, or nothing
abbrev pub IfAdd : Option Op → Type 0
IfAdd None = Unit {0}
IfAdd (Some o) = is_add o ≡ true

add_undone_with : (o : Op) (r : Option Bytes) (i : Option Op) → is_add o ≡ true → Outcome o r i → IfAdd i
add_undone_with o r None add out = tt
add_undone_with o r (Some j) add out = out.adds ∙ add

pub add_undone : (o : Op) (r : Option Bytes) → is_add o ≡ true → IfAdd (undo_of (key_of o) (answer_at o r))
add_undone o r add = add_undone_with o r (inverse_of o (answer_at o r)) add (outcome o r)

either_undone : (i j : Option Op) (v : Option Bytes) → IfAdd i → IfAdd j
    → undone_value i (undone_value j v) ≡ undone_value j (undone_value i v)
either_undone None j v one other = refl
either_undone (Some o) None v one other = refl
either_undone (Some o) (Some q) v one other = adds_commute.value o q v (one, other)

abbrev pub PassesBy : Bytes → Option Op → Entry → Type 0
PassesBy k i e = IfAdd i × IfAdd (undo_of k e.answer)

pub past_all : (k : Bytes) (end : ℕ) (i : Option Op) (es : List Entry) (v : Option Bytes)
    → AllCounted k end (PassesBy k i) es
    → undone_value i (back_on k end es v) ≡ back_on k end es (undone_value i v)
past_all k end i [] v all = refl
past_all k end i (e ∷ es) v all =
    elim (cases_Bool (counts k end e)) [
      | inl on ↦
          let is = counted k end e on in
          let pass = all.0 is.1 is.0 in
          rw on (either_undone i (undo_of e.key e.answer) (back_on k end es v) pass.0
          (subst (λ x. IfAdd (undo_of x e.answer)) (sym is.1) pass.1)
          ∙ ap (undone_value (undo_of e.key e.answer)) (past_all k end i es v all.1))
      | inr off ↦ rw off (past_all k end i es v all.1)
    ]

-- the entries but that of a number
abbrev pub minus : ℕ → List Entry → List Entry
minus n es = filter (λ (e : Entry). not (e.number == n)) es

none_minus : (n l : ℕ) (es : List Entry) → n ≤ l → RiseAbove l es → minus n es ≡ es
none_minus n l [] le rising = refl
none_minus n l (e ∷ es) le rising =
    let more = rising.0 in
    rw (ne_eqb e.number n (λ same. omega (arith, same, more, le)))
    (ap (λ (fs : List Entry). e ∷ fs) (none_minus n e.number es (omega (arith, more, le)) rising.1))

below_saved : (l n : ℕ) (p : Performance) (es : List Entry) → p.number ≡ n → RiseAbove l es → IsSaved es p → l < n
below_saved l n p [] is rising has = absurd has
below_saved l n p (e ∷ es) is rising (inl here) =
    let more = rising.0 in let number = here.number in omega (arith, more, number, is)
below_saved l n p (e ∷ es) is rising (inr later) =
    let more = rising.0 in
    let rest = below_saved e.number n p es is rising.1 later in
    omega (arith, more, rest)

all_later : (k : Bytes) (end l n : ℕ) (P : Entry → Type 0) (es : List Entry) → n ≤ l → RiseAbove l es
    → AllCounted k end (λ e. n < e.number → P e) es → AllCounted k end P es
all_later k end l n P [] le rising all = tt
all_later k end l n P (e ∷ es) le rising all = (
  λ on over. all.0 on over (let more = rising.0 in omega (arith, more, le)),
  all_later k end e.number n P es (let more = rising.0 in omega (arith, more, le)) rising.1 all.1,
)

-- a performance may be taken back first, where it passes by those above it
pub first_back : (k : Bytes) (end l : ℕ) (p : Performance) (es : List Entry) (v : Option Bytes) → key_of p.op ≡ k
    → end < p.number → RiseAbove l es → IsSaved es p
    → AllCounted k end (λ e. p.number < e.number → PassesBy k (undo_of k p.answer) e) es
    → back_on k end es v ≡ back_on k end (minus p.number es) (undone_value (undo_of k p.answer) v)
first_back k end l p [] v on over rising has all = absurd has
first_back k end l p (e ∷ es) v on over rising (inl here) all =
    let number : e.number ≡ p.number = sym here.number in
    let key : e.key ≡ k = sym here.key ∙ on in
    let on_key : is_same e.key k ≡ true = ap (λ (x : Bytes). is_same x k) key ∙ is_same-refl k in
    let undo : undo_of e.key e.answer ≡ undo_of k p.answer = (λ i. undo_of (key i) (sym here.answer i)) in
    let later = all_later k end e.number p.number (PassesBy k (undo_of k p.answer)) es (omega (arith, number)) rising.1
    all.1 in
    rw (
      lt-ltb end e.number (omega (arith, number, over)),
      on_key,
      eq-eqb e.number p.number number,
      none_minus p.number e.number es (omega (arith, number)) rising.1,
      undo,
    ) (past_all k end (undo_of k p.answer) es v later)
first_back k end l p (e ∷ es) v on over rising (inr later) all =
    let below : e.number < p.number = below_saved e.number p.number p es refl rising.1 later in
    let rest = first_back k end e.number p es v on over rising.1 later all.1 in
    rw (ne_eqb e.number p.number (λ same. omega (arith, same, below)))
    (ap (λ x. if counts k end e then undone_value (undo_of e.key e.answer) x else x) rest)
