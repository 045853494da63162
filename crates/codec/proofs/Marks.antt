-- Marks of places: of none, of other places that are the same, and with one place more.
use Rattle.std.proofs.Common.{◌≡◌, ◌≢◌, ℕ, ◌+◌, ◌-◌, ◌*◌, ◌%◌, ◌<◌, ◌≤◌, eqb, List, [], ◌∷◌, ◌++◌, length, get_or, slice_set, sym, ap, ◌∙◌, arith, inl, inr}
use Rattle.std.proofs.lemmas.Bool.{cases_Bool, cases_lt, eqb-true, eqb-false}
use Rattle.std.proofs.lemmas.List.{length_push, length-set, get_or_append_left, get_or_at, get_or-set_same, get_or-set_other}
use Rattle.codec.specs.Marks.{marked, AreMarks}

pub no_marks : (at : ℕ → ℕ) → AreMarks at [] 0
no_marks at = record {
  enough = omega arith;
  no_more = omega arith;
  placed = λ i after lt. absurd (omega (arith, lt));
  latest = λ some. absurd (omega (arith, some));
}

-- they are marks of other places too, where these are the same
pub marks_same : (at other : ℕ → ℕ) (marks : List ℕ) (count : ℕ) → ((m : ℕ) → m ≤ count → other m ≡ at m)
    → AreMarks at marks count → AreMarks other marks count
marks_same at other marks count same h = record {
  enough = h.enough;
  no_more = h.no_more;
  placed = λ i after lt. h.placed i after lt ∙ sym (same (8 * i) (omega (arith, lt, h.no_more)));
  latest = λ some. h.latest some ∙ sym (same (count - 1) (omega arith));
}

-- marks of the eighths, among them that of the next place if it is one, with the next place in the first's stead
latest_put : (at : ℕ → ℕ) (marks : List ℕ) (count place : ℕ) → place ≡ at count → count < 8 * length marks
    → 8 * length marks < count + 9 → ((i : ℕ) → 0 < i → i < length marks → get_or marks i 0 ≡ at (8 * i))
    → AreMarks at (slice_set marks 0 place) (count + 1)
latest_put at marks count place here enough no_more placed =
    let same : length (slice_set marks 0 place) ≡ length marks = length-set marks 0 place in
    record {
      enough = omega (arith, same, enough);
      no_more = omega (arith, same, no_more);
      placed = λ i after lt.
          get_or-set_other marks 0 i place 0 (omega (arith, after)) ∙ placed i after (omega (arith, same, lt));
      latest = λ some.
          get_or-set_same marks 0 place 0 (omega (arith, enough)) ∙ here ∙ ap at (omega arith);
    }

-- the next place is marked
mark_more : (at : ℕ → ℕ) (marks : List ℕ) (count place : ℕ) → AreMarks at marks count → place ≡ at count
    → count ≡ 8 * length marks → (i : ℕ) → 0 < i → i < length (marks ++ place ∷ [])
    → get_or (marks ++ place ∷ []) i 0 ≡ at (8 * i)
mark_more at marks count place h here full i after lt =
    elim (cases_lt i (length marks)) [
      | inl older ↦ get_or_append_left marks (place ∷ []) 0 i older ∙ h.placed i after older
      | inr last ↦
          let e : length marks ≡ i = omega (arith, last, lt, length_push marks place) in
          get_or_at marks place [] 0 i e ∙ here ∙ ap at (omega (arith, full, e))
    ]

pub marks_more : (at : ℕ → ℕ) (marks : List ℕ) (count place : ℕ) → AreMarks at marks count → place ≡ at count
    → AreMarks at (marked marks count place) (count + 1)
marks_more at marks count place h here =
    elim (cases_Bool (eqb (count % 8) 0)) [
      | inl full ↦
          let all : count ≡ 8 * length marks = omega (arith, eqb-true _ _ full, h.enough, h.no_more) in
          rw full (latest_put at (marks ++ place ∷ []) count place here (omega (arith, all, length_push marks place))
          (omega (arith, all, length_push marks place)) (mark_more at marks count place h here all))
      | inr amid ↦
          let some : count % 8 ≢ 0 = eqb-false _ _ amid in
          rw amid (latest_put at marks count place here (omega (arith, some, h.enough)) (omega (arith, h.no_more)) h.placed)
    ]
