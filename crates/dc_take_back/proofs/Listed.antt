-- A leaf whose entries above an end are taken back has at a key what the performances up to the end leave there.
use Rattle.std.proofs.Common.{◌≡◌, ◌≢◌, ℕ, ◌<◌, ◌≤◌, ◌==◌, true, List, [], ◌∷◌, Option, Some, refl, sym, ap, ◌∙◌, subst, arith, inl, inr, lt-ltb, le-ltb, eq-eqb, ne_eqb}
use Rattle.std.specs.Prelude.{not}
use Rattle.std.specs.List.{AllByRecursion}
use Rattle.std.specs.FinMap.{get}
use Rattle.std.proofs.lemmas.Bool.{cases_lt, cases_eq, cases_Bool}
use Rattle.record_key.specs.declared.op.Op.{Op}
use Rattle.record_key.specs.declared.entry.Entry.{Entry}
use Rattle.record_key.specs.Entries.{RiseAbove}
use Rattle.record_key.specs.Table.{Bytes, Table, key_of, is_add, answer_at, value_after, after}
use Rattle.record_key.proofs.Lists.{all_from}
use Rattle.record_key.proofs.Tables.{is_same, is_same-true, get-with_record_same, get-with_record_other}
use Rattle.inverse.specs.Inverse.{undo_of}
use Rattle.dc_ab_lsn.proofs.Rising.{filtered_rises}
use Rattle.dc_leaf.proofs.Undoing.{undone_value, value_back}
use Rattle.dc_take_back.specs.Performed.{Performance, replayed, AreAnsweredInPlace}
use Rattle.dc_take_back.specs.Listed.{kept, IsListed, IsSaved, IsOnce, AreOlder, FallOn, TakenIsReplayed}
use Rattle.dc_take_back.proofs.AtKey.{not_same, back_on, rows_at, AllCounted, none_on, IfAdd, add_undone, PassesBy, past_all, minus, first_back}

pub after_here : (R : Table) (o : Op) (k : Bytes) → key_of o ≡ k → get (after R o) k ≡ value_after o (get R k)
after_here R o k on =
    ap (get (after R o)) (sym on) ∙ get-with_record_same R (key_of o) (value_after o (get R (key_of o)))
    ∙ ap (λ q. value_after o (get R q)) on

after_off : (R : Table) (o : Op) (k : Bytes) → (key_of o ≡ k → ⊥) → get (after R o) k ≡ get R k
after_off R o k off = get-with_record_other R (key_of o) k (value_after o (get R (key_of o))) (λ e. off (sym e))

-- an entry of an older one that isn't below it is an Add's, and so is it
listed_adds : (opened : Table) (k : Bytes) (p : Performance) (ps : List Performance) (e : Entry) → e.key ≡ k
    → p.number ≤ e.number → AreAnsweredInPlace opened ps → AreOlder k p ps → IsListed ps e
    → (is_add p.op ≡ true) × IfAdd (undo_of k e.answer)
listed_adds opened k p [] e on le answered older has = absurd has
listed_adds opened k p (q ∷ ps) e on le answered older (inl here) =
    elim (older.0 (here.key ∙ on)) [
      | inl less ↦ let number = here.number in absurd (omega (arith, less, number, le))
      | inr both ↦
          let key : key_of q.op ≡ k = here.key ∙ on in
          let right : answer_at q.op (get (replayed opened ps) (key_of q.op)) ≡ e.answer =
          sym answered.0 ∙ here.answer in (
            both.0,
            subst IfAdd (λ i. undo_of (key i) (right i))
                (add_undone q.op (get (replayed opened ps) (key_of q.op)) both.1),
          )
    ]
listed_adds opened k p (q ∷ ps) e on le answered older (inr later) =
    listed_adds opened k p ps e on le answered.1 older.1 later

all_minus : (P Q : Entry → Type 0) (n : ℕ) (es : List Entry) → ((e : Entry) → e.number ≢ n → P e → Q e)
    → AllByRecursion P es → AllByRecursion Q (minus n es)
all_minus P Q n [] each all = tt
all_minus P Q n (e ∷ es) each all =
    elim (cases_eq e.number n) [
      | inl same ↦ rw (eq-eqb e.number n same) (all_minus P Q n es each all.1)
      | inr other ↦ rw (ne_eqb e.number n other) (each e other all.0, all_minus P Q n es each all.1)
    ]

saved_minus : (n : ℕ) (p : Performance) (es : List Entry) → p.number ≢ n → IsSaved es p → IsSaved (minus n es) p
saved_minus n p [] apart has = absurd has
saved_minus n p (e ∷ es) apart has =
    elim (cases_eq e.number n) [
      | inl same ↦ rw (eq-eqb e.number n same) (elim has [
        | inl here ↦ absurd (apart (here.number ∙ same))
        | inr later ↦ saved_minus n p es apart later
      ])
      | inr other ↦ rw (ne_eqb e.number n other) (elim has [
        | inl here ↦ inl here
        | inr later ↦ inr (saved_minus n p es apart later)
      ])
    ]

abbrev Saved : List Entry → ℕ → Bytes → List Performance → Type 0
Saved es end k ps = AllByRecursion (λ (p : Performance). key_of p.op ≡ k → end < p.number → IsSaved es p) ps

saved_rest : (es : List Entry) (end n : ℕ) (k : Bytes) (ps : List Performance)
    → AllByRecursion (λ (q : Performance). q.number ≢ n) ps → Saved es end k ps → Saved (minus n es) end k ps
saved_rest es end n k [] apart all = tt
saved_rest es end n k (q ∷ ps) apart all =
    (λ on over. saved_minus n q es apart.0 (all.0 on over), saved_rest es end n k ps apart.1 all.1)

module _ (opened : Table) (k : Bytes) (end : ℕ) (p : Performance) (ps : List Performance) (es : List Entry)
    (answered : AreAnsweredInPlace opened (p ∷ ps)) (falls : FallOn k (p ∷ ps))
    (listed : AllCounted k end (IsListed (p ∷ ps)) es) where
  abbrev r : Option Bytes
  r = get (replayed opened ps) k

  -- where no entry is its own
  rest_listed : (key_of p.op ≡ k → end < p.number → ⊥) → AllCounted k end (IsListed ps) es
  rest_listed none = all_from (λ (e : Entry). e.key ≡ k → end < e.number → IsListed (p ∷ ps) e)
      (λ (e : Entry). e.key ≡ k → end < e.number → IsListed ps e)
      (λ e h on over. elim (h on over) [
        | inl here ↦ let number = here.number in absurd (none (here.key ∙ on) (omega (arith, number, over)))
        | inr later ↦ later
      ]) es listed

  off_step : (key_of p.op ≡ k → ⊥) → back_on k end es r ≡ get (replayed opened (kept end ps)) k
      → back_on k end es (get (replayed opened (p ∷ ps)) k) ≡ get (replayed opened (kept end (p ∷ ps))) k
  off_step off rest =
      ap (back_on k end es) (after_off (replayed opened ps) p.op k off) ∙ rest
      ∙ elim (cases_lt end p.number) [
        | inl less ↦ rw (lt-ltb end p.number less) refl
        | inr ge ↦ rw (le-ltb end p.number ge) (sym (after_off (replayed opened (kept end ps)) p.op k off))
      ]

  module _ (on : key_of p.op ≡ k) where
    -- up to the end: it passes by all that is taken back
    within_step : p.number ≤ end → back_on k end es r ≡ get (replayed opened (kept end ps)) k
        → back_on k end es (get (replayed opened (p ∷ ps)) k) ≡ get (replayed opened (kept end (p ∷ ps))) k
    within_step le rest =
        let pass : AllCounted k end (PassesBy k (Some p.op)) es =
        all_from (λ (e : Entry). e.key ≡ k → end < e.number → IsListed ps e)
        (λ (e : Entry). e.key ≡ k → end < e.number → PassesBy k (Some p.op) e)
        (λ e h at over. listed_adds opened k p ps e at (omega (arith, le, over)) answered.1 (falls.0 on) (h at over)) es
        (rest_listed (λ _ over. omega (arith, le, over))) in
        rw (le-ltb end p.number le)
        (ap (back_on k end es) (after_here (replayed opened ps) p.op k on) ∙ sym (past_all k end (Some p.op) es r pass)
        ∙ ap (value_after p.op) rest ∙ sym (after_here (replayed opened (kept end ps)) p.op k on))

    right : answer_at p.op r ≡ p.answer
    right = sym (answered.0 ∙ ap (λ (q : Bytes). answer_at p.op (get (replayed opened ps) q)) on)

    -- above it: it is taken back before all others
    undone : undone_value (undo_of k p.answer) (get (replayed opened (p ∷ ps)) k) ≡ r
    undone =
        (λ i. undone_value (undo_of (sym on i) (sym right i)) (after_here (replayed opened ps) p.op k on i))
        ∙ value_back p.op r

    minus_listed : AllCounted k end (IsListed ps) (minus p.number es)
    minus_listed = all_minus (λ (e : Entry). e.key ≡ k → end < e.number → IsListed (p ∷ ps) e)
        (λ (e : Entry). e.key ≡ k → end < e.number → IsListed ps e) p.number es
        (λ e apart h at over. elim (h at over) [ inl here ↦ absurd (apart (sym here.number)) | inr later ↦ later ])
        listed

    over_step : (l : ℕ) → end < p.number → RiseAbove l es → IsSaved es p
        → back_on k end (minus p.number es) r ≡ get (replayed opened (kept end ps)) k
        → back_on k end es (get (replayed opened (p ∷ ps)) k) ≡ get (replayed opened (kept end (p ∷ ps))) k
    over_step l over rising has rest =
        let pass : AllCounted k end (λ e. p.number < e.number → PassesBy k (undo_of k p.answer) e) es =
        all_from (λ (e : Entry). e.key ≡ k → end < e.number → IsListed (p ∷ ps) e)
        (λ (e : Entry). e.key ≡ k → end < e.number → p.number < e.number → PassesBy k (undo_of k p.answer) e)
        (λ e h at above more. elim (h at above) [
          | inl here ↦ let number = here.number in absurd (omega (arith, number, more))
          | inr later ↦
              let adds = listed_adds opened k p ps e at (omega (arith, more)) answered.1 (falls.0 on) later in
              (subst IfAdd (λ i. undo_of (on i) (right i)) (add_undone p.op r adds.0), adds.1)
        ]) es listed in
        rw (lt-ltb end p.number over)
        (first_back k end l p es (get (replayed opened (p ∷ ps)) k) on over rising has pass
        ∙ ap (back_on k end (minus p.number es)) undone ∙ rest)

along : (opened : Table) (k : Bytes) (end l : ℕ) (ps : List Performance) (es : List Entry) → AreAnsweredInPlace opened ps
    → IsOnce ps → FallOn k ps → RiseAbove l es → AllCounted k end (IsListed ps) es → Saved es end k ps
    → back_on k end es (get (replayed opened ps) k) ≡ get (replayed opened (kept end ps)) k
along opened k end l [] es answered once falls rising listed saved = none_on k end es (get opened k) listed
along opened k end l (p ∷ ps) es answered once falls rising listed saved =
    elim (cases_Bool (is_same (key_of p.op) k)) [
      | inl same ↦
          let on : key_of p.op ≡ k = is_same-true (key_of p.op) k same in
          elim (cases_lt end p.number) [
            | inl over ↦
                over_step opened k end p ps es answered falls listed on l over rising (saved.0 on over)
                (along opened k end l ps (minus p.number es) answered.1 once.1 falls.1
                (filtered_rises (λ (e : Entry). not (e.number == p.number)) l es rising)
                (minus_listed opened k end p ps es answered falls listed on)
                (saved_rest es end p.number k ps once.0 saved.1))
            | inr ge ↦
                within_step opened k end p ps es answered falls listed on ge
                (along opened k end l ps es answered.1 once.1 falls.1 rising
                (rest_listed opened k end p ps es answered falls listed (λ _ over. omega (arith, ge, over))) saved.1)
          ]
      | inr apart ↦
          let off : key_of p.op ≡ k → ⊥ = not_same k (key_of p.op) apart in
          off_step opened k end p ps es answered falls listed off
          (along opened k end l ps es answered.1 once.1 falls.1 rising
          (rest_listed opened k end p ps es answered falls listed (λ on over. off on)) saved.1)
    ]

pub taken_replayed : TakenIsReplayed
taken_replayed opened ps end k leaf h =
    rows_at k end leaf.ab.entries leaf.rows ∙ ap (back_on k end leaf.ab.entries) h.value
    ∙ along opened k end leaf.ab.low ps leaf.ab.entries h.answered h.once h.falls h.rising h.listed h.saved
