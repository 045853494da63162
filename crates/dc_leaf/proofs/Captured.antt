-- Which of a log's numbers on a key are captured, where only Adds are left out among Adds.
use Rattle.std.proofs.Common.{◌≡◌, ◌≢◌, ◌⊎◌, ℕ, ◌+◌, ◌<◌, ◌≤◌, ◌==◌, Bool, true, false, List, [], ◌∷◌, length, Option, Some, None, MatchBool, refl, sym, ap, ◌∙◌, subst, arith, inl, inr, true≢false, eq-eqb, ne_eqb}
use Rattle.std.specs.Prelude.{if◌then◌else◌}
use Rattle.std.specs.List.{AllByRecursion}
use Rattle.std.proofs.lemmas.Bool.{cases_eq, cases_Bool}
use Rattle.record_key.specs.declared.op.Op.{Op}
use Rattle.record_key.specs.Table.{Bytes, key_of, is_add, AreAdds, answer_at, value_after}
use Rattle.record_key.proofs.Adds.{adds_commute, SeenAlike, seen_after, seen_right, answered_alike}
use Rattle.history.specs.declared.record.Record.{Record}
use Rattle.history.specs.Log.{before, request_of, Requests}
use Rattle.history.specs.Values.{is_on, value_on}
use Rattle.history.specs.Honest.{Numbered, numbered_with, numbered_on, AreCapturedBut, LeavesOutAdds, value_of}
use Rattle.log_laws.proofs.Records.{ARequest, no_request, at_newest, newest_at, kept_at, had_at, within, which, not_newest, before_new, before_old}
use Rattle.log_laws.proofs.Plain.{value_of-captured}
use Rattle.dc_leaf.proofs.OnKey.{on_key, key_on, all_requests, all_done}

-- numbers fall, the first from below this one
abbrev pub Fall : ℕ → List Numbered → Type 0
Fall l [] = Unit {0}
Fall l (d ∷ done) = (d.number < l) × Fall d.number done

-- the number stands there, with this operation
abbrev pub Stands : ℕ → Op → List Numbered → Type 0
Stands n o [] = ⊥
Stands n o (d ∷ done) = MatchBool (d.number == n) (d.op ≡ o) (Stands n o done)

fall_from : (l m : ℕ) (done : List Numbered) → l ≤ m → Fall l done → Fall m done
fall_from l m [] le h = tt
fall_from l m (d ∷ done) le h = (omega (arith, le, h.0), h.1)

falls_with : (k : Bytes) (n : ℕ) (q : Option Op) (rest : List Numbered) → Fall n rest
    → Fall (n + 1) (numbered_with k n q rest)
falls_with k n None rest h = fall_from n (n + 1) rest (omega arith) h
falls_with k n (Some o) rest h =
    pick (is_on k o)
  where
    pick : (b : Bool) → Fall (n + 1) (if b then record { number = n; op = o } ∷ rest else rest)
    pick true = (omega arith, h)
    pick false = fall_from n (n + 1) rest (omega arith) h

pub falls : (k : Bytes) (log : List Record) → Fall (length log + 1) (numbered_on k log)
falls k [] = tt
falls k (r ∷ log) =
    let more : Fall (length log + 1 + 1) (numbered_on k (r ∷ log)) =
    falls_with k (length log + 1) (request_of r) (numbered_on k log) (falls k log) in
    fall_from (length log + 1 + 1) (length (r ∷ log) + 1) (numbered_on k (r ∷ log)) (omega arith) more

-- a request on the key stands there
stands_later : (k : Bytes) (n m : ℕ) (o : Op) (q : Option Op) (rest : List Numbered) → m ≢ n → Stands n o rest
    → Stands n o (numbered_with k m q rest)
stands_later k n m o None rest apart h = h
stands_later k n m o (Some p) rest apart h =
    pick (is_on k p)
  where
    pick : (b : Bool) → Stands n o (if b then record { number = m; op = p } ∷ rest else rest)
    pick true = rw (ne_eqb m n apart) h
    pick false = h

stands_first : (k : Bytes) (n m : ℕ) (o : Op) (rest : List Numbered) → m ≡ n → key_of o ≡ k
    → Stands n o (numbered_with k m (Some o) rest)
stands_first k n m o rest same on = rw (on_key k o on, eq-eqb m n same) refl

pub stands_on : (k : Bytes) (log : List Record) (n : ℕ) (o : Op) → Requests log n o → key_of o ≡ k
    → Stands n o (numbered_on k log)
stands_on k [] n o requests on = absurd (no_request o requests)
stands_on k (r ∷ log) n o requests on =
    elim (which r log n (within (ARequest o) (no_request o) (r ∷ log) n requests)) [
      | inl e ↦
          let asks : ARequest o (Some r) = newest_at (ARequest o) r log n e requests in
          subst (λ q. Stands n o (numbered_with k (length log + 1) q (numbered_on k log))) (sym asks)
          (stands_first k n (length log + 1) o (numbered_on k log) (sym e) on)
      | inr was ↦
          stands_later k n (length log + 1) o (request_of r) (numbered_on k log)
          (λ same. not_newest log n was (sym same))
          (stands_on k log n o (had_at (ARequest o) r log n was requests) on)
    ]

-- where all are captured but for some Adds, a number is, or it is an Add among them
pub captured_there : (q : Op) (cap : ℕ → Bool) (n : ℕ) (o : Op) (done : List Numbered) → AreCapturedBut q cap done
    → Stands n o done
    → (cap n ≡ true) ⊎ AreAdds q o
captured_there q cap n o [] all h = absurd h
captured_there q cap n o (d ∷ done) all h =
    elim (cases_eq d.number n) [
      | inl e ↦
          let is : d.op ≡ o = rw (eq-eqb d.number n e) at h in
          elim all.0 [
            | inl got ↦ inl (subst (λ (m : ℕ). cap m ≡ true) e got)
            | inr both ↦ inr (both.0, ap is_add (sym is) ∙ both.1)
          ]
      | inr apart ↦ captured_there q cap n o done all.1 (rw (ne_eqb d.number n apart) at h)
    ]

below_first : (l n : ℕ) (o : Op) (done : List Numbered) → Fall l done → Stands n o done → n < l
below_first l n o [] falls h = absurd h
below_first l n o (d ∷ done) falls h =
    elim (cases_eq d.number n) [
      | inl e ↦ omega (arith, e, falls.0)
      | inr apart ↦ let less : n < d.number =
          below_first d.number n o done falls.1 (rw (ne_eqb d.number n apart) at h) in omega (arith, less, falls.0)
    ]

-- what comes before a captured one is captured, or both are Adds
pub earlier_captured : (cap : ℕ → Bool) (l m n : ℕ) (q o : Op) (done : List Numbered) → Fall l done
    → LeavesOutAdds cap done → Stands m q done → Stands n o done → n < m → cap m ≡ true
    → (cap n ≡ true) ⊎ AreAdds q o
earlier_captured cap l m n q o [] falls h at_m at_n less got = absurd at_m
earlier_captured cap l m n q o (d ∷ done) falls h at_m at_n less got =
    elim (cases_eq d.number m) [
      | inl e ↦
          let is : d.op ≡ q = rw (eq-eqb d.number m e) at at_m in
          subst (λ x. (cap n ≡ true) ⊎ AreAdds x o) is
          (captured_there d.op cap n o done (h.0 (ap cap e ∙ got))
          (rw (ne_eqb d.number n (λ same. omega (arith, e, same, less))) at at_n))
      | inr apart ↦
          let later : Stands m q done = rw (ne_eqb d.number m apart) at at_m in
          let below : m < d.number = below_first d.number m q done falls.1 later in
          earlier_captured cap d.number m n q o done falls.1 h.1 later
          (rw (ne_eqb d.number n (λ same. omega (arith, below, same, less))) at at_n) less got
    ]

-- later ones on the key than one that isn't captured aren't either, or both are Adds
pub later_uncaptured : (cap : ℕ → Bool) (k : Bytes) (log : List Record) (n m : ℕ) (o q : Op)
    → LeavesOutAdds cap (numbered_on k log) → Requests log n o → key_of o ≡ k → cap n ≡ false
    → Requests log m q → key_of q ≡ k → n < m → (cap m ≡ false) ⊎ AreAdds o q
later_uncaptured cap k log n m o q h asks_n on_n out asks_m on_m less =
    elim (cases_Bool (cap m)) [
      | inl got ↦
          elim (earlier_captured cap (length log + 1) m n q o (numbered_on k log) (falls k log) h
          (stands_on k log m q asks_m on_m) (stands_on k log n o asks_n on_n) less got) [
            | inl there ↦ absurd (true≢false (sym there ∙ out))
            | inr both ↦ inr (both.1, both.0)
          ]
      | inr out ↦ inl out
    ]

-- one that isn't captured, or is an Add among Adds, changes no answer
answered_past : (o : Op) (cap : ℕ → Bool) (k : Bytes) (n : ℕ) (q : Option Op) (rest : List Numbered)
    → ((p : Op) → q ≡ Some p → key_of p ≡ k → (cap n ≡ false) ⊎ AreAdds o p)
    → answer_at o (value_of cap (numbered_with k n q rest)) ≡ answer_at o (value_of cap rest)
answered_past o cap k n None rest each = refl
answered_past o cap k n (Some p) rest each =
    pick (is_on k p) refl
  where
    counted : (b : Bool) → (b ≡ false) ⊎ AreAdds o p
        → answer_at o (if b then value_after p (value_of cap rest) else value_of cap rest)
        ≡ answer_at o (value_of cap rest)
    counted true (inl out) = absurd (true≢false out)
    counted true (inr both) = adds_commute.answer o p (value_of cap rest) both
    counted false h = refl

    pick : (b : Bool) → is_on k p ≡ b
        → answer_at o (value_of cap (if b then record { number = n; op = p } ∷ rest else rest))
        ≡ answer_at o (value_of cap rest)
    pick true on = counted (cap n) (each p refl (key_on k p on))
    pick false on = refl

-- so an operation is answered after the captured ones as after those before it
pub answer_before : (cap : ℕ → Bool) (k : Bytes) (log : List Record) (n : ℕ) (o : Op) → Requests log n o
    → cap n ≡ false
    → ((m : ℕ) (q : Op) → n < m → Requests log m q → key_of q ≡ k → (cap m ≡ false) ⊎ AreAdds o q)
    → answer_at o (value_of cap (numbered_on k log)) ≡ answer_at o (value_of cap (numbered_on k (before log n)))
answer_before cap k [] n o requests out later = absurd (no_request o requests)
answer_before cap k (r ∷ log) n o requests out later =
    elim (which r log n (within (ARequest o) (no_request o) (r ∷ log) n requests)) [
      | inl e ↦
          answered_past o cap k (length log + 1) (request_of r) (numbered_on k log)
          (λ p asks on. inl (subst (λ (m : ℕ). cap m ≡ false) e out))
          ∙ ap (λ x. answer_at o (value_of cap (numbered_on k x))) (sym (before_new r log n e))
      | inr was ↦
          answered_past o cap k (length log + 1) (request_of r) (numbered_on k log)
          (λ p asks on. later (length log + 1) p (omega (arith, was.bounded))
          (at_newest (ARequest p) r log (length log + 1) refl asks) on)
          ∙ answer_before cap k log n o (had_at (ARequest o) r log n was requests) out
          (λ m q above asks on. later m q above
          (kept_at (ARequest q) r log m (within (ARequest q) (no_request q) log m asks) asks) on)
          ∙ ap (λ x. answer_at o (value_of cap (numbered_on k x))) (sym (before_old r log n (not_newest log n was)))
    ]

-- where only Adds are left out, an Add sees of the captured ones what it sees of all
seen_more : (d : Numbered) (v w : Option Bytes) (b : Bool) → (b ≡ true) ⊎ (is_add d.op ≡ true)
    → SeenAlike v w → SeenAlike (if b then value_after d.op v else v) (value_after d.op w)
seen_more d v w true h rest = seen_after d.op v w rest
seen_more d v w false (inl got) rest = absurd (true≢false (sym got))
seen_more d v w false (inr add) rest = seen_right d.op v w add rest

seen_captured : (cap : ℕ → Bool) (done : List Numbered)
    → AllByRecursion (λ d. (cap d.number ≡ true) ⊎ (is_add d.op ≡ true)) done
    → SeenAlike (value_of cap done) (value_of (λ _. true) done)
seen_captured cap [] all = tt
seen_captured cap (d ∷ done) all =
    seen_more d (value_of cap done) (value_of (λ _. true) done) (cap d.number) all.0 (seen_captured cap done all.1)

-- so an operation before which all is captured, but for Adds where it is one, is answered as after all
pub answer_captured : (cap : ℕ → Bool) (k : Bytes) (log : List Record) (o : Op)
    → ((m : ℕ) (q : Op) → Requests log m q → key_of q ≡ k → (cap m ≡ true) ⊎ AreAdds o q)
    → answer_at o (value_of cap (numbered_on k log)) ≡ answer_at o (value_on k log)
answer_captured cap k log o each =
    elim (cases_Bool (is_add o)) [
      | inl add ↦
          answered_alike o (value_of cap (numbered_on k log)) (value_of (λ _. true) (numbered_on k log)) add
          (seen_captured cap (numbered_on k log) (all_requests (λ m q. (cap m ≡ true) ⊎ (is_add q ≡ true)) k log
          (λ m q asks on. elim (each m q asks on) [ inl got ↦ inl got | inr both ↦ inr both.1 ])))
          ∙ ap (answer_at o)
          (value_of-captured log k (λ _. true) (all_done (λ m. true ≡ true) k log (λ m q asks on. refl)))
      | inr none ↦ ap (answer_at o) (value_of-captured log k cap (all_done (λ m. cap m ≡ true) k log
          (λ m q asks on. elim (each m q asks on)
          [ inl got ↦ got | inr both ↦ absurd (true≢false (sym both.0 ∙ none)) ])))
    ]
