-- An honest leaf that performs a number that may be the log's next on its key stays honest.
use Rattle.std.proofs.Common.{◌≡◌, ◌≢◌, ◌⊎◌, ℕ, ◌+◌, ◌<◌, ◌==◌, ◌||◌, Bool, true, false, cond, List, [], ◌∷◌, Some, refl, sym, ap, ◌∙◌, subst, inl, inr, true≢false, eq-eqb, ne_eqb, length, arith}
use Rattle.std.specs.Prelude.{nat_lt}
use Rattle.std.specs.List.{AllByRecursion}
use Rattle.std.specs.FinMap.{get}
use Rattle.std.proofs.Math.Bool.{or-true, or-false}
use Rattle.std.proofs.lemmas.Bool.{cases_Bool}
use Rattle.record_key.specs.declared.op.Op.{Op}
use Rattle.record_key.specs.Table.{Bytes, key_of, AreAdds, answer_at, answer_in, value_after}
use Rattle.record_key.proofs.Tables.{get-with_record_same, get-with_record_other}
use Rattle.history.specs.declared.record.Record.{Record}
use Rattle.history.specs.Log.{before, Requests, request_in}
use Rattle.history.specs.Values.{is_on, value_on, IsRight}
use Rattle.history.specs.Honest.{numbered_on, IsHonestAt}
use Rattle.log_laws.proofs.Records.{record_before, length_before}
use Rattle.log_laws.proofs.LegalLogs.{request_number}
use Rattle.record_key.specs.declared.entry.Entry.{Entry}
use Rattle.dc_ab_lsn.specs.AbLsn.{captures, with_entry}
use Rattle.dc_ab_lsn.proofs.Capturing.{noted_captures}
use Rattle.dc_leaf.specs.Leaf.{LeafView, performed}
use Rattle.dc_leaf.specs.Honest.{IsSavedRight, IsHonestLeaf, IsNextOn}
use Rattle.dc_leaf.proofs.OnKey.{all_requests, all_done, left_out_alike, value_alike, key_on, on_key}
use Rattle.dc_leaf.proofs.Captured.{falls, stands_on, later_uncaptured, answer_before, answer_captured}
use Rattle.dc_leaf.proofs.OneMore.{Grows, one_more}

-- a request is one
pub one_request : (log : List Record) (n : ℕ) (o q : Op) → Requests log n o → Requests log n q → q ≡ o
one_request log n o q h k = let e : Some q ≡ Some o = sym k ∙ h in cc

-- what holds of all entries and of one more holds of all with it
kept_pair : (P : Entry → Type 0) (b : Bool) (e f : Entry) (es fs : List Entry) → P e → P f → AllByRecursion P es
    → AllByRecursion P fs → AllByRecursion P (cond b (e ∷ fs) (f ∷ e ∷ es))
kept_pair P true e f es fs here new all more = (here, more)
kept_pair P false e f es fs here new all more = (new, (here, all))

pub all_placed : (P : Entry → Type 0) (f : Entry) (es : List Entry) → P f → AllByRecursion P es
    → AllByRecursion P (with_entry f es)
all_placed P f [] new all = (new, tt)
all_placed P f (e ∷ es) new all =
    kept_pair P (nat_lt e.number f.number) e f es (with_entry f es) all.0 new all.1 (all_placed P f es new all.1)

module _ (log : List Record) (leaf : LeafView) (n : ℕ) (o : Op) (honest : IsHonestLeaf log leaf)
    (next : IsNextOn log leaf n o) where
  abbrev key : Bytes
  key = key_of o

  abbrev old : ℕ → Bool
  old m = captures leaf.ab m

  abbrev new : ℕ → Bool
  new m = captures (performed leaf n o).ab m

  now : (m : ℕ) → new m ≡ (old m || m == n)
  now m = noted_captures leaf.ab n key (answer_in leaf.rows o) m

  captured_itself : new n ≡ true
  captured_itself = now n ∙ ap (λ b. old n || b) (eq-eqb n n refl) ∙ or-true (old n)

  captured_other : (m : ℕ) → m ≢ n → new m ≡ old m
  captured_other m apart = now m ∙ ap (λ b. old m || b) (ne_eqb m n apart) ∙ or-false (old m)

  here : IsHonestAt log old key (get leaf.rows key)
  here = honest.at key next.within

  -- those before it on its key are captured, those after it aren't, but for Adds where it is one
  older : AllByRecursion (λ d. d.number < n → (old d.number ≡ true) ⊎ AreAdds o d.op) (numbered_on key log)
  older = all_requests (λ m q. m < n → (old m ≡ true) ⊎ AreAdds o q) key log
      (λ m q asks on less. next.others m q asks on less)

  later : (m : ℕ) (q : Op) → n < m → Requests log m q → key_of q ≡ key → (old m ≡ false) ⊎ AreAdds o q
  later m q less asks on =
      later_uncaptured old key log n m o q here.left_out next.requests refl next.uncaptured asks on less

  before_captured : (m : ℕ) (q : Op) → Requests (before log n) m q → key_of q ≡ key
      → (old m ≡ true) ⊎ AreAdds o q
  before_captured m q asks on =
      let below : m < n = omega (
        arith,
        (request_number (before log n) m q asks).bounded,
        length_before log n (request_number log n o next.requests),
      ) in
      next.others m q (subst (λ r. request_in r ≡ Some q)
      (record_before log m n (request_number log n o next.requests) below) asks) on below

  -- it is answered as after what the requests before it left
  was : answer_at o (get leaf.rows key) ≡ answer_at o (value_on key (before log n))
  was = ap (answer_at o) here.right ∙ answer_before old key log n o next.requests next.uncaptured later
      ∙ answer_captured old key (before log n) o before_captured

  pub right_answer : IsRight log n (answer_in leaf.rows o)
  right_answer q asks = let same : q ≡ o = one_request log n o q next.requests asks in rw same was

  grows : Grows old new o (numbered_on key log)
  grows = one_more old new n o next.uncaptured captured_itself captured_other (length log + 1) (numbered_on key log)
      (falls key log) (stands_on key log n o next.requests refl) older here.left_out

  honest_here : IsHonestAt log new key (get (performed leaf n o).rows key)
  honest_here = record {
    left_out = grows.left_out;
    right = get-with_record_same leaf.rows key (value_after o (get leaf.rows key)) ∙ ap (value_after o) here.right
        ∙ sym grows.value;
  }

  honest_elsewhere : (q : Bytes) → q ≢ key → IsHonestAt log old q (get leaf.rows q)
      → IsHonestAt log new q (get (performed leaf n o).rows q)
  honest_elsewhere q apart h =
      let alike : AllByRecursion (λ d. old d.number ≡ new d.number) (numbered_on q log) =
      all_done (λ m. old m ≡ new m) q log (λ m p asks on.
      sym (captured_other m (λ e. apart
      (sym on ∙ ap key_of (one_request log n o p next.requests (subst (λ (z : ℕ). Requests log z p) e asks)))))) in
      record {
        left_out = left_out_alike old new (numbered_on q log) alike h.left_out;
        right = get-with_record_other leaf.rows key q (value_after o (get leaf.rows key)) apart ∙ h.right
            ∙ value_alike old new (numbered_on q log) alike;
      }

  pub honest_performed : IsHonestLeaf log (performed leaf n o)
  honest_performed = record {
    at = λ q within. elim (cases_Bool (is_on q o)) [
      | inl on ↦ subst (λ x. IsHonestAt log new x (get (performed leaf n o).rows x)) (key_on q o on) honest_here
      | inr off ↦ honest_elsewhere q (λ e. true≢false (sym (on_key q o (sym e)) ∙ off)) (honest.at q within)
    ];
    saved = all_placed (IsSavedRight log) (record { number = n; key = key; answer = answer_in leaf.rows o })
        leaf.ab.entries
        (record { op = o; requests = next.requests; on_key = refl; right = right_answer }) honest.saved;
  }
