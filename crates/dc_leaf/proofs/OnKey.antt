-- What a log does to a key, and captured numbers that are alike there.
use Rattle.std.proofs.Common.{◌≡◌, ℕ, ◌+◌, Bool, true, false, List, [], ◌∷◌, length, Option, Some, None, refl, sym, ◌∙◌, subst, inl, inr}
use Rattle.std.specs.Prelude.{if◌then◌else◌}
use Rattle.std.specs.List.{AllByRecursion}
use Rattle.record_key.specs.declared.op.Op.{Op}
use Rattle.record_key.specs.Table.{Bytes, key_of}
use Rattle.record_key.proofs.Tables.{is_same-refl, is_same-true}
use Rattle.history.specs.declared.record.Record.{Record}
use Rattle.history.specs.Log.{request_of, Requests}
use Rattle.history.specs.Values.{is_on}
use Rattle.history.specs.Honest.{Numbered, numbered_with, numbered_on, AreCapturedBut, LeavesOutAdds, value_of}
use Rattle.log_laws.proofs.Records.{ARequest, no_request, at_newest, kept_at, within}

-- the operation stands on the key
pub on_key : (k : Bytes) (o : Op) → key_of o ≡ k → is_on k o ≡ true
on_key k o e = let P : Bytes → Type 0 = λ x. is_on x o ≡ true in subst P e (is_same-refl (key_of o))

pub key_on : (k : Bytes) (o : Op) → is_on k o ≡ true → key_of o ≡ k
key_on k o on = sym (is_same-true k (key_of o) on)

-- all of what is done on a key, where it holds of each request there
all_with : (P : ℕ → Op → Type 0) (k : Bytes) (n : ℕ) (q : Option Op) (rest : List Numbered)
    → ((o : Op) → q ≡ Some o → key_of o ≡ k → P n o)
    → AllByRecursion (λ d. P d.number d.op) rest → AllByRecursion (λ d. P d.number d.op) (numbered_with k n q rest)
all_with P k n None rest new all = all
all_with P k n (Some o) rest new all =
    pick (is_on k o) refl
  where
    pick : (b : Bool) → is_on k o ≡ b
        → AllByRecursion (λ d. P d.number d.op) (if b then record { number = n; op = o } ∷ rest else rest)
    pick true on = (new o refl (key_on k o on), all)
    pick false on = all

pub all_requests : (P : ℕ → Op → Type 0) (k : Bytes) (log : List Record)
    → ((n : ℕ) (o : Op) → Requests log n o → key_of o ≡ k → P n o)
    → AllByRecursion (λ d. P d.number d.op) (numbered_on k log)
all_requests P k [] each = tt
all_requests P k (r ∷ log) each =
    all_with P k (length log + 1) (request_of r) (numbered_on k log)
    (λ o q on. each (length log + 1) o (at_newest (ARequest o) r log (length log + 1) refl q) on)
    (all_requests P k log (λ n o requests on. each n o
    (kept_at (ARequest o) r log n (within (ARequest o) (no_request o) log n requests) requests) on))

pub all_done : (P : ℕ → Type 0) (k : Bytes) (log : List Record)
    → ((n : ℕ) (o : Op) → Requests log n o → key_of o ≡ k → P n)
    → AllByRecursion (λ d. P d.number) (numbered_on k log)
all_done P k log each = all_requests (λ n o. P n) k log each

-- what is captured among what is done may be told in another way, and more may be captured
pub captured_but_alike : (o : Op) (p q : ℕ → Bool) (done : List Numbered)
    → AllByRecursion (λ d. p d.number ≡ true → q d.number ≡ true) done → AreCapturedBut o p done
    → AreCapturedBut o q done
captured_but_alike o p q [] more all = tt
captured_but_alike o p q (d ∷ done) more all = (
  elim all.0 [ inl got ↦ inl (more.0 got) | inr both ↦ inr both ],
  captured_but_alike o p q done more.1 all.1,
)

one_way : (p q : ℕ → Bool) (done : List Numbered) → AllByRecursion (λ d. p d.number ≡ q d.number) done
    → AllByRecursion (λ d. p d.number ≡ true → q d.number ≡ true) done
one_way p q [] same = tt
one_way p q (d ∷ done) same = (λ got. sym same.0 ∙ got, one_way p q done same.1)

pub left_out_alike : (p q : ℕ → Bool) (done : List Numbered) → AllByRecursion (λ d. p d.number ≡ q d.number) done
    → LeavesOutAdds p done → LeavesOutAdds q done
left_out_alike p q [] same h = tt
left_out_alike p q (d ∷ done) same h = (
  λ got. captured_but_alike d.op p q done (one_way p q done same.1) (h.0 (same.0 ∙ got)),
  left_out_alike p q done same.1 h.1,
)

pub value_alike : (p q : ℕ → Bool) (done : List Numbered) → AllByRecursion (λ d. p d.number ≡ q d.number) done
    → value_of p done ≡ value_of q done
value_alike p q [] same = refl
value_alike p q (d ∷ done) same = rw (same.0, value_alike p q done same.1) refl
