-- Entries up to an end: what is taken back above it, and in two goes.
use Rattle.std.proofs.Common.{◌≡◌, ℕ, ◌<◌, ◌≤◌, false, cond, List, [], ◌∷◌, refl, sym, ap, ◌∙◌, arith, inl, inr, ne_eqb, lt-ltb, le-ltb}
use Rattle.std.specs.Prelude.{not, nat_lt, if◌then◌else◌}
use Rattle.std.specs.List.{AllByRecursion}
use Rattle.std.proofs.lemmas.Bool.{cases_lt}
use Rattle.record_key.specs.Table.{Table}
use Rattle.record_key.specs.declared.entry.Entry.{Entry}
use Rattle.record_key.specs.Entries.{RiseAbove}
use Rattle.dc_ab_lsn.specs.AbLsn.{stands_in, up_to}
use Rattle.dc_ab_lsn.proofs.Rising.{rises_from}
use Rattle.dc_leaf.specs.TakingBack.{undone_by, rows_back}

abbrev pub AreUpTo : ℕ → List Entry → Type 0
AreUpTo end es = AllByRecursion (λ (e : Entry). e.number ≤ end) es

pub all_stay : (end : ℕ) (es : List Entry) → AreUpTo end es → up_to end es ≡ es
all_stay end [] all = refl
all_stay end (e ∷ es) all = rw (le-ltb end e.number all.0) (ap (λ (fs : List Entry). e ∷ fs) (all_stay end es all.1))

pub none_back : (end : ℕ) (es : List Entry) (m : Table) → AreUpTo end es → rows_back end es m ≡ m
none_back end [] m all = refl
none_back end (e ∷ es) m all = rw (le-ltb end e.number all.0) (none_back end es m all.1)

pub none_above : (end n : ℕ) (es : List Entry) → end < n → AreUpTo end es → stands_in es n ≡ false
none_above end n [] less all = refl
none_above end n (e ∷ es) less all =
    rw (ne_eqb n e.number (λ same. omega (arith, same, less, all.0))) (none_above end n es less all.1)

-- above an end nothing stays
none_stay : (end : ℕ) (es : List Entry) → RiseAbove end es → up_to end es ≡ []
none_stay end [] h = refl
none_stay end (e ∷ es) h =
    rw (lt-ltb end e.number h.0) (none_stay end es (rises_from end e.number es (omega (arith, h.0)) h.1))

pub back_twice : (a b l : ℕ) (es : List Entry) (m : Table) → a ≤ b → RiseAbove l es
    → rows_back a (up_to b es) (rows_back b es m) ≡ rows_back a es m
back_twice a b l [] m le h = refl
back_twice a b l (e ∷ es) m le h =
    elim (cases_lt b e.number) [
      | inl less ↦
          let empty : up_to b es ≡ [] = none_stay b es (rises_from b e.number es (omega (arith, less)) h.1) in
          let more : rows_back a (up_to b es) (rows_back b es m) ≡ rows_back a es m =
          back_twice a b e.number es m le h.1 in
          let same : rows_back b es m ≡ rows_back a es m =
          sym (ap (λ (fs : List Entry). rows_back a fs (rows_back b es m)) empty) ∙ more in
          rw (lt-ltb b e.number less, lt-ltb a e.number (omega (arith, le, less)))
          (ap (λ (fs : List Entry). rows_back a fs (undone_by (rows_back b es m) e)) empty
          ∙ ap (λ (x : Table). undone_by x e) same)
      | inr ge ↦
          rw (le-ltb b e.number ge)
          (ap (λ (x : Table). if nat_lt a e.number then undone_by x e else x) (back_twice a b e.number es m le h.1))
    ]

pub up_to_twice : (a b : ℕ) (es : List Entry) → a ≤ b → up_to a (up_to b es) ≡ up_to a es
up_to_twice a b [] le = refl
up_to_twice a b (e ∷ es) le =
    elim (cases_lt b e.number) [
      | inl less ↦ rw (lt-ltb b e.number less, lt-ltb a e.number (omega (arith, le, less))) (up_to_twice a b es le)
      | inr ge ↦
          rw (le-ltb b e.number ge)
          (ap (λ (fs : List Entry). cond (not (nat_lt a e.number)) (e ∷ fs) fs) (up_to_twice a b es le))
    ]
