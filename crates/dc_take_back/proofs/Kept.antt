-- The performances up to an end keep what all of them have.
use Rattle.std.proofs.Common.{◌≡◌, ◌≢◌, ℕ, ◌<◌, ◌≤◌, List, [], ◌∷◌, ◌++◌, refl, sym, subst, arith, inl, inr, lt-ltb, le-ltb, append_assoc}
use Rattle.std.specs.Prelude.{◌⊎◌, not, nat_lt}
use Rattle.std.specs.List.{AllByRecursion}
use Rattle.std.proofs.lemmas.Bool.{cases_lt, cases_Bool}
use Rattle.record_key.specs.declared.entry.Entry.{Entry}
use Rattle.record_key.specs.Table.{Bytes, Table, key_of, AreAdds}
use Rattle.record_key.proofs.Lists.{all_from, all_appended}
use Rattle.record_key.proofs.Tables.{is_same, is_same-true}
use Rattle.inverse.specs.Inverse.{PassBy}
use Rattle.dc_leaf.proofs.Halves.{all_kept}
use Rattle.dc_take_back.specs.Performed.{Performance, AreAnsweredInPlace}
use Rattle.dc_take_back.specs.Listed.{kept, IsListed, IsOnce, AreOlder, FallOn, KeptAreAnswered}
use Rattle.dc_take_back.proofs.Performed.{answered_without}
use Rattle.dc_take_back.proofs.AtKey.{not_same}

all_up_to : (P : Performance → Type 0) (end : ℕ) (ps : List Performance) → AllByRecursion P ps
    → AllByRecursion P (kept end ps)
all_up_to P end ps all = all_kept P P (λ (p : Performance). not (nat_lt end p.number)) (λ p holds _. holds) ps all

pub once_kept : (end : ℕ) (ps : List Performance) → IsOnce ps → IsOnce (kept end ps)
once_kept end [] once = tt
once_kept end (p ∷ ps) once =
    elim (cases_lt end p.number) [
      | inl over ↦ rw (lt-ltb end p.number over) (once_kept end ps once.1)
      | inr within ↦
          rw (le-ltb end p.number within)
          (all_up_to (λ (q : Performance). q.number ≢ p.number) end ps once.0, once_kept end ps once.1)
    ]

pub falls_kept : (end : ℕ) (k : Bytes) (ps : List Performance) → FallOn k ps → FallOn k (kept end ps)
falls_kept end k [] falls = tt
falls_kept end k (p ∷ ps) falls =
    elim (cases_lt end p.number) [
      | inl over ↦ rw (lt-ltb end p.number over) (falls_kept end k ps falls.1)
      | inr within ↦
          rw (le-ltb end p.number within) (
            λ on. all_up_to (λ (q : Performance). key_of q.op ≡ k → (q.number < p.number) ⊎ AreAdds p.op q.op) end ps
                (falls.0 on),
            falls_kept end k ps falls.1,
          )
    ]

-- an entry up to the end
pub listed_kept : (end : ℕ) (e : Entry) (ps : List Performance) → e.number ≤ end → IsListed ps e
    → IsListed (kept end ps) e
listed_kept end e [] le listed = absurd listed
listed_kept end e (p ∷ ps) le listed =
    elim (cases_lt end p.number) [
      | inl over ↦ rw (lt-ltb end p.number over) (elim listed [
        | inl here ↦ let number = here.number in absurd (omega (arith, number, over, le))
        | inr later ↦ listed_kept end e ps le later
      ])
      | inr within ↦ rw (le-ltb end p.number within) (elim listed [
        | inl here ↦ inl here
        | inr later ↦ inr (listed_kept end e ps le later)
      ])
    ]

-- ---- answers

-- one up to the end that is newer than these
abbrev IsNewer : ℕ → List Performance → Performance → Type 0
IsNewer end ps p = (p.number ≤ end) × AreOlder (key_of p.op) p ps

passes : (end : ℕ) (p newer : Performance) (ps : List Performance) → end < p.number → IsNewer end (p ∷ ps) newer
    → PassBy p.op newer.op
passes end p newer ps over is =
    elim (cases_Bool (is_same (key_of p.op) (key_of newer.op))) [
      | inl same ↦ elim (is.1.0 (is_same-true (key_of p.op) (key_of newer.op) same)) [
        | inl less ↦ let within = is.0 in absurd (omega (arith, less, over, within))
        | inr both ↦ inr (both.1, both.0)
      ]
      | inr apart ↦ inl (λ e. not_same (key_of newer.op) (key_of p.op) apart (sym e))
    ]

rest : (end : ℕ) (p : Performance) (ps a : List Performance) → AllByRecursion (IsNewer end (p ∷ ps)) a
    → AllByRecursion (IsNewer end ps) a
rest end p ps a newer =
    all_from (IsNewer end (p ∷ ps)) (IsNewer end ps) (λ (q : Performance) is. (is.0, is.1.1)) a newer

along : (opened : Table) (end : ℕ) (a ps : List Performance) → AllByRecursion (IsNewer end ps) a
    → ((k : Bytes) → FallOn k ps) → AreAnsweredInPlace opened (a ++ ps) → AreAnsweredInPlace opened (a ++ kept end ps)
along opened end a [] newer falls answered = answered
along opened end a (p ∷ ps) newer falls answered =
    elim (cases_lt end p.number) [
      | inl over ↦
          rw (lt-ltb end p.number over)
          (along opened end a ps (rest end p ps a newer) (λ k. (falls k).1)
          (answered_without opened a p ps
          (all_from (IsNewer end (p ∷ ps)) (λ (q : Performance). PassBy p.op q.op)
          (λ (q : Performance) is. passes end p q ps over is) a newer) answered))
      | inr within ↦
          rw (le-ltb end p.number within)
          (subst (AreAnsweredInPlace opened) (append_assoc a (p ∷ []) (kept end ps))
          (along opened end (a ++ p ∷ []) ps
          (all_appended (IsNewer end ps) a (p ∷ []) (rest end p ps a newer)
          ((within, (falls (key_of p.op)).0 refl), tt)) (λ k. (falls k).1)
          (subst (AreAnsweredInPlace opened) (sym (append_assoc a (p ∷ []) ps)) answered)))
    ]

pub answered_kept : KeptAreAnswered
answered_kept opened ps end answered falls = along opened end [] ps tt falls answered
