-- A leaf's entries beside the list of what was performed since it was opened.
use Rattle.std.specs.Prelude.{◌≡◌, ◌≢◌, ◌⊎◌, ℕ, ◌<◌, not, List, [], ◌∷◌, filter, nat_lt}
use Rattle.std.specs.List.{AllByRecursion}
use Rattle.std.specs.FinMap.{get}
use Rattle.record_key.specs.declared.entry.Entry.{Entry}
use Rattle.record_key.specs.Entries.{RiseAbove}
use Rattle.record_key.specs.Table.{Bytes, Table, key_of, AreAdds}
use Rattle.dc_leaf.specs.Leaf.{LeafView}
use Rattle.dc_leaf.specs.TakingBack.{taken_back}
use Rattle.dc_take_back.specs.Performed.{Performance, replayed, AreAnsweredInPlace}

-- the performances up to an end
abbrev pub kept : ℕ → List Performance → List Performance
kept end ps = filter (λ (p : Performance). not (nat_lt end p.number)) ps

-- the entry is that of the performance
pub record IsOf (p : Performance) (e : Entry) : Type 0 where
  pub number : p.number ≡ e.number
  pub key : key_of p.op ≡ e.key
  pub answer : p.answer ≡ e.answer

abbrev pub IsListed : List Performance → Entry → Type 0
IsListed [] e = ⊥
IsListed (p ∷ ps) e = IsOf p e ⊎ IsListed ps e

abbrev pub IsSaved : List Entry → Performance → Type 0
IsSaved [] p = ⊥
IsSaved (e ∷ es) p = IsOf p e ⊎ IsSaved es p

-- no number stands twice
abbrev pub IsOnce : List Performance → Type 0
IsOnce [] = Unit {0}
IsOnce (p ∷ ps) = AllByRecursion (λ (q : Performance). q.number ≢ p.number) ps × IsOnce ps

-- an older one on the key has a lower number, or both are Adds
abbrev pub AreOlder : Bytes → Performance → List Performance → Type 0
AreOlder k p ps =
    AllByRecursion (λ (q : Performance). key_of q.op ≡ k → (q.number < p.number) ⊎ AreAdds p.op q.op) ps

-- so the numbers on the key fall, the newest first, but for Adds among Adds
abbrev pub FallOn : Bytes → List Performance → Type 0
FallOn k [] = Unit {0}
FallOn k (p ∷ ps) = (key_of p.op ≡ k → AreOlder k p ps) × FallOn k ps

-- the entries on the key above the end are just those of the performances on it above the end, and the leaf has there
-- what all of them leave
pub record IsListedAt (opened : Table) (ps : List Performance) (end : ℕ) (k : Bytes) (leaf : LeafView) : Type 0 where
  pub value : get leaf.rows k ≡ get (replayed opened ps) k
  pub answered : AreAnsweredInPlace opened ps
  pub once : IsOnce ps
  pub falls : FallOn k ps
  pub rising : RiseAbove leaf.ab.low leaf.ab.entries
  pub listed : AllByRecursion (λ (e : Entry). e.key ≡ k → end < e.number → IsListed ps e) leaf.ab.entries
  pub saved : AllByRecursion (λ (p : Performance). key_of p.op ≡ k → end < p.number → IsSaved leaf.ab.entries p) ps

-- then it has there, once they are taken back, what the others leave
abbrev pub TakenIsReplayed : Type 0
TakenIsReplayed =
    (opened : Table) (ps : List Performance) (end : ℕ) (k : Bytes) (leaf : LeafView)
    → IsListedAt opened ps end k leaf
    → get (taken_back leaf end).rows k ≡ get (replayed opened (kept end ps)) k

-- and each of the others was answered at its place among them
abbrev pub KeptAreAnswered : Type 0
KeptAreAnswered =
    (opened : Table) (ps : List Performance) (end : ℕ) → AreAnsweredInPlace opened ps → ((k : Bytes) → FallOn k ps)
    → AreAnsweredInPlace opened (kept end ps)
