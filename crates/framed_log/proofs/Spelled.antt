-- What is read at the places of a log's frames is the log.
use Rattle.std.proofs.Common.{◌≡◌, ℕ, ◌<◌, ◌≤◌, List, [], ◌∷◌, ◌++◌, length, drop, get_or, reverse, refl, sym, ap, ◌∙◌, subst, arith, append_assoc, inl, inr}
use Rattle.std.specs.Prelude.{map}
use Rattle.std.proofs.lemmas.Bool.{cases_lt}
use Rattle.std.proofs.lemmas.List.{length-append, reverse-append, reverse-reverse, map-append, drop_at, get_or_append_left, get_or_push}
use Rattle.codec.specs.Frames.{frame}
use Rattle.framed_log.specs.Beginning.{beginning}
use Rattle.framed_log.specs.Spelled.{Framing, AreRecords, spelled, places, taken_or, read_at, records_at}
use Rattle.framed_log.proofs.Beginning.{whole, shorter, twice, of_beginning}
use Rattle.framed_log.proofs.Framing.{IsFraming}

pub length-places : {X : Type 0} (f : Framing X) (log : List X) → length (places f log) ≡ length log
unfolding places
length-places f [] = refl
length-places f (r ∷ log) =
    length-append (places f log) (length (spelled f log) ∷ []) ∙ omega (arith, length-places f log)

-- where a record's frame begins, the frames of those before it end
pub place_at : {X : Type 0} (f : Framing X) (log : List X) (n x : ℕ) → n < length log
    → get_or (places f log) n x ≡ length (spelled f (beginning log n))
unfolding places
place_at f [] n x less = absurd (omega (arith, less))
place_at {X = X} f (r ∷ log) n x less =
    let first : List ℕ = places f log in
    let last : ℕ = length (spelled f log) in
    let So : List X → ℕ = λ l. length (spelled f l) in
    elim (cases_lt n (length log)) [
      | inl older ↦
          get_or_append_left first (last ∷ []) x n (omega (arith, older, length-places f log))
          ∙ place_at f log n x older
          ∙ ap So (sym (shorter r log n (omega (arith, older))))
      | inr all ↦
          let is : n ≡ length log = omega (arith, all, less) in
          get_or_push first last x n (length-places f log ∙ sym is)
          ∙ ap So (sym (shorter r log n (omega (arith, is)) ∙ whole log n all))
    ]

-- the frames of the older records, and after them the newest one's
pub newest_last : {X : Type 0} (f : Framing X) (r : X) (log : List X) (rest : List ℕ)
    → spelled f (r ∷ log) ++ rest ≡ spelled f log ++ (frame (f.spell r) ++ rest)
unfolding spelled
newest_last f r log rest = append_assoc (spelled f log) (frame (f.spell r)) rest

-- the frame that stands at a place is read there, whatever follows it
read_there : {X : Type 0} {f : Framing X} → IsFraming f → (before rest : List ℕ) (r : X) → f.Fits r
    → read_at f (before ++ (frame (f.spell r) ++ rest)) (length before) ≡ r
unfolding read_at
read_there {f = f} law before rest r fits =
    let left : List ℕ = frame (f.spell r) ++ rest in
    ap (taken_or f.other)
    (law.taken (length before) (drop (length before) (before ++ left)) r rest fits
    (drop_at before left (length before) refl))

-- reading at each place, the oldest record first
read_all : {X : Type 0} {f : Framing X} → IsFraming f → (log : List X) (rest : List ℕ) → AreRecords f log
    → map (read_at f (spelled f log ++ rest)) (places f log) ≡ reverse log
unfolding places
read_all law [] rest each = refl
read_all {X = X} {f = f} law (r ∷ log) rest each =
    let bytes : List ℕ = spelled f (r ∷ log) ++ rest in
    let left : List ℕ = frame (f.spell r) ++ rest in
    let same : bytes ≡ spelled f log ++ left = newest_last f r log rest in
    let place : ℕ = length (spelled f log) in
    let older : map (read_at f bytes) (places f log) ≡ reverse log =
    ap (λ (b : List ℕ). map (read_at f b) (places f log)) same ∙ read_all law log left each.1 in
    let newest : read_at f bytes place ≡ r =
    ap (λ (b : List ℕ). read_at f b place) same ∙ read_there law (spelled f log) rest r each.0 in
    map-append (read_at f bytes) (places f log) (place ∷ [])
    ∙ ap (λ (rs : List X). rs ++ read_at f bytes place ∷ []) older
    ∙ ap (λ (x : X). reverse log ++ x ∷ []) newest
    ∙ sym (reverse-append (r ∷ []) log)

pub read_back : {X : Type 0} {f : Framing X} → IsFraming f → (log : List X) (rest : List ℕ) → AreRecords f log
    → records_at f (spelled f log ++ rest) (places f log) ≡ log
unfolding records_at
read_back law log rest each = ap reverse (read_all law log rest each) ∙ reverse-reverse log

-- ---- how many bytes it has

one_longer : {X : Type 0} (f : Framing X) (r : X) (log : List X)
    → length (spelled f log) ≤ length (spelled f (r ∷ log))
unfolding spelled
one_longer f r log = let all = length-append (spelled f log) (frame (f.spell r)) in omega (arith, all)

no_longer : {X : Type 0} (f : Framing X) (log : List X) (n : ℕ)
    → length (spelled f (beginning log n)) ≤ length (spelled f log)
no_longer {X = X} f log n =
    of_beginning (λ (l : List X). length (spelled f l) ≤ length (spelled f log)) n
    (λ r l more was. omega (arith, was, one_longer f r l)) log (omega arith)

-- more records have no fewer bytes
pub spelled_longer : {X : Type 0} (f : Framing X) (log : List X) (m n : ℕ) → m ≤ n
    → length (spelled f (beginning log m)) ≤ length (spelled f (beginning log n))
spelled_longer {X = X} f log m n le =
    subst (λ (l : List X). length (spelled f l) ≤ length (spelled f (beginning log n))) (twice log n m le)
    (no_longer f (beginning log n) m)
