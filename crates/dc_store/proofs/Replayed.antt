-- The leaves in their places, one record after another.
use Rattle.std.proofs.Common.{◌≡◌, ℕ, ◌+◌, ◌<◌, ◌≤◌, List, [], ◌∷◌, ◌++◌, length, reverse, Option, refl, sym, ap, ◌∙◌, subst, arith, inl, inr, eq-eqb, ne_eqb, append_assoc, append-nil}
use Rattle.std.specs.FinMap as table
use Rattle.std.proofs.lemmas.Bool.{cases_eq, cases_lt, le-leb, lt-leb}
use Rattle.std.proofs.lemmas.List.{length-append, length-reverse, reverse-append}
use Rattle.codec.specs.declared.dc_record.DcRecord.{DcRecord}
use Rattle.codec.specs.declared.dc_record.DcRecord.TheVariants.{Accept, Split, Merge}
use Rattle.dc_leaf.specs.Leaf.{LeafView}
use Rattle.stable.specs.PagesState.{Pages}
use Rattle.dc_recovery.specs.Images.{leaf_of}
use Rattle.dc_recovery.specs.Ready.{AreReadable}
use Rattle.dc_recovery.specs.Recovery.{at_left, cut_again, merged_again}
use Rattle.dc_recovery.specs.Shape.{named}
use Rattle.dc_store.specs.Devices.{AreRecords, pages_of}
use Rattle.dc_store.specs.Replaying.{HoldsPages, HoldsRecovered, recovered_or}
use Rattle.dc_store.specs.Shelf.{Slot, leaf_on, redone, HasPlaces}
use Rattle.codec.specs.DcRecords.{FitsFrame}
use Rattle.framed_log.proofs.ReadOnce.{all_older}
use Rattle.dc_store.proofs.Knowing.{known_some, older_readable, older_named}

-- a log that may be done again with so many places
pub record FitsPlaces (log : List DcRecord) (count : ℕ) : Type 0 where
  pub records : AreRecords log
  pub readable : (pages : Pages) → AreReadable (pages_of pages) log
  pub places : named log < count

older_fits : (newer older : List DcRecord) (count : ℕ) → FitsPlaces (newer ++ older) count → FitsPlaces older count
older_fits newer older count fits = record {
  records = all_older FitsFrame newer older fits.records;
  readable = λ pages. older_readable (pages_of pages) newer older (fits.readable pages);
  places = omega (arith, fits.places, older_named (pages_of table.empty) newer older (fits.readable table.empty));
}

-- the places that the next record asks for are there
next_places : (r : DcRecord) (log : List DcRecord) (count : ℕ) → FitsPlaces (r ∷ log) count → HasPlaces r count
next_places (Accept session) log count fits = tt
next_places (Split left cut right) log count fits =
    let readable = fits.readable table.empty in
    let low : left ≤ named log = known_some (pages_of table.empty) log left readable.1 readable.0.0 in
    (omega (arith, low, readable.0.1), fits.places, fits.records.0.0.1.1)
next_places (Merge left right merged) log count fits =
    let readable = fits.readable table.empty in
    let low : left ≤ named log = known_some (pages_of table.empty) log left readable.1 readable.0.0 in
    let other : right ≤ named log = known_some (pages_of table.empty) log right readable.1 readable.0.1 in
    (omega (arith, low, fits.places), omega (arith, other, fits.places), fits.records.0.0.0.1.1)

-- a leaf of a number that isn't the left one is as it was
not_left : (id left : ℕ) (f : LeafView → LeafView) (o : Option LeafView) → (id ≡ left → ⊥) → at_left id left f o ≡ o
not_left id left f o other = rw (ne_eqb id left other) refl

-- the places hold what is recovered, one record later
next_leaf : (pages : Pages) (r : DcRecord) (log : List DcRecord) (id : ℕ) → AreReadable (pages_of pages) (r ∷ log)
    → redone (length log + 1) r id (recovered_or pages log id) ≡ recovered_or pages (r ∷ log) id
next_leaf pages (Accept session) log id readable = refl
next_leaf pages (Split left cut right) log id readable =
    let low : left ≤ named log = known_some (pages_of pages) log left readable.1 readable.0.0 in
    elim (cases_eq id right.id) [
      | inl new ↦
          rw (
            lt-leb id (named log) (omega (arith, new, readable.0.1)),
            eq-eqb id right.id new,
            le-leb id right.id (omega (arith, new)),
          ) refl
      | inr other ↦
          elim (cases_lt (named log) id) [
            | inl above ↦
                rw (
                  lt-leb id (named log) above,
                  ne_eqb id right.id other,
                  lt-leb id right.id (omega (arith, other, above, readable.0.1)),
                )
                (not_left id left (cut_again (length log + 1) cut) (pages_of pages id)
                (λ e. absurd (omega (arith, low, above, e))))
            | inr within ↦
                rw (
                  le-leb id (named log) within,
                  ne_eqb id right.id other,
                  le-leb id right.id (omega (arith, within, readable.0.1)),
                ) refl
          ]
    ]
next_leaf pages (Merge left right merged) log id readable =
    let low : left ≤ named log = known_some (pages_of pages) log left readable.1 readable.0.0 in
    let high : right ≤ named log = known_some (pages_of pages) log right readable.1 readable.0.1 in
    elim (cases_eq id right) [
      | inl gone ↦ rw (le-leb id (named log) (omega (arith, gone, high)), eq-eqb id right gone) refl
      | inr other ↦
          elim (cases_lt (named log) id) [
            | inl above ↦
                rw (lt-leb id (named log) above, ne_eqb id right other)
                (not_left id left (merged_again (length log + 1) (leaf_of merged)) (pages_of pages id)
                (λ e. absurd (omega (arith, low, above, e))))
            | inr within ↦ rw (le-leb id (named log) within, ne_eqb id right other) refl
          ]
    ]

-- what the places hold once the first of the records are done again
pub record IsReplayed (records : List DcRecord) (old : List Slot) (done rest : List DcRecord) (new : List Slot)
    (n : ℕ) : Type 0 where
  pub parts : records ≡ done ++ rest
  pub number : n ≡ length done
  pub count : length new ≡ length old
  pub held : (pages : Pages) → HoldsPages pages old → HoldsRecovered pages (reverse done) new

-- of what is left one is the next
pub with_next : (records : List DcRecord) (old : List Slot) (done left rest : List DcRecord) (r : DcRecord)
    (mid : List Slot) (number : ℕ) → left ≡ r ∷ rest → IsReplayed records old done left mid number
    → IsReplayed records old done (r ∷ rest) mid number
with_next records old done left rest r mid number is far =
    subst (λ (rs : List DcRecord). IsReplayed records old done rs mid number) is far

split_reverse : (done rest : List DcRecord) (r : DcRecord)
    → reverse (done ++ r ∷ rest) ≡ reverse rest ++ r ∷ reverse done
split_reverse done rest r =
    reverse-append done (r ∷ rest)
    ∙ ap (λ (newer : List DcRecord). newer ++ reverse done) (reverse-append (r ∷ []) rest)
    ∙ append_assoc (reverse rest) (r ∷ []) (reverse done)

-- so the next record fits
pub next_fits : (records done rest : List DcRecord) (r : DcRecord) (count : ℕ) → records ≡ done ++ r ∷ rest
    → FitsPlaces (reverse records) count → FitsPlaces (r ∷ reverse done) count
next_fits records done rest r count parts fits =
    older_fits (reverse rest) (r ∷ reverse done) count
    (subst (λ (log : List DcRecord). FitsPlaces log count) (ap reverse parts ∙ split_reverse done rest r) fits)

-- it asks for places that are there
pub next_has_places : (records done rest : List DcRecord) (r : DcRecord) (count : ℕ) → records ≡ done ++ r ∷ rest
    → FitsPlaces (reverse records) count → HasPlaces r count
next_has_places records done rest r count parts fits =
    next_places r (reverse done) count (next_fits records done rest r count parts fits)

-- and is done again
pub next_replayed : (records : List DcRecord) (old : List Slot) (done rest : List DcRecord) (r : DcRecord)
    (mid new : List Slot)
    (number count : ℕ) → IsReplayed records old done (r ∷ rest) mid number → FitsPlaces (reverse records) count
    → length new ≡ length mid → ((id : ℕ) → leaf_on new id ≡ redone (number + 1) r id (leaf_on mid id))
    → IsReplayed records old (done ++ r ∷ []) rest new (number + 1)
next_replayed records old done rest r mid new number count far fits same step =
    let next = next_fits records done rest r count far.parts fits in
    record {
      parts = far.parts ∙ sym (append_assoc done (r ∷ []) rest);
      number = ap (λ (n : ℕ). n + 1) far.number ∙ sym (length-append done (r ∷ []));
      count = same ∙ far.count;
      held = λ pages held id within.
          let before : leaf_on mid id ≡ recovered_or pages (reverse done) id =
          far.held pages held id (omega (arith, within, same)) in
          let d : number + 1 ≡ length (reverse done) + 1 =
          ap (λ (n : ℕ). n + 1) (far.number ∙ sym (length-reverse done)) in
          subst (λ (log : List DcRecord). leaf_on new id ≡ recovered_or pages log id)
          (sym (reverse-append done (r ∷ [])))
          (step id
          ∙ ap (λ (n : ℕ). redone n r id (leaf_on mid id)) d
          ∙ ap (redone (length (reverse done) + 1) r id) before
          ∙ next_leaf pages r (reverse done) id (next.readable pages));
    }

-- its number is one of the records'
pub next_number : (records : List DcRecord) (old : List Slot) (done rest : List DcRecord) (r : DcRecord)
    (mid : List Slot) (number : ℕ) → IsReplayed records old done (r ∷ rest) mid number → number + 1 ≤ length records
next_number records old done rest r mid number far =
    omega (arith, far.number, ap length far.parts, length-append done (r ∷ rest))

-- before the first one
pub first_replayed : (records : List DcRecord) (old new : List Slot) → length new ≡ length old
    → ((pages : Pages) → HoldsPages pages old → HoldsRecovered pages [] new) → IsReplayed records old [] records new 0
first_replayed records old new same held = record { parts = refl; number = refl; count = same; held = held }

-- and after the last
pub all_replayed : (records : List DcRecord) (old : List Slot) (done : List DcRecord) (new : List Slot) (number : ℕ)
    → IsReplayed records old done [] new number
    → (pages : Pages) → HoldsPages pages old → HoldsRecovered pages (reverse records) new
all_replayed records old done new number far pages held =
    subst (λ (rs : List DcRecord). HoldsRecovered pages (reverse rs) new) (sym (far.parts ∙ append-nil done))
    (far.held pages held)
