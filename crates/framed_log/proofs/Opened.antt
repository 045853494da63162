-- Bytes that hold a good log aren't bad at any place.
use Rattle.std.proofs.Common.{◌≡◌, ℕ, ◌+◌, ◌<◌, ◌^◌, List, ◌∷◌, ◌++◌, length, sym, ap, ◌∙◌, subst, arith, inl, inr}
use Rattle.std.proofs.lemmas.List.{length-append}
use Rattle.codec.specs.Frames.{IsCut}
use Rattle.framed_log.specs.Opening.{HoldsFrames, IsUnfit, IsBadAt}
use Rattle.framed_log.specs.Spelled.{Framing, spelled}
use Rattle.framed_log.proofs.Framing.{IsFraming, uncut}
use Rattle.framed_log.proofs.ReadOnce.{GoesOn, ends, goes_on, what_follows}

-- in a good log each record may follow those before it
abbrev pub MayAllFollow : {X : Type 0} → (List X → Type 0) → (List X → X → Type 0) → Type 0
MayAllFollow {X = X} IsGood MayFollow =
    (newer : List X) (r : X) (older : List X) → IsGood (newer ++ r ∷ older) → MayFollow older r

-- the next record of a good log fits, and has a number
next_fits : {X : Type 0} {f : Framing X} → IsFraming f → (IsGood : List X → Type 0) (MayFollow : List X → X → Type 0)
    (log other : List X) (rest left : List ℕ) → MayAllFollow IsGood MayFollow → IsGood log → length log < 2 ^ 48
    → GoesOn f log other rest left → IsUnfit f MayFollow other left → ⊥
next_fits {X = X} {f = f} law IsGood MayFollow log other rest left may good numbered on unfit =
    let same = law.one_frame unfit.next on.next unfit.stands.rest (spelled f on.newer ++ rest) unfit.stands.fits on.fits
    (sym unfit.stands.parts ∙ on.first) in
    elim unfit.unfit [
      | inl wrong ↦
          wrong (subst (MayFollow other) (sym same.0) (may on.newer on.next other (subst IsGood on.all good)))
      | inr spent ↦
          let count : length log ≡ length on.newer + length (on.next ∷ other) =
          ap length on.all ∙ length-append on.newer (on.next ∷ other) in
          absurd (omega (arith, spent, count, numbered))
    ]

pub none_bad : {X : Type 0} {f : Framing X} → IsFraming f → (IsGood : List X → Type 0) (MayFollow : List X → X → Type 0)
    (bytes : List ℕ) (log : List X) (place : ℕ) → MayAllFollow IsGood MayFollow → IsGood log → length log < 2 ^ 48
    → HoldsFrames f bytes log → IsBadAt f IsGood MayFollow bytes place → ⊥
none_bad {f = f} law IsGood MayFollow bytes log place may good numbered h b =
    elim (what_follows law bytes log b.log b.left h b.begins.records b.begins.parts) [
      | ends is end ↦ elim b.bad [
        | inl wrong ↦ wrong.uncut (subst (IsCut f.limit) (sym end) h.cut)
        | inr unfit ↦
            uncut law unfit.next h.left unfit.stands.rest unfit.stands.fits (sym end ∙ unfit.stands.parts) h.cut
      ]
      | goes_on on ↦ elim b.bad [
        | inl wrong ↦
            wrong.none on.next (record { fits = on.fits; rest = spelled f on.newer ++ h.left; parts = on.first })
        | inr unfit ↦ next_fits law IsGood MayFollow log b.log h.left b.left may good numbered on unfit
      ]
    ]
