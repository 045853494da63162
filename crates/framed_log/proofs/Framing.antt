-- Which framings tell records apart, and bytes that are cut from those that begin with a frame.
use Rattle.std.proofs.Common.{◌≡◌, ℕ, ◌+◌, ◌^◌, ◌<◌, ◌≤◌, List, ◌++◌, length, ap, ◌∙◌, arith, inl, inr}
use Rattle.std.proofs.lemmas.List.{length-append}
use Rattle.codec.specs.Fields.{first_number}
use Rattle.codec.specs.Frames.{frame, IsCut}
use Rattle.codec.specs.Reading.{frame_at, within}
use Rattle.codec.specs.declared.taken.Taken.TheVariants as took
use Rattle.codec.proofs.Cuts.{part_cut}
use Rattle.codec.proofs.Frames.{length_there, length-frame}
use Rattle.framed_log.specs.Spelled.{Framing}

-- a frame has room for each record that fits, no frame begins another's, and what stands in one is read there
pub record IsFraming {X : Type 0} (f : Framing X) : Type 0 where
  pub bounds : (r : X) → f.Fits r → (0 < length (f.spell r)) × (length (f.spell r) ≤ f.limit)
  pub small : f.limit < 2 ^ 64
  pub one_frame : (a b : X) (x y : List ℕ) → f.Fits a → f.Fits b → frame (f.spell a) ++ x ≡ frame (f.spell b) ++ y
      → (a ≡ b) × (x ≡ y)
  pub taken : (place : ℕ) (left : List ℕ) (r : X) (rest : List ℕ) → f.Fits r → left ≡ frame (f.spell r) ++ rest
      → within place f.read (frame_at f.limit place left) ≡ took.Record r (place + length (frame (f.spell r)))

-- bytes that are cut begin with no whole frame
pub uncut : {X : Type 0} {f : Framing X} → IsFraming f → (r : X) (left rest : List ℕ) → f.Fits r
    → left ≡ frame (f.spell r) ++ rest → IsCut f.limit left → ⊥
uncut {f = f} law r left rest fits e cut =
    let body : List ℕ = f.spell r in
    let bounds = law.bounds r fits in
    let count : first_number left ≡ length body =
    length_there body left rest (omega (arith, bounds.1, law.small)) e in
    let all : length left ≡ 8 + length body + length rest =
    ap length e ∙ omega (arith, length-append (frame body) rest, length-frame body) in
    elim cut [
      | inl few ↦ absurd (omega (arith, few, all))
      | inr ends ↦ absurd (omega (arith, ends.3, count, all))
    ]

-- a part of a frame is cut
pub record_part_cut : {X : Type 0} {f : Framing X} → IsFraming f → (r : X) (part more : List ℕ) → f.Fits r
    → frame (f.spell r) ≡ part ++ more → length part < length (frame (f.spell r)) → IsCut f.limit part
record_part_cut {f = f} law r part more fits e less =
    let bounds = law.bounds r fits in
    part_cut f.limit (f.spell r) part more bounds.0 bounds.1 (omega (arith, bounds.1, law.small)) e less
