-- Where a frame ends: by the cause of its reading.
use Rattle.std.proofs.Common.{◌≡◌, ℕ, ◌+◌, List, take, drop, refl, sym, ap, ◌∙◌, subst, arith, inl, inr}
use Rattle.std.specs.Prelude.{◌↔◌}
use Rattle.record_key.specs.Table.{Bytes}
use Rattle.codec.specs.declared.taken.Taken.{Taken}
use Rattle.codec.specs.declared.taken.Taken.TheVariants as took
use Rattle.codec.specs.declared.frame.FrameEnd.{FrameEnd}
use Rattle.codec.specs.declared.frame.FrameEnd.TheVariants as ends
use Rattle.codec.specs.Fields.{first_number}
use Rattle.codec.specs.Frames.{IsCut, IsWholeFrame, IsNoLength, IsFrameOf}
use Rattle.codec.specs.Reading.{frame_at}
use Rattle.codec.proofs.Frames.{few, empty, above, cut, whole, why}

abbrev pub end_of : Taken Bytes → FrameEnd
end_of (took.Record body next) = ends.At next
end_of took.Short = ends.Short
end_of (took.Bad place) = ends.Bad

-- what is told of the end of a frame is so
pub record IsEnd (limit place : ℕ) (left : List ℕ) (end : FrameEnd) : Type 0 where
  pub whole : (next : ℕ) → (end ≡ ends.At next) ↔ (IsWholeFrame limit left × (next ≡ place + (8 + first_number left)))
  pub short : (end ≡ ends.Short) ↔ IsCut limit left
  pub bad : (end ≡ ends.Bad) ↔ IsNoLength limit left

short_end : (limit place : ℕ) (left : List ℕ) → IsCut limit left → (IsWholeFrame limit left → ⊥)
    → (IsNoLength limit left → ⊥)
    → IsEnd limit place left ends.Short
short_end limit place left broken not_whole not_bad = record {
  whole = λ next. (λ e. absurd cc, λ h. absurd (not_whole h.0));
  short = (λ e. broken, λ h. refl);
  bad = (λ e. absurd cc, λ h. absurd (not_bad h));
}

bad_end : (limit place : ℕ) (left : List ℕ) → IsNoLength limit left → (IsWholeFrame limit left → ⊥)
    → (IsCut limit left → ⊥)
    → IsEnd limit place left ends.Bad
bad_end limit place left bad not_whole not_cut = record {
  whole = λ next. (λ e. absurd cc, λ h. absurd (not_whole h.0));
  short = (λ e. absurd cc, λ h. absurd (not_cut h));
  bad = (λ e. bad, λ h. refl);
}

whole_end : (limit place : ℕ) (left : List ℕ) → IsWholeFrame limit left → (IsCut limit left → ⊥)
    → (IsNoLength limit left → ⊥)
    → IsEnd limit place left (ends.At (place + (8 + first_number left)))
whole_end limit place left entire not_cut not_bad = record {
  whole = λ next. (λ e. (entire, cc), λ h. ap (λ (n : ℕ). ends.At n) (sym h.1));
  short = (λ e. absurd cc, λ h. absurd (not_cut h));
  bad = (λ e. absurd cc, λ h. absurd (not_bad h));
}

-- of the three one holds
cut_or_whole : (limit : ℕ) (left : List ℕ) → IsCut limit left → IsWholeFrame limit left → ⊥
cut_or_whole limit left (inl lt) entire = omega (arith, lt, entire.header)
cut_or_whole limit left (inr h) entire = omega (arith, h.3, entire.there)

cut_or_bad : (limit : ℕ) (left : List ℕ) → IsCut limit left → IsNoLength limit left → ⊥
cut_or_bad limit left (inl lt) bad = omega (arith, lt, bad.0)
cut_or_bad limit left (inr h) (long, inl none) = omega (arith, h.0, none)
cut_or_bad limit left (inr h) (long, inr much) = omega (arith, h.1, much)

whole_or_bad : (limit : ℕ) (left : List ℕ) → IsWholeFrame limit left → IsNoLength limit left → ⊥
whole_or_bad limit left entire (long, inl none) = omega (arith, entire.some, none)
whole_or_bad limit left entire (long, inr much) = omega (arith, entire.allowed, much)

told_short : (limit place : ℕ) (left : List ℕ) → IsCut limit left → IsEnd limit place left ends.Short
told_short limit place left broken =
    short_end limit place left broken (cut_or_whole limit left broken) (cut_or_bad limit left broken)

told_bad : (limit place : ℕ) (left : List ℕ) → IsNoLength limit left → IsEnd limit place left ends.Bad
told_bad limit place left bad =
    bad_end limit place left bad (λ entire. whole_or_bad limit left entire bad)
    (λ broken. cut_or_bad limit left broken bad)

end_told : (limit place : ℕ) (left : List ℕ) → IsEnd limit place left (end_of (frame_at limit place left))
end_told limit place left =
    elim (why limit place left) [
      | few lt is ↦ rw is (told_short limit place left (inl lt))
      | empty long none is ↦ rw is (told_bad limit place left (long, inl none))
      | above long much is ↦ rw is (told_bad limit place left (long, inr much))
      | cut long some low lt is ↦ rw is (told_short limit place left (inr (some, low, long, lt)))
      | whole long some low there is ↦
          let h : IsWholeFrame limit left = record { header = long; some = some; allowed = low; there = there } in
          rw is (whole_end limit place left h (λ cut. cut_or_whole limit left cut h) (whole_or_bad limit left h))
    ]

pub ends_so : (limit place : ℕ) (left : List ℕ) (t : Taken Bytes) → t ≡ frame_at limit place left
    → IsEnd limit place left (end_of t)
ends_so limit place left t e =
    subst (λ (t : Taken Bytes). IsEnd limit place left (end_of t)) (sym e) (end_told limit place left)

-- a body that was taken, of which this holds
pub body_taken : (limit place : ℕ) (left : List ℕ) (Holds : List ℕ → Type 0) (body : Bytes) (next : ℕ)
    → took.Record body next ≡ frame_at limit place left → Holds body → IsFrameOf limit Holds left
body_taken limit place left Holds body next e holds =
    elim (why limit place left) [
      | few lt is ↦ absurd (let h : took.Record body next ≡ took.Short = e ∙ is in cc)
      | empty long none is ↦ absurd (let h : took.Record body next ≡ took.Bad place = e ∙ is in cc)
      | above long much is ↦ absurd (let h : took.Record body next ≡ took.Bad place = e ∙ is in cc)
      | cut long some low lt is ↦ absurd (let h : took.Record body next ≡ took.Short = e ∙ is in cc)
      | whole long some low there is ↦
          let h : took.Record body next
          ≡ took.Record (take (first_number left) (drop 8 left)) (place + (8 + first_number left)) = e ∙ is in
          let same : body ≡ take (first_number left) (drop 8 left) = cc in
          record {
            whole = record { header = long; some = some; allowed = low; there = there };
            body = subst Holds same holds;
          }
    ]
