-- An index of frames: it stays right where the bytes of its frames stay, and with one frame more.
use Rattle.std.proofs.Common.{◌≡◌, ℕ, zero, suc, ◌+◌, ◌-◌, ◌*◌, ◌<◌, ◌≤◌, ◌^◌, List, [], ◌∷◌, ◌++◌, length, take, drop, get_or, refl, sym, ap, subst, ◌∙◌, arith, inl, inr, add-one}
use Rattle.std.proofs.lemmas.Bool.{cases_lt}
use Rattle.std.proofs.lemmas.List.{drop-take, take_at, drop_at, length-append, length-take, get_or_append_left, get_or_at, length_push, append-nil}
use Rattle.byteorder.specs.Numbers.{big_from-take}
use Rattle.codec.specs.Fields.{first_number}
use Rattle.codec.specs.Frames.{frame}
use Rattle.codec.specs.Marks.{marked}
use Rattle.codec.specs.FrameIndex.{next_at, place_at, places_of, Indexes}
use Rattle.codec.proofs.Marks.{no_marks, marks_same, marks_more}
use Rattle.codec.proofs.Frames.{length_there, length-frame}

-- ---- places

pub place_next : (bytes : List ℕ) (n : ℕ) → place_at bytes (n + 1) ≡ next_at bytes (place_at bytes n)
unfolding place_at
place_next bytes n = ap (place_at bytes) (add-one n)

pub places_next : (bytes : List ℕ) (n : ℕ) → places_of bytes (n + 1) ≡ places_of bytes n ++ place_at bytes n ∷ []
unfolding places_of
places_next bytes n = ap (places_of bytes) (add-one n)

-- each frame begins at least eight bytes after the one before it
next_far : (bytes : List ℕ) (place : ℕ) → place + 8 ≤ next_at bytes place
unfolding next_at
next_far bytes place = omega arith

place_apart : (bytes : List ℕ) (n k : ℕ) → place_at bytes n + 8 * k ≤ place_at bytes (k + n)
unfolding place_at
place_apart bytes n zero =
    let e : n ≡ zero + n = omega arith in
    subst (λ (m : ℕ). place_at bytes n + 8 * zero ≤ place_at bytes m) e (omega arith)
place_apart bytes n (suc k) =
    let e : suc (k + n) ≡ suc k + n = omega arith in
    subst (λ (m : ℕ). place_at bytes n + 8 * suc k ≤ place_at bytes m) e
    (omega (arith, place_apart bytes n k, next_far bytes (place_at bytes (k + n))))

pub place_grows : (bytes : List ℕ) (n m : ℕ) → n ≤ m → place_at bytes n + 8 * (m - n) ≤ place_at bytes m
place_grows bytes n m le =
    let e : (m - n) + n ≡ m = omega (arith, le) in
    subst (λ (x : ℕ). place_at bytes n + 8 * (m - n) ≤ place_at bytes x) e (place_apart bytes n (m - n))

-- a frame that stands at a place ends where the next begins
pub next_framed : (bytes : List ℕ) (place : ℕ) (body rest : List ℕ) → length body < 2 ^ 64
    → drop place bytes ≡ frame body ++ rest → next_at bytes place ≡ place + length (frame body)
unfolding next_at
next_framed bytes place body rest short stands =
    ap (λ (n : ℕ). place + (8 + n)) (length_there body (drop place bytes) rest short stands)
    ∙ ap (λ (n : ℕ). place + n) (sym (length-frame body))

-- ---- other bytes that begin the same

first_same : (n : ℕ) (xs : List ℕ) → 8 ≤ n → first_number (take n xs) ≡ first_number xs
unfolding first_number
first_same n xs long = big_from-take 0 8 n xs long

-- what stands before the end of what is the same is the same
within_same : (bytes other : List ℕ) (end place : ℕ) → take end other ≡ take end bytes → place ≤ end
    → take (end - place) (drop place other) ≡ take (end - place) (drop place bytes)
within_same bytes other end place same within =
    let e : end ≡ place + (end - place) = omega (arith, within) in
    sym (drop-take place (end - place) other) ∙ ap (λ (n : ℕ). drop place (take n other)) (sym e)
    ∙ ap (drop place) same
    ∙ ap (λ (n : ℕ). drop place (take n bytes)) e ∙ drop-take place (end - place) bytes

next_same : (bytes other : List ℕ) (end place : ℕ) → take end other ≡ take end bytes → place + 8 ≤ end
    → next_at other place ≡ next_at bytes place
unfolding next_at
next_same bytes other end place same within =
    let long : 8 ≤ end - place = omega (arith, within) in
    ap (λ (n : ℕ). place + (8 + n))
    (sym (first_same (end - place) (drop place other) long)
    ∙ ap first_number (within_same bytes other end place same (omega (arith, within)))
    ∙ first_same (end - place) (drop place bytes) long)

-- the places up to the end of what is the same are the same
pub place_same : (bytes other : List ℕ) (n : ℕ) → take (place_at bytes n) other ≡ take (place_at bytes n) bytes
    → (m : ℕ) → m ≤ n → place_at other m ≡ place_at bytes m
unfolding place_at
place_same bytes other n same zero le = refl
place_same bytes other n same (suc m) le =
    ap (next_at other) (place_same bytes other n same m (omega (arith, le)))
    ∙ next_same bytes other (place_at bytes n) (place_at bytes m) same
    (omega (arith, place_grows bytes m n (omega (arith, le)), le))

pub places_same : (bytes other : List ℕ) (n : ℕ) → take (place_at bytes n) other ≡ take (place_at bytes n) bytes
    → (m : ℕ) → m ≤ n → places_of other m ≡ places_of bytes m
unfolding places_of
places_same bytes other n same zero le = refl
places_same bytes other n same (suc m) le =
    λ i. places_same bytes other n same m (omega (arith, le)) i
    ++ place_same bytes other n same m (omega (arith, le)) i ∷ []

-- ---- the list of places

pub length-places_of : (bytes : List ℕ) (n : ℕ) → length (places_of bytes n) ≡ n
unfolding places_of
length-places_of bytes zero = refl
length-places_of bytes (suc n) = length_push (places_of bytes n) (place_at bytes n)
    ∙ omega (arith, length-places_of bytes n)

pub place_of : (bytes : List ℕ) (n m x : ℕ) → m < n → get_or (places_of bytes n) m x ≡ place_at bytes m
unfolding places_of
place_of bytes zero m x lt = absurd (omega (arith, lt))
place_of bytes (suc n) m x lt =
    elim (cases_lt m n) [
      | inl older ↦
          get_or_append_left (places_of bytes n) (place_at bytes n ∷ []) x m
          (omega (arith, older, length-places_of bytes n))
          ∙ place_of bytes n m x older
      | inr last ↦
          let e : m ≡ n = omega (arith, last, lt) in
          get_or_at (places_of bytes n) (place_at bytes n) [] x m (omega (arith, e, length-places_of bytes n))
          ∙ ap (place_at bytes) (sym e)
    ]

-- ---- the index

pub indexes_none : (bytes : List ℕ) → Indexes bytes [] 0
unfolding place_at
indexes_none bytes = record { indexed = no_marks (place_at bytes); whole = omega arith }

-- there are fewer frames than bytes
pub indexed_few : (bytes marks : List ℕ) (count : ℕ) → Indexes bytes marks count → 8 * count ≤ length bytes
unfolding place_at
indexed_few bytes marks count h = omega (arith, place_grows bytes 0 count (omega arith), h.whole)

-- what is the same up to a place has at least as many bytes
long_same : (bytes other : List ℕ) (n : ℕ) → take n other ≡ take n bytes → n ≤ length bytes → n ≤ length other
long_same bytes other n same within =
    omega (arith, ap length same, length-take n other, length-take n bytes, within)

-- it is right of all bytes that begin with its frames
pub indexes_same : (bytes other marks : List ℕ) (count : ℕ) → Indexes bytes marks count
    → take (place_at bytes count) other ≡ take (place_at bytes count) bytes → Indexes other marks count
indexes_same bytes other marks count h same = record {
  indexed = marks_same (place_at bytes) (place_at other) marks count (place_same bytes other count same) h.indexed;
  whole = subst (λ (n : ℕ). n ≤ length other) (sym (place_same bytes other count same count (omega arith)))
      (long_same bytes other (place_at bytes count) same h.whole);
}

-- and with the frame after these, once this is whole
pub indexes_more : (bytes marks : List ℕ) (count place : ℕ) → Indexes bytes marks count → place ≡ place_at bytes count
    → next_at bytes place ≤ length bytes → Indexes bytes (marked marks count place) (count + 1)
indexes_more bytes marks count place h at whole = record {
  indexed = marks_more (place_at bytes) marks count place h.indexed at;
  whole = subst (λ (p : ℕ). p ≤ length bytes) (ap (next_at bytes) at ∙ sym (place_next bytes count)) whole;
}

-- ---- a frame more

-- so the index goes on, from an end to the next, where a frame more is counted
pub record GoesOn (bytes other marks : List ℕ) (count end next : ℕ) : Type 0 where
  pub places : places_of other (count + 1) ≡ places_of bytes count ++ end ∷ []
  pub indexes : Indexes other (marked marks count end) (count + 1)
  pub ends : next ≡ place_at other (count + 1)

-- what stands before both is the same
before_same : (before left after : List ℕ) (n : ℕ) → length before ≡ n
    → take n (before ++ after) ≡ take n (before ++ left)
before_same before left after n is = take_at before after n is ∙ sym (take_at before left n is)

-- the frames fill what is before, and a frame comes after them, in place of what was left there or as its first
pub goes_on : (before left bytes other marks : List ℕ) (count : ℕ) (body rest : List ℕ) → Indexes bytes marks count
    → length before ≡ place_at bytes count → bytes ≡ before ++ left → other ≡ before ++ (frame body ++ rest)
    → length body < 2 ^ 64
    → GoesOn bytes other marks count (length before) (length before + length (frame body))
goes_on before left bytes other marks count body rest h end was is short =
    let after : List ℕ = frame body ++ rest in
    let same : take (place_at bytes count) other ≡ take (place_at bytes count) bytes =
    ap (take (place_at bytes count)) is ∙ before_same before left after (place_at bytes count) end
    ∙ sym (ap (take (place_at bytes count)) was) in
    let at : length before ≡ place_at other count = end ∙ sym (place_same bytes other count same count (omega arith)) in
    let stands : drop (length before) other ≡ after =
    ap (drop (length before)) is ∙ drop_at before after (length before) refl in
    let next : next_at other (length before) ≡ length before + length (frame body) =
    next_framed other (length before) body rest short stands in
    let long : length before + length (frame body) ≤ length other =
    omega (arith, ap length is, length-append before after, length-append (frame body) rest) in
    record {
      places = places_next other count
          ∙ λ i. places_same bytes other count same count (omega arith) i ++ sym at i ∷ [];
      indexes = indexes_more other marks count (length before) (indexes_same bytes other marks count h same) at
          (subst (λ (p : ℕ). p ≤ length other) (sym next) long);
      ends = sym next ∙ ap (next_at other) at ∙ sym (place_next other count);
    }

-- what is left after the frames is cut off
pub cut_same : (before left bytes : List ℕ) (count : ℕ) → length before ≡ place_at bytes count → bytes ≡ before ++ left
    → take (place_at bytes count) before ≡ take (place_at bytes count) bytes
cut_same before left bytes count end is =
    ap (take (place_at bytes count)) (sym (append-nil before))
    ∙ before_same before left [] (place_at bytes count) end
    ∙ sym (ap (take (place_at bytes count)) is)
