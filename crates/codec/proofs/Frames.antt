-- Frames: what is taken stands there, what stands there is taken, and Short and Bad are told apart by the length.
use Rattle.std.proofs.Common.{◌≡◌, ◌⊎◌, ℕ, zero, suc, ◌^◌, ◌<◌, ◌≤◌, ◌+◌, false, cond, ltb, eqb, List, [], ◌∷◌, ◌++◌, length, take, drop, Option, Some, None, refl, sym, ap, subst, ◌∙◌, append_assoc, arith, inl, inr}
use Rattle.std.specs.Prelude.{◌↔◌}
use Rattle.std.specs.List.{flat_map, AllByRecursion}
use Rattle.std.proofs.lemmas.List.Concat.{flat_map-cons}
use Rattle.std.proofs.lemmas.Bool.{ltb-false, ltb-true, eqb-true, cases_Bool}
use Rattle.std.proofs.lemmas.List.{take_at, drop_at, take-append-drop, length-append, length-take, length-drop, append-nil, nil_from_length}
use Rattle.std.proofs.lemmas.Option.{cond_some}
use Rattle.record_key.specs.Table.{Bytes}
use Rattle.codec.specs.declared.taken.Taken.{Taken}
use Rattle.codec.specs.declared.taken.Taken.TheVariants as took
use Rattle.codec.specs.declared.frame.FrameEnd.{FrameEnd}
use Rattle.codec.specs.declared.frame.FrameEnd.TheVariants as ends
use Rattle.codec.specs.Fields.{number, first_number}
use Rattle.codec.specs.Frames.{frame, any_length, IsCut, IfTaken, IfBad, IsThere, IsWhole}
use Rattle.codec.specs.Reading.{Reader, all_of, frame_at, value_or_bad, taken_at, within, seen}
use Rattle.codec.proofs.Readers.{IsBytes, IsBytes-drop, IsBytes-take, IsReader, bind_some}
use Rattle.codec.proofs.Fields.{length-number, number_in_front, first_number-number}

-- ---- all of a body

all_takes : (X : Type 0) (spell : X → List ℕ) (Fits : X → Type 0) (read : Reader X) → IsReader X spell Fits read →
    (body : List ℕ) (x : X) → IsBytes body → all_of read body ≡ Some x → (body ≡ spell x) × Fits x
all_takes X spell Fits read law body x fits e =
    let a = bind_some (read body) (λ z. cond (eqb (length z.1) 0) (Some z.0) None) x e in
    let g = cond_some (eqb (length a.0.1) 0) a.0.0 x a.2 in
    let t = law.takes body a.0 fits a.1 in
    let nothing : a.0.1 ≡ [] = nil_from_length a.0.1 (eqb-true _ _ g.0) in
    let whole : body ≡ spell a.0.0 =
    t.0.parts ∙ ap (λ (r : List ℕ). spell a.0.0 ++ r) nothing ∙ append-nil (spell a.0.0) in
    subst (λ (z : X). (body ≡ spell z) × Fits z) g.1 (whole, t.1)

all_again : (X : Type 0) (spell : X → List ℕ) (Fits : X → Type 0) (read : Reader X) → IsReader X spell Fits read →
    (x : X) → Fits x → all_of read (spell x) ≡ Some x
all_again X spell Fits read law x fits =
    let all : read (spell x) ≡ Some (x, []) = ap read (sym (append-nil (spell x))) ∙ law.again x [] fits in
    rw all refl

-- ---- the cases of a frame

-- why a frame's reading is what it is
pub data Why (limit place : ℕ) (left : List ℕ) (taken : Taken Bytes) : Type 0 where
  few : length left < 8 → taken ≡ took.Short → Why limit place left taken
  empty : 8 ≤ length left → first_number left ≡ 0 → taken ≡ took.Bad place → Why limit place left taken
  above : 8 ≤ length left → limit < first_number left → taken ≡ took.Bad place → Why limit place left taken
  cut : 8 ≤ length left → 0 < first_number left → first_number left ≤ limit → length left < 8 + first_number left
      → taken ≡ took.Short → Why limit place left taken
  whole : 8 ≤ length left → 0 < first_number left → first_number left ≤ limit → 8 + first_number left ≤ length left
      → taken ≡ took.Record (take (first_number left) (drop 8 left)) (place + (8 + first_number left))
      → Why limit place left taken

eqb-no : (n : ℕ) → eqb n 0 ≡ false → 0 < n
eqb-no zero e = absurd cc
eqb-no (suc n) e = omega arith

pub why : (limit place : ℕ) (left : List ℕ) → Why limit place left (frame_at limit place left)
unfolding frame_at
why limit place left =
    elim (cases_Bool (ltb (length left) 8)) [
      | inl short ↦ few (ltb-true _ _ short) (rw short refl)
      | inr long ↦ elim (cases_Bool (eqb (first_number left) 0)) [
        | inl none ↦ empty (ltb-false _ _ long) (eqb-true _ _ none) (rw (long, none) refl)
        | inr some ↦ elim (cases_Bool (ltb limit (first_number left))) [
          | inl much ↦ above (ltb-false _ _ long) (ltb-true _ _ much) (rw (long, some, much) refl)
          | inr fits ↦ elim (cases_Bool (ltb (length left) (8 + first_number left))) [
            | inl ends ↦ cut (ltb-false _ _ long) (eqb-no _ some) (ltb-false _ _ fits) (ltb-true _ _ ends)
                (rw (long, some, fits, ends) refl)
            | inr there ↦ whole (ltb-false _ _ long) (eqb-no _ some) (ltb-false _ _ fits) (ltb-false _ _ there)
                (rw (long, some, fits, there) refl)
          ]
        ]
      ]
    ]

-- ---- what is taken

pub length-frame : (body : List ℕ) → length (frame body) ≡ 8 + length body
length-frame body = omega (arith, length-append (number (length body)) body, length-number (length body))

value_is : (X : Type 0) (place next : ℕ) (o : Option X) (x : X) (m : ℕ) → value_or_bad place next o ≡ took.Record x m
    → (o ≡ Some x) × (next ≡ m)
value_is X place next (Some y) x m e = (cc, cc)
value_is X place next None x m e = absurd cc

whole_is_there : (X : Type 0) (spell : X → List ℕ) (Fits : X → Type 0) (read : Reader X) → IsReader X spell Fits read →
    (place : ℕ) (left : List ℕ) (x : X) (next : ℕ) → IsBytes left → 8 ≤ length left
    → 8 + first_number left ≤ length left
    → value_or_bad place (place + (8 + first_number left)) (all_of read (take (first_number left) (drop 8 left)))
    ≡ took.Record x next
    → IsThere X spell Fits place left x next
whole_is_there X spell Fits read law place left x next fits long there e =
    let n = first_number left in
    let body = take n (drop 8 left) in
    let v = value_is X place (place + (8 + n)) (all_of read body) x next e in
    let a = all_takes X spell Fits read law body x (IsBytes-take n (drop 8 left) (IsBytes-drop 8 left fits)) v.0 in
    let len : length (spell x) ≡ n =
    sym (ap length a.0) ∙ omega (arith, length-take n (drop 8 left), length-drop 8 left) in
    let header : number (length (spell x)) ≡ take 8 left = ap number len ∙ number_in_front left fits long in
    let split : left ≡ take 8 left ++ (body ++ drop n (drop 8 left)) =
    sym (take-append-drop 8 left)
    ∙ ap (λ (t : List ℕ). take 8 left ++ t) (sym (take-append-drop n (drop 8 left))) in
    let framed : left ≡ frame (spell x) ++ drop n (drop 8 left) =
    split ∙ sym (append_assoc (take 8 left) body (drop n (drop 8 left)))
    ∙ ap (λ (t : List ℕ). (t ++ body) ++ drop n (drop 8 left)) (sym header)
    ∙ ap (λ (t : List ℕ). (number (length (spell x)) ++ t) ++ drop n (drop 8 left)) a.0 in
    let rest : drop (length (frame (spell x))) left ≡ drop n (drop 8 left) =
    ap (drop (length (frame (spell x)))) framed
    ∙ drop_at (frame (spell x)) (drop n (drop 8 left)) (length (frame (spell x))) refl in
    record {
      fits = a.1;
      parts = framed ∙ ap (λ (t : List ℕ). frame (spell x) ++ t) (sym rest);
      next_is = omega (arith, v.1, length-frame (spell x), len);
    }

is_there : (X : Type 0) (spell : X → List ℕ) (Fits : X → Type 0) (read : Reader X) → IsReader X spell Fits read →
    (limit place : ℕ) (left : List ℕ) (t : Taken Bytes) (x : X) (next : ℕ) → IsBytes left → Why limit place left t
    → within place read t ≡ took.Record x next → IsThere X spell Fits place left x next
is_there X spell Fits read law limit place left t x next fits cause e =
    elim cause [
      | few lt is ↦ absurd (let h : within place read took.Short ≡ took.Record x next = sym (ap (within place read) is)
          ∙ e in cc)
      | empty long none is ↦ absurd
          (let h : within place read (took.Bad place) ≡ took.Record x next = sym (ap (within place read) is) ∙ e in cc)
      | above long much is ↦ absurd
          (let h : within place read (took.Bad place) ≡ took.Record x next = sym (ap (within place read) is) ∙ e in cc)
      | cut long some low lt is ↦
          absurd (let h : within place read took.Short ≡ took.Record x next = sym (ap (within place read) is) ∙ e in cc)
      | whole long some low there is ↦
          let h : within place read
          (took.Record (take (first_number left) (drop 8 left)) (place + (8 + first_number left)))
          ≡ took.Record x next = sym (ap (within place read) is) ∙ e in
          whole_is_there X spell Fits read law place left x next fits long there h
    ]

pub found : (X : Type 0) (spell : X → List ℕ) (Fits : X → Type 0) (read : Reader X) → IsReader X spell Fits read →
    (limit place : ℕ) (left : List ℕ) (result : Taken X) → IsBytes left → result
    ≡ within place read (frame_at limit place left) → IfTaken result (IsThere X spell Fits place left)
found X spell Fits read law limit place left (took.Record x next) fits e =
    is_there X spell Fits read law limit place left (frame_at limit place left) x next fits (why limit place left)
    (sym e)
found X spell Fits read law limit place left took.Short fits e = tt
found X spell Fits read law limit place left (took.Bad at) fits e = tt

-- ---- what stands there is taken

-- the length in front of a body, and the body
pub length_there : (body left rest : List ℕ) → length body < 2 ^ 64 → left ≡ frame body ++ rest
    → first_number left ≡ length body
length_there body left rest short e =
    ap first_number (e ∙ append_assoc (number (length body)) body rest)
    ∙ first_number-number (length body) (body ++ rest) short

pub body_there : (body left rest : List ℕ) → length body < 2 ^ 64 → left ≡ frame body ++ rest
    → take (first_number left) (drop 8 left) ≡ body
body_there body left rest short e =
    let after : drop 8 left ≡ body ++ rest =
    ap (drop 8) (e ∙ append_assoc (number (length body)) body rest)
    ∙ drop_at (number (length body)) (body ++ rest) 8 (length-number (length body)) in
    rw (length_there body left rest short e, after) (take_at body rest (length body) refl)

-- so it is found
pub framed : (limit place : ℕ) (body left rest : List ℕ) → 0 < length body → length body ≤ limit → limit < 2 ^ 64
    → left ≡ frame body ++ rest → frame_at limit place left ≡ took.Record body (place + length (frame body))
framed limit place body left rest some low small e =
    let len : length left ≡ 8 + length body + length rest =
    ap length e ∙ omega (arith, length-append (frame body) rest, length-frame body) in
    let fits_word : length body < 2 ^ 64 = omega arith in
    let n = length_there body left rest fits_word e in
    let text = body_there body left rest fits_word e in
    let framed = length-frame body in
    elim (why limit place left) [
      | few lt is ↦ absurd (omega arith)
      | empty long none is ↦ absurd (omega arith)
      | above long much is ↦ absurd (omega arith)
      | cut long one low lt is ↦ absurd (omega arith)
      | whole long one low there is ↦
          let last : place + (8 + first_number left) ≡ place + length (frame body) = omega arith in
          is ∙ rw (text, last) refl
    ]

pub only : (X : Type 0) (spell : X → List ℕ) (Fits : X → Type 0) (read : Reader X) → IsReader X spell Fits read →
    (limit place : ℕ) (left : List ℕ) (x : X) (rest : List ℕ) → Fits x → 0 < length (spell x) → length (spell x) ≤ limit
    → limit < 2 ^ 64
    → left ≡ frame (spell x) ++ rest
    → within place read (frame_at limit place left) ≡ took.Record x (place + length (frame (spell x)))
only X spell Fits read law limit place left x rest fits some low small e =
    ap (within place read) (framed limit place (spell x) left rest some low small e)
    ∙ rw (all_again X spell Fits read law x fits) refl

-- the same where only the bytes that are there bound a body
pub only_any : (X : Type 0) (spell : X → List ℕ) (Fits : X → Type 0) (read : Reader X) → IsReader X spell Fits read →
    (place : ℕ) (left : List ℕ) (x : X) (rest : List ℕ) → Fits x → 0 < length (spell x) → length left < 2 ^ 64
    → left ≡ frame (spell x) ++ rest
    → within place read (frame_at any_length place left) ≡ took.Record x (place + length (frame (spell x)))
only_any X spell Fits read law place left x rest fits some there e =
    let len : length left ≡ 8 + length (spell x) + length rest =
    ap length e ∙ omega (arith, length-append (frame (spell x)) rest, length-frame (spell x)) in
    only X spell Fits read law any_length place left x rest fits some (omega arith) (omega arith) e

-- ---- Short and Bad

never_short : (X : Type 0) (place next : ℕ) (o : Option X) → value_or_bad place next o ≡ took.Short → ⊥
never_short X place next (Some x) e = cc
never_short X place next None e = cc

cut_is_short : (X : Type 0) (read : Reader X) (limit place : ℕ) (left : List ℕ) → IsCut limit left
    → within place read (frame_at limit place left) ≡ took.Short
cut_is_short X read limit place left (inl lt) =
    elim (why limit place left) [
      | few low is ↦ ap (within place read) is
      | empty long none is ↦ absurd (omega arith)
      | above long much is ↦ absurd (omega arith)
      | cut long one low less is ↦ ap (within place read) is
      | whole long one low there is ↦ absurd (omega arith)
    ]
cut_is_short X read limit place left (inr h) =
    elim (why limit place left) [
      | few low is ↦ ap (within place read) is
      | empty long none is ↦ absurd (omega (arith, h.0))
      | above long much is ↦ absurd (omega (arith, h.1))
      | cut long one low less is ↦ ap (within place read) is
      | whole long one low there is ↦ absurd (omega (arith, h.3))
    ]

short_is_cut : (X : Type 0) (read : Reader X) (limit place : ℕ) (left : List ℕ)
    → within place read (frame_at limit place left) ≡ took.Short → IsCut limit left
short_is_cut X read limit place left e =
    elim (why limit place left) [
      | few low is ↦ inl low
      | empty long none is ↦ absurd
          (let h : within place read (took.Bad place) ≡ took.Short = sym (ap (within place read) is) ∙ e in cc)
      | above long much is ↦ absurd
          (let h : within place read (took.Bad place) ≡ took.Short = sym (ap (within place read) is) ∙ e in cc)
      | cut long one low less is ↦ inr (one, low, long, less)
      | whole long one low there is ↦
          absurd (never_short X place (place + (8 + first_number left))
          (all_of read (take (first_number left) (drop 8 left))) (sym (ap (within place read) is) ∙ e))
    ]

pub short : (X : Type 0) (read : Reader X) (limit place : ℕ) (left : List ℕ) (result : Taken X)
    → result ≡ within place read (frame_at limit place left) → (result ≡ took.Short) ↔ IsCut limit left
short X read limit place left result e =
    (λ s. short_is_cut X read limit place left (sym e ∙ s), λ c. e ∙ cut_is_short X read limit place left c)

bad_value : (X : Type 0) (place next : ℕ) (o : Option X) (at : ℕ) → value_or_bad place next o ≡ took.Bad at → at ≡ place
bad_value X place next (Some x) at e = absurd cc
bad_value X place next None at e = cc

bad_place : (X : Type 0) (read : Reader X) (limit place : ℕ) (left : List ℕ) (at : ℕ)
    → within place read (frame_at limit place left) ≡ took.Bad at → at ≡ place
bad_place X read limit place left at e =
    elim (why limit place left) [
      | few low is ↦ absurd (let h : within place read took.Short ≡ took.Bad at = sym (ap (within place read) is) ∙ e in
          cc)
      | empty long none is ↦ (let h : within place read (took.Bad place) ≡ took.Bad at = sym (ap (within place read) is)
          ∙ e in cc)
      | above long much is ↦ (let h : within place read (took.Bad place) ≡ took.Bad at = sym (ap (within place read) is)
          ∙ e in cc)
      | cut long one low less is ↦
          absurd (let h : within place read took.Short ≡ took.Bad at = sym (ap (within place read) is) ∙ e in cc)
      | whole long one low there is ↦
          bad_value X place (place + (8 + first_number left)) (all_of read (take (first_number left) (drop 8 left))) at
          (sym (ap (within place read) is) ∙ e)
    ]

pub bad_read : (X : Type 0) (read : Reader X) (limit place : ℕ) (left : List ℕ) {at : ℕ}
    → took.Bad at ≡ frame_at limit place left → took.Bad place ≡ within place read (frame_at limit place left)
bad_read X read limit place left {at} e =
    let is : within place read (frame_at limit place left) ≡ took.Bad at = sym (ap (within place read) e) in
    sym (is ∙ ap (λ (p : ℕ). took.Bad p) (bad_place X read limit place left at is))

pub bad : (X : Type 0) (read : Reader X) (limit place : ℕ) (left : List ℕ) (result : Taken X)
    → result ≡ within place read (frame_at limit place left) → IfBad result (λ at. at ≡ place)
bad X read limit place left (took.Record x next) e = tt
bad X read limit place left took.Short e = tt
bad X read limit place left (took.Bad at) e = bad_place X read limit place left at (sym e)

-- ---- a value that was put in its place

-- nothing whole stands there where its end is so
pub no_end : (X : Type 0) (place : ℕ) (end : FrameEnd) (x : X) → taken_at place end x ≡ took.Short → end ≡ ends.Short
no_end X place (ends.At next) x e = absurd cc
no_end X place ends.Short x e = refl
no_end X place ends.Bad x e = absurd cc

pub bad_at : (X : Type 0) (place : ℕ) (end : FrameEnd) (x : X) → IfBad (taken_at place end x) (λ at. at ≡ place)
bad_at X place (ends.At next) x = tt
bad_at X place ends.Short x = tt
bad_at X place ends.Bad x = refl

-- what was no frame was not the body of one
pub not_taken : {X : Type 0} (view : X → Bytes) (taken : Taken X) (body : Bytes) (next : ℕ)
    → (taken ≡ took.Short) ⊎ ((place : ℕ) × (taken ≡ took.Bad place)) → seen view taken ≡ took.Record body next → ⊥
not_taken view taken body next none e =
    elim none [
      | inl is ↦ let h : took.Short ≡ took.Record body next = ap (seen view) (sym is) ∙ e in cc
      | inr is ↦ let h : took.Bad is.0 ≡ took.Record body next = ap (seen view) (sym is.1) ∙ e in cc
    ]

-- ---- a whole page

pub whole_found : (X : Type 0) (spell : X → List ℕ) (Fits : X → Type 0) (read : Reader X) → IsReader X spell Fits read →
    (bytes : List ℕ) (result : Taken X) → IsBytes bytes → result ≡ value_or_bad 0 (length bytes) (all_of read bytes)
    → IfTaken result (IsWhole X spell Fits bytes)
whole_found X spell Fits read law bytes (took.Record x next) fits e =
    let v = value_is X 0 (length bytes) (all_of read bytes) x next (sym e) in
    let a = all_takes X spell Fits read law bytes x fits v.0 in
    record { fits = a.1; all = a.0; next_is = sym v.1 }
whole_found X spell Fits read law bytes took.Short fits e = tt
whole_found X spell Fits read law bytes (took.Bad at) fits e = tt

pub whole_only : (X : Type 0) (spell : X → List ℕ) (Fits : X → Type 0) (read : Reader X) → IsReader X spell Fits read →
    (bytes : List ℕ) (x : X) → Fits x → bytes ≡ spell x
    → value_or_bad 0 (length bytes) (all_of read bytes) ≡ took.Record x (length bytes)
whole_only X spell Fits read law bytes x fits e =
    let all : all_of read bytes ≡ Some x = ap (all_of read) e ∙ all_again X spell Fits read law x fits in
    ap (value_or_bad 0 (length bytes)) all

pub whole_never_short : (X : Type 0) (bytes : List ℕ) (o : Option X) (result : Taken X)
    → result ≡ value_or_bad 0 (length bytes) o → result ≡ took.Short → ⊥
whole_never_short X bytes o result e s = never_short X 0 (length bytes) o (sym e ∙ s)

pub whole_bad : (X : Type 0) (bytes : List ℕ) (o : Option X) (result : Taken X)
    → result ≡ value_or_bad 0 (length bytes) o → IfBad result (λ at. at ≡ 0)
whole_bad X bytes o (took.Record x next) e = tt
whole_bad X bytes o took.Short e = tt
whole_bad X bytes o (took.Bad at) e = bad_value X 0 (length bytes) o at (sym e)

-- ---- one frame

-- no frame begins another
pub one_frame_of : (X : Type 0) (spell : X → List ℕ) (Fits : X → Type 0) (read : Reader X)
    → IsReader X spell Fits read →
    (limit : ℕ) → limit < 2 ^ 64 → (a b : X) (x y : List ℕ) → Fits a → Fits b
    → (0 < length (spell a)) × (length (spell a) ≤ limit) → (0 < length (spell b)) × (length (spell b) ≤ limit)
    → frame (spell a) ++ x ≡ frame (spell b) ++ y → (a ≡ b) × (x ≡ y)
one_frame_of X spell Fits read law limit small a b x y p q bound_a bound_b e =
    let one = only X spell Fits read law limit 0 (frame (spell a) ++ x) a x p bound_a.0 bound_a.1 small refl in
    let two = only X spell Fits read law limit 0 (frame (spell a) ++ x) b y q bound_b.0 bound_b.1 small e in
    let same : took.Record a (0 + length (frame (spell a))) ≡ took.Record b (0 + length (frame (spell b))) =
    sym one ∙ two in
    let values : a ≡ b = cc in
    let framed : frame (spell a) ≡ frame (spell b) = ap (λ (z : X). frame (spell z)) values in
    let rest : frame (spell a) ++ x ≡ frame (spell a) ++ y = e ∙ ap (λ (f : List ℕ). f ++ y) (sym framed) in (
      values,
      sym (drop_at (frame (spell a)) x (length (frame (spell a))) refl)
          ∙ ap (drop (length (frame (spell a)))) rest ∙ drop_at (frame (spell a)) y (length (frame (spell a))) refl,
    )

-- the same where a limit holds for all
pub one_frame : (X : Type 0) (spell : X → List ℕ) (Fits : X → Type 0) (read : Reader X) → IsReader X spell Fits read →
    (limit : ℕ) → ((x : X) → Fits x → (0 < length (spell x)) × (length (spell x) ≤ limit)) → limit < 2 ^ 64
    → (a b : X) (x y : List ℕ) → Fits a → Fits b → frame (spell a) ++ x ≡ frame (spell b) ++ y → (a ≡ b) × (x ≡ y)
one_frame X spell Fits read law limit bounds small a b x y p q e =
    one_frame_of X spell Fits read law limit small a b x y p q (bounds a p) (bounds b q) e

-- frames one after another spell one list
pub one_list : (X : Type 0) (spell : X → List ℕ) (Fits : X → Type 0) (read : Reader X) → IsReader X spell Fits read →
    (limit : ℕ) → limit < 2 ^ 64 → (Framed : X → Type 0) → ((x : X) → Framed x → Fits x)
    → ((x : X) → Framed x → (0 < length (spell x)) × (length (spell x) ≤ limit))
    → (xs ys : List X) → AllByRecursion Framed xs → AllByRecursion Framed ys
    → flat_map (λ x. frame (spell x)) xs ≡ flat_map (λ x. frame (spell x)) ys → xs ≡ ys
one_list X spell Fits read law limit small Framed fits bounds [] [] all_x all_y e = refl
one_list X spell Fits read law limit small Framed fits bounds [] (y ∷ ys) all_x all_y e =
    absurd (let none : 0 ≡ length (frame (spell y) ++ flat_map (λ x. frame (spell x)) ys) = ap length
    (e ∙ flat_map-cons (λ x. frame (spell x)) y ys) in
    omega (arith, none, length-append (frame (spell y)) (flat_map (λ x. frame (spell x)) ys), length-frame (spell y)))
one_list X spell Fits read law limit small Framed fits bounds (x ∷ xs) [] all_x all_y e =
    absurd (let none : 0 ≡ length (frame (spell x) ++ flat_map (λ x. frame (spell x)) xs) = ap length
    (sym e ∙ flat_map-cons (λ x. frame (spell x)) x xs) in
    omega (arith, none, length-append (frame (spell x)) (flat_map (λ x. frame (spell x)) xs), length-frame (spell x)))
one_list X spell Fits read law limit small Framed fits bounds (x ∷ xs) (y ∷ ys) all_x all_y e =
    let parts : frame (spell x) ++ flat_map (λ x. frame (spell x)) xs ≡ frame (spell y)
    ++ flat_map (λ x. frame (spell x)) ys =
    sym (flat_map-cons (λ x. frame (spell x)) x xs) ∙ e ∙ flat_map-cons (λ x. frame (spell x)) y ys in
    let one = one_frame_of X spell Fits read law limit small x y _ _ (fits x all_x.0) (fits y all_y.0)
    (bounds x all_x.0) (bounds y all_y.0) parts in
    let rest : xs ≡ ys = one_list X spell Fits read law limit small Framed fits bounds xs ys all_x.1 all_y.1 one.1 in
    λ i. one.0 i ∷ rest i
