-- One text after another to a writer.
use Rattle.std.proofs.Common.{◌≡◌, ℕ, List, [], ◌∷◌, ◌++◌, Option, Some, None, Result, Ok, Err, ap, sym, ◌∙◌, append_assoc, append-nil, take, drop, length, get_or, ◌<◌, ◌≤◌, flat_map, subst, ◌+◌, refl, add-one, drop-cons}
use Rattle.std.proofs.lemmas.List.{take-append-drop, take_more, take_all}
use Rattle.std.specs.Prelude.{IsErr}
use Rattle.std.proofs.lemmas.List.Concat.{flat_map-append}
use Rattle.std.proofs.lemmas.Bool.{false≢true}
use Rattle.std.specs.Io.KnownBytes.{Appends}
use Rattle.shell_scripts.specs.Printed.{IsCut, Prints}

pub appends_then : (a b c : Option (List ℕ)) (s t : List ℕ) → Appends a b s → Appends b c t → Appends a c (s ++ t)
appends_then None b c s t h k = tt
appends_then (Some x) None c s t h k = absurd h
appends_then (Some x) (Some y) None s t h k = absurd k
appends_then (Some x) (Some y) (Some z) s t h k = k ∙ ap (λ v. v ++ t) h ∙ append_assoc x s t

-- a text that is cut is a beginning of each longer one
pub cut_longer : (a b : Option (List ℕ)) (s t : List ℕ) → IsCut a b s → IsCut a b (s ++ t)
cut_longer a b s t h = record {
  written = h.written;
  left = h.left ++ t;
  beginning = ap (λ v. v ++ t) h.beginning ∙ append_assoc h.written h.left t;
  appended = h.appended;
}

-- a text that is cut after one that was written
pub cut_later : (a b c : Option (List ℕ)) (s t : List ℕ) → Appends a b s → IsCut b c t → IsCut a c (s ++ t)
cut_later a b c s t h k = record {
  written = s ++ k.written;
  left = k.left;
  beginning = ap (λ v. s ++ v) k.beginning ∙ sym (append_assoc s k.written k.left);
  appended = appends_then a b c s k.written h k.appended;
}

-- some more of what is left was written
pub still_all : (bytes written left : List ℕ) (n : ℕ) → bytes ≡ written ++ left
    → bytes ≡ (written ++ take n left) ++ drop n left
still_all bytes written left n h =
    h ∙ ap (λ v. written ++ v) (sym (take-append-drop n left)) ∙ sym (append_assoc written (take n left) (drop n left))

-- what a call that failed printed
pub prints_err : {A E : Type 0} (a b : Option (List ℕ)) (t : List ℕ) (r : Result A E) → IsErr r → IsCut a b t
    → Prints a b r t
prints_err a b t (Ok x) h k = absurd (false≢true h)
prints_err a b t (Err e) h k = k

-- the exit of a `?` in the first part of a text, and in the second, and a text of two parts
pub stops_first : {A E : Type 0} (a b : Option (List ℕ)) (s t text : List ℕ) (r : Result A E) → IsErr r → IsCut a b s
    → text ≡ s ++ t → Prints a b r text
stops_first a b s t text r err cut e = let P : List ℕ → Type 0 = λ v. IsCut a b v in
    prints_err a b text r err (subst P (sym e) (cut_longer a b s t cut))

prints_parts : {A E : Type 0} (a b c : Option (List ℕ)) (s t : List ℕ) (r : Result A E) → Appends a b s → Prints b c r t
    → Prints a c r (s ++ t)
prints_parts a b c s t (Ok x) h k = appends_then a b c s t h k
prints_parts a b c s t (Err e) h k = cut_later a b c s t h k

pub prints_both : {A E : Type 0} (a b c : Option (List ℕ)) (s t text : List ℕ) (r : Result A E) → Appends a b s
    → Prints b c r t → text ≡ s ++ t → Prints a c r text
prints_both a b c s t text r first second e = let P : List ℕ → Type 0 = λ v. Prints a c r v in
    subst P (sym e) (prints_parts a b c s t r first second)

list_at : {X : Type 0} (f : X → List ℕ) (xs : List X) (i : ℕ) (d : X) → i < length xs
    → flat_map f xs ≡ (flat_map f (take i xs) ++ f (get_or xs i d)) ++ flat_map f (drop (i + 1) xs)
list_at f xs i d lt =
    let here : drop i xs ≡ get_or xs i d ∷ drop (i + 1) xs = rw (add-one, drop-cons xs i d) refl in
    ap (flat_map f) (sym (take-append-drop i xs)) ∙ flat_map-append f (take i xs) (drop i xs)
    ∙ ap (λ v. flat_map f (take i xs) ++ flat_map f v) here
    ∙ sym (append_assoc (flat_map f (take i xs)) (f (get_or xs i d)) (flat_map f (drop (i + 1) xs)))

-- the text of a list up to an element, and a beginning of that element's
pub cut_in_list : {X : Type 0} (f : X → List ℕ) (a b c : Option (List ℕ)) (xs : List X) (i : ℕ) (d : X) → i < length xs
    → Appends a b (flat_map f (take i xs)) → IsCut b c (f (get_or xs i d)) → IsCut a c (flat_map f xs)
cut_in_list f a b c xs i d lt before cut =
    let P : List ℕ → Type 0 = λ v. IsCut a c v in
    let first = cut_later a b c (flat_map f (take i xs)) (f (get_or xs i d)) before cut in
    subst P (sym (list_at f xs i d lt))
    (cut_longer a c (flat_map f (take i xs) ++ f (get_or xs i d)) (flat_map f (drop (i + 1) xs)) first)

-- the text of a list up to an element, and that element's
pub item_more : {X : Type 0} (f : X → List ℕ) (a b c : Option (List ℕ)) (xs : List X) (i : ℕ) (x d : X) → i < length xs
    → x ≡ get_or xs i d → Appends a b (flat_map f (take i xs)) → Appends b c (f x)
    → Appends a c (flat_map f (take (i + 1) xs))
item_more {X} f a b c xs i x d lt at before item =
    let P : List ℕ → Type 0 = λ v. Appends a c v in
    let whole : flat_map f (take (i + 1) xs) ≡ flat_map f (take i xs) ++ f x =
    ap (flat_map f) (take_more xs i d lt) ∙ flat_map-append f (take i xs) (get_or xs i d ∷ [])
    ∙ ap (λ v. flat_map f (take i xs) ++ v) (append-nil (f (get_or xs i d)) ∙ ap f (sym at)) in
    subst P (sym whole) (appends_then a b c (flat_map f (take i xs)) (f x) before item)

-- the text of all elements
pub items_all : {X : Type 0} (f : X → List ℕ) (a b : Option (List ℕ)) (xs : List X) (i : ℕ) → length xs ≤ i
    → Appends a b (flat_map f (take i xs)) → Appends a b (flat_map f xs)
items_all {X} f a b xs i most before = let P : List X → Type 0 = λ v. Appends a b (flat_map f v) in
    subst P (take_all i xs most) before

pub cut_at_item : {X : Type 0} (f : X → List ℕ) (a b c : Option (List ℕ)) (xs : List X) (i : ℕ) (x d : X)
    → i < length xs → x ≡ get_or xs i d → Appends a b (flat_map f (take i xs)) → IsCut b c (f x)
    → IsCut a c (flat_map f xs)
cut_at_item {X} f a b c xs i x d lt at before cut =
    let P : X → Type 0 = λ v. IsCut b c (f v) in
    cut_in_list f a b c xs i d lt before (subst P at cut)

-- the text of the first elements of a list, and those that are left
pub record PrintsSoFar (X : Type 0) (f : X → List ℕ) (first now : Option (List ℕ)) (all left : List X) : Type 0 where
  pub done : List X
  pub parts : all ≡ done ++ left
  pub printed : Appends first now (flat_map f done)

-- the next element's text too
pub one_more : {X : Type 0} (f : X → List ℕ) (a b c : Option (List ℕ)) (all left : List X) (x : X) (rest : List X)
    → PrintsSoFar X f a b all left → left ≡ x ∷ rest → Appends b c (f x) → PrintsSoFar X f a c all rest
one_more f a b c all left x rest h next item =
    let longer : flat_map f h.done ++ f x ≡ flat_map f (h.done ++ x ∷ []) =
    ap (λ v. flat_map f h.done ++ v) (sym (append-nil (f x))) ∙ sym (flat_map-append f h.done (x ∷ [])) in
    record {
      done = h.done ++ x ∷ [];
      parts = h.parts ∙ ap (λ v. h.done ++ v) next ∙ sym (append_assoc h.done (x ∷ []) rest);
      printed = subst (λ (v : List ℕ). Appends a c v) longer (appends_then a b c (flat_map f h.done) (f x) h.printed item);
    }

-- a beginning of the next element's text
pub cut_at_next : {X : Type 0} (f : X → List ℕ) (a b c : Option (List ℕ)) (all left : List X) (x : X) (rest : List X)
    → PrintsSoFar X f a b all left → left ≡ x ∷ rest → IsCut b c (f x) → IsCut a c (flat_map f all)
cut_at_next f a b c all left x rest h next cut =
    let whole : (flat_map f h.done ++ f x) ++ flat_map f rest ≡ flat_map f all =
    append_assoc (flat_map f h.done) (f x) (flat_map f rest) ∙ sym (flat_map-append f h.done (x ∷ rest))
    ∙ ap (flat_map f) (sym (h.parts ∙ ap (λ v. h.done ++ v) next)) in
    subst (λ (v : List ℕ). IsCut a c v) whole
    (cut_longer a c (flat_map f h.done ++ f x) (flat_map f rest)
    (cut_later a b c (flat_map f h.done) (f x) h.printed cut))
