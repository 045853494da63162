-- What `retain` leaves, where its test changes nothing.
use Rattle.std.proofs.Common.{◌≡◌, Bool, true, false, cond, List, [], ◌∷◌, ◌∙◌, refl, ap, subst, filter}
use Rattle.std.specs.Prelude.{map}
use Rattle.std.specs.List.{AllByRecursion}
use Rattle.std.specs.List.Retain.{RetainsInTurn}

pub retained : {X F : Type 0} (R : F → X → Bool → F → X → Type 0) (Fits : X → Type 0) (test : X → Bool) (f : F)
    → ((x : X) (b : Bool) (g : F) (y : X) → Fits x → R f x b g y → (b ≡ test x) × (g ≡ f) × (y ≡ x))
    → (xs ys : List X) → AllByRecursion Fits xs → RetainsInTurn R f xs ys → ys ≡ filter test xs
retained R Fits test f says [] ys all h = h
retained R Fits test f says (x ∷ xs) ys all h =
    let said = says x h.0 h.1 h.2 all.0 h.3 in
    let later = subst (λ g. RetainsInTurn R g xs h.4) said.1 h.5 in
    let rest = retained R Fits test f says xs h.4 all.1 later in
    h.6 ∙ (λ i. cond (said.0 i) (said.2 i ∷ rest i) (rest i))

all_or : {X : Type 0} (P : X → Type 0) (b : Bool) (x : X) (xs : List X) → P x → AllByRecursion P xs
    → AllByRecursion P (cond b (x ∷ xs) xs)
all_or P true x xs first rest = (first, rest)
all_or P false x xs first rest = rest

pub all_filtered : {X : Type 0} (P : X → Type 0) (test : X → Bool) (xs : List X) → AllByRecursion P xs
    → AllByRecursion P (filter test xs)
all_filtered P test [] all = tt
all_filtered P test (x ∷ xs) all = all_or P (test x) x (filter test xs) all.0 (all_filtered P test xs all.1)

mapped_or : {X Y : Type 0} (f : X → Y) (b : Bool) (x : X) (xs : List X)
    → map f (cond b (x ∷ xs) xs) ≡ cond b (f x ∷ map f xs) (map f xs)
mapped_or f true x xs = refl
mapped_or f false x xs = refl

pub map-filtered : {X Y : Type 0} (f : X → Y) (test : Y → Bool) (xs : List X)
    → map f (filter (λ x. test (f x)) xs) ≡ filter test (map f xs)
map-filtered f test [] = refl
map-filtered {Y = Y} f test (x ∷ xs) = mapped_or f (test (f x)) x (filter (λ x. test (f x)) xs)
    ∙ ap (λ (ys : List Y). cond (test (f x)) (f x ∷ ys) ys) (map-filtered f test xs)
