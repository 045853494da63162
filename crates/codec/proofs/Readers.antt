-- When a reader reads just what is spelled, and how that goes from the parts of a spelling to the whole.
use Rattle.std.proofs.Common.{◌≡◌, ℕ, suc, ◌<◌, ◌+◌, Bool, true, false, cond, eqb, List, [], ◌∷◌, ◌++◌, get_or, take, drop, Option, Some, None, refl, sym, ap, subst, ◌∙◌, append_assoc, arith, inl, inr, ◌⊎◌}
use Rattle.std.specs.List.{AllByRecursion}
use Rattle.std.proofs.lemmas.Bool.{cases_lt, eqb-true}
use Rattle.std.proofs.lemmas.List.{length-take, get_or-drop, get_or-take, get_or_past}
use Rattle.std.proofs.lemmas.Option.{same_Some, cond_some}
use Rattle.codec.specs.Reading.{◌>>=◌, Reader, fixed, pair, mapped, where_, choose, one_of}

-- each item is a byte
abbrev pub IsBytes : List ℕ → Type 0
IsBytes bytes = (i : ℕ) → get_or bytes i 0 < 256

pub IsBytes-drop : (n : ℕ) (bytes : List ℕ) → IsBytes bytes → IsBytes (drop n bytes)
IsBytes-drop n bytes h i = rw get_or-drop (h (n + i))

pub IsBytes-take : (n : ℕ) (bytes : List ℕ) → IsBytes bytes → IsBytes (take n bytes)
IsBytes-take n bytes h i =
    elim (cases_lt i n) [
      | inl lt ↦ rw (get_or-take n bytes i 0 lt) (h i)
      | inr le ↦ rw (get_or_past (take n bytes) i 0 (omega (arith, length-take n bytes))) (omega arith)
    ]

IsBytes-rest : (b : ℕ) (bytes : List ℕ) → IsBytes (b ∷ bytes) → IsBytes bytes
IsBytes-rest b bytes h i = h (suc i)

-- the bytes are a spelling and what is left
pub record Takes (bytes spelling rest : List ℕ) : Type 0 where
  pub parts : bytes ≡ spelling ++ rest
  pub rest_fits : IsBytes rest

pub Takes-then : (a x b y c : List ℕ) → Takes a x b → Takes b y c → Takes a (x ++ y) c
Takes-then a x b y c p q =
    record { parts = p.parts ∙ ap (λ (t : List ℕ). x ++ t) q.parts ∙ sym (append_assoc x y c); rest_fits = q.rest_fits }

-- What is read is spelled so and has a spelling; what has a spelling is read, whatever follows it.
pub record IsReader (X : Type 0) (spell : X → List ℕ) (Fits : X → Type 0) (read : Reader X) : Type 0 where
  pub takes : (bytes : List ℕ) (x : X × List ℕ) → IsBytes bytes → read bytes ≡ Some x
      → Takes bytes (spell x.0) x.1 × Fits x.0
  pub again : (x : X) (rest : List ℕ) → Fits x → read (spell x ++ rest) ≡ Some (x, rest)

-- so no spelling begins another
pub one_spelling : (X : Type 0) (spell : X → List ℕ) (Fits : X → Type 0) (read : Reader X)
    → IsReader X spell Fits read →
    (a b : X) (x y : List ℕ) → Fits a → Fits b → spell a ++ x ≡ spell b ++ y → (a ≡ b) × (x ≡ y)
one_spelling X spell Fits read law a b x y p q e =
    let same : Some (a, x) ≡ Some (b, y) = sym (law.again a x p) ∙ ap read e ∙ law.again b y q in
    let pairs = same_Some (a, x) (b, y) same in
    (ap (λ (p : X × List ℕ). p.0) pairs, ap (λ (p : X × List ℕ). p.1) pairs)

-- the value of a step that gave one
pub bind_some : {A B : Type 0} (r : Option A) (f : A → Option B) (y : B) → (r >>= f) ≡ Some y
    → (x : A) × (r ≡ Some x) × (f x ≡ Some y)
bind_some (Some x) f y e = (x, refl, e)
bind_some None f y e = absurd cc

-- a test that was passed
pub guard_none : {A : Type 0} (b : Bool) (o : Option A) (y : A) → cond b None o ≡ Some y → (b ≡ false) × (o ≡ Some y)
guard_none true o y e = absurd cc
guard_none false o y e = (refl, e)

pub pair_reads : (X Y : Type 0) (s : X → List ℕ) (F : X → Type 0) (r : Reader X) (t : Y → List ℕ) (G : Y → Type 0)
    (q : Reader Y) →
    IsReader X s F r → IsReader Y t G q → IsReader (X × Y) (λ p. s p.0 ++ t p.1) (λ p. F p.0 × G p.1) (pair r q)
pair_reads X Y s F r t G q first second = record {
  takes = λ bytes x fits e.
      let a = bind_some (r bytes) (λ x. q x.1 >>= λ y. Some ((x.0, y.0), y.1)) x e in
      let b = bind_some (q a.0.1) (λ y. Some ((a.0.0, y.0), y.1)) x a.2 in
      let t0 = first.takes bytes a.0 fits a.1 in
      let t1 = second.takes a.0.1 b.0 t0.0.rest_fits b.1 in
      let made : (X × Y) × List ℕ = ((a.0.0, b.0.0), b.0.1) in
      subst (λ (z : (X × Y) × List ℕ). Takes bytes (s z.0.0 ++ t z.0.1) z.1 × (F z.0.0 × G z.0.1))
      (same_Some made x b.2)
      (Takes-then bytes (s a.0.0) a.0.1 (t b.0.0) b.0.1 t0.0 t1.0, (t0.1, t1.1));
  again = λ x rest fits. ap (pair r q) (append_assoc (s x.0) (t x.1) rest)
      ∙ rw (first.again x.0 (t x.1 ++ rest) fits.0, second.again x.1 rest fits.1) refl;
}

pub mapped_again : (X Y : Type 0) (s : X → List ℕ) (F : X → Type 0) (r : Reader X) → IsReader X s F r →
    (make : X → Y) (x : X) (rest : List ℕ) → F x → mapped make r (s x ++ rest) ≡ Some (make x, rest)
mapped_again X Y s F r law make x rest fits = rw (law.again x rest fits) refl

pub mapped_reads : (X Y : Type 0) (s : X → List ℕ) (F : X → Type 0) (r : Reader X) (spell : Y → List ℕ)
    (Fits : Y → Type 0)
    → IsReader X s F r →
    (make : X → Y) (parts : Y → X) → ((x : X) → spell (make x) ≡ s x) → ((x : X) → F x → Fits (make x))
    → ((y : Y) → make (parts y) ≡ y) → ((y : Y) → Fits y → F (parts y))
    → IsReader Y spell Fits (mapped make r)
mapped_reads X Y s F r spell Fits law make parts is_spelled has made had = record {
  takes = λ bytes y fits e.
      let a = bind_some (r bytes) (λ x. Some (make x.0, x.1)) y e in
      let t = law.takes bytes a.0 fits a.1 in
      let one : Y × List ℕ = (make a.0.0, a.0.1) in
      subst (λ (z : Y × List ℕ). Takes bytes (spell z.0) z.1 × Fits z.0) (same_Some one y a.2)
      (subst (λ (w : List ℕ). Takes bytes w a.0.1) (sym (is_spelled a.0.0)) t.0, has a.0.0 t.1);
  again = λ y rest fits.
      let spelling : spell y ≡ s (parts y) = ap spell (sym (made y)) ∙ is_spelled (parts y) in
      let whole : Y × List ℕ → Option (Y × List ℕ) = λ z. Some z in
      ap (λ (w : List ℕ). mapped make r (w ++ rest)) spelling
      ∙ mapped_again X Y s F r law make (parts y) rest (had y fits) ∙ ap (λ (z : Y). whole (z, rest)) (made y);
}

-- the same in other words for what has a spelling
pub fits_as : {X : Type 0} {s : X → List ℕ} {F : X → Type 0} {r : Reader X} → IsReader X s F r → (G : X → Type 0)
    → ((x : X) → F x → G x) → ((x : X) → G x → F x) → IsReader X s G r
fits_as law G to from = record {
  takes = λ bytes x fits e. let t = law.takes bytes x fits e in (t.0, to x.0 t.1);
  again = λ x rest fits. law.again x rest (from x fits);
}

-- what is read by a test is spelled as before, and passes
pub where_reads : (X : Type 0) (spell : X → List ℕ) (Fits : X → Type 0) (read : Reader X) → IsReader X spell Fits read →
    (test : X → Bool) → IsReader X spell (λ x. Fits x × (test x ≡ true)) (where_ test read)
where_reads X spell Fits read law test = record {
  takes = λ bytes x fits e.
      let a = bind_some (read bytes) (λ y. cond (test y.0) (Some y) None) x e in
      let g = cond_some (test a.0.0) a.0 x a.2 in
      let t = law.takes bytes a.0 fits a.1 in
      subst (λ (z : X × List ℕ). Takes bytes (spell z.0) z.1 × (Fits z.0 × (test z.0 ≡ true))) g.1 (t.0, (t.1, g.0));
  again = λ x rest fits. let passes : test x ≡ true = fits.1 in rw (law.again x rest fits.0, passes) refl;
}

-- behind its kind, what a choice reads is spelled so
pub record IsChoice (Y : Type 0) (spell : Y → List ℕ) (Fits : Y → Type 0) (choice : ℕ × Reader Y) : Type 0 where
  pub takes : (bytes : List ℕ) (y : Y × List ℕ) → IsBytes bytes → choice.1 bytes ≡ Some y
      → Takes (choice.0 ∷ bytes) (spell y.0) y.1 × Fits y.0

pub fixed_choice : (Y : Type 0) (spell : Y → List ℕ) (Fits : Y → Type 0) (kind : ℕ) (y : Y) → spell y ≡ kind ∷ []
    → Fits y → IsChoice Y spell Fits (kind, fixed y)
fixed_choice Y spell Fits kind y is_spelled has = record {
  takes = λ bytes x fits e.
      let made : Y × List ℕ = (y, bytes) in
      subst (λ (z : Y × List ℕ). Takes (kind ∷ bytes) (spell z.0) z.1 × Fits z.0) (same_Some made x e)
      (record { parts = rw is_spelled refl; rest_fits = fits }, has);
}

pub mapped_choice : (X Y : Type 0) (s : X → List ℕ) (F : X → Type 0) (r : Reader X) (spell : Y → List ℕ)
    (Fits : Y → Type 0)
    → IsReader X s F r →
    (kind : ℕ) (make : X → Y) → ((x : X) → spell (make x) ≡ kind ∷ s x) → ((x : X) → F x → Fits (make x))
    → IsChoice Y spell Fits (kind, mapped make r)
mapped_choice X Y s F r spell Fits law kind make is_spelled has = record {
  takes = λ bytes y fits e.
      let a = bind_some (r bytes) (λ x. Some (make x.0, x.1)) y e in
      let t = law.takes bytes a.0 fits a.1 in
      let made : Y × List ℕ = (make a.0.0, a.0.1) in
      subst (λ (z : Y × List ℕ). Takes (kind ∷ bytes) (spell z.0) z.1 × Fits z.0) (same_Some made y a.2) (
        record { parts = rw (is_spelled a.0.0) (ap (λ (w : List ℕ). kind ∷ w) t.0.parts); rest_fits = t.0.rest_fits },
        has a.0.0 t.1,
      );
}

-- The same with what the parts show left out.
pub both : {X Y : Type 0} {s : X → List ℕ} {F : X → Type 0} {r : Reader X} {t : Y → List ℕ} {G : Y
    → Type 0} {q : Reader Y} →
    IsReader X s F r → IsReader Y t G q → IsReader (X × Y) (λ p. s p.0 ++ t p.1) (λ p. F p.0 × G p.1) (pair r q)
both first second = pair_reads _ _ _ _ _ _ _ _ first second

pub made_again : {X Y : Type 0} {s : X → List ℕ} {F : X → Type 0} {r : Reader X} → IsReader X s F r →
    (make : X → Y) (x : X) (rest : List ℕ) → F x → mapped make r (s x ++ rest) ≡ Some (make x, rest)
made_again law make x rest fits = mapped_again _ _ _ _ _ law make x rest fits

pub choice : {X : Type 0} {s : X → List ℕ} {F : X → Type 0} {r : Reader X} → IsReader X s F r →
    (Y : Type 0) (spell : Y → List ℕ) (Fits : Y → Type 0) (kind : ℕ) (make : X → Y)
    → ((x : X) → spell (make x) ≡ kind ∷ s x) → ((x : X) → F x → Fits (make x))
    → IsChoice Y spell Fits (kind, mapped make r)
choice law Y spell Fits kind make is_spelled has = mapped_choice _ Y _ _ _ spell Fits law kind make is_spelled has

choose_cases : {A : Type 0} (b : Bool) (x y z : Option A) → cond b x y ≡ z
    → ((b ≡ true) × (x ≡ z)) ⊎ ((b ≡ false) × (y ≡ z))
choose_cases true x y z e = inl (refl, e)
choose_cases false x y z e = inr (refl, e)

choose_takes : (Y : Type 0) (spell : Y → List ℕ) (Fits : Y → Type 0) (choices : List (ℕ × Reader Y))
    → AllByRecursion (IsChoice Y spell Fits) choices →
    (kind : ℕ) (bytes : List ℕ) (y : Y × List ℕ) → IsBytes bytes → choose choices kind bytes ≡ Some y
    → Takes (kind ∷ bytes) (spell y.0) y.1 × Fits y.0
choose_takes Y spell Fits [] laws kind bytes y fits e = absurd cc
choose_takes Y spell Fits (c ∷ cs) laws kind bytes y fits e =
    elim (choose_cases (eqb kind c.0) (c.1 bytes) (choose cs kind bytes) (Some y) e) [
      | inl h ↦
          subst (λ (k : ℕ). Takes (k ∷ bytes) (spell y.0) y.1 × Fits y.0) (sym (eqb-true kind c.0 h.0))
          (laws.0.takes bytes y fits h.1)
      | inr h ↦ choose_takes Y spell Fits cs laws.1 kind bytes y fits h.1
    ]

pub one_of_takes : (Y : Type 0) (spell : Y → List ℕ) (Fits : Y → Type 0) (choices : List (ℕ × Reader Y))
    → AllByRecursion (IsChoice Y spell Fits) choices →
    (bytes : List ℕ) (y : Y × List ℕ) → IsBytes bytes → one_of choices bytes ≡ Some y
    → Takes bytes (spell y.0) y.1 × Fits y.0
one_of_takes Y spell Fits choices laws [] y fits e = absurd cc
one_of_takes Y spell Fits choices laws (kind ∷ bytes) y fits e =
    choose_takes Y spell Fits choices laws kind bytes y (IsBytes-rest kind bytes fits) e
