-- The pages and the rooms that a map's entries spell.
use Rattle.std.proofs.Common.{◌≡◌, ◌≤◌, ◌<◌, ℕ, Bool, true, false, cond, nat_le, List, [], ◌∷◌, map, Option, Some, None, refl, sym, ap, ◌∙◌, subst, arith}
use Rattle.std.specs.Option.{option_map, is_some}
use Rattle.std.specs.Ordering.{nat_cmp, is_eq, eq_by_cmp}
use Rattle.std.specs.Cmp.{nat_cmp_total, eq_by_cmp_equiv}
use Rattle.std.specs.Map.{lookup, keys_of}
use Rattle.std.specs.BTreeMap.{is_at}
use Rattle.std.specs.List.{AllByRecursion}
use Rattle.std.specs.List.Sorted.{IsStrictlySortedBy, IsStrictlyIncreasing}
use Rattle.std.specs.Vec.{vec_capacity}
use Rattle.std.specs.declared.cmp.Ordering.{Ordering}
use Rattle.std.specs.declared.cmp.Ordering.TheVariants.{Less, Equal, Greater}
use Rattle.std.specs.FinMap.{find, put, get, insert, keys, entries, get-from_entries, get-empty, get-insert, get-remove, remove, entries-insert, same_map, nat_cmp-IsAntisymmetric, len-entries, len-empty}
use Rattle.std.proofs.lemmas.Bool.{false≢true}
use Rattle.std.proofs.lemmas.Bool.Decides.{nat_tests}
use Rattle.std.proofs.lemmas.List.{nil_from_length}
use Rattle.std.proofs.lemmas.Map.Keys.{sorted_head, sorted_tail, IsStrictlyIncreasing-from_sorted}
use Rattle.stable.specs.PagesState.{Pages, pages_of, rooms_of, fits, has_room}
use Rattle.stable.specs.declared.mem_pages.Page.{Page}

abbrev pub Entries : Type 0
Entries = List (ℕ × Page)

-- what is written at a place, if there is one
abbrev pub image_at : Page → Option (List ℕ)
image_at p = cond p.is_written (Some p.image.items) None

abbrev pub image : Option Page → Option (List ℕ)
image None = None
image (Some p) = image_at p

abbrev room : Option Page → Option ℕ
room o = option_map (λ p. vec_capacity p.image) o

image-cond : (b : Bool) (p : Page) (o : Option Page)
    → image (cond b (Some p) o) ≡ cond b (image_at p) (image o)
image-cond true p o = refl
image-cond false p o = refl

pub is_equal : (o : Ordering) → is_eq o ≡ true → o ≡ Equal
is_equal Less h = absurd (false≢true h)
is_equal Equal h = refl
is_equal Greater h = absurd (false≢true h)

get-first : (b : Bool) (pages : Pages) (k : ℕ) (i : List ℕ) (q : ℕ)
    → get (cond b (insert pages k i) (remove pages k)) q
    ≡ cond (is_eq (nat_cmp q k)) (cond b (Some i) None) (get pages q)
get-first true pages k i q = get-insert nat_cmp_total pages k i q
get-first false pages k i q = get-remove nat_cmp_total pages k q

-- the page at a number
pub get-pages_of : (es : Entries) (q : ℕ) → get (pages_of es) q ≡ image (lookup (is_at (nat_cmp q)) es)
get-pages_of [] q = get-empty nat_cmp q
get-pages_of (e ∷ es) q =
    get-first e.1.is_written (pages_of es) e.0 e.1.image.items q
    ∙ ap (cond (is_eq (nat_cmp q e.0)) (image_at e.1)) (get-pages_of es q)
    ∙ sym (image-cond (is_eq (nat_cmp q e.0)) e.1 (lookup (is_at (nat_cmp q)) es))

find-rooms : (es : Entries) (q : ℕ)
    → find nat_cmp q (map (λ (e : ℕ × Page). (e.0, vec_capacity e.1.image)) es)
    ≡ room (lookup (is_at (nat_cmp q)) es)
find-rooms [] q = refl
find-rooms (e ∷ es) q =
    elim (is_eq (nat_cmp q e.0))
    as (λ b. cond b (Some (vec_capacity e.1.image))
    (find nat_cmp q (map (λ (e : ℕ × Page). (e.0, vec_capacity e.1.image)) es))
    ≡ room (cond b (Some e.1) (lookup (is_at (nat_cmp q)) es))) [
      | true ↦ refl
      | false ↦ find-rooms es q
    ]

pub get-rooms_of : (es : Entries) (q : ℕ) → get (rooms_of es) q ≡ room (lookup (is_at (nat_cmp q)) es)
get-rooms_of es q =
    get-from_entries nat_cmp_total (map (λ (e : ℕ × Page). (e.0, vec_capacity e.1.image)) es) q ∙ find-rooms es q

-- the entries that have p at k, and elsewhere what was there
abbrev pub PutsAt : ℕ → Page → Entries → Entries → Type 0
PutsAt k p old new = (q : ℕ)
    → lookup (is_at (nat_cmp q)) new ≡ cond (is_at (nat_cmp k) q) (Some p) (lookup (is_at (nat_cmp q)) old)

same_cond : (a b : Bool) → a ≡ b → (i : List ℕ) (p : Page) (o : Option Page) → image_at p ≡ Some i
    → cond a (image_at p) (image o) ≡ cond b (Some i) (image o)
same_cond a b e i p o is = ap (λ c. cond c (image_at p) (image o)) e ∙ ap (λ x. cond b x (image o)) is

-- a page that is written
pub pages_of-put : (old new : Entries) (k : ℕ) (p : Page) (i : List ℕ) → PutsAt k p old new → image_at p ≡ Some i
    → pages_of new ≡ insert (pages_of old) k i
pages_of-put old new k p i puts is =
    same_map nat_cmp_total nat_cmp-IsAntisymmetric (pages_of new) (insert (pages_of old) k i) (λ q.
    get-pages_of new q ∙ ap image (puts q)
    ∙ image-cond (is_at (nat_cmp k) q) p (lookup (is_at (nat_cmp q)) old)
    ∙ same_cond (is_at (nat_cmp k) q) (eq_by_cmp nat_cmp q k) ((eq_by_cmp_equiv nat_cmp_total).symm k q) i p
    (lookup (is_at (nat_cmp q)) old) is
    ∙ sym (get-insert nat_cmp_total (pages_of old) k i q
    ∙ ap (cond (eq_by_cmp nat_cmp q k) (Some i)) (get-pages_of old q)))

-- rooms don't shrink
wider : (n a b : ℕ) → a ≤ b → nat_le n a ≡ true → nat_le n b ≡ true
wider n a b le h = grind (arith, nat_tests)

wider_at : (tie : Bool) (p : Page) (o : Option Page) (n : ℕ)
    → (tie ≡ true → (was : Page) → o ≡ Some was → vec_capacity was.image ≤ vec_capacity p.image)
    → fits (room o) n ≡ true → fits (room (cond tie (Some p) o)) n ≡ true
wider_at true p None n more h = absurd (false≢true h)
wider_at true p (Some was) n more h = wider n (vec_capacity was.image) (vec_capacity p.image) (more refl was refl) h
wider_at false p o n more h = h

pub rooms_kept : (old new : Entries) (k : ℕ) (p : Page) → PutsAt k p old new
    → ((was : Page) → lookup (is_at (nat_cmp k)) old ≡ Some was → vec_capacity was.image ≤ vec_capacity p.image)
    → (other n : ℕ) → has_room (rooms_of old) other n ≡ true → has_room (rooms_of new) other n ≡ true
rooms_kept old new k p puts more other n h =
    ap (λ r. fits r n) (get-rooms_of new other ∙ ap room (puts other))
    ∙ wider_at (is_at (nat_cmp k) other) p (lookup (is_at (nat_cmp other)) old) n
    (λ tie was found. more was (ap (λ q. lookup (is_at (nat_cmp q)) old) (nat_cmp-IsAntisymmetric k other
    (is_equal (nat_cmp k other) tie)) ∙ found))
    (sym (ap (λ r. fits r n) (get-rooms_of old other)) ∙ h)

-- the room at the place that was put
pub room_put : (new : Entries) (k : ℕ) (p : Page) (n : ℕ) → lookup (is_at (nat_cmp k)) new ≡ Some p
    → n ≤ vec_capacity p.image → has_room (rooms_of new) k n ≡ true
room_put new k p n is le =
    ap (λ r. fits r n) (get-rooms_of new k ∙ ap room is) ∙ fit n (vec_capacity p.image) le where
      fit : (n a : ℕ) → n ≤ a → nat_le n a ≡ true
      fit n a le = grind (arith, nat_tests)

pub no_room : (es : Entries) (k : ℕ) (p : Page) (n : ℕ) → lookup (is_at (nat_cmp k)) es ≡ Some p
    → vec_capacity p.image < n → has_room (rooms_of es) k n ≡ false
no_room es k p n is lt =
    ap (λ r. fits r n) (get-rooms_of es k ∙ ap room is) ∙ short n (vec_capacity p.image) lt where
      short : (n a : ℕ) → a < n → nat_le n a ≡ false
      short n a lt = grind (arith, nat_tests)

pub no_place : (es : Entries) (k n : ℕ) → lookup (is_at (nat_cmp k)) es ≡ None
    → has_room (rooms_of es) k n ≡ false
no_place es k n is = ap (λ r. fits r n) (get-rooms_of es k ∙ ap room is)

-- a place that only gets room
pub pages_of-keep : (old new : Entries) → ((q : ℕ) → image (lookup (is_at (nat_cmp q)) new) ≡ image (lookup (is_at (nat_cmp q)) old))
    → pages_of new ≡ pages_of old
pages_of-keep old new same =
    same_map nat_cmp_total nat_cmp-IsAntisymmetric (pages_of new) (pages_of old) (λ q.
    get-pages_of new q ∙ same q ∙ sym (get-pages_of old q))

same_image : (tie : Bool) (p : Page) (o : Option Page) → (tie ≡ true → image_at p ≡ image o)
    → image (cond tie (Some p) o) ≡ image o
same_image true p o is = is refl
same_image false p o is = refl

pub pages_kept : (old new : Entries) (k : ℕ) (p : Page) → PutsAt k p old new
    → image_at p ≡ image (lookup (is_at (nat_cmp k)) old) → pages_of new ≡ pages_of old
pages_kept old new k p puts is =
    pages_of-keep old new (λ q.
    ap image (puts q) ∙ same_image (is_at (nat_cmp k) q) p (lookup (is_at (nat_cmp q)) old) (λ tie.
    is ∙ ap (λ q. image (lookup (is_at (nat_cmp q)) old))
    (nat_cmp-IsAntisymmetric k q (is_equal (nat_cmp k q) tie))))

-- ---- the numbers of the pages

-- those of the pages that are written
abbrev pub numbers : Entries → List ℕ
numbers [] = []
numbers (e ∷ es) = cond e.1.is_written (e.0 ∷ numbers es) (numbers es)

-- the key is below all of these
abbrev IsBelow : ℕ → List ℕ → Type 0
IsBelow k ks = AllByRecursion (λ y. nat_cmp k y ≡ Less) ks

below_written : (k : ℕ) (es : Entries) → IsBelow k (keys_of es) → IsBelow k (numbers es)
below_written k [] all = tt
below_written k (e ∷ es) all =
    elim e.1.is_written as (λ w. IsBelow k (cond w (e.0 ∷ numbers es) (numbers es))) [
      | true ↦ (all.0, below_written k es all.1)
      | false ↦ below_written k es all.1
    ]

rising : (es : Entries) → IsStrictlySortedBy nat_cmp (keys_of es) → IsStrictlySortedBy nat_cmp (numbers es)
unfolding IsStrictlySortedBy
rising [] sorted = tt
rising (e ∷ es) sorted =
    elim e.1.is_written as (λ w. IsStrictlySortedBy nat_cmp (cond w (e.0 ∷ numbers es) (numbers es))) [
      | true ↦ (below_written e.0 es sorted.0, rising es sorted.1)
      | false ↦ rising es sorted.1
    ]

pub numbers_rise : (es : Entries) → IsStrictlySortedBy nat_cmp (keys_of es) → IsStrictlyIncreasing (numbers es)
numbers_rise es sorted = IsStrictlyIncreasing-from_sorted (numbers es) (rising es sorted)

none_above : (q : ℕ) (es : Entries) → IsBelow q (keys_of es) → lookup (is_at (nat_cmp q)) es ≡ None
none_above q [] all = refl
none_above q (e ∷ es) all = let less = all.0 in rw less (none_above q es all.1)

put_below : (k : ℕ) (i : List ℕ) (es : List (ℕ × List ℕ)) → IsBelow k (map (λ e. e.0) es)
    → map (λ (e : ℕ × List ℕ). e.0) (put nat_cmp k i es) ≡ k ∷ map (λ (e : ℕ × List ℕ). e.0) es
put_below k i [] all = refl
put_below k i (e ∷ es) all = let less = all.0 in rw less refl

removed : (pages : Pages) (k : ℕ) → get pages k ≡ None → remove pages k ≡ pages
removed pages k none =
    same_map nat_cmp_total nat_cmp-IsAntisymmetric (remove pages k) pages (λ q.
    get-remove nat_cmp_total pages k q ∙ gone (is_eq (nat_cmp q k)) q (λ tie.
    ap (get pages) (nat_cmp-IsAntisymmetric q k (is_equal (nat_cmp q k) tie)) ∙ none)) where
      gone : (tie : Bool) (q : ℕ) → (tie ≡ true → get pages q ≡ None) → cond tie None (get pages q) ≡ get pages q
      gone true q h = sym (h refl)
      gone false q h = refl

-- the numbers of the pages, of entries in order
pub keys-pages_of : (es : Entries) → IsStrictlySortedBy nat_cmp (keys_of es) → keys (pages_of es) ≡ numbers es
keys-pages_of [] sorted =
    ap (map (λ e. e.0)) (nil_from_length (entries (pages_of [])) (sym (len-entries (pages_of [])) ∙ len-empty nat_cmp (List ℕ)))
keys-pages_of (e ∷ es) sorted =
    let rest : keys (pages_of es) ≡ numbers es = keys-pages_of es (sorted_tail nat_cmp e.0 (keys_of es) sorted) in
    let below = sorted_head nat_cmp e.0 (keys_of es) sorted in
    elim e.1.is_written
    as (λ w. keys (cond w (insert (pages_of es) e.0 e.1.image.items) (remove (pages_of es) e.0))
    ≡ cond w (e.0 ∷ numbers es) (numbers es)) [
      | true ↦
          ap (map (λ e. e.0)) (entries-insert nat_cmp_total (pages_of es) e.0 e.1.image.items)
          ∙ put_below e.0 e.1.image.items (entries (pages_of es))
          (subst (IsBelow e.0) (sym rest) (below_written e.0 es below))
          ∙ ap (λ (ks : List ℕ). e.0 ∷ ks) rest
      | false ↦
          ap keys (removed (pages_of es) e.0 (get-pages_of es e.0 ∙ ap image (none_above e.0 es below))) ∙ rest
    ]

pub same_page : (a b : Page) → Some a ≡ Some b → a ≡ b
same_page a b e = ap (page_or a) e where
  page_or : Page → Option Page → Page
  page_or p None = p
  page_or p (Some q) = q

pub some_none : (p : Page) → Some p ≡ None → ⊥
some_none p e = false≢true (sym (ap is_some e))
