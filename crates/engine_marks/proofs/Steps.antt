-- Each step on the two words keeps their rule, and tells what its play says.
use Rattle.std.proofs.Common.{◌≡◌, ℕ, ◌≤◌, ◌≢◌, false, IsTrue, List, [], ◌∷◌, length, get_or, set, max, ⊎_elim, refl, sym, ap, ◌∙◌, subst, le_refl, le_trans, zero-le, arith}
use Rattle.std.proofs.Math.Nat.{le-max_left, max-eq_left}
use mathlib.Core.Option.{none, some}
use lib.ListN.{get_elem?}
use Rattle.atomic_table.specs.Table.{step, keeps, Allows, Enters, Splits, Joins}
use Rattle.atomic_table.proofs.Lists.{at_set, at_snoc, set_again}
use Rattle.engine_marks.specs.declared.rule.Pair.{Pair}
use Rattle.engine_marks.specs.declared.rule.View.{View}
use Rattle.engine_marks.specs.Rule.{Marked, Mine, pair, words_of, UpTo, FitsSeat, Holds, raiser_at_first, newcomer, sees, has_read, told, meeting, low_read, stable_read, stable_raised, low_raised, came, compared}

abbrev pair_of : List ℕ → Pair
pair_of words = pair (get_or words 0 0) (get_or words 1 0)

-- setting stable leaves low
stable_set : (words : List ℕ) (n : ℕ) → length words ≡ 2
    → (length (set words 0 n) ≡ 2) × (pair_of (set words 0 n) ≡ pair n (get_or words 1 0))
stable_set [] n two = absurd (omega arith)
stable_set (a ∷ l) n two = (two, refl)

-- setting low leaves stable
low_set : (words : List ℕ) (n : ℕ) → length words ≡ 2
    → (length (set words 1 n) ≡ 2) × (pair_of (set words 1 n) ≡ pair (get_or words 0 0) n)
low_set [] n two = absurd (omega arith)
low_set (a ∷ []) n two = absurd (omega arith)
low_set (a ∷ b ∷ l) n two = (two, refl)

UpTo_refl : (p : Pair) → UpTo p p
UpTo_refl p = (le_refl p.stable, le_refl p.low)

UpTo_trans : (p q r : Pair) → UpTo p q → UpTo q r → UpTo p r
UpTo_trans p q r a b = (le_trans a.0 b.0, le_trans a.1 b.1)

UpTo_of_eq : (p q : Pair) → p ≡ q → UpTo p q
UpTo_of_eq p q e = subst (λ (r : Pair). UpTo p r) e (UpTo_refl p)

-- the state with other words, and the view w at a seat's number
abbrev moved : Marked → List ℕ → ℕ → View → Marked
moved s words number w = record { words = words; homes = s.homes; views = set s.views number w }

-- the seat's new view fits words that are no less, and any other raiser finds them as they were
moves : (s : Marked) (words : List ℕ) (number : ℕ) (w : View) → Holds s → length words ≡ 2
    → get_or words 1 0 ≤ get_or words 0 0
    → UpTo (words_of s) (pair_of words) → FitsSeat (pair_of words) number w
    → ((other : ℕ) → other ≢ number → other ≡ 0 → pair_of words ≡ words_of s)
    → Holds (moved s words number w)
moves s words number w h two ordered up fits others = record {
  two_words = two;
  ordered = ordered;
  each_fits = λ other u at. ⊎_elim
      (λ (t : (other ≡ number) × (w ≡ u)). subst (λ (z : ℕ × View). FitsSeat (pair_of words) z.0 z.1)
      (λ i. (sym t.0 i, t.1 i)) fits)
      (λ (t : (other ≢ number) × (get_elem? s.views other ≡ some u)). let was = h.each_fits other u t.1 in record {
        reached = UpTo_trans u.seen (words_of s) (pair_of words) was.reached up;
        met_reached = was.met_reached;
        raiser_first = was.raiser_first;
        raiser_exact = λ r. was.raiser_exact r ∙ sym (others other t.0 (was.raiser_first r));
      })
      (at_set s.views number other w u at);
}

-- a raiser's words and what it has seen rise together
raises_to : (s : Marked) (words : List ℕ) (number : ℕ) (v : View) → Holds s → get_elem? s.views number ≡ some v
    → IsTrue v.raises
    → length words ≡ 2 → get_or words 1 0 ≤ get_or words 0 0 → UpTo (words_of s) (pair_of words)
    → Holds (moved s words number (sees v (pair_of words)))
raises_to s words number v h at raises two ordered up = let was = h.each_fits number v at in
    moves s words number (sees v (pair_of words)) h two ordered up
    record {
      reached = UpTo_refl (pair_of words);
      met_reached = UpTo_trans v.met v.seen (pair_of words) was.met_reached
          (UpTo_trans v.seen (words_of s) (pair_of words) was.reached up);
      raiser_first = was.raiser_first;
      raiser_exact = λ _. refl;
    }
    (λ other apart first. absurd (apart (first ∙ sym (was.raiser_first raises))))

-- what a seat knows changes, and the words stay
knows : (s : Marked) (words : List ℕ) (number : ℕ) (w : View) → Holds s → length words ≡ 2 → pair_of words ≡ words_of s
    → FitsSeat (words_of s) number w → Holds (moved s words number w)
knows s words number w h two same fits = moves s words number w h two
    (subst (λ (p : Pair). p.low ≤ p.stable) (sym same) h.ordered)
    (UpTo_of_eq (words_of s) (pair_of words) (sym same))
    (subst (λ (p : Pair). FitsSeat p number w) (sym same) fits)
    (λ _ _ _. same)

max_within : (a b c : ℕ) → a ≤ c → b ≤ c → max a b ≤ c
max_within a b c = omega arith

pub reads_low : (slots number : ℕ) (me : Mine)
    → Allows Holds slots number me 1 (λ n. n) (low_read (step slots 1 0 0 none) me)
reads_low slots number me s h _ at _ = let v = me.0 in let n : ℕ = get_or s.words 1 0 in let is =
    low_set s.words n h.two_words in let was = h.each_fits number v at in
    let up_to_seen = λ (r : IsTrue v.raises). subst (λ (p : Pair). p.low ≤ p.stable) (sym (was.raiser_exact r))
    h.ordered in
    let low_is = λ (r : IsTrue v.raises). ap (λ (p : Pair). p.low) (was.raiser_exact r) in
    let stable_is = λ (r : IsTrue v.raises). ap (λ (p : Pair). p.stable) (was.raiser_exact r) in
    let above = λ (r : IsTrue v.raises). subst (λ (k : ℕ). k ≤ v.seen.stable) (low_is r) (up_to_seen r) in (
      sees v (pair (max v.seen.stable n) n),
      keeps,
      tt,
      knows s (set s.words 1 n) number (sees v (pair (max v.seen.stable n) n)) h is.0 is.1 record {
        reached = (max_within v.seen.stable n (get_or s.words 0 0) was.reached.0 h.ordered, le_refl n);
        met_reached = (
          le_trans was.met_reached.0 (le-max_left v.seen.stable n),
          le_trans was.met_reached.1 was.reached.1,
        );
        raiser_first = was.raiser_first;
        raiser_exact = λ r. ap (λ (k : ℕ). pair k n) (max-eq_left (above r) ∙ stable_is r);
      },
      (was.reached.1, (λ r. (sym (low_is r), above r)), refl),
    )

pub reads_stable : (slots number : ℕ) (me : Mine)
    → Allows Holds slots number me 0 (λ n. n) (stable_read (step slots 0 0 0 none) me)
reads_stable slots number me s h _ at _ = let v = me.0 in let n : ℕ = get_or s.words 0 0 in let is =
    stable_set s.words n h.two_words in let was = h.each_fits number v at in
    let low_is = λ (r : IsTrue v.raises). ap (λ (p : Pair). p.low) (was.raiser_exact r) in
    let stable_is = λ (r : IsTrue v.raises). ap (λ (p : Pair). p.stable) (was.raiser_exact r) in (
      has_read v (pair n v.seen.low),
      keeps,
      tt,
      knows s (set s.words 0 n) number (has_read v (pair n v.seen.low)) h is.0 is.1 record {
        reached = (le_refl n, was.reached.1);
        met_reached = (le_trans was.met_reached.0 was.reached.0, was.met_reached.1);
        raiser_first = was.raiser_first;
        raiser_exact = λ r. ap (λ (k : ℕ). pair n k) (low_is r);
      },
      (was.reached.0, (λ r. sym (stable_is r)), refl),
    )

-- a raiser's step that sets the words to the pair that it then has seen
raised_to : (s : Marked) (words : List ℕ) (number : ℕ) (v : View) (p : Pair) → Holds s
    → get_elem? s.views number ≡ some v → IsTrue v.raises
    → length words ≡ 2 → pair_of words ≡ p → p.low ≤ p.stable → UpTo (words_of s) p
    → Holds (moved s words number (sees v p))
raised_to s words number v p h at raises two is ordered up =
    subst (λ (q : Pair). Holds (moved s words number (sees v q))) is
    (raises_to s words number v h at raises two (subst (λ (q : Pair). q.low ≤ q.stable) (sym is) ordered)
    (subst (λ (q : Pair). UpTo (words_of s) q) (sym is) up))

pub raises_stable : (slots number n : ℕ) (me : Mine) → IsTrue me.0.raises
    → Allows Holds slots number me 0 (λ k. max k n) (stable_raised (step slots 0 n 0 none) me)
raises_stable slots number n me raises s h _ at _ = let v = me.0 in let k : ℕ = get_or s.words 0 0 in let low : ℕ =
    get_or s.words 1 0 in
    let is = stable_set s.words (max k n) h.two_words in let exact = (h.each_fits number v at).raiser_exact raises in
    let seen : pair (max k n) low ≡ pair (max v.seen.stable n) v.seen.low =
    ap (λ (p : Pair). pair (max p.stable n) p.low) (sym exact) in (
      sees v (pair (max v.seen.stable n) v.seen.low),
      keeps,
      tt,
      subst (λ (p : Pair). Holds (moved s (set s.words 0 (max k n)) number (sees v p))) seen
          (raised_to s (set s.words 0 (max k n)) number v (pair (max k n) low) h at raises is.0 is.1
          (le_trans h.ordered (le-max_left k n)) (le-max_left k n, le_refl low)),
      refl,
    )

pub raises_low : (slots number n : ℕ) (me : Mine) → IsTrue me.0.raises → n ≤ me.0.seen.stable
    → Allows Holds slots number me 1 (λ k. max k n) (low_raised (step slots 1 n 0 none) me)
raises_low slots number n me raises below s h _ at _ = let v = me.0 in let k : ℕ = get_or s.words 1 0 in
    let stable : ℕ = get_or s.words 0 0 in
    let is = low_set s.words (max k n) h.two_words in let exact = (h.each_fits number v at).raiser_exact raises in
    let seen : pair stable (max k n) ≡ pair v.seen.stable (max v.seen.low n) =
    ap (λ (p : Pair). pair p.stable (max p.low n)) (sym exact) in
    let within : n ≤ stable = subst (λ (p : Pair). n ≤ p.stable) exact below in (
      sees v (pair v.seen.stable (max v.seen.low n)),
      keeps,
      tt,
      subst (λ (p : Pair). Holds (moved s (set s.words 1 (max k n)) number (sees v p))) seen
          (raised_to s (set s.words 1 (max k n)) number v (pair stable (max k n)) h at raises is.0 is.1
          (max_within k n stable h.ordered within) (le_refl stable, le-max_left k n)),
      refl,
    )

pub compares : (slots number : ℕ) (me : Mine)
    → Allows Holds slots number me 0 (λ n. n) (compared (step slots 0 0 0 none) me)
compares slots number me s h _ at _ = let v = me.0 in let n : ℕ = get_or s.words 0 0 in let is =
    stable_set s.words n h.two_words in let was = h.each_fits number v at in
    (v, keeps, tt, knows s (set s.words 0 n) number v h is.0 is.1 was, (was.met_reached, refl))

not_raising : IsTrue false → ⊥
not_raising raises = cc

-- a newcomer fits any words
newcomer_fits : (words : Pair) (number : ℕ) → FitsSeat words number newcomer
newcomer_fits words number =
    record {
      reached = (zero-le, zero-le);
      met_reached = (zero-le, zero-le);
      raiser_first = λ r. absurd (not_raising r);
      raiser_exact = λ r. absurd (not_raising r);
    }

pub comes : (slots : ℕ) → Enters Holds slots 0 (λ n w. came (step slots 0 0 0 none) (raiser_at_first, []) n (w, []))
comes slots s h _ _ = (
  newcomer,
  record {
    two_words = h.two_words;
    ordered = h.ordered;
    each_fits = λ number u at. ⊎_elim (h.each_fits number u)
        (λ (is : newcomer ≡ u). subst (λ (v : View). FitsSeat (words_of s) number v) is (newcomer_fits (words_of s) number))
        (at_snoc s.views newcomer u number at);
  },
  refl,
)

-- a reader that is told what a seat has seen fits the words that the seat's view fits
told_fits : (words : Pair) (number other : ℕ) (v : View) → FitsSeat words number v → FitsSeat words other (told v)
told_fits words number other v was =
    record {
      reached = was.reached;
      met_reached = (zero-le, zero-le);
      raiser_first = λ r. absurd (not_raising r);
      raiser_exact = λ r. absurd (not_raising r);
    }

pub tells : (number : ℕ) (v : View) → Splits Holds number v v (told v)
tells number v s h at = record {
  two_words = h.two_words;
  ordered = h.ordered;
  each_fits = λ other u at'. ⊎_elim
      (λ (was : get_elem? (set s.views number v) other ≡ some u). h.each_fits other u
      (subst (λ (views : List View). get_elem? views other ≡ some u) (set_again s.views number v at) was))
      (λ (is : told v ≡ u). subst (λ (x : View). FitsSeat (words_of s) other x) is
      (told_fits (words_of s) number other v (h.each_fits number v at)))
      (at_snoc (set s.views number v) (told v) u other at');
}

-- the raiser has seen just the words, so a seat that it meets has seen no more
pub meets : (number other : ℕ) (v w : View) → IsTrue v.raises → Joins Holds number v other w (meeting v w) newcomer
meets number other v w raises s h at apart at' =
    let was = h.each_fits number v at in
    let met = ⊎_elim (λ (t : (other ≡ number) × (meeting v w ≡ w)). absurd (apart t.0))
    (λ (t : (other ≢ number) × (get_elem? s.views other ≡ some w)). h.each_fits other w t.1)
    (at_set s.views number other (meeting v w) w at') in
    let after = knows s s.words number (meeting v w) h h.two_words refl record {
      reached = was.reached;
      met_reached = subst (λ (p : Pair). UpTo w.seen p) (sym (was.raiser_exact raises)) met.reached;
      raiser_first = was.raiser_first;
      raiser_exact = was.raiser_exact;
    } in
    knows (moved s s.words number (meeting v w)) s.words other newcomer after h.two_words refl
    (newcomer_fits (words_of s) other)
