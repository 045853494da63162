-- The rule that every step on the two words keeps, and what each step tells. Word 0 is stable, word 1 is low.
use Rattle.std.specs.Prelude.{◌≡◌, ℕ, ◌+◌, ◌≤◌, Bool, true, false, IsTrue, length, slice_index, max}
use mathlib.Core.Option.{some}
use lib.ListN.{get_elem?}
use Rattle.atomic_table.specs.Table.{State, Me, Step}
use Rattle.engine_marks.specs.declared.rule.Pair.{Pair}
use Rattle.engine_marks.specs.declared.rule.View.{View}

abbrev pub Marked : Type 0
Marked = State (Unit {0}) View

abbrev pub Mine : Type 0
Mine = Me (Unit {0}) View

abbrev pub pair : ℕ → ℕ → Pair
pair stable low = record { stable = stable; low = low }

abbrev pub words_of : Marked → Pair
words_of s = pair (slice_index s.words 0) (slice_index s.words 1)

-- each of the words is at most the other pair's
abbrev pub UpTo : Pair → Pair → Type 0
UpTo p q = (p.stable ≤ q.stable) × (p.low ≤ q.low)

-- no word is below what a seat has seen, and a raiser has seen just the words
pub record FitsSeat (words : Pair) (number : ℕ) (v : View) : Type 0 where
  pub reached : UpTo v.seen words
  pub met_reached : UpTo v.met v.seen
  pub raiser_first : IsTrue v.raises → number ≡ 0
  pub raiser_exact : IsTrue v.raises → v.seen ≡ words

-- what holds of the words and of all seats between any two steps
pub record Holds (s : Marked) : Type 0 where
  pub two_words : length s.words ≡ 2
  pub ordered : (words_of s).low ≤ (words_of s).stable
  pub each_fits : (number : ℕ) (v : View) → get_elem? s.views number ≡ some v → FitsSeat (words_of s) number v

abbrev pub view : Bool → Pair → Pair → ℕ → View
view raises seen met readings = record { raises = raises; seen = seen; met = met; readings = readings }

abbrev pub raiser_at_first : View
raiser_at_first = view true (pair 0 0) (pair 0 0) 0

abbrev pub newcomer : View
newcomer = view false (pair 0 0) (pair 0 0) 0

-- a view with this pair seen in place of its own
abbrev pub sees : View → Pair → View
sees v seen = view v.raises seen v.met v.readings

-- the same once both words were read
abbrev pub has_read : View → Pair → View
has_read v seen = view v.raises seen v.met (v.readings + 1)

-- low was found to be n: at least what was seen, and just that by a raiser. Stable is no less.
abbrev pub low_read : Step (Unit {0}) → Mine → ℕ → Mine → Type 0
low_read st m n m' =
    (m.0.seen.low ≤ n)
    × (IsTrue m.0.raises → (n ≡ m.0.seen.low) × (n ≤ m.0.seen.stable))
    × (m' ≡ (sees m.0 (pair (max m.0.seen.stable n) n), m.1))

-- stable is read after low
abbrev pub stable_read : Step (Unit {0}) → Mine → ℕ → Mine → Type 0
stable_read st m n m' =
    (m.0.seen.stable ≤ n)
    × (IsTrue m.0.raises → n ≡ m.0.seen.stable)
    × (m' ≡ (has_read m.0 (pair n m.0.seen.low), m.1))

abbrev pub stable_raised : Step (Unit {0}) → Mine → ℕ → Mine → Type 0
stable_raised st m n m' = m' ≡ (sees m.0 (pair (max m.0.seen.stable st.first) m.0.seen.low), m.1)

abbrev pub low_raised : Step (Unit {0}) → Mine → ℕ → Mine → Type 0
low_raised st m n m' = m' ≡ (sees m.0 (pair m.0.seen.stable (max m.0.seen.low st.first)), m.1)

abbrev pub came : Step (Unit {0}) → Mine → ℕ → Mine → Type 0
came st m n m' = m'.0 ≡ newcomer

-- whom the seat met had seen no more
abbrev pub compared : Step (Unit {0}) → Mine → ℕ → Mine → Type 0
compared st m n m' = UpTo m.0.met m.0.seen × (m' ≡ m)

-- a reader that has seen what the seat has, and was read by no more
abbrev pub told : View → View
told v = view false v.seen (pair 0 0) 0

-- the seat when it has met another
abbrev pub meeting : View → View → View
meeting v w = view v.raises v.seen w.seen v.readings
