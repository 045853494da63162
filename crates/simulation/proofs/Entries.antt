-- Histories of logs, filtered: what a crash leaves of them.
use Rattle.std.proofs.Common.{◌≡◌, ℕ, ◌+◌, ◌<◌, ◌≤◌, Bool, true, false, cond, List, [], ◌∷◌, ◌++◌, length, length-append, Option, Some, None, refl, sym, ap, ◌∙◌, subst, arith, inl, inr}
use Rattle.std.specs.Prelude.{map, filter, nat_lt, not, ◌&&◌, ◌||◌, if◌then◌else◌}
use Rattle.std.proofs.lemmas.Bool.{cases_lt, lt-ltb, le-ltb}
use Rattle.std.specs.List.{AllByRecursion}
use Rattle.record_key.specs.declared.op.Op.{Op}
use Rattle.record_key.specs.declared.op.Answer.{Answer}
use Rattle.history.specs.declared.record.Record.{Record}
use Rattle.history.specs.History.{Entry, lost}
use Rattle.history.specs.Log.{answer_of, is_crossed, op_of, IsOpBy, hist_in, entry_with}
use Rattle.history.specs.ListMachine.{fallen}
use Rattle.log_laws.proofs.Records.{AnOp, at_newest, kept_at}
use Rattle.log_laws.proofs.LegalLogs.{op_number}
use Rattle.simulation.specs.View.{standing, IsFalling, IsOverLost, HasEntry}

pub is_lt : (m n : ℕ) → nat_lt m n ≡ true → m < n
is_lt m n h = elim (cases_lt m n) [ inl lt ↦ lt | inr ge ↦ let no : true ≡ false = sym h ∙ le-ltb m n ge in cc ]

pub not_lt : (m n : ℕ) → nat_lt m n ≡ false → n ≤ m
not_lt m n h = elim (cases_lt m n) [ inl lt ↦ let no : false ≡ true = sym h ∙ lt-ltb m n lt in cc | inr ge ↦ ge ]

-- the entry of an operation, as this log crosses it
abbrev pub as_entry : List Record → ℕ → ℕ → Op → Answer → Entry
as_entry log n t o a = record { number = n; txn = t; op = o; answer = a; crossed = is_crossed log n }

-- one record's part of the history
abbrev pub entry_of : List Record → ℕ → Option (ℕ × Op) → List Entry → List Entry
entry_of log n None h = h
entry_of log n (Some by) h = entry_with log n by.0 by.1 (answer_of log n) h

pub hist_step : (log : List Record) (r : Record) (rest : List Record)
    → hist_in log (r ∷ rest) ≡ entry_of log (length rest + 1) (op_of r) (hist_in log rest)
hist_step log r rest = grind arith

-- what holds of the operations of a log holds of those before
pub older_ops : (P : ℕ → ℕ → Op → Type 0) (r : Record) (rest : List Record)
    → ((n t : ℕ) (o : Op) → IsOpBy (r ∷ rest) n t o → P n t o)
    → (n t : ℕ) (o : Op) → IsOpBy rest n t o → P n t o
older_ops P r rest each n t o by = each n t o (kept_at (AnOp t o) r rest n (op_number rest n t o by) by)

-- and of its newest, if that is one
pub newest_op : (P : ℕ → ℕ → Op → Type 0) (r : Record) (rest : List Record)
    → ((n t : ℕ) (o : Op) → IsOpBy (r ∷ rest) n t o → P n t o)
    → (t : ℕ) (o : Op) → op_of r ≡ Some (t, o) → P (length rest + 1) t o
newest_op P r rest each t o is = each (length rest + 1) t o (at_newest (AnOp t o) r rest (length rest + 1) refl is)

-- an operation counts alike in two logs, or in neither
pub data Agrees (x y : List Record) (p q : Entry → Bool) (n t : ℕ) (o : Op) : Type 0 where
  Both : answer_of x n ≡ answer_of y n → is_crossed x n ≡ is_crossed y n
      → ((a : Answer) → p (as_entry x n t o a) ≡ q (as_entry y n t o a)) → Agrees x y p q n t o
  Neither : ((a : Answer) → p (as_entry x n t o a) ≡ false) → ((a : Answer) → q (as_entry y n t o a) ≡ false)
      → Agrees x y p q n t o

pass : (p : Entry → Bool) (e : Entry) (h : List Entry) → p e ≡ false → filter p (e ∷ h) ≡ filter p h
pass p e h out = ap (λ (b : Bool). cond b (e ∷ filter p h) (filter p h)) out

pass_answered : (x : List Record) (p : Entry → Bool) (n t : ℕ) (o : Op) (a : Option Answer) (h : List Entry)
    → ((b : Answer) → p (as_entry x n t o b) ≡ false)
    → filter p (entry_with x n t o a h) ≡ filter p h
pass_answered h h2 h3 h4 h5 h6 h7 out = grind arith

both_answered : (x y : List Record) (p q : Entry → Bool) (n t : ℕ) (o : Op) (a b : Option Answer) (g h : List Entry)
    → a ≡ b → is_crossed x n ≡ is_crossed y n
    → ((a : Answer) → p (as_entry x n t o a) ≡ q (as_entry y n t o a)) → filter p g ≡ filter q h
    → filter p (entry_with x n t o a g) ≡ filter q (entry_with y n t o b h)
both_answered h h2 h3 h4 h5 h6 h7 h8 b g h9 e c same below = grind arith

alike_answered : (x y : List Record) (p q : Entry → Bool) (n t : ℕ) (o : Op) (g h : List Entry) → Agrees x y p q n t o
    → filter p g ≡ filter q h
    → filter p (entry_with x n t o (answer_of x n) g) ≡ filter q (entry_with y n t o (answer_of y n) h)
alike_answered h h2 h3 h4 h5 h6 h7 g h8 h9 below = grind arith

alike_step : (x y : List Record) (p q : Entry → Bool) (n : ℕ) (by : Option (ℕ × Op)) (g h : List Entry)
    → ((t : ℕ) (o : Op) → by ≡ Some (t, o) → Agrees x y p q n t o)
    → filter p g ≡ filter q h → filter p (entry_of x n by g) ≡ filter q (entry_of y n by h)
alike_step x y p q n None g h same below = below
alike_step x y p q n (Some by) g h same below = alike_answered x y p q n by.0 by.1 g h (same by.0 by.1 refl) below

-- so their histories do
pub alike : (x y : List Record) (p q : Entry → Bool) (rest : List Record)
    → ((n t : ℕ) (o : Op) → IsOpBy rest n t o → Agrees x y p q n t o)
    → filter p (hist_in x rest) ≡ filter q (hist_in y rest)
alike x y p q [] same = refl
alike x y p q (r ∷ rest) same =
    ap (filter p) (hist_step x r rest)
    ∙ alike_step x y p q (length rest + 1) (op_of r) (hist_in x rest) (hist_in y rest)
    (newest_op (Agrees x y p q) r rest same)
    (alike x y p q rest (older_ops (Agrees x y p q) r rest same))
    ∙ ap (filter q) (sym (hist_step y r rest))

-- a filter that takes none above a number leaves out the entries of the records above it
over_step : (x : List Record) (p : Entry → Bool) (k n : ℕ) (by : Option (ℕ × Op)) (h : List Entry) → k < n
    → ((e : Entry) → k < e.number → p e ≡ false) → filter p (entry_of x n by h) ≡ filter p h
over_step h h2 k h3 by h4 above out = grind arith

pub drop_over : (x : List Record) (p : Entry → Bool) (k : ℕ) (newer older : List Record) → k ≤ length older
    → ((e : Entry) → k < e.number → p e ≡ false)
    → filter p (hist_in x (newer ++ older)) ≡ filter p (hist_in x older)
drop_over x p k [] older within out = refl
drop_over x p k (r ∷ newer) older within out =
    ap (filter p) (hist_step x r (newer ++ older))
    ∙ over_step x p k (length (newer ++ older) + 1) (op_of r) (hist_in x (newer ++ older))
    (omega (arith, within, length-append newer older)) out
    ∙ drop_over x p k newer older within out

-- two filters are one
twice : (e : Entry) (x : List Entry) (a b : Bool) → cond b (cond a (e ∷ x) x) x ≡ cond (a && b) (e ∷ x) x
twice e h h2 b = grind arith

through : (p : Entry → Bool) (e : Entry) (y : List Entry) (b : Bool)
    → filter p (cond b (e ∷ y) y) ≡ cond b (cond (p e) (e ∷ filter p y) (filter p y)) (filter p y)
through h e h2 b = grind arith

pub filter_twice : (p q : Entry → Bool) (h : List Entry) → filter p (filter q h) ≡ filter (λ e. p e && q e) h
filter_twice p q [] = refl
filter_twice p q (e ∷ h) =
    through p e (filter q h) (q e) ∙ twice e (filter p (filter q h)) (p e) (q e)
    ∙ ap (λ x. cond (p e && q e) (e ∷ x) x) (filter_twice p q h)

-- an entry is crossed too where this says so of its transaction and number
abbrev pub marked : (ℕ → ℕ → Bool) → Entry → Entry
marked f e = record e { crossed = e.crossed || f e.txn e.number }

uncross_one : (n t : ℕ) (o : Op) (a : Answer) (b : Bool) (x y : List Entry) → x ≡ y
    → cond (not b) (record { number = n; txn = t; op = o; answer = a; crossed = b } ∷ x) x
    ≡ cond (not b) (record { number = n; txn = t; op = o; answer = a; crossed = false } ∷ y) y
uncross_one h h2 h3 h4 b h5 h6 rest = grind arith

uncross_step : (f : ℕ → ℕ → Bool) (n t : ℕ) (o : Op) (a : Answer) (c : Bool) (h : List Entry)
    → standing (map (marked f) h) ≡ filter (λ e. not (f e.txn e.number)) (standing h)
    → standing (map (marked f) (record { number = n; txn = t; op = o; answer = a; crossed = c } ∷ h))
    ≡ filter (λ e. not (f e.txn e.number))
    (standing (record { number = n; txn = t; op = o; answer = a; crossed = c } ∷ h))
uncross_step f h h2 h3 h4 c h5 rest = grind arith

pub uncross_marked : (f : ℕ → ℕ → Bool) (h : List Entry)
    → standing (map (marked f) h) ≡ filter (λ e. not (f e.txn e.number)) (standing h)
uncross_marked f [] = refl
uncross_marked f (e ∷ h) = uncross_step f e.number e.txn e.op e.answer e.crossed h (uncross_marked f h)

-- an entry that falls or loses its number doesn't stand any more
fall_step : (fell : ℕ → Bool) (bound n t : ℕ) (o : Op) (a : Answer) (c : Bool) (h : List Entry) (over : Bool)
    → nat_lt bound n ≡ over
    → standing (map (fallen fell bound) h) ≡ filter (λ e. not (nat_lt bound e.number) && not (fell e.txn)) (standing h)
    → standing (map (fallen fell bound) (record { number = n; txn = t; op = o; answer = a; crossed = c } ∷ h))
    ≡ filter (λ e. not (nat_lt bound e.number) && not (fell e.txn))
    (standing (record { number = n; txn = t; op = o; answer = a; crossed = c } ∷ h))
fall_step fell bound h h2 h3 h4 c h5 over e rest = grind arith

pub uncross_fallen : (fell : ℕ → Bool) (bound : ℕ) (h : List Entry)
    → standing (map (fallen fell bound) h) ≡ filter (λ e. not (nat_lt bound e.number) && not (fell e.txn)) (standing h)
uncross_fallen fell bound [] = refl
uncross_fallen fell bound (e ∷ h) =
    fall_step fell bound e.number e.txn e.op e.answer e.crossed h (nat_lt bound e.number) refl
    (uncross_fallen fell bound h)

-- a filter keeps what holds of all
keep_one : (P : Entry → Type 0) (p : Entry → Bool) (e : Entry) (h : List Entry) (b : Bool) → P e
    → AllByRecursion P (filter p h) → AllByRecursion P (cond b (e ∷ filter p h) (filter p h))
keep_one h h2 e h3 b here rest = grind arith

pub all_filtered : (P : Entry → Type 0) (p : Entry → Bool) (h : List Entry) → AllByRecursion P h
    → AllByRecursion P (filter p h)
all_filtered P p [] all = tt
all_filtered P p (e ∷ h) all = keep_one P p e h (p e) all.0 (all_filtered P p h all.1)

-- that changes no number, and no entry goes
pub marked_all : (P Q : Entry → Type 0) (f : ℕ → ℕ → Bool) (h : List Entry) → ((e : Entry) → P e → Q (marked f e))
    → AllByRecursion P h → AllByRecursion Q (map (marked f) h)
marked_all P Q f [] each all = tt
marked_all P Q f (e ∷ h) each all = (each e all.0, marked_all P Q f h each all.1)

pub marked_falling : (f : ℕ → ℕ → Bool) (h : List Entry) → IsFalling h → IsFalling (map (marked f) h)
marked_falling f [] falls = tt
marked_falling f (e ∷ h) falls = (
  λ some. marked_all (λ x. x.number < e.number) (λ x. x.number < e.number) f h (λ x lt. lt) (falls.0 some),
  marked_falling f h falls.1,
)

pub marked_over : (f : ℕ → ℕ → Bool) (n : ℕ) (h : List Entry) → IsOverLost n h → IsOverLost n (map (marked f) h)
marked_over f n [] over = tt
marked_over f n (e ∷ h) over = grind (arith, marked_over f n h over.1, marked_all)

pub marked_entry : (f : ℕ → ℕ → Bool) (h : List Entry) (n t : ℕ) (o : Op) → HasEntry h n t o
    → HasEntry (map (marked f) h) n t o
marked_entry f [] n t o has = absurd has
marked_entry f (e ∷ h) n t o (inl is) = inl is
marked_entry f (e ∷ h) n t o (inr has) = inr (marked_entry f h n t o has)

-- a fall leaves the numbers up to its bound
fallen_one : (Q : Entry → Type 0) (fell : ℕ → Bool) (bound : ℕ) (e : Entry) (over : Bool) → nat_lt bound e.number ≡ over
    → (bound < e.number → Q (lost e)) → (e.number ≤ bound → Q (marked (λ t n. fell t) e)) → Q (fallen fell bound e)
fallen_one h fell bound e over h2 over2 within = grind arith

pub fallen_all : (P Q : Entry → Type 0) (fell : ℕ → Bool) (bound : ℕ) (h : List Entry)
    → ((e : Entry) → P e → bound < e.number → Q (lost e))
    → ((e : Entry) → P e → e.number ≤ bound → Q (marked (λ t n. fell t) e))
    → AllByRecursion P h → AllByRecursion Q (map (fallen fell bound) h)
fallen_all P Q fell bound [] over within all = tt
fallen_all P Q fell bound (e ∷ h) over within all = (
  fallen_one Q fell bound e (nat_lt bound e.number) refl (over e all.0) (within e all.0),
  fallen_all P Q fell bound h over within all.1,
)

falling_one : (fell : ℕ → Bool) (bound : ℕ) (e : Entry) (h : List Entry) (over : Bool) → nat_lt bound e.number ≡ over
    → (0 < e.number → AllByRecursion (λ f. f.number < e.number) h)
    → 0 < (fallen fell bound e).number
    → AllByRecursion (λ f. f.number < (fallen fell bound e).number) (map (fallen fell bound) h)
falling_one fell bound e h true is falls some = grind arith
falling_one fell bound e h false is falls some =
    let number : (fallen fell bound e).number ≡ e.number =
    ap (λ (b : Bool). (if b then lost e else marked (λ t n. fell t) e).number) is in
    let positive : 0 < e.number = omega (arith, some, number) in
    subst (λ (n : ℕ). AllByRecursion (λ f. f.number < n) (map (fallen fell bound) h)) (sym number)
    (fallen_all (λ f. f.number < e.number) (λ f. f.number < e.number) fell bound h
    (λ f lt over. positive) (λ f lt within. lt) (falls positive))

pub fallen_falling : (fell : ℕ → Bool) (bound : ℕ) (h : List Entry) → IsFalling h
    → IsFalling (map (fallen fell bound) h)
fallen_falling fell bound [] falls = tt
fallen_falling fell bound (e ∷ h) falls = (
  falling_one fell bound e h (nat_lt bound e.number) refl falls.0,
  fallen_falling fell bound h falls.1,
)

entry_one : (fell : ℕ → Bool) (bound : ℕ) (e : Entry) (h : List Entry) (n t : ℕ) (o : Op) → n ≤ bound
    → (e.number ≡ n) × (e.txn ≡ t) × (e.op ≡ o) → HasEntry (fallen fell bound e ∷ h) n t o
entry_one fell bound e h h2 h3 h4 within h5 = grind arith

pub fallen_entry : (fell : ℕ → Bool) (bound : ℕ) (h : List Entry) (n t : ℕ) (o : Op) → n ≤ bound → HasEntry h n t o
    → HasEntry (map (fallen fell bound) h) n t o
fallen_entry fell bound [] n t o within has = absurd has
fallen_entry fell bound (e ∷ h) n t o within (inl is) =
    entry_one fell bound e (map (fallen fell bound) h) n t o within is
fallen_entry fell bound (e ∷ h) n t o within (inr has) = inr (fallen_entry fell bound h n t o within has)
