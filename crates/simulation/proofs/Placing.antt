-- An answer puts its entry into the history of a log, and into a list of entries.
use Rattle.std.proofs.Common.{◌≡◌, ◌≢◌, ℕ, ◌+◌, ◌<◌, ◌≤◌, Bool, true, false, cond, List, [], ◌∷◌, length, Option, Some, None, refl, sym, ap, ◌∙◌, subst, arith, inl, inr, eq-eqb, ne_eqb}
use Rattle.std.specs.Prelude.{filter, nat_lt, if◌then◌else◌}
use Rattle.std.specs.List.{AllByRecursion}
use Rattle.std.proofs.lemmas.Bool.Decides.{nat_tests}
use Rattle.std.proofs.lemmas.Bool.{cases_lt}
use Rattle.record_key.specs.declared.op.Op.{Op}
use Rattle.record_key.specs.declared.op.Answer.{Answer}
use Rattle.history.specs.declared.record.Record.{Record}
use Rattle.history.specs.declared.record.Record.TheVariants as is
use Rattle.history.specs.History.{Entry, placed}
use Rattle.history.specs.Log.{answer_of, is_crossed, op_of, IsOpBy, hist_in, hist, entry_with}
use Rattle.log_laws.proofs.Records.{AnOp, newest_at, had_at, which}
use Rattle.log_laws.proofs.LegalLogs.{op_number}
use Rattle.simulation.specs.View.{IsFalling, IsOverLost, IsFreeOf, HasEntry}
use Rattle.simulation.proofs.Entries.{entry_of, hist_step, older_ops, newest_op, all_filtered, is_lt, not_lt}

lt_nat_lt : (m n : ℕ) → m < n → nat_lt m n ≡ true
lt_nat_lt m n h = grind (arith, nat_tests)

ge_nat_lt : (m n : ℕ) → n ≤ m → nat_lt m n ≡ false
ge_nat_lt m n h = grind (arith, nat_tests)

same_entry : (x y : List Record) (n t : ℕ) (o : Op) (a b : Option Answer) (g h : List Entry) → a ≡ b
    → is_crossed x n ≡ is_crossed y n → g ≡ h
    → entry_with x n t o a g ≡ entry_with y n t o b h
same_entry x y n t o a b g h e c below = grind arith

-- the same answers and compensations give the same history
abbrev Same : List Record → List Record → ℕ → ℕ → Op → Type 0
Same x y n t o = (answer_of x n ≡ answer_of y n) × (is_crossed x n ≡ is_crossed y n)

same_step : (x y : List Record) (n : ℕ) (by : Option (ℕ × Op)) (g h : List Entry)
    → ((t : ℕ) (o : Op) → by ≡ Some (t, o) → Same x y n t o) → g ≡ h
    → entry_of x n by g ≡ entry_of y n by h
same_step x y n None g h same below = below
same_step x y n (Some by) g h same below =
    let both = same by.0 by.1 refl in same_entry x y n by.0 by.1 (answer_of x n) (answer_of y n) g h both.0 both.1 below

pub hist_alike : (x y rest : List Record) → ((n t : ℕ) (o : Op) → IsOpBy rest n t o → Same x y n t o)
    → hist_in x rest ≡ hist_in y rest
hist_alike x y [] same = refl
hist_alike x y (r ∷ rest) same =
    hist_step x r rest
    ∙ same_step x y (length rest + 1) (op_of r) (hist_in x rest) (hist_in y rest) (newest_op (Same x y) r rest same)
    (hist_alike x y rest (older_ops (Same x y) r rest same))
    ∙ sym (hist_step y r rest)

-- entries have the numbers of operations of the log
all_entry : (P : Entry → Type 0) (log : List Record) (n : ℕ) (by : Option (ℕ × Op)) (h : List Entry)
    → ((t : ℕ) (o : Op) (a : Answer) → by ≡ Some (t, o)
    → P (record { number = n; txn = t; op = o; answer = a; crossed = is_crossed log n }))
    → AllByRecursion P h → AllByRecursion P (entry_of log n by h)
all_entry h log n by h2 each all = grind arith

pub all_hist : (P : Entry → Type 0) (log rest : List Record)
    → ((n t : ℕ) (o : Op) → IsOpBy rest n t o → (a : Answer)
    → P (record { number = n; txn = t; op = o; answer = a; crossed = is_crossed log n }))
    → AllByRecursion P (hist_in log rest)
all_hist P log [] each = tt
all_hist P log (r ∷ rest) each =
    let Q : ℕ → ℕ → Op → Type 0 =
    λ n t o. (a : Answer) → P (record { number = n; txn = t; op = o; answer = a; crossed = is_crossed log n }) in
    subst (AllByRecursion P) (sym (hist_step log r rest))
    (all_entry P log (length rest + 1) (op_of r) (hist_in log rest) (λ t o a is. newest_op Q r rest each t o is a)
    (all_hist P log rest (older_ops Q r rest each)))

-- every number of a log's history is one of the log
pub hist_below : (log rest : List Record) → AllByRecursion (λ e. e.number < length rest + 1) (hist_in log rest)
hist_below log rest = all_hist (λ e. e.number < length rest + 1) log rest
    (λ n t o by a. omega (arith, (op_number rest n t o by).bounded))

-- an entry above all others goes to the front
pub placed_front : (e : Entry) (h : List Entry) → AllByRecursion (λ f. f.number < e.number) h → placed e h ≡ e ∷ h
placed_front e [] all = refl
placed_front e (f ∷ h) all = ap (λ b. if b then e ∷ f ∷ h else f ∷ placed e h) (lt_nat_lt f.number e.number all.0)

-- one below passes
pub placed_past : (log : List Record) (m t : ℕ) (o : Op) (a : Option Answer) (e : Entry) (h : List Entry) → e.number < m
    → entry_with log m t o a (placed e h) ≡ placed e (entry_with log m t o a h)
placed_past log m t o a e h lt = grind arith

-- the answer of one operation more
module _ (log : List Record) (n t : ℕ) (o : Op) (a : Answer) (none : answer_of log n ≡ None) where
  abbrev longer : List Record
  longer = is.Answer n a ∷ log

  abbrev entry : Entry
  entry = record { number = n; txn = t; op = o; answer = a; crossed = is_crossed log n }

  same_answer : (m : ℕ) → m ≢ n → answer_of longer m ≡ answer_of log m
  same_answer m apart = ap (λ (b : Bool). cond b (Some a) (answer_of log m)) (ne_eqb m n apart)

  answer_now : answer_of longer n ≡ Some a
  answer_now = ap (λ (b : Bool). cond b (Some a) (answer_of log n)) (eq-eqb n n refl)

  below_alike : (rest : List Record) → length rest < n → hist_in longer rest ≡ hist_in log rest
  below_alike rest below = grind (arith, hist_alike, same_answer, op_number)

  past_step : (m : ℕ) (by : Option (ℕ × Op)) (h : List Entry) → n < m
      → entry_of longer m by (placed entry h) ≡ placed entry (entry_of log m by h)
  past_step m by h lt = grind arith

  placed_in : (rest : List Record) → IsOpBy rest n t o → hist_in longer rest ≡ placed entry (hist_in log rest)
  placed_in [] by = absurd (cc)
  placed_in (r ∷ rest) by =
      elim (which r rest n (op_number (r ∷ rest) n t o by)) [
        | inl e ↦
            let is_op : op_of r ≡ Some (t, o) = newest_at (AnOp t o) r rest n e by in
            hist_step longer r rest
            ∙ ap (λ x. entry_of longer (length rest + 1) x (hist_in longer rest)) is_op
            ∙ ap (λ (m : ℕ). entry_with longer m t o (answer_of longer m) (hist_in longer rest)) (sym e)
            ∙ ap (λ x. entry_with longer n t o x (hist_in longer rest)) answer_now
            ∙ ap (λ h. entry ∷ h) (below_alike rest (omega (arith, e)))
            ∙ sym (placed_front entry (hist_in log rest)
            (let P : ℕ → Type 0 = λ m. AllByRecursion (λ f. f.number < m) (hist_in log rest) in
            subst P (sym e) (hist_below log rest)))
            ∙ ap (placed entry) (sym (hist_step log r rest
            ∙ ap (λ x. entry_of log (length rest + 1) x (hist_in log rest)) is_op
            ∙ ap (λ (m : ℕ). entry_with log m t o (answer_of log m) (hist_in log rest)) (sym e)
            ∙ ap (λ x. entry_with log n t o x (hist_in log rest)) none))
        | inr was ↦
            hist_step longer r rest
            ∙ ap (entry_of longer (length rest + 1) (op_of r)) (placed_in rest (had_at (AnOp t o) r rest n was by))
            ∙ past_step (length rest + 1) (op_of r) (hist_in log rest) (omega (arith, was.bounded))
            ∙ ap (placed entry) (sym (hist_step log r rest))
      ]

-- the history with it
pub hist_answer : (log : List Record) (n t : ℕ) (o : Op) (a : Answer) → answer_of log n ≡ None
    → is_crossed log n ≡ false → IsOpBy log n t o
    → hist (is.Answer n a ∷ log)
    ≡ placed (record { number = n; txn = t; op = o; answer = a; crossed = false }) (hist log)
hist_answer log n t o a none stands by =
    placed_in log n t o a none log by
    ∙ ap (λ b. placed (record { number = n; txn = t; op = o; answer = a; crossed = b }) (hist log)) stands

-- all of the others and of it
pub all_placed : (P : Entry → Type 0) (e : Entry) (h : List Entry) → P e → AllByRecursion P h
    → AllByRecursion P (placed e h)
all_placed P e [] here all = (here, tt)
all_placed P e (f ∷ h) here all = pick (nat_lt f.number e.number) (all_placed P e h here all.1)
  where
    pick : (b : Bool) → AllByRecursion P (placed e h) → AllByRecursion P (if b then e ∷ f ∷ h else f ∷ placed e h)
    pick true rest = (here, all)
    pick false rest = (all.0, rest)

below_all : (n m : ℕ) (h : List Entry) → n < m → AllByRecursion (λ e. e.number < n) h
    → AllByRecursion (λ e. e.number < m) h
below_all n m [] lt all = tt
below_all n m (e ∷ h) lt all = (omega (arith, lt, all.0), below_all n m h lt all.1)

-- a filter that keeps it, where all that is older than an entry without a number is below it
pub filter_placed : (p : Entry → Bool) (e : Entry) (h : List Entry) → p e ≡ true → IsFalling h → IsOverLost e.number h
    → filter p (placed e h) ≡ placed e (filter p h)
filter_placed p e [] keeps falls over = ap (λ (b : Bool). cond b (e ∷ []) []) keeps
filter_placed p e (f ∷ h) keeps falls over =
    pick (nat_lt f.number e.number) refl (filter_placed p e h keeps falls.1 over.1)
  where
    older : f.number < e.number → AllByRecursion (λ x. x.number < e.number) h
    older lt = elim (cases_lt 0 f.number) [
      | inl some ↦ below_all f.number e.number h lt (falls.0 some)
      | inr none ↦ over.0 (omega (arith, none))
    ]

    front : f.number < e.number → placed e (filter p (f ∷ h)) ≡ e ∷ filter p (f ∷ h)
    front lt = placed_front e (filter p (f ∷ h))
        (all_filtered (λ x. x.number < e.number) p (f ∷ h) (lt, older lt))

    past : (b : Bool) → nat_lt f.number e.number ≡ false
        → cond b (f ∷ placed e (filter p h)) (placed e (filter p h)) ≡ placed e (cond b (f ∷ filter p h) (filter p h))
    past true ge = sym (ap (λ b. if b then e ∷ f ∷ filter p h else f ∷ placed e (filter p h)) ge)
    past false ge = refl

    pick : (b : Bool) → nat_lt f.number e.number ≡ b → filter p (placed e h) ≡ placed e (filter p h)
        → filter p (if b then e ∷ f ∷ h else f ∷ placed e h) ≡ placed e (filter p (f ∷ h))
    pick true lt rest = ap (λ (b : Bool). cond b (e ∷ filter p (f ∷ h)) (filter p (f ∷ h))) keeps
        ∙ sym (front (is_lt f.number e.number lt))
    pick false ge rest = ap (λ x. cond (p f) (f ∷ x) x) rest ∙ past (p f) ge

-- numbers fall still, where it has none of theirs
pub placed_falling : (e : Entry) (h : List Entry) → 0 < e.number → IsFreeOf e.number h → IsFalling h
    → IsFalling (placed e h)
placed_falling e [] some free falls = (λ _. tt, tt)
placed_falling e (f ∷ h) some free falls =
    pick (nat_lt f.number e.number) refl (placed_falling e h some (free.0.1, free.1.1) falls.1)
  where
    older : f.number < e.number → AllByRecursion (λ x. x.number < e.number) h
    older lt = elim (cases_lt 0 f.number) [
      | inl positive ↦ below_all f.number e.number h lt (falls.0 positive)
      | inr none ↦ free.1.0 (omega (arith, none))
    ]

    pick : (b : Bool) → nat_lt f.number e.number ≡ b → IsFalling (placed e h)
        → IsFalling (if b then e ∷ f ∷ h else f ∷ placed e h)
    pick true lt rest = (λ _. (is_lt f.number e.number lt, older (is_lt f.number e.number lt)), falls)
    pick false ge rest = (
      λ positive. all_placed (λ x. x.number < f.number) e h
          (omega (arith, not_lt f.number e.number ge, (λ (s : f.number ≡ e.number). free.0.0 s))) (falls.0 positive),
      rest,
    )

-- and those without a number stay behind what is above what is older than them
pub placed_over : (e : Entry) (n : ℕ) (h : List Entry) → 0 < e.number → IsOverLost n h → IsOverLost n (placed e h)
placed_over e n [] some over = (λ none. absurd (omega (arith, some, none)), tt)
placed_over e n (f ∷ h) some over = pick (nat_lt f.number e.number) refl (placed_over e n h some over.1)
  where
    pick : (b : Bool) → nat_lt f.number e.number ≡ b → IsOverLost n (placed e h)
        → IsOverLost n (if b then e ∷ f ∷ h else f ∷ placed e h)
    pick true lt rest = (λ none. absurd (omega (arith, some, none)), over)
    pick false ge rest = (λ none. absurd (omega (arith, some, none, not_lt f.number e.number ge)), rest)

-- it is there, and so are the others
pub placed_entry : (e : Entry) (h : List Entry) (n t : ℕ) (o : Op) → HasEntry h n t o → HasEntry (placed e h) n t o
placed_entry e [] n t o has = absurd has
placed_entry e (f ∷ h) n t o (inl is) = pick (nat_lt f.number e.number)
  where
    pick : (b : Bool) → HasEntry (if b then e ∷ f ∷ h else f ∷ placed e h) n t o
    pick true = inr (inl is)
    pick false = inl is
placed_entry e (f ∷ h) n t o (inr has) = pick (nat_lt f.number e.number) (placed_entry e h n t o has)
  where
    pick : (b : Bool) → HasEntry (placed e h) n t o → HasEntry (if b then e ∷ f ∷ h else f ∷ placed e h) n t o
    pick true rest = inr (inr has)
    pick false rest = inr rest

pub placed_itself : (e : Entry) (h : List Entry) → HasEntry (placed e h) e.number e.txn e.op
placed_itself e [] = inl (refl, refl, refl)
placed_itself e (f ∷ h) = pick (nat_lt f.number e.number) (placed_itself e h)
  where
    pick : (b : Bool) → HasEntry (placed e h) e.number e.txn e.op
        → HasEntry (if b then e ∷ f ∷ h else f ∷ placed e h) e.number e.txn e.op
    pick true rest = inl (refl, refl, refl)
    pick false rest = inr rest

-- a log's history has numbers
over_answered : (m : ℕ) (log : List Record) (n t : ℕ) (o : Op) (a : Option Answer) (h : List Entry) → 0 < n
    → IsOverLost m h → IsOverLost m (entry_with log n t o a h)
over_answered m log n t o a h some over = grind arith

over_record : (m : ℕ) (log : List Record) (n : ℕ) (by : Option (ℕ × Op)) (h : List Entry) → 0 < n
    → IsOverLost m h → IsOverLost m (entry_of log n by h)
over_record m log n by h some over = grind arith

pub hist_over : (m : ℕ) (log rest : List Record) → IsOverLost m (hist_in log rest)
hist_over m log [] = tt
hist_over m log (r ∷ rest) =
    subst (IsOverLost m) (sym (hist_step log r rest))
    (over_record m log (length rest + 1) (op_of r) (hist_in log rest) (omega arith) (hist_over m log rest))

-- a log's history falls
falling_answered : (log : List Record) (n t : ℕ) (o : Op) (a : Option Answer) (h : List Entry)
    → AllByRecursion (λ e. e.number < n) h → IsFalling h → IsFalling (entry_with log n t o a h)
falling_answered log n t o a h below falls = grind arith

falling_step : (log : List Record) (n : ℕ) (by : Option (ℕ × Op)) (h : List Entry)
    → AllByRecursion (λ e. e.number < n) h → IsFalling h → IsFalling (entry_of log n by h)
falling_step log n by h below falls = grind arith

pub hist_falling : (log rest : List Record) → IsFalling (hist_in log rest)
hist_falling log [] = tt
hist_falling log (r ∷ rest) =
    subst IsFalling (sym (hist_step log r rest))
    (falling_step log (length rest + 1) (op_of r) (hist_in log rest) (hist_below log rest) (hist_falling log rest))
