-- Records and answers by number: a vector in order, and its index of Answer records.
use Rattle.std.proofs.Common.{◌≡◌, ◌≢◌, ℕ, ◌+◌, ◌-◌, ◌<◌, ◌≤◌, ◌||◌, Bool, not, true, false, cond, List, [], ◌∷◌, ◌++◌, length, get_or, set, Option, Some, None, is_some, refl, sym, ap, ◌∙◌, subst, arith, inl, inr, ◌⊎◌, eq-eqb, ne_eqb}
use Rattle.std.proofs.Math.ListN.{length-set, get_or-append}
use Rattle.std.proofs.Math.Seq.{get_or-append_seam}
use Rattle.std.proofs.lemmas.List.{length-append, get_or-set_other, get_or-set_same, get_or_past}
use Rattle.std.specs.Prelude.{◌==◌, ◌^◌}
use Rattle.std.proofs.lemmas.Bool.{cases_eq, cases_lt, cases_Bool, or_right}
use Rattle.history.specs.declared.record.Record.{Record}
use Rattle.history.specs.declared.record.Record.TheVariants as is
use Rattle.record_key.specs.declared.op.Answer.{Answer}
use Rattle.record_key.specs.declared.op.Op.{Op}
use Rattle.history.specs.Log.{record_at, answer_of, request_of, request_in}
use Rattle.history.specs.Legal.{Fits, IsLegal}
use Rattle.tc_log.specs.Index.{asks_nothing, first_place, index, noted, NamesWithin, answer_held_by, is_answered}
use Rattle.log_laws.proofs.Records.{record_new, record_old}
use Rattle.log_laws.proofs.LegalLogs.{request_number, unanswered_next, answered_is_request}

pub record_at-zero : (log : List Record) → record_at log 0 ≡ None
record_at-zero [] = refl
record_at-zero (r ∷ log) = record_old r log 0 (λ e. omega (arith, e)) ∙ record_at-zero log

-- no number past the end has a record
pub record_at-past : (log : List Record) (n : ℕ) → length log < n → record_at log n ≡ None
record_at-past [] n past = refl
record_at-past (r ∷ log) n past = record_old r log n (λ e. omega (arith, past, e))
    ∙ record_at-past log n (omega (arith, past))

length-noted : (r : Record) (n : ℕ) (answers : List ℕ) → length (noted r n answers) ≡ length answers + 1
length-noted (is.Answer of a) n answers = length-append (set answers (of - 1) n) (asks_nothing ∷ [])
    ∙ ap (λ (m : ℕ). m + 1) (length-set answers (of - 1) n)
length-noted is.Session n answers = length-append answers (asks_nothing ∷ [])
length-noted is.Begin n answers = length-append answers (asks_nothing ∷ [])
length-noted (is.Op t p o) n answers = length-append answers (0 ∷ [])
length-noted (is.Comp t u x i) n answers = length-append answers (first_place i ∷ [])
length-noted (is.Commit t) n answers = length-append answers (asks_nothing ∷ [])
length-noted (is.End t) n answers = length-append answers (asks_nothing ∷ [])
length-noted (is.Checkpoint l) n answers = length-append answers (asks_nothing ∷ [])

pub length-index : (log : List Record) → length (index log) ≡ length log
length-index [] = refl
length-index (r ∷ log) = length-noted r (length log + 1) (index log) ∙ omega (arith, length-index log)

-- whether an Answer record names the number at this place
abbrev NotNamed : Record → ℕ → Type 0
NotNamed (is.Answer of answer) i = i ≢ of - 1
NotNamed _ i = Unit {0}

abbrev Named : Record → ℕ → Type 0
Named (is.Answer of answer) i = i ≡ of - 1
Named _ i = ⊥

-- what the index holds for a number tells whether it asks, and is answered
pub data Told (log : List Record) (n p : ℕ) : Type 0 where
  awaits : p ≡ 0 → is_some (request_in (record_at log n)) ≡ true → answer_of log n ≡ None → Told log n p
  answered : 0 < p → p ≤ length log → answer_of log n ≡ answer_held_by (record_at log p) → is_some (answer_of log n) ≡ true
      → Told log n p
  asks_none : p ≡ asks_nothing → request_in (record_at log n) ≡ None → answer_of log n ≡ None → Told log n p

-- what it holds, and past its end
abbrev pub index_at : List Record → ℕ → ℕ
index_at log n = get_or (index log) (n - 1) asks_nothing

pub nothing_answered : (o : Option Answer) → is_some o ≡ false → o ≡ None
nothing_answered None h = refl
nothing_answered (Some a) h = absurd (cc)

-- the number of the newest record has no answer yet
unanswered_newest : (r : Record) (log : List Record) → IsLegal (r ∷ log) → answer_of (r ∷ log) (length log + 1) ≡ None
unanswered_newest (is.Answer m a) log legal =
    let apart : length log + 1 ≢ m = λ e. omega
    (arith, (request_number log m legal.0.op legal.0.requested).bounded, e) in
    ap (λ (b : Bool). cond b (Some a) (answer_of log (length log + 1))) (ne_eqb (length log + 1) m apart)
    ∙ nothing_answered _ (unanswered_next log legal.1)
unanswered_newest _ log legal = nothing_answered _ (unanswered_next log legal.1)

-- a place of the index below its end, and at it
noted_old : (r : Record) (n : ℕ) (answers : List ℕ) (i d : ℕ) → i < length answers → NotNamed r i
    → get_or (noted r n answers) i d ≡ get_or answers i d
noted_old (is.Answer m a) n answers i d lt apart =
    get_or-append (set answers (m - 1) n) (asks_nothing ∷ []) d i (omega (arith, length-set answers (m - 1) n))
    ∙ get_or-set_other answers (m - 1) i n d apart
noted_old is.Session n answers i d lt apart = get_or-append answers (asks_nothing ∷ []) d i lt
noted_old is.Begin n answers i d lt apart = get_or-append answers (asks_nothing ∷ []) d i lt
noted_old (is.Op t p o) n answers i d lt apart = get_or-append answers (0 ∷ []) d i lt
noted_old (is.Comp t u x c) n answers i d lt apart = get_or-append answers (first_place c ∷ []) d i lt
noted_old (is.Commit t) n answers i d lt apart = get_or-append answers (asks_nothing ∷ []) d i lt
noted_old (is.End t) n answers i d lt apart = get_or-append answers (asks_nothing ∷ []) d i lt
noted_old (is.Checkpoint l) n answers i d lt apart = get_or-append answers (asks_nothing ∷ []) d i lt

noted_end : (r : Record) (n : ℕ) (answers : List ℕ) (d : ℕ)
    → get_or (noted r n answers) (length answers) d ≡ first_place (request_of r)
noted_end (is.Answer m a) n answers d =
    ap (λ (i : ℕ). get_or (set answers (m - 1) n ++ asks_nothing ∷ []) i d) (sym (length-set answers (m - 1) n))
    ∙ get_or-append_seam (set answers (m - 1) n) asks_nothing [] d
noted_end is.Session n answers d = get_or-append_seam answers asks_nothing [] d
noted_end is.Begin n answers d = get_or-append_seam answers asks_nothing [] d
noted_end (is.Op t p o) n answers d = get_or-append_seam answers 0 [] d
noted_end (is.Comp t u x c) n answers d = get_or-append_seam answers (first_place c) [] d
noted_end (is.Commit t) n answers d = get_or-append_seam answers asks_nothing [] d
noted_end (is.End t) n answers d = get_or-append_seam answers asks_nothing [] d
noted_end (is.Checkpoint l) n answers d = get_or-append_seam answers asks_nothing [] d

-- an answer that the newest record doesn't bring
answer_old : (r : Record) (log : List Record) (n : ℕ) → NotNamed r (n - 1) → 0 < n
    → answer_of (r ∷ log) n ≡ answer_of log n
answer_old (is.Answer m a) log n apart some = ap (λ (b : Bool). cond b (Some a) (answer_of log n))
    (ne_eqb n m (λ e. apart (ap (λ (j : ℕ). j - 1) e)))
answer_old _ log n apart some = refl

-- the record does name this place
names_it : (r : Record) (i : ℕ) → NotNamed r i ⊎ Named r i
names_it (is.Answer m a) i = elim (cases_eq i (m - 1)) [ inl e ↦ inr e | inr e ↦ inl e ]
names_it _ i = inl tt

module _ (r : Record) (log : List Record) where
  told_old : (n p : ℕ) → 0 < n → n ≤ length log → NotNamed r (n - 1) → Told log n p → Told (r ∷ log) n p
  told_old n p some within apart was =
      let answer : answer_of (r ∷ log) n ≡ answer_of log n = answer_old r log n apart some in
      let item : record_at (r ∷ log) n ≡ record_at log n = record_old r log n (λ e. omega (arith, e, within)) in
      elim was [
        | awaits at asks none ↦
            awaits at (ap (λ (q : Option Record). is_some (request_in q)) item ∙ asks) (answer ∙ none)
        | answered points bounded right there ↦
            answered points (omega (arith, bounded))
            (answer ∙ right ∙ ap answer_held_by (sym (record_old r log p (λ e. omega (arith, e, bounded)))))
            (ap is_some answer ∙ there)
        | asks_none at none unanswered ↦ asks_none at (ap request_in item ∙ none) (answer ∙ unanswered)
      ]

  told_first : (asked : Option Op) → request_of r ≡ asked → IsLegal (r ∷ log)
      → Told (r ∷ log) (length log + 1) (first_place asked)
  told_first None is legal = asks_none refl (ap request_in (record_new r log) ∙ is) (unanswered_newest r log legal)
  told_first (Some o) is legal = awaits refl (ap (λ (q : Option Record). is_some (request_in q)) (record_new r log)
      ∙ ap is_some is) (unanswered_newest r log legal)

  told_newest : IsLegal (r ∷ log) → Told (r ∷ log) (length log + 1) (index_at (r ∷ log) (length log + 1))
  told_newest legal =
      let place : index_at (r ∷ log) (length log + 1) ≡ first_place (request_of r) =
      ap (λ (i : ℕ). get_or (index (r ∷ log)) i asks_nothing) (omega (arith, length-index log))
      ∙ noted_end r (length log + 1) (index log) asks_nothing in
      subst (Told (r ∷ log) (length log + 1)) (sym place) (told_first (request_of r) refl legal)

-- the newest record brings the answer of this number
told_named : (m : ℕ) (a : Answer) (log : List Record) (n : ℕ) → 0 < n → 0 < m → m ≤ length log → n - 1 ≡ m - 1
    → Told (is.Answer m a ∷ log) n (index_at (is.Answer m a ∷ log) n)
told_named m a log n some named within same =
    let e : n ≡ m = omega arith in
    let place : index_at (is.Answer m a ∷ log) n ≡ length log + 1 =
    get_or-append (set (index log) (m - 1) (length log + 1)) (asks_nothing ∷ []) asks_nothing (n - 1)
    (omega (arith, length-set (index log) (m - 1) (length log + 1), length-index log))
    ∙ ap (λ (i : ℕ). get_or (set (index log) (m - 1) (length log + 1)) i asks_nothing) same
    ∙ get_or-set_same (index log) (m - 1) (length log + 1) asks_nothing (omega (arith, length-index log)) in
    let now : answer_of (is.Answer m a ∷ log) n ≡ Some a =
    ap (λ (b : Bool). cond b (Some a) (answer_of log n)) (eq-eqb n m e) in
    answered (omega (arith, place)) (omega (arith, place))
    (now ∙ ap answer_held_by (sym (ap (record_at (is.Answer m a ∷ log)) place ∙ record_new (is.Answer m a) log)))
    (ap is_some now)

told_by : (r : Record) (log : List Record) (n : ℕ) → Fits log r → 0 < n → Named r (n - 1)
    → Told (r ∷ log) n (index_at (r ∷ log) n)
told_by (is.Answer m a) log n fits some named =
    let number = request_number log m fits.op fits.requested in
    told_named m a log n some number.positive number.bounded named
told_by _ log n fits some named = absurd named

told : (log : List Record) → IsLegal log → (n : ℕ) → 0 < n → n ≤ length log → Told log n (index_at log n)
told [] legal n some within = absurd (omega arith)
told (r ∷ log) legal n some within =
    elim (cases_eq n (length log + 1)) [
      | inl e ↦ subst (λ (m : ℕ). Told (r ∷ log) m (index_at (r ∷ log) m)) (sym e) (told_newest r log legal)
      | inr e ↦ elim (names_it r (n - 1)) [
        | inl apart ↦
            let older : n ≤ length log = omega (arith, e, within) in
            let place : index_at (r ∷ log) n ≡ index_at log n =
            noted_old r (length log + 1) (index log) (n - 1) asks_nothing (omega (arith, length-index log, older))
            apart in
            subst (Told (r ∷ log) n) (sym place)
            (told_old r log n (index_at log n) some older apart (told log legal.1 n some older))
        | inr named ↦ told_by r log n legal.0 some named
      ]
    ]

-- past the end there is no answer
unanswered_past : (log : List Record) (n : ℕ) → IsLegal log → length log < n → answer_of log n ≡ None
unanswered_past log n legal past =
    elim (cases_Bool (is_some (answer_of log n))) [
      | inl some ↦ let found = answered_is_request log n legal some in
          absurd (omega (arith, past, (request_number log n found.op found.requested).bounded))
      | inr none ↦ nothing_answered _ none
    ]

-- past the end the index holds nothing
index_past : (log : List Record) (n : ℕ) → length log < n → index_at log n ≡ asks_nothing
index_past log n past = get_or_past (index log) (n - 1) asks_nothing (omega (arith, length-index log))

-- the answer stands where the index says
pub answer_found : (log : List Record) (n : ℕ) → IsLegal log → length log < 2 ^ 48 → 0 < n
    → answer_of log n ≡ answer_held_by (record_at log (index_at log n))
answer_found log n legal few some =
    let none : record_at log asks_nothing ≡ None = record_at-past log asks_nothing (omega (arith, few)) in
    elim (cases_lt (length log) n) [
      | inl past ↦ unanswered_past log n legal past
          ∙ ap answer_held_by (sym (ap (record_at log) (index_past log n past) ∙ none))
      | inr there ↦ elim (told log legal n some there) [
        | awaits at asks unanswered ↦ unanswered ∙ ap answer_held_by (sym (ap (record_at log) at ∙ record_at-zero log))
        | answered points bounded right is ↦ right
        | asks_none at asks unanswered ↦ unanswered ∙ ap answer_held_by (sym (ap (record_at log) at ∙ none))
      ]
    ]

-- and it is 0 only where an answer is to come
pub index_tells : (log : List Record) (n : ℕ) → IsLegal log → 0 < n → is_answered log n ≡ not (index_at log n == 0)
index_tells log n legal some =
    elim (cases_lt (length log) n) [
      | inl past ↦
          ap (λ (q : Option Record). not (is_some (request_in q)) || is_some (answer_of log n))
          (record_at-past log n past)
          ∙ ap (λ (p : ℕ). not (p == 0)) (sym (index_past log n past))
      | inr there ↦ elim (told log legal n some there) [
        | awaits at asks unanswered ↦
            ap (λ (b : Bool). not b || is_some (answer_of log n)) asks ∙ ap is_some unanswered
            ∙ ap (λ (p : ℕ). not (p == 0)) (sym at)
        | answered points bounded right is ↦
            or_right (not (is_some (request_in (record_at log n)))) (is_some (answer_of log n)) is
            ∙ ap not (sym (ne_eqb (index_at log n) 0 (λ e. omega (arith, points, e))))
        | asks_none at asks unanswered ↦
            ap (λ (q : Option Op). not (is_some q) || is_some (answer_of log n)) asks
            ∙ ap (λ (p : ℕ). not (p == 0)) (sym at)
      ]
    ]

-- and no record's number only where nothing is asked for
pub index_asks : (log : List Record) (n : ℕ) → IsLegal log → length log < 2 ^ 48 → 0 < n
    → is_some (request_in (record_at log n)) ≡ not (index_at log n == asks_nothing)
index_asks log n legal few some =
    elim (cases_lt (length log) n) [
      | inl past ↦
          ap (λ (q : Option Record). is_some (request_in q)) (record_at-past log n past)
          ∙ ap (λ (p : ℕ). not (p == asks_nothing)) (sym (index_past log n past))
      | inr there ↦ elim (told log legal n some there) [
        | awaits at asks unanswered ↦ asks ∙ ap (λ (p : ℕ). not (p == asks_nothing)) (sym at)
        | answered points bounded right is ↦
            ap is_some (answered_is_request log n legal is).requested
            ∙ ap not (sym (ne_eqb (index_at log n) asks_nothing (λ e. omega (arith, bounded, few, e))))
        | asks_none at asks unanswered ↦ ap is_some asks ∙ ap (λ (p : ℕ). not (p == asks_nothing)) (sym at)
      ]
    ]

-- number 0 asks for nothing
pub is_answered-zero : (log : List Record) → is_answered log 0 ≡ true
is_answered-zero log =
    ap (λ (found : Option Record). not (is_some (request_in found)) || is_some (answer_of log 0)) (record_at-zero log)

-- number 0 has no answer
pub answer_of-zero : (log : List Record) → IsLegal log → answer_of log 0 ≡ None
answer_of-zero log legal =
    elim (cases_Bool (is_some (answer_of log 0))) [
      | inl some ↦ let found = answered_is_request log 0 legal some in
          absurd (omega (arith, (request_number log 0 found.op found.requested).positive))
      | inr none ↦ nothing_answered _ none
    ]

-- a record that fits names a number of the log
pub names_within : (log : List Record) (r : Record) (count : ℕ) → Fits log r → count ≡ length log → NamesWithin r count
names_within log (is.Answer m a) count fits same = let number = request_number log m fits.op fits.requested in
    (number.positive, omega (arith, number.bounded, same))
names_within log is.Session count fits same = tt
names_within log is.Begin count fits same = tt
names_within log (is.Op t p o) count fits same = tt
names_within log (is.Comp t u x i) count fits same = tt
names_within log (is.Commit t) count fits same = tt
names_within log (is.End t) count fits same = tt
names_within log (is.Checkpoint l) count fits same = tt
