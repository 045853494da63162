-- What the index tells of a record that comes next is whether it fits.
use Rattle.std.proofs.Common.{◌≡◌, ◌≢◌, ℕ, ◌<◌, ◌≤◌, Bool, true, false, List, Option, Some, None, IsSome, is_some, refl, sym, ap, ◌∙◌, subst, arith, inl, inr, true≢false, IsTrue, nat_eq, ◌↔◌, not, eq-eqb, eqb-true, [], ◌∷◌}
use Rattle.std.specs.Prelude.{nat_le, ◌==◌, ◌||◌}
use Rattle.std.specs.List.{list_all}
use Rattle.std.proofs.lemmas.Bool.{cases_eq, cases_Bool, and_parts, and_from, and_cases, or_cases, or_left, or_right, leb-true, le-leb}
use Rattle.record_key.specs.declared.op.Op.{Op}
use Rattle.record_key.specs.Table.{Bytes, key_of, is_add}
use Rattle.history.specs.declared.record.Record.{Record}
use Rattle.history.specs.Log.{record_at, before, answer_of, request_in, IsOpen, Requests, IsStepOf, IsOpBy}
use Rattle.history.specs.Legal.{IsLegal, IsIdle, IsKeyFree, IsLatest, IsLatestOrNone, Stands, Inverts, FitsAnswer, FitsComp, FitsEnd, FitsCheckpoint}
use Rattle.log_laws.proofs.Records.{AStep, ARequest, IsNumber, no_step, record_before, since}
use Rattle.log_laws.proofs.LegalLogs.{answered_push, fits_at, step_idle, step_number, request_number, stands_number}
use Rattle.history.specs.Chains.{undo_from, prev_in}
use Rattle.log_laws.proofs.Checking.{is_none, latest_some, latest_unique}
use Rattle.log_laws.proofs.Undo.{latest_found, earlier_found}
use Rattle.tc_log.specs.Index.{is_answered}
use Rattle.tc_log.specs.declared.replay.Index.{Index}
use Rattle.history.specs.History.{is_among}
use Rattle.tc_log.specs.Replay.{IsIndex, KeptOf, KeptOn, AddsTo, latest_in, holder_in, adders_of, agrees, agrees_if, is_free, OpenAt, ReadyOf}
use Rattle.tc_log.proofs.Index.{nothing_answered}
use Rattle.tc_log.proofs.Answered.{answered_at, test_of}

-- ---- keys

-- one that is no hindrance is this one, or isn't open
agrees_so : (log : List Record) (index : Index) (t u : ℕ) → IsIndex log index → agrees index t u ≡ true
    → IsOpen log u → u ≡ t
agrees_so log index t u h is opened = by (latest_in index u) (h.analysis.open_txns u) is
  where
    by : (v : Option ℕ) → KeptOf log u v → ((u == t) || not (is_some v)) ≡ true → u ≡ t
    by None shut e = absurd (shut opened)
    by (Some s) at e = elim (or_cases (u == t) false e) [
      | inl same ↦ eqb-true u t same
      | inr f ↦ absurd (true≢false (sym f))
    ]

-- and one that is open and another is one
hinders : (log : List Record) (index : Index) (t u : ℕ) → IsIndex log index → agrees index t u ≡ false
    → IsOpen log u × (u ≢ t)
hinders log index t u h is = by (latest_in index u) (h.analysis.open_txns u) is
  where
    by : (v : Option ℕ) → KeptOf log u v → ((u == t) || not (is_some v)) ≡ false → IsOpen log u × (u ≢ t)
    by None shut e = absurd (true≢false (sym (or_right (u == t) true refl) ∙ e))
    by (Some s) at e =
        (at.is_open, λ same. true≢false (sym (ap (λ b. b || false) (eq-eqb u t same)) ∙ e))

-- one of a list of which all agree does
all_agree : (index : Index) (t u : ℕ) (us : List ℕ) → list_all (agrees index t) us ≡ true → is_among u us ≡ true
    → agrees index t u ≡ true
all_agree index t u [] all among = absurd (true≢false (sym among))
all_agree index t u (v ∷ us) all among =
    elim (or_cases (v == u) (is_among u us) among) [
      | inl same ↦ ap (agrees index t) (sym (eqb-true v u same)) ∙ (and_parts _ _ all).0
      | inr rest ↦ all_agree index t u us (and_parts _ _ all).1 rest
    ]

-- and where not all do, one of it doesn't
pub record Hindered (index : Index) (t : ℕ) (us : List ℕ) : Type 0 where
  pub by : ℕ
  pub among : is_among by us ≡ true
  pub not_agrees : agrees index t by ≡ false

one_hinders : (index : Index) (t : ℕ) (us : List ℕ) → list_all (agrees index t) us ≡ false → Hindered index t us
one_hinders index t [] none = absurd (true≢false none)
one_hinders index t (v ∷ us) none =
    elim (and_cases (agrees index t v) (list_all (agrees index t) us) none) [
      | inl first ↦ record { by = v; among = or_left (v == v) (is_among v us) (eq-eqb v v refl); not_agrees = first }
      | inr later ↦
          let found = one_hinders index t us later in
          record {
            by = found.by;
            among = or_right (v == found.by) (is_among found.by us) found.among;
            not_agrees = found.not_agrees;
          }
    ]

-- the holder agrees just where no other open one has an operation on the key that is no Add
module _ (log : List Record) (index : Index) (t : ℕ) (o : Op) (h : IsIndex log index) where
  abbrev k : Bytes
  k = key_of o

  holder_so : agrees_if index t (holder_in index k) ≡ true → (n u : ℕ) (q : Op) → IsOpBy log n u q → key_of q ≡ k
      → IsOpen log u → is_add q ≡ false → u ≡ t
  holder_so is n u q op key opened plain = by (holder_in index k) (h.held_keys k) is
    where
      by : (v : Option ℕ) → KeptOn log k v → agrees_if index t v ≡ true → u ≡ t
      by None none e = absurd (none n u q op key plain opened)
      by (Some s) held e =
          let same : u ≡ s = held.only n u q op key plain opened in
          agrees_so log index t u h (ap (agrees index t) same ∙ e) opened

  holder_back : IsKeyFree log t o → agrees_if index t (holder_in index k) ≡ true
  holder_back free = by (holder_in index k) (h.held_keys k)
    where
      by : (v : Option ℕ) → KeptOn log k v → agrees_if index t v ≡ true
      by None none = refl
      by (Some s) held = elim (cases_Bool (agrees index t s)) [
        | inl good ↦ good
        | inr bad_one ↦
            let bad = hinders log index t s h bad_one in
            elim (free held.number s held.op held.is held.on_key bad.0) [
              | inl mine ↦ absurd (bad.1 mine)
              | inr both ↦ absurd (true≢false (sym both.1 ∙ held.plain))
            ]
      ]

  adders_so : agrees_if index t (holder_in index k) ≡ true
      → list_all (agrees index t) (adders_of index k) ≡ true → (n u : ℕ) (q : Op) → IsOpBy log n u q → key_of q ≡ k
      → IsOpen log u → is_add q ≡ true → u ≡ t
  adders_so holder all n u q op key opened add =
      elim ((h.added_keys k).all u (record { number = n; op = q; is = op; on_key = key; adds = add }) opened) [
        | inl held ↦ agrees_so log index t u h (ap (agrees_if index t) (sym held) ∙ holder) opened
        | inr listed ↦ agrees_so log index t u h (all_agree index t u (adders_of index k) all listed) opened
      ]

  adders_back : IsKeyFree log t o → is_add o ≡ false → list_all (agrees index t) (adders_of index k) ≡ true
  adders_back free plain = elim (cases_Bool (list_all (agrees index t) (adders_of index k))) [
    | inl good ↦ good
    | inr bad_one ↦
        let bad = one_hinders index t (adders_of index k) bad_one in
        let has : AddsTo log k bad.by = (h.added_keys k).each bad.by bad.among in
        let open_and = hinders log index t bad.by h bad.not_agrees in
        elim (free has.number bad.by has.op has.is has.on_key open_and.0) [
          | inl mine ↦ absurd (open_and.1 mine)
          | inr both ↦ absurd (true≢false (sym both.0 ∙ plain))
        ]
  ]

  free_so : is_free index t o ≡ true → IsKeyFree log t o
  free_so is n u q op key opened =
      let parts = and_parts _ _ is in
      elim (cases_Bool (is_add q)) [
        | inr plain ↦ inl (holder_so parts.0 n u q op key opened plain)
        | inl add ↦ elim (or_cases (is_add o) (list_all (agrees index t) (adders_of index k)) parts.1) [
          | inl mine ↦ inr (mine, add)
          | inr all ↦ inl (adders_so parts.0 all n u q op key opened add)
        ]
      ]

  free_back : IsKeyFree log t o → is_free index t o ≡ true
  free_back free = and_from _ _ (holder_back free) (elim (cases_Bool (is_add o)) [
    | inl add ↦ or_left (is_add o) (list_all (agrees index t) (adders_of index k)) add
    | inr plain ↦ or_right (is_add o) (list_all (agrees index t) (adders_of index k)) (adders_back free plain)
  ])

  -- so the index tells whether a key is free
  pub free_test : IsTrue (is_free index t o) ↔ IsKeyFree log t o
  free_test = (free_so, free_back)

-- ---- requests

record StepRecord (found : Option Record) (t : ℕ) : Type 0 where
  it : Record
  is : found ≡ Some it
  step : AStep t (Some it)

step_record : (found : Option Record) (t : ℕ) → AStep t found → StepRecord found t
step_record None t h = absurd (no_step t h)
step_record (Some r) t h = record { it = r; is = refl; step = h }

-- a request that isn't the latest step was answered before the latest
earlier_answered : (log : List Record) (t s n : ℕ) (o : Op) → IsLegal log → IsStepOf log t s → n < s
    → IsStepOf log t n → Requests log n o → IsSome (answer_of log n)
earlier_answered log t s n o legal latest below step asks =
    let number : IsNumber log s = step_number log s t latest in
    let r = step_record (record_at log s) t latest in
    let idle : IsIdle (before log s) t = step_idle (before log s) r.it t (fits_at log s r.it legal r.is) r.step in
    let same = record_before log n s number below in
    since (λ x. IsSome (answer_of x n)) (answered_push n) log s
    (idle n o (subst (AStep t) (sym same) step) (subst (ARequest o) (sym same) asks))

-- so a transaction is idle where its latest step is no request or is answered
pub idle_test : (log : List Record) (t s : ℕ) → IsLegal log → IsLatestOrNone (IsStepOf log t) s
    → IsTrue (is_answered log s) ↔ IsIdle log t
idle_test log t s legal (inl h) = (
  λ test n o step asks. elim (cases_eq n s) [
    | inl e ↦
        let P : ℕ → Type 0 = λ m. Requests log m o → IsSome (answer_of log m) in
        subst P (sym e) (answered_at log s o test) asks
    | inr apart ↦ earlier_answered log t s n o legal h.is (omega (arith, apart, h.greatest n step)) step asks
  ],
  λ idle. test_of log s (λ o asks. idle s o h.is asks),
)
idle_test log t s legal (inr h) = (
  λ test n o step asks. absurd (h.1 n step),
  λ idle. test_of log s (λ o asks. absurd (omega (arith, h.0, (request_number log s o asks).positive))),
)

-- ---- records

pub ready_test : (log : List Record) (t s : ℕ) → IsLegal log → OpenAt log t s → is_answered log s ≡ true
    → ReadyOf log t (Some s)
ready_test log t s legal at test = (at, (idle_test log t s legal at.latest).0 test)

pub answer_test : (log : List Record) (n : ℕ) (b : Bool) → b ≡ not (is_answered log n) → IsTrue b ↔ FitsAnswer log n
answer_test log n b is =
    let P : Bool → Type 0 = λ x. IsTrue x ↔ FitsAnswer log n in
    subst P (sym is) (pick (request_in (record_at log n)) (is_some (answer_of log n)) refl refl)
  where
    pick : (q : Option Op) (a : Bool) → request_in (record_at log n) ≡ q → is_some (answer_of log n) ≡ a
        → IsTrue (not (not (is_some q) || a)) ↔ FitsAnswer log n
    pick None a asks answered = (
      λ e. absurd (true≢false (sym e)),
      λ fits. absurd (true≢false (sym (ap is_some (sym asks ∙ fits.requested)))),
    )
    pick (Some o) true asks answered = (
      λ e. absurd (true≢false (sym e)),
      λ fits. absurd (true≢false (sym answered ∙ ap is_some fits.unanswered)),
    )
    pick (Some o) false asks answered = (
      λ _. record { op = o; requested = asks; unanswered = nothing_answered _ answered },
      λ _. refl,
    )

pub checkpoint_test : (log : List Record) (low end : ℕ) → IsLatest (FitsCheckpoint log) end
    → IsTrue (nat_le low end) ↔ FitsCheckpoint log low
checkpoint_test log low end latest = (
  λ e. let below : low ≤ end = leb-true low end e in record {
    within = omega (arith, below, latest.is.within);
    answered = λ n o under asks. latest.is.answered n o (omega (arith, under, below)) asks;
  },
  λ fits. le-leb low end (latest.greatest low fits),
)

pub end_test : (log : List Record) (t s left : ℕ) → IsLegal log → ReadyOf log t (Some s)
    → left ≡ undo_from (record_at log s) s → IsTrue (nat_eq left 0) ↔ FitsEnd log t
end_test log t s left legal ready is =
    let P : ℕ → Type 0 = IsLatestOrNone (Stands log t) in
    let found : P left = subst P (sym is) (latest_found log t legal s ready.0.latest) in
    let test = is_none (Stands log t) left (λ h. omega (arith, (stands_number log t 0 h).positive)) found in
    (λ e. record { open_txn = ready.0.is_open; idle = ready.1; undone = test.0 e }, λ fits. test.1 fits.undone)

pub comp_test : (log : List Record) (t s u x : ℕ) (i : Option Op) (b : Bool) → IsLegal log → ReadyOf log t (Some s)
    → u ≢ 0 → undo_from (record_at log s) s ≡ u
    → undo_from (record_at log (prev_in (record_at log u))) (prev_in (record_at log u)) ≡ x
    → IsTrue b ↔ Inverts log u i → IsTrue b ↔ FitsComp log t u x i
comp_test log t s u x i b legal ready some left below test =
    let P : ℕ → Type 0 = IsLatestOrNone (Stands log t) in
    let latest = latest_some (Stands log t) u some (subst P left (latest_found log t legal s ready.0.latest)) in
    let Q : ℕ → Type 0 = IsLatestOrNone (λ n. Stands log t n × (n < u)) in (
      λ e. record {
        open_txn = ready.0.is_open;
        idle = ready.1;
        latest = latest;
        next = subst Q below
            (earlier_found log t u legal latest.is);
        inverse = test.0 e;
      },
      λ fits. test.1 fits.inverse,
    )

pub comp_next : (log : List Record) (t u x y : ℕ) (i : Option Op) → IsLegal log
    → undo_from (record_at log (prev_in (record_at log u))) (prev_in (record_at log u)) ≡ y → (y ≡ x → ⊥)
    → FitsComp log t u x i → ⊥
comp_next log t u x y i legal below apart fits =
    apart (sym below ∙ latest_unique (λ n. Stands log t n
    × (n < u)) _ x (earlier_found log t u legal fits.latest.is) fits.next)

-- nothing is left at 0, and what is left is the latest
pub comp_zero : (log : List Record) (t u x : ℕ) (i : Option Op) → u ≡ 0 → FitsComp log t u x i → ⊥
comp_zero log t u x i zero fits = omega (arith, zero, (stands_number log t u fits.latest.is).positive)

pub comp_latest : (log : List Record) (t s u x left : ℕ) (i : Option Op) → IsLegal log → ReadyOf log t (Some s)
    → left ≡ undo_from (record_at log s) s → (left ≡ u → ⊥)
    → FitsComp log t u x i → ⊥
comp_latest log t s u x left i legal ready is apart fits =
    apart (is ∙ latest_unique (Stands log t) _ u (latest_found log t legal s ready.0.latest) (inl fits.latest))
