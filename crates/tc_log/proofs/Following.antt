-- The index by transaction and by key is right again after each record that fits.
use Rattle.std.proofs.Common.{◌≡◌, ◌≢◌, ℕ, ◌+◌, true, false, List, [], ◌∷◌, ◌++◌, length, Option, Some, None, refl, sym, ap, ◌∙◌, subst, arith, inl, inr, ◌⊎◌, Bool, true≢false, eq-eqb, eqb-true, ne_eqb, cond, filter, not, is_some, MatchBool}
use Rattle.std.specs.Cmp.{Equal-is}
use Rattle.std.specs.Prelude.{◌||◌, ◌==◌, if◌then◌else◌}
use Rattle.std.proofs.lemmas.Bool.{cases_eq, cases_Bool, and_from, or_cases, or_left, or_right}
use Rattle.std.specs.Ordering.{is_eq}
use Rattle.record_key.specs.declared.op.Op.{Op}
use Rattle.record_key.specs.Laws.{key_cmp}
use Rattle.record_key.specs.Table.{Bytes, key_of, is_add}
use Rattle.history.specs.declared.record.Record.{Record}
use Rattle.history.specs.declared.record.Record.TheVariants as is
use Rattle.history.specs.Log.{record_at, has_ended, IsOpen, IsStepOf, IsOpBy}
use Rattle.history.specs.Legal.{Fits, FitsCheckpoint, IsLegal}
use Rattle.log_laws.proofs.Records.{AStep, AnOp, IsNumber, op_step, op_same, at_newest, newest_at, older_at, kept_at, which, not_newest}
use Rattle.log_laws.proofs.LegalLogs.{begun_number, begun, ended_cases, step_number, op_number}
use Rattle.log_laws.proofs.Named.{open_begun, open_kept, open_had}
use Rattle.log_laws.proofs.Undo.{latest_as}
use Rattle.std.proofs.lemmas.Cmp.{nat_list_cmp_total, tied_itself}
use Rattle.std.proofs.lemmas.Map.Lookups.{exact_bytes}
use Rattle.tc_log.specs.declared.replay.Index.{Index}
use Rattle.tc_log.specs.Adders.{stays, PutsAdders}
use Rattle.tc_log.specs.NotSession.{last_with}
use Rattle.tc_log.proofs.NotSession.{last_longer}
use Rattle.history.specs.History.{is_among}
use Rattle.tc_log.specs.Replay.{IsIndex, IsAnalysis, TakesIn, latest_in, holder_in, adders_of, KeptOf, KeptOn, AddsTo, AddedBy, Puts, Follows, Holds, Gains}

-- the record neither begins nor ends the transaction, and is no step of it
record Apart (r : Record) (log : List Record) (t : ℕ) : Type 0 where
  other_step : AStep t (Some r) → ⊥
  begins_none : r ≡ is.Begin → t ≢ length log + 1
  commits_none : r ≡ is.Commit t → ⊥
  ends_none : r ≡ is.End t → ⊥

module _ (r : Record) (log : List Record) where
  pub goes_on : (t : ℕ) → (r ≡ is.Commit t → ⊥) → (r ≡ is.End t → ⊥) → has_ended log t ≡ false
      → has_ended (r ∷ log) t ≡ false
  goes_on t commits ends h =
      elim (cases_Bool (has_ended (r ∷ log) t)) [
        | inl ended ↦ elim (ended_cases t r log ended) [
          | inl was ↦ absurd (true≢false (sym was ∙ h))
          | inr now ↦ elim now [ inl c ↦ absurd (commits c) | inr e ↦ absurd (ends e) ]
        ]
        | inr h' ↦ h'
      ]

  -- what is open now was open, unless it begins
  pub was_open : (t : ℕ) → (r ≡ is.Begin → t ≢ length log + 1) → IsOpen (r ∷ log) t → IsOpen log t
  was_open t begins h =
      elim (which r log t (begun_number (r ∷ log) t h.begun)) [
        | inl e ↦ let now : Some r ≡ Some is.Begin = newest_at (λ x. x ≡ Some is.Begin) r log t e h.begun in
            let same : r ≡ is.Begin = cc in absurd (begins same e)
        | inr number ↦ open_had r log t number h
      ]

  steps_there : (t : ℕ) → (AStep t (Some r) → ⊥) → (n : ℕ) → IsStepOf (r ∷ log) t n → IsStepOf log t n
  steps_there t other n h = elim (cases_eq n (length log + 1))
      [ inl e ↦ absurd (other (newest_at (AStep t) r log n e h)) | inr e ↦ older_at (AStep t) r log n e h ]

  steps_back : (t : ℕ) → (n : ℕ) → IsStepOf log t n → IsStepOf (r ∷ log) t n
  steps_back t n h = kept_at (AStep t) r log n (step_number log n t h) h

  -- so what is kept of such a transaction stays right
  of_other : (t : ℕ) → Apart r log t → (o : Option ℕ) → KeptOf log t o → KeptOf (r ∷ log) t o
  of_other t apart (Some s) h = record {
    is_open = open_kept r log t h.is_open (goes_on t apart.commits_none apart.ends_none h.is_open.goes_on);
    latest = latest_as (IsStepOf log t) (IsStepOf (r ∷ log) t) (steps_back t) (steps_there t apart.other_step) s
        h.latest;
  }
  of_other t apart None h = λ now. h (was_open t apart.begins_none now)

  -- a transaction's own step is its latest
  of_step : (t : ℕ) → AStep t (Some r) → IsOpen log t → has_ended (r ∷ log) t ≡ false
      → KeptOf (r ∷ log) t (Some (length log + 1))
  of_step t step opened on = record {
    is_open = open_kept r log t opened on;
    latest = inl (record {
      is = at_newest (AStep t) r log (length log + 1) refl step;
      greatest = λ m h. omega
          (arith, (step_number (r ∷ log) m t h).bounded);
    });
  }

of_begun : (log : List Record) → IsLegal log → KeptOf (is.Begin ∷ log) (length log + 1) (Some 0)
of_begun log legal = record {
  is_open = open_begun log legal;
  latest = inr (
    refl,
    λ m h.
        let was : IsStepOf log (length log + 1) m = steps_there is.Begin log (length log + 1) (λ s. cc) m h in
        not_newest log (length log + 1) (begun_number log (length log + 1) (begun log (length log + 1) m legal was))
        refl,
  );
}

of_ended : (r : Record) (log : List Record) (t : ℕ) → has_ended (r ∷ log) t ≡ true → KeptOf (r ∷ log) t None
of_ended r log t ended h = true≢false (sym ended ∙ h.goes_on)

-- what was written at one key is right at each
put_of : (r : Record) (log : List Record) (k : ℕ) (v : Option ℕ) (old new : ℕ → Option ℕ) → Puts ℕ old new k v
    → ((t : ℕ) → KeptOf log t (old t)) → KeptOf (r ∷ log) k v
    → ((t : ℕ) → t ≢ k → Apart r log t) → (t : ℕ) → KeptOf (r ∷ log) t (new t)
put_of r log k v old new puts was at_key apart t =
    elim (cases_eq t k) [
      | inl e ↦ let P : ℕ → Type 0 = λ q. KeptOf (r ∷ log) q (new q) in
          let Q : Option ℕ → Type 0 = λ o. KeptOf (r ∷ log) k o in subst P (sym e) (subst Q (sym puts.here) at_key)
      | inr e ↦ let Q : Option ℕ → Type 0 = λ o. KeptOf (r ∷ log) t o in
          subst Q (sym (puts.elsewhere t e)) (of_other r log t (apart t e) (old t) (was t))
    ]

same_of : (r : Record) (log : List Record) (old new : ℕ → Option ℕ) → ((t : ℕ) → new t ≡ old t)
    → ((t : ℕ) → KeptOf log t (old t)) → ((t : ℕ) → Apart r log t)
    → (t : ℕ) → KeptOf (r ∷ log) t (new t)
same_of r log old new same was apart t = let Q : Option ℕ → Type 0 = λ o. KeptOf (r ∷ log) t o in
    subst Q (sym (same t)) (of_other r log t (apart t) (old t) (was t))

ends_now : (t : ℕ) (b : Bool) → ((t == t) || b) ≡ true
ends_now t b = ap (λ (c : Bool). c || b) (eq-eqb t t refl)

pub follows : (r : Record) (log : List Record) (old new : ℕ → Option ℕ) → IsLegal log → Fits log r
    → Follows r (length log + 1) old new → ((t : ℕ) → KeptOf log t (old t))
    → (t : ℕ) → KeptOf (r ∷ log) t (new t)
follows is.Session log old new legal fits same was =
    same_of is.Session log old new same was
    (λ t. record {
      other_step = λ s. cc;
      begins_none = λ e. absurd (cc);
      commits_none = λ e. cc;
      ends_none = λ e.
          cc;
    })
follows is.Begin log old new legal fits puts was =
    put_of is.Begin log (length log + 1) (Some 0) old new puts was (of_begun log legal)
    (λ t e. record { other_step = λ s. cc; begins_none = λ _. e; commits_none = λ f. cc; ends_none = λ f. cc })
follows (is.Op u p o) log old new legal fits puts was =
    put_of (is.Op u p o) log u (Some (length log + 1)) old new puts was
    (of_step (is.Op u p o) log u refl fits.open_txn fits.open_txn.goes_on)
    (λ t e. record {
      other_step = λ s. e (cc);
      begins_none = λ f. absurd (cc);
      commits_none = λ f. cc;
      ends_none =
          λ f. cc;
    })
follows (is.Comp u w x i) log old new legal fits puts was =
    put_of (is.Comp u w x i) log u (Some (length log + 1)) old new puts was
    (of_step (is.Comp u w x i) log u refl fits.open_txn fits.open_txn.goes_on)
    (λ t e. record {
      other_step = λ s. e (cc);
      begins_none = λ f. absurd (cc);
      commits_none = λ f. cc;
      ends_none =
          λ f. cc;
    })
follows (is.Answer n a) log old new legal fits same was =
    same_of (is.Answer n a) log old new same was
    (λ t. record {
      other_step = λ s. cc;
      begins_none = λ e. absurd (cc);
      commits_none = λ e. cc;
      ends_none = λ e.
          cc;
    })
follows (is.Commit u) log old new legal fits puts was =
    put_of (is.Commit u) log u None old new puts was (of_ended (is.Commit u) log u (ends_now u (has_ended log u)))
    (λ t e. record {
      other_step = λ s. cc;
      begins_none = λ f. absurd (cc);
      commits_none = λ f. e (cc);
      ends_none =
          λ f. cc;
    })
follows (is.End u) log old new legal fits puts was =
    put_of (is.End u) log u None old new puts was (of_ended (is.End u) log u (ends_now u (has_ended log u)))
    (λ t e. record {
      other_step = λ s. cc;
      begins_none = λ f. absurd (cc);
      commits_none = λ f. cc;
      ends_none = λ f. e
          (cc);
    })
follows (is.Checkpoint l) log old new legal fits same was =
    same_of (is.Checkpoint l) log old new same was
    (λ t. record {
      other_step = λ s. cc;
      begins_none = λ e. absurd (cc);
      commits_none = λ e. cc;
      ends_none = λ e.
          cc;
    })

-- ---- keys

module _ (r : Record) (log : List Record) (legal : IsLegal log) where
  -- who is open and has an older operation was open
  holder_open : (n u : ℕ) (o : Op) → IsOpBy log n u o → IsOpen (r ∷ log) u → IsOpen log u
  holder_open n u o op h =
      let number : IsNumber log u = begun_number log u (begun log u n legal (op_step u o (record_at log n) op)) in
      open_had r log u number h

  -- no operation on the key is new
  on_other : (k : Bytes) → ((u : ℕ) (o : Op) → AnOp u o (Some r) → is_add o ≡ false → key_of o ≢ k) → (v : Option ℕ)
      → KeptOn log k v
      → KeptOn (r ∷ log) k v
  on_other k none (Some t) h = record {
    number = h.number;
    op = h.op;
    is = kept_at (AnOp t h.op) r log h.number (op_number log h.number t h.op h.is) h.is;
    on_key = h.on_key;
    plain = h.plain;
    only = λ n u o op key plain opened. elim (cases_eq n (length log + 1)) [
      | inl e ↦ absurd (none u o (newest_at (AnOp u o) r log n e op) plain key)
      | inr e ↦ let was : IsOpBy log n u o = older_at (AnOp u o) r log n e op in
          h.only n u o was key plain (holder_open n u o was opened)
    ];
  }
  on_other k none None h = λ n u o op key plain opened. elim (cases_eq n (length log + 1)) [
    | inl e ↦ none u o (newest_at (AnOp u o) r log n e op) plain key
    | inr e ↦ let was : IsOpBy log n u o = older_at (AnOp u o) r log n e op in
        h n u o was key plain (holder_open n u o was opened)
  ]

  same_on : (old new : Bytes → Option ℕ) → ((k : Bytes) → new k ≡ old k)
      → ((u : ℕ) (o : Op) → AnOp u o (Some r) → is_add o ≡ false → ⊥)
      → ((k : Bytes) → KeptOn log k (old k))
      → (k : Bytes) → KeptOn (r ∷ log) k (new k)
  same_on old new same none was k = let Q : Option ℕ → Type 0 = λ v. KeptOn (r ∷ log) k v in
      subst Q (sym (same k)) (on_other k (λ u o op plain _. none u o op plain) (old k) (was k))

-- the transaction of the newest operation on a key is the only one that may hold it
on_newest : (log : List Record) (t p : ℕ) (o : Op) → IsLegal log → Fits log (is.Op t p o) → is_add o ≡ false
    → KeptOn (is.Op t p o ∷ log) (key_of o) (Some t)
on_newest log t p o legal fits plain =
    let r : Record = is.Op t p o in
    record {
      number = length log + 1;
      op = o;
      is = at_newest (AnOp t o) r log (length log + 1) refl refl;
      on_key = refl;
      plain = plain;
      only = λ n u q op key plain_q opened. elim (cases_eq n (length log + 1)) [
        | inl e ↦ sym (op_same t u o q (Some r) refl (newest_at (AnOp u q) r log n e op)).0
        | inr e ↦ let was : IsOpBy log n u q = older_at (AnOp u q) r log n e op in
            elim (fits.free n u q was key (holder_open r log legal n u q was opened))
            [ inl mine ↦ mine | inr both ↦ absurd (true≢false (sym both.0 ∙ plain)) ]
      ];
    }

itself : (a : Bytes) → is_eq (key_cmp a a) ≡ true
itself a = ap is_eq (tied_itself nat_list_cmp_total a)

key_cases : (a b : Bytes) → (a ≡ b) ⊎ (a ≢ b)
key_cases a b = elim (cases_Bool (is_eq (key_cmp a b))) [
  | inl same ↦ inl (exact_bytes a b ((Equal-is (key_cmp a b)).0 same))
  | inr other ↦ inr (λ e. true≢false (sym (itself a)
      ∙ ap (λ (x : Bytes). is_eq (key_cmp a x)) e ∙ other))
]

-- an operation on a key, and an Add
held_op : (log : List Record) (t p : ℕ) (o : Op) (old new : Bytes → Option ℕ) → IsLegal log → Fits log (is.Op t p o)
    → (b : Bool) → is_add o ≡ b
    → MatchBool b ((k : Bytes) → new k ≡ old k) (Puts Bytes old new (key_of o) (Some t))
    → ((k : Bytes) → KeptOn log k (old k))
    → (k : Bytes) → KeptOn (is.Op t p o ∷ log) k (new k)
held_op log t p o old new legal fits true add same was =
    same_on (is.Op t p o) log legal old new same (λ u q op plain. true≢false
    (sym (ap is_add (sym (op_same t u o q (Some (is.Op t p o)) refl op).1) ∙ add) ∙ plain)) was
held_op log t p o old new legal fits false plain puts was = λ k.
    elim (key_cases k (key_of o)) [
      | inl e ↦
          let P : Bytes → Type 0 = λ q. KeptOn (is.Op t p o ∷ log) q (new q) in
          let Q : Option ℕ → Type 0 = λ v. KeptOn (is.Op t p o ∷ log) (key_of o) v in
          subst P (sym e) (subst Q (sym puts.here) (on_newest log t p o legal fits plain))
      | inr e ↦
          let Q : Option ℕ → Type 0 = λ v. KeptOn (is.Op t p o ∷ log) k v in
          subst Q (sym (puts.elsewhere k e))
          (on_other (is.Op t p o) log legal k (λ u q op _ key. e (sym key
          ∙ ap key_of (sym (op_same t u o q (Some (is.Op t p o)) refl op).1))) (old k) (was k))
    ]

pub holds : (r : Record) (log : List Record) (old new : Bytes → Option ℕ) → IsLegal log → Fits log r → Holds r old new
    → ((k : Bytes) → KeptOn log k (old k))
    → (k : Bytes) → KeptOn (r ∷ log) k (new k)
holds (is.Op t p o) log old new legal fits puts was =
    held_op log t p o old new legal fits (is_add o) refl puts was
holds is.Session log old new legal fits same was = same_on is.Session log legal old new same (λ u o op _. cc) was
holds is.Begin log old new legal fits same was = same_on is.Begin log legal old new same (λ u o op _. cc) was
holds (is.Comp u w x i) log old new legal fits same was = same_on (is.Comp u w x i) log legal old new same
    (λ v o op _. cc) was
holds (is.Answer n a) log old new legal fits same was = same_on (is.Answer n a) log legal old new same
    (λ v o op _. cc) was
holds (is.Commit u) log old new legal fits same was = same_on (is.Commit u) log legal old new same (λ v o op _. cc) was
holds (is.End u) log old new legal fits same was = same_on (is.End u) log legal old new same (λ v o op _. cc) was
holds (is.Checkpoint l) log old new legal fits same was = same_on (is.Checkpoint l) log legal old new same
    (λ v o op _. cc) was

-- ---- Adds

among_more : (u t : ℕ) (us : List ℕ) → is_among u us ≡ true → is_among u (us ++ t ∷ []) ≡ true
among_more u t [] h = absurd (true≢false (sym h))
among_more u t (v ∷ us) h = elim (or_cases (v == u) (is_among u us) h) [
  | inl same ↦ or_left (v == u) (is_among u (us ++ t ∷ [])) same
  | inr rest ↦ or_right (v == u) (is_among u (us ++ t ∷ [])) (among_more u t us rest)
]

among_last : (t : ℕ) (us : List ℕ) → is_among t (us ++ t ∷ []) ≡ true
among_last t [] = or_left (t == t) false (eq-eqb t t refl)
among_last t (v ∷ us) = or_right (v == t) (is_among t (us ++ t ∷ [])) (among_last t us)

among_split : (u t : ℕ) (us : List ℕ) → is_among u (us ++ t ∷ []) ≡ true → (is_among u us ≡ true) ⊎ (t ≡ u)
among_split u t [] h = elim (or_cases (t == u) false h) [
  | inl same ↦ inr (eqb-true t u same)
  | inr none ↦ absurd (true≢false (sym none))
]
among_split u t (v ∷ us) h = elim (or_cases (v == u) (is_among u (us ++ t ∷ [])) h) [
  | inl same ↦ inl (or_left (v == u) (is_among u us) same)
  | inr rest ↦ elim (among_split u t us rest) [
    | inl old ↦ inl (or_right (v == u) (is_among u us) old)
    | inr last ↦ inr last
  ]
]

-- what a test leaves of a list was there, and what passes it is left
unfiltered_one : (b : Bool) (u v : ℕ) (us left : List ℕ) → (is_among u left ≡ true → is_among u us ≡ true)
    → is_among u (cond b (v ∷ left) left) ≡ true → is_among u (v ∷ us) ≡ true
unfiltered_one true u v us left was h = elim (or_cases (v == u) (is_among u left) h) [
  | inl same ↦ or_left (v == u) (is_among u us) same
  | inr rest ↦ or_right (v == u) (is_among u us) (was rest)
]
unfiltered_one false u v us left was h = or_right (v == u) (is_among u us) (was h)

among_unfiltered : (p : ℕ → Bool) (u : ℕ) (us : List ℕ) → is_among u (filter p us) ≡ true → is_among u us ≡ true
among_unfiltered p u [] h = h
among_unfiltered p u (v ∷ us) h = unfiltered_one (p v) u v us (filter p us) (among_unfiltered p u us) h

filtered_one : (b : Bool) (u v : ℕ) (left : List ℕ) → ((v ≡ u) × (b ≡ true)) ⊎ (is_among u left ≡ true)
    → is_among u (cond b (v ∷ left) left) ≡ true
filtered_one true u v left (inl first) = or_left (v == u) (is_among u left) (eq-eqb v u first.0)
filtered_one true u v left (inr rest) = or_right (v == u) (is_among u left) rest
filtered_one false u v left (inl first) = absurd (true≢false (sym first.1))
filtered_one false u v left (inr rest) = rest

among_filtered : (p : ℕ → Bool) (u : ℕ) (us : List ℕ) → p u ≡ true → is_among u us ≡ true
    → is_among u (filter p us) ≡ true
among_filtered p u [] passes h = h
among_filtered p u (v ∷ us) passes h =
    filtered_one (p v) u v (filter p us) (elim (or_cases (v == u) (is_among u us) h) [
      | inl same ↦ let e : v ≡ u = eqb-true v u same in inl (e, ap p e ∙ passes)
      | inr rest ↦ inr (among_filtered p u us passes rest)
    ])

-- another that is open stays
stays_open : (log : List Record) (latest : ℕ → Option ℕ) (t u : ℕ) → KeptOf log u (latest u) → u ≢ t → IsOpen log u
    → stays latest t u ≡ true
stays_open log latest t u kept apart opened =
    and_from (not (u == t)) (is_some (latest u)) (ap not (ne_eqb u t apart)) (by (latest u) kept)
  where
    by : (v : Option ℕ) → KeptOf log u v → is_some v ≡ true
    by None shut = absurd (shut opened)
    by (Some s) at = refl

-- an Add stays, and is the newest record's or was there
adds_longer : (r : Record) (log : List Record) (k : Bytes) (u : ℕ) → AddsTo log k u → AddsTo (r ∷ log) k u
adds_longer r log k u h = record {
  number = h.number;
  op = h.op;
  is = kept_at (AnOp u h.op) r log h.number (op_number log h.number u h.op h.is) h.is;
  on_key = h.on_key;
  adds = h.adds;
}

-- where no Add on the key is new, who is listed and who has to be is as before
added_same : (r : Record) (log : List Record) (k : Bytes) (v w : Option ℕ) (us : List ℕ) → IsLegal log
    → ((u : ℕ) (o : Op) → AnOp u o (Some r) → is_add o ≡ true → key_of o ≢ k)
    → v ≡ w
    → AddedBy log k v us → AddedBy (r ∷ log) k w us
added_same r log k v w us legal none same h = record {
  each = λ u among. adds_longer r log k u (h.each u among);
  all = λ u has opened. elim (cases_eq has.number (length log + 1)) [
    | inl e ↦ absurd (none u has.op (newest_at (AnOp u has.op) r log has.number e has.is) has.adds has.on_key)
    | inr e ↦
        let was : IsOpBy log has.number u has.op = older_at (AnOp u has.op) r log has.number e has.is in
        elim (h.all u (record { number = has.number; op = has.op; is = was; on_key = has.on_key; adds = has.adds })
        (holder_open r log legal has.number u has.op was opened))
        [ inl held ↦ inl (sym same ∙ held) | inr listed ↦ inr listed ]
  ];
}

-- one Add more
added_one : (log : List Record) (t p : ℕ) (o : Op) (latest : ℕ → Option ℕ) (v w : Option ℕ) (us : List ℕ)
    → IsLegal log → is_add o ≡ true → ((u : ℕ) → KeptOf (is.Op t p o ∷ log) u (latest u)) → v ≡ w
    → AddedBy log (key_of o) v us
    → AddedBy (is.Op t p o ∷ log) (key_of o) w (filter (stays latest t) us ++ t ∷ [])
added_one log t p o latest v w us legal add kept same h =
    let r : Record = is.Op t p o in
    let left : List ℕ = filter (stays latest t) us in
    record {
      each = λ u among. elim (among_split u t left among) [
        | inl old ↦ adds_longer r log (key_of o) u (h.each u (among_unfiltered (stays latest t) u us old))
        | inr last ↦ subst (AddsTo (r ∷ log) (key_of o)) last (record {
          number = length log + 1;
          op = o;
          is = at_newest (AnOp t o) r log (length log + 1) refl refl;
          on_key = refl;
          adds = add;
        })
      ];
      all = λ u has opened. elim (cases_eq has.number (length log + 1)) [
        | inl e ↦
            let one : t ≡ u =
            (op_same t u o has.op (Some r) refl (newest_at (AnOp u has.op) r log has.number e has.is)).0 in
            inr (subst (λ (z : ℕ). is_among z (left ++ t ∷ []) ≡ true) one (among_last t left))
        | inr e ↦
            let was : IsOpBy log has.number u has.op = older_at (AnOp u has.op) r log has.number e has.is in
            elim (h.all u (record { number = has.number; op = has.op; is = was; on_key = has.on_key; adds = has.adds })
            (holder_open r log legal has.number u has.op was opened)) [
              | inl held ↦ inl (sym same ∙ held)
              | inr listed ↦ inr (elim (cases_eq u t) [
                | inl mine ↦ subst (λ (z : ℕ). is_among z (left ++ t ∷ []) ≡ true) (sym mine) (among_last t left)
                | inr other ↦ among_more u t left (among_filtered (stays latest t) u us
                    (stays_open (r ∷ log) latest t u (kept u) other opened) listed)
              ])
            ]
      ];
    }

-- after another operation only its transaction may have Adds on the key and be open
added_none : (log : List Record) (t p : ℕ) (o : Op) (w : Option ℕ) → IsLegal log → Fits log (is.Op t p o)
    → is_add o ≡ false → w ≡ Some t
    → AddedBy (is.Op t p o ∷ log) (key_of o) w []
added_none log t p o w legal fits plain holder =
    let r : Record = is.Op t p o in
    record {
      each = λ u among. absurd (true≢false (sym among));
      all = λ u has opened. inl (holder ∙ ap Some (elim (cases_eq has.number (length log + 1)) [
        | inl e ↦ (op_same t u o has.op (Some r) refl (newest_at (AnOp u has.op) r log has.number e has.is)).0
        | inr e ↦
            let was : IsOpBy log has.number u has.op = older_at (AnOp u has.op) r log has.number e has.is in
            elim (fits.free has.number u has.op was has.on_key
            (holder_open r log legal has.number u has.op was opened))
            [ inl mine ↦ sym mine | inr both ↦ absurd (true≢false (sym both.0 ∙ plain)) ]
      ]));
    }

-- an operation on a key
gained_op : (log : List Record) (t p : ℕ) (o : Op) (latest : ℕ → Option ℕ) (old new : Bytes → Option ℕ)
    (had has : Bytes → List ℕ) → IsLegal log → Fits log (is.Op t p o)
    → ((u : ℕ) → KeptOf (is.Op t p o ∷ log) u (latest u)) → (b : Bool) → is_add o ≡ b
    → MatchBool b ((k : Bytes) → new k ≡ old k) (Puts Bytes old new (key_of o) (Some t))
    → PutsAdders had has (key_of o) (if b then filter (stays latest t) (had (key_of o)) ++ t ∷ [] else [])
    → ((k : Bytes) → AddedBy log k (old k) (had k))
    → (k : Bytes) → AddedBy (is.Op t p o ∷ log) k (new k) (has k)
gained_op log t p o latest old new had has legal fits kept b adds keeps puts was k =
    elim (key_cases k (key_of o)) [
      | inl e ↦
          let P : Bytes → Type 0 = λ q. AddedBy (is.Op t p o ∷ log) q (new q) (has q) in
          let Q : List ℕ → Type 0 = λ us. AddedBy (is.Op t p o ∷ log) (key_of o) (new (key_of o)) us in
          subst P (sym e) (subst Q (sym puts.here) (here b adds keeps))
      | inr e ↦
          let Q : List ℕ → Type 0 = λ us. AddedBy (is.Op t p o ∷ log) k (new k) us in
          subst Q (sym (puts.elsewhere k e))
          (added_same (is.Op t p o) log k (old k) (new k) (had k) legal
          (λ u q op _ key. e (sym key ∙ ap key_of (sym (op_same t u o q (Some (is.Op t p o)) refl op).1)))
          (sym (holder_at b keeps e)) (was k))
    ]
  where
    here : (b : Bool) → is_add o ≡ b
        → MatchBool b ((k : Bytes) → new k ≡ old k) (Puts Bytes old new (key_of o) (Some t))
        → AddedBy (is.Op t p o ∷ log) (key_of o) (new (key_of o))
        (if b then filter (stays latest t) (had (key_of o)) ++ t ∷ [] else [])
    here true add same = added_one log t p o latest (old (key_of o)) (new (key_of o)) (had (key_of o)) legal add kept
        (sym (same (key_of o))) (was (key_of o))
    here false plain keeps = added_none log t p o (new (key_of o)) legal fits plain keeps.here

    holder_at : (b : Bool) → MatchBool b ((k : Bytes) → new k ≡ old k) (Puts Bytes old new (key_of o) (Some t))
        → k ≢ key_of o → new k ≡ old k
    holder_at true same e = same k
    holder_at false keeps e = keeps.elsewhere k e

-- any record that isn't one
gained_same : (r : Record) (log : List Record) (old new : Bytes → Option ℕ) (had has : Bytes → List ℕ) → IsLegal log
    → ((u : ℕ) (o : Op) → AnOp u o (Some r) → ⊥) → ((k : Bytes) → new k ≡ old k) → ((k : Bytes) → has k ≡ had k)
    → ((k : Bytes) → AddedBy log k (old k) (had k))
    → (k : Bytes) → AddedBy (r ∷ log) k (new k) (has k)
gained_same r log old new had has legal none holder same was k =
    let Q : List ℕ → Type 0 = λ us. AddedBy (r ∷ log) k (new k) us in
    subst Q (sym (same k)) (added_same r log k (old k) (new k) (had k) legal (λ u o op _ _. none u o op)
    (sym (holder k)) (was k))

pub gains : (r : Record) (log : List Record) (latest : ℕ → Option ℕ) (old new : Bytes → Option ℕ)
    (had has : Bytes → List ℕ) → IsLegal log → Fits log r → ((u : ℕ) → KeptOf (r ∷ log) u (latest u))
    → Holds r old new → Gains r latest had has
    → ((k : Bytes) → AddedBy log k (old k) (had k))
    → (k : Bytes) → AddedBy (r ∷ log) k (new k) (has k)
gains (is.Op t p o) log latest old new had has legal fits kept keeps puts was =
    gained_op log t p o latest old new had has legal fits kept (is_add o) refl keeps puts was
gains is.Session log latest old new had has legal fits kept holder same was =
    gained_same is.Session log old new had has legal (λ u o op. cc) holder same was
gains is.Begin log latest old new had has legal fits kept holder same was =
    gained_same is.Begin log old new had has legal (λ u o op. cc) holder same was
gains (is.Comp u w x i) log latest old new had has legal fits kept holder same was =
    gained_same (is.Comp u w x i) log old new had has legal (λ v o op. cc) holder same was
gains (is.Answer n a) log latest old new had has legal fits kept holder same was =
    gained_same (is.Answer n a) log old new had has legal (λ v o op. cc) holder same was
gains (is.Commit u) log latest old new had has legal fits kept holder same was =
    gained_same (is.Commit u) log old new had has legal (λ v o op. cc) holder same was
gains (is.End u) log latest old new had has legal fits kept holder same was =
    gained_same (is.End u) log old new had has legal (λ v o op. cc) holder same was
gains (is.Checkpoint l) log latest old new had has legal fits kept holder same was =
    gained_same (is.Checkpoint l) log old new had has legal (λ v o op. cc) holder same was

-- ---- who held a key is forgotten while no transaction is open

pub forgotten : (log : List Record) (old new : Index) → IsIndex log old → ((t : ℕ) → latest_in old t ≡ None)
    → new.analysis ≡ old.analysis → ((k : Bytes) → holder_in new k ≡ None) → ((k : Bytes) → adders_of new k ≡ [])
    → new.answered ≡ old.answered → new.last_not_session ≡ old.last_not_session
    → IsIndex log new
forgotten log old new h none same keys adders answered last =
    let shut : (u : ℕ) → IsOpen log u → ⊥ = λ u. subst (KeptOf log u) (none u) (h.analysis.open_txns u) in
    record {
      legal = h.legal;
      analysis = subst (IsAnalysis log) (sym same) h.analysis;
      held_keys = λ k. subst (KeptOn log k) (sym (keys k)) (λ n u o op key plain opened. shut u opened);
      added_keys = λ k. subst (AddedBy log k (holder_in new k)) (sym (adders k)) (record {
        each = λ u among. absurd (true≢false (sym among));
        all = λ u has opened. absurd (shut u opened);
      });
      answered = subst (FitsCheckpoint log) (sym answered) h.answered;
      last = last ∙ h.last;
    }

-- ---- both

pub followed : (log : List Record) (r : Record) (number : ℕ) (old new : Index) → IsIndex log old → Fits log r
    → number ≡ length log + 1 → TakesIn r number old.analysis new.analysis → Holds r (holder_in old) (holder_in new)
    → Gains r (latest_in new) (adders_of old) (adders_of new)
    → FitsCheckpoint (r ∷ log) new.answered → new.last_not_session ≡ last_with r number old.last_not_session
    → IsIndex (r ∷ log) new
followed log r number old new h fits is takes keys adders answered last =
    let kept : IsAnalysis (r ∷ log) new.analysis = takes log h.analysis (fits, h.legal) is in
    record {
      legal = (fits, h.legal);
      analysis = kept;
      held_keys = holds r log (holder_in old) (holder_in new) h.legal fits keys h.held_keys;
      added_keys = gains r log (latest_in new) (holder_in old) (holder_in new) (adders_of old) (adders_of new) h.legal
          fits kept.open_txns keys adders h.added_keys;
      answered = answered;
      last = last ∙ last_longer r log number old.last_not_session is h.last;
    }
