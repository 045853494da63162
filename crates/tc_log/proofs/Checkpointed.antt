-- The greatest number that a Checkpoint record names stays known as records are read.
use Rattle.std.proofs.Common.{◌≡◌, ℕ, ◌+◌, ◌<◌, ◌≤◌, ◌⊎◌, List, ◌∷◌, length, Some, refl, sym, ap, ◌∙◌, subst, arith, inl, inr}
use Rattle.std.proofs.lemmas.Bool.{cases_eq, cases_lt, lt-ltb, le-ltb}
use Rattle.history.specs.declared.record.Record.{Record}
use Rattle.history.specs.declared.record.Record.TheVariants as is
use Rattle.history.specs.Log.{record_at}
use Rattle.history.specs.Legal.{IsLatestOrNone}
use Rattle.log_laws.proofs.Records.{newest_at, older_at, kept_at, within, record_new}
use Rattle.log_laws.proofs.Undo.{latest_as}
use Rattle.tc_log.specs.Checkpointed.{IsCheckpointed, raised_by}

-- a record that names a number in this way
abbrev pub Named : (ℕ → Record) → List Record → ℕ → Type 0
Named f log n = (m : ℕ) × (record_at log m ≡ Some (f n))

module _ (f : ℕ → Record) (r : Record) (log : List Record) (n : ℕ) where
  pub named_back : Named f (r ∷ log) n → (r ≡ f n) ⊎ Named f log n
  named_back h =
      elim (cases_eq h.0 (length log + 1)) [
        | inl e ↦ let same : Some r ≡ Some (f n) = newest_at (λ x. x ≡ Some (f n)) r log h.0 e h.1 in inl (cc)
        | inr e ↦ inr (h.0, older_at (λ x. x ≡ Some (f n)) r log h.0 e h.1)
      ]

  pub named_kept : Named f log n → Named f (r ∷ log) n
  named_kept h =
      let number = within (λ x. x ≡ Some (f n)) (λ e. cc) log h.0 h.1 in
      (h.0, kept_at (λ x. x ≡ Some (f n)) r log h.0 number h.1)

  -- none is named by a record of another kind
  pub named_had : (r ≡ f n → ⊥) → Named f (r ∷ log) n → Named f log n
  named_had other h = elim (named_back h) [ inl e ↦ absurd (other e) | inr was ↦ was ]

-- the greater of two
greater : (log : List Record) (low c d : ℕ) → IsLatestOrNone (IsCheckpointed log) c → c ≤ d → low ≤ d
    → (d ≡ low) ⊎ ((d ≡ c) × (low < c)) → IsLatestOrNone (IsCheckpointed (is.Checkpoint low ∷ log)) d
greater log low c d h above more which =
    let r : Record = is.Checkpoint low in
    inl (record {
      is = elim which [
        | inl e ↦ (length log + 1, record_new r log ∙ ap (λ (l : ℕ). Some (is.Checkpoint l)) (sym e))
        | inr e ↦ subst (IsCheckpointed (r ∷ log)) (sym e.0) (named_kept is.Checkpoint r log c (elim h [
          | inl g ↦ g.is
          | inr none ↦ absurd (omega (arith, none.0, e.1))
        ]))
      ];
      greatest = λ l now. elim (named_back is.Checkpoint r log l now) [
        | inl e ↦ let same : low ≡ l = cc in omega (arith, more, same)
        | inr was ↦ elim h [ inl g ↦ omega (arith, g.greatest l was, above) | inr none ↦ absurd (none.1 l was) ]
      ];
    })

no_low : (r : Record) (log : List Record) (c : ℕ) → ((l : ℕ) → r ≡ is.Checkpoint l → ⊥)
    → IsLatestOrNone (IsCheckpointed log) c → IsLatestOrNone (IsCheckpointed (r ∷ log)) c
no_low r log c none h =
    latest_as (IsCheckpointed log) (IsCheckpointed (r ∷ log)) (named_kept is.Checkpoint r log)
    (λ l. named_had is.Checkpoint r log l (none l)) c h

pub raised_more : (r : Record) (log : List Record) (c : ℕ) → IsLatestOrNone (IsCheckpointed log) c
    → IsLatestOrNone (IsCheckpointed (r ∷ log)) (raised_by r c)
raised_more (is.Checkpoint low) log c h =
    elim (cases_lt c low) [
      | inl less ↦ rw (lt-ltb c low less) (greater log low c low h (omega arith) (omega arith) (inl refl))
      | inr more ↦ rw (le-ltb c low more) (greater log low c c h (omega arith) (omega arith) (elim (cases_eq c low) [
        | inl e ↦ inl e
        | inr e ↦ inr (refl, omega (arith, more, e))
      ]))
    ]
raised_more r log c h = no_low r log c (λ l e. cc) h
