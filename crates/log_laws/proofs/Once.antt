-- No operation is compensated twice.
use Rattle.std.proofs.Common.{arith, ◌≡◌, ◌∙◌, ℕ, true, List, [], ◌∷◌, Option, Some, refl, sym, inl, inr}
use Rattle.std.proofs.lemmas.Bool.{eq-eqb}
use Rattle.record_key.specs.declared.op.Op.{Op}
use Rattle.history.specs.declared.record.Record.{Record}
use Rattle.history.specs.declared.record.Record.TheVariants as is
use Rattle.history.specs.Log.{record_at, is_crossed}
use Rattle.history.specs.Legal.{Fits, IsLegal}
use Rattle.log_laws.specs.Laws.{Names, LegalIsCompensatedOnce}
use Rattle.log_laws.proofs.Records.{IsNumber, which, within, newest_at, had_at}
use Rattle.log_laws.proofs.LegalLogs.{crossed_push}

-- a record that is a compensation of this operation
abbrev pub AComp : ℕ → Option Record → Type 0
AComp u r = (t : ℕ) × (x : ℕ) × (i : Option Op) × (r ≡ Some (is.Comp t u x i))

as_comp : (log : List Record) (n u : ℕ) → Names log n u → AComp u (record_at log n)
as_comp log n u h = (h.txn, h.next, h.inverse, h.is)

comp_number : (log : List Record) (n u : ℕ) → AComp u (record_at log n) → IsNumber log n
comp_number log n u h = within (AComp u) (λ none. let e = none.3 in absurd (cc)) log n h

-- it crosses the operation
crosses_newest : (r : Record) (log : List Record) (u : ℕ) → AComp u (Some r) → is_crossed (r ∷ log) u ≡ true
crosses_newest r log u h = let same : r ≡ is.Comp h.0 u h.1 h.2 = let e = h.3 in cc in rw (same, eq-eqb u u refl) refl

crosses : (log : List Record) (n u : ℕ) → AComp u (record_at log n) → is_crossed log u ≡ true
crosses [] n u h = let e = h.3 in absurd (cc)
crosses (r ∷ log) n u h =
    elim (which r log n (comp_number (r ∷ log) n u h)) [
      | inl e ↦ crosses_newest r log u (newest_at (AComp u) r log n e h)
      | inr was ↦ crossed_push u r log (crosses log n u (had_at (AComp u) r log n was h))
    ]

-- what was crossed before isn't compensated now
not_again : (r : Record) (log : List Record) (u : ℕ) → Fits log r → AComp u (Some r) → is_crossed log u ≡ true → ⊥
not_again r log u fits h crossed = grind arith

pub compensated_once : LegalIsCompensatedOnce
compensated_once log n m u legal a b = by log n m legal (as_comp log n u a) (as_comp log m u b)
  where
    by : (log : List Record) (n m : ℕ) → IsLegal log → AComp u (record_at log n) → AComp u (record_at log m) → n ≡ m
    by [] n m legal a b = let e = a.3 in absurd (cc)
    by (r ∷ log) n m legal a b =
        elim (which r log n (comp_number (r ∷ log) n u a)) [
          | inl e ↦
              elim (which r log m (comp_number (r ∷ log) m u b)) [
                | inl f ↦ e ∙ sym f
                | inr f ↦
                    absurd (not_again r log u legal.0 (newest_at (AComp u) r log n e a)
                    (crosses log m u (had_at (AComp u) r log m f b)))
              ]
          | inr e ↦
              elim (which r log m (comp_number (r ∷ log) m u b)) [
                | inl f ↦
                    absurd (not_again r log u legal.0 (newest_at (AComp u) r log m f b)
                    (crosses log n u (had_at (AComp u) r log n e a)))
                | inr f ↦ by log n m legal.1 (had_at (AComp u) r log n e a) (had_at (AComp u) r log m f b)
              ]
        ]
