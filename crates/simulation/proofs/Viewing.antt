-- What the machines that the component stands for have in common with its log.
use Rattle.std.proofs.Common.{arith, ◌≡◌, ℕ, Bool, true, false, is_some, sym, ap, ◌∙◌, inl, inr, ◌⊎◌, true≢false, ◌∷◌}
use Rattle.std.specs.Prelude.{◌&&◌, not, filter}
use Rattle.std.specs.FinMap.{get}
use Rattle.std.proofs.lemmas.Bool.{cases_Bool}
use Rattle.record_key.specs.declared.op.Op.{Op}
use Rattle.record_key.specs.declared.op.Answer.{Answer}
use Rattle.record_key.specs.Table.{key_of}
use Rattle.record_key.proofs.Tables.{is_same-true}
use Rattle.history.specs.declared.record.Record.{Record}
use Rattle.history.specs.declared.record.Record.TheVariants as is
use Rattle.history.specs.History.{plain}
use Rattle.history.specs.Log.{answer_of, is_crossed, IsOpBy, hist}
use Rattle.history.specs.ListMachine.{Machine}
use Rattle.log_laws.proofs.Values.{values_alike}
use Rattle.log_laws.proofs.Cancel.{cancel}
use Rattle.log_laws.proofs.Plain.{plain_of_history}
use Rattle.simulation.specs.View.{View, counts, is_to_undo, StandsFor}
use Rattle.simulation.specs.Views.{CalmEntriesAreTheLogs, PlainIsTheLogs, NeutralIsNoStep}
use Rattle.simulation.proofs.Told.{recorded_push}
use Rattle.simulation.proofs.Carrying.{Passes, passes, same_entries, txn_kept}
use Rattle.simulation.proofs.Placing.{all_hist}
use Rattle.simulation.proofs.Answering.{IsHarmless, plain_filtered, plain_uncrossed, why_in}

calm_flags : (c l a : Bool) → l ≡ false → a ≡ false → (not c && (not l && not a)) ≡ not c
calm_flags c l a el ea = grind arith

pub calm_entries : CalmEntriesAreTheLogs
calm_entries v m stands calm = grind arith

answered_flag : (a c : Bool) → (c ≡ false → a ≡ true) → (a && not c) ≡ not c
answered_flag a c h = grind arith

pub plain_is_the_logs : PlainIsTheLogs
plain_is_the_logs v m k legal right stands each =
    ap (λ x. get x k) (sym (plain_uncrossed m.h) ∙ ap plain stands.entries)
    ∙ plain_filtered (counts v) k (hist v.log) (all_hist (IsHarmless (counts v) k) v.log v.log harmless)
    ∙ plain_of_history v.log k
    ∙ values_alike k (λ n. is_some (answer_of v.log n) && not (is_crossed v.log n)) (λ n. not (is_crossed v.log n))
    v.log
    (λ n t o by on. answered_flag (is_some (answer_of v.log n)) (is_crossed v.log n)
    (λ c. (each n t o by (is_same-true k (key_of o) on) c).0))
    ∙ sym (cancel v.log legal right k)
  where
    harmless : (n t : ℕ) (o : Op) → IsOpBy v.log n t o → (a : Answer)
        → IsHarmless (counts v) k (record { number = n; txn = t; op = o; answer = a; crossed = is_crossed v.log n })
    harmless n t o by a = record {
      out = λ drops. elim (cases_Bool (is_crossed v.log n)) [
        | inl c ↦ inl c
        | inr c ↦ inr (λ same.
            let h = each n t o by same c in
            true≢false (sym (calm_flags (is_crossed v.log n) (v.loses t) (is_to_undo (v.doing t) n) h.1 h.2 ∙ ap not c)
            ∙ drops))
      ];
      stays = λ keeps. why_in (is_crossed v.log n) (not (v.loses t) && not (is_to_undo (v.doing t) n)) keeps;
    }

-- a record that says nothing of a transaction
module _ (v : View) (m : Machine) (stands : StandsFor v m) where
  neutral_passes : (r : Record) (low u : ℕ) → (r ≡ is.Session) ⊎ (r ≡ is.Checkpoint low)
      → Passes v (record v { log = r ∷ v.log }) r u
  neutral_passes r low u h = grind arith

  same_hist : (r : Record) (low : ℕ) → (r ≡ is.Session) ⊎ (r ≡ is.Checkpoint low)
      → filter (counts v) (hist v.log) ≡ filter (counts (record v { log = r ∷ v.log })) (hist (r ∷ v.log))
  same_hist r low h = grind arith

pub neutral_is_no_step : NeutralIsNoStep
neutral_is_no_step v m r low stands which = record {
  entries = stands.entries ∙ same_hist v m stands r low which;
  falling = stands.falling;
  recorded = recorded_push r v.log m.h stands.recorded;
  each = λ u. txn_kept v (record v { log = r ∷ v.log }) u
      (passes v (record v { log = r ∷ v.log }) r u (neutral_passes v m stands r low u which))
      m.h m.h (same_entries v.log m.h u) (m.txns u) (stands.each u);
}
