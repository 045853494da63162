-- The session that the data component runs.
use Rattle.std.proofs.Common.{◌≡◌, ◌≢◌, ℕ, ◌<◌, ◌≤◌, ◌==◌, Bool, true, false, [], ◌∷◌, Option, Some, None, refl, sym, ◌∙◌, arith, inl, inr, true≢false, eqb-true, eq-eqb}
use Rattle.std.specs.Prelude.{◌&&◌, not, nat_lt, if◌then◌else◌}
use Rattle.std.proofs.lemmas.Bool.{cases_Bool}
use Rattle.std.proofs.lemmas.Bool.Decides.{nat_tests}
use Rattle.record_key.specs.declared.refusal.Refusal.{Refusal}
use Rattle.record_key.specs.declared.refusal.Refusal.TheVariants.{NotConnected, Stale, Redoing}
use Rattle.record_key.specs.FirstCause.{first_of, or_else}
use Rattle.dc_core.specs.DcView.{DcView}
use Rattle.dc_core.specs.Serves.{runs, session_refusal, after_redo_refusal, connect_refusal}
use Rattle.dc_core.specs.Tends.{may_merge}
use Rattle.dc_core.specs.Kept.{IsDc}
use Rattle.dc_core.proofs.Stored.{stored_within}
use Rattle.node_laws.specs.Node.{NodeView}
use Rattle.node_laws.specs.Kept.{IsKept, InSession}

-- some session runs, and this is its number
pub record IsRun (dc : DcView) (s : ℕ) : Type 0 where
  pub some : s ≢ 0
  pub is : dc.session ≡ s

pub run_is : (dc : DcView) (s : ℕ) → runs dc s ≡ true → IsRun dc s
run_is dc s h = by (s == 0) refl h
  where
    by : (b : Bool) → (s == 0) ≡ b → (not b && (dc.session == s)) ≡ true → IsRun dc s
    by true zero h = absurd (true≢false (sym h))
    by false some h = record { some = λ e. true≢false (sym (eq-eqb s 0 e) ∙ some); is = eqb-true dc.session s h }

pub is_run : (dc : DcView) (s : ℕ) → s ≢ 0 → dc.session ≡ s → runs dc s ≡ true
is_run dc s some same = elim (cases_Bool (s == 0)) [
  | inl zero ↦ absurd (some (eqb-true s 0 zero))
  | inr isnt ↦ rw (isnt, eq-eqb dc.session s same) refl
]

-- a session that runs is the last that was taken
pub run_stored : (dc : DcView) (s : ℕ) → IsDc dc → runs dc s ≡ true → s ≡ dc.stored
run_stored dc s is h =
    let r = run_is dc s h in
    elim is.session [
      | inl none ↦ absurd (r.some (sym r.is ∙ none))
      | inr same ↦ sym r.is ∙ same
    ]

-- it runs where a message of it is let
pub let_runs : (dc : DcView) (s : ℕ) → session_refusal dc s ≡ None → runs dc s ≡ true
let_runs dc s h = by (dc.session == 0) (dc.session == s) refl refl h
  where
    by : (a b : Bool) → (dc.session == 0) ≡ a → (dc.session == s) ≡ b
        → first_of ((a, NotConnected) ∷ (not b, Stale) ∷ []) ≡ None
        → runs dc s ≡ true
    by true b zero is h = absurd (cc)
    by false true some is h =
        let same : dc.session ≡ s = eqb-true dc.session s is in
        is_run dc s (λ e. true≢false (sym (eq-eqb dc.session 0 (same ∙ e)) ∙ some)) same
    by false false some is h = absurd (cc)

-- a session that is let to begin is later than any that was taken
pub connect_later : (dc : DcView) (s : ℕ) → connect_refusal dc s ≡ None → runs dc s ≡ false → dc.stored < s
connect_later dc s h isnt =
    let flag : nat_lt dc.stored s ≡ true = by (runs dc s) (nat_lt dc.stored s) _ h isnt in
    grind (arith, nat_tests, flag)
  where
    by : (r b : Bool) (later : Option Refusal) → (if not r && not b then Some Stale else later) ≡ None → r ≡ false
        → b ≡ true
    by true b later h e = absurd (true≢false e)
    by false true later h e = refl
    by false false later h e = absurd (cc)

-- past its redo, where that is let
pub record IsPast (dc : DcView) (s : ℕ) : Type 0 where
  pub runs : runs dc s ≡ true
  pub past : may_merge dc ≡ true

past_redo : (dc : DcView) (s : ℕ) → runs dc s ≡ true → dc.redo ≡ false → may_merge dc ≡ true
past_redo dc s h past =
    let r = run_is dc s h in
    elim (cases_Bool (dc.session == 0)) [
      | inl zero ↦ absurd (r.some (sym r.is ∙ eqb-true dc.session 0 zero))
      | inr some ↦ rw (some, past) refl
    ]

pub let_past : (dc : DcView) (s : ℕ) → after_redo_refusal dc s ≡ None → IsPast dc s
let_past dc s h = by (session_refusal dc s) refl (dc.redo) refl h
  where
    by : (x : Option Refusal) → session_refusal dc s ≡ x → (b : Bool) → dc.redo ≡ b
        → or_else x (first_of ((b, Redoing) ∷ [])) ≡ None → IsPast dc s
    by None is true redo h = absurd (cc)
    by None is false past h = let r = let_runs dc s is in record { runs = r; past = past_redo dc s r past }
    by (Some r) is b redo h = absurd (cc)

-- of a session past redo
pub past_is : (dc : DcView) (s : ℕ) → s ≢ 0 → dc.session ≡ s → dc.redo ≡ false → may_merge dc ≡ true
past_is dc s some same past = past_redo dc s (is_run dc s some same) past

pub some_session : (dc : DcView) → may_merge dc ≡ true → dc.session ≢ 0
some_session dc h e = by (dc.session == 0) (eq-eqb dc.session 0 e) h
  where
    by : (b : Bool) → b ≡ true → (not b && not dc.redo) ≡ true → ⊥
    by true is h = true≢false (sym h)
    by false is h = true≢false (sym is)

-- what follows of a session that runs
pub in_session : (dc : DcView) (s : ℕ) (P Q : Type 0) → (runs dc s ≡ true → P → Q) → InSession dc s P → InSession dc s Q
in_session dc s P Q from h = record { begun = h.begun; holds = λ r. from r (h.holds r) }

-- in redo nothing is past it
pub redo_goes_on : (dc : DcView) → dc.redo ≡ true → may_merge dc ≡ true → ⊥
redo_goes_on dc on may = by (dc.session == 0) (dc.redo) on may
  where
    by : (a b : Bool) → b ≡ true → (not a && not b) ≡ true → ⊥
    by true b on h = true≢false (sym h)
    by false true on h = true≢false (sym h)
    by false false on h = true≢false (sym on)

-- ---- the sessions that were taken

-- none is later than the transaction component's, if that has one
pub stored_begun : (w : NodeView) → IsKept w → 0 < w.tc.session → w.dc.stored ≤ w.tc.session
stored_begun w k some = omega
    (arith, k.dc.stored, stored_within w.dc.system.log w.dc.system.stable, k.sessions.begun.most some)

-- nor than its stable records
pub stored_recorded : (w : NodeView) → IsKept w → w.dc.stored ≤ w.tc.stable
stored_recorded w k = omega
    (arith, k.dc.stored, stored_within w.dc.system.log w.dc.system.stable, k.sessions.begun.recorded)

-- where that was taken and some session runs, it is this one
pub same_runs : (w : NodeView) (s : ℕ) → IsKept w → 0 < w.tc.session → s ≡ w.tc.session → s ≤ w.dc.stored
    → w.dc.session ≢ 0 → runs w.dc s ≡ true
same_runs w s k begun same taken some =
    elim k.dc.session [
      | inl none ↦ absurd (some none)
      | inr last ↦
          let is : w.dc.session ≡ s = omega (arith, last, same, taken, stored_begun w k begun) in
          is_run w.dc s (λ zero. some (is ∙ zero)) is
    ]
