-- Commits that become stable are told, and ends of losers.
use Rattle.std.proofs.Common.{◌≡◌, ℕ, zero, suc, ◌+◌, Bool, true, false, List, [], ◌∷◌, ◌++◌, length, Option, Some, refl, sym, ap, ◌∙◌, subst, arith, inl, inr, true≢false, eq-eqb, ne_eqb}
use Rattle.std.specs.Prelude.{◌&&◌, not, if◌then◌else◌}
use Rattle.std.specs.List.{AllByRecursion}
use Rattle.std.proofs.lemmas.Bool.{cases_eq, cases_Bool}
use Rattle.record_key.specs.declared.op.Op.{Op}
use Rattle.history.specs.declared.record.Record.{Record}
use Rattle.history.specs.declared.record.Record.TheVariants as is
use Rattle.history.specs.History.{Entry}
use Rattle.history.specs.Log.{record_at, is_crossed, has_ended, IsOpBy}
use Rattle.history.specs.Legal.{IsLegal}
use Rattle.history.specs.ListMachine.{Machine, Txn, Status, Open, Waiting, Reading, Rolling, Committing, Committed, Losing, Gone, Line, TellsCommitted, TellsLost, Step, Steps, with_txn, ended}
use Rattle.log_laws.proofs.Records.{record_new}
use Rattle.log_laws.proofs.Strict.{end_ends}
use Rattle.log_laws.proofs.Named.{ended_begun}
use Rattle.simulation.specs.View.{View, counts, is_to_undo, HasStatusOf, IsCommitAt, IsUntold, IsRecorded, IsTxnOf, StandsFor}
use Rattle.simulation.specs.Laws.{StartsFresh, CommitsAreTold, LosersAreTold, told_at, told_after, after_lost}
use Rattle.simulation.proofs.Beginnings.{one_end}
use Rattle.simulation.proofs.Entries.{Agrees, Both, Neither, alike}
use Rattle.simulation.proofs.Crash.{loses_out, crossed_out}
use Rattle.simulation.proofs.Carrying.{Carries, Passes, passes, same_entries, txn_kept, one_changed, op_before, op_after, begun_so}

-- nothing was done yet
pub fresh_stands : StartsFresh
fresh_stands = grind arith

-- a loser's status is Losing
pub losing_is : (v : View) (t : ℕ) (s : Status) → HasStatusOf v t s → v.loses t ≡ true → s ≡ Losing
losing_is v t Open so l = absurd (true≢false (sym l ∙ so.stays))
losing_is v t (Waiting n o) so l = absurd (true≢false (sym l ∙ so.0.stays))
losing_is v t (Reading r) so l = absurd (true≢false (sym l ∙ so.stays))
losing_is v t (Rolling p) so l = absurd (true≢false (sym l ∙ so.1.stays))
losing_is v t Committing so l = absurd (true≢false (sym l ∙ so.0.loses_so))
losing_is v t Committed so l = absurd (true≢false (sym l ∙ so.0.loses_so))
losing_is v t Losing so l = refl
losing_is v t Gone so l = absurd (true≢false (sym l ∙ so.0.loses_so))

-- a record that is no operation leaves what is recorded
pub recorded_push : (r : Record) (log : List Record) (h : List Entry) → AllByRecursion (IsRecorded log) h
    → AllByRecursion (IsRecorded (r ∷ log)) h
recorded_push r log [] all = tt
recorded_push r log (e ∷ h) all = (
  record { is = λ some. op_after r log e.txn e.number e.op (all.0.is some); lost = all.0.lost },
  recorded_push r log h all.1,
)

module _ (v : View) (m : Machine) (t : ℕ) (legal : IsLegal (is.End t ∷ v.log)) (stands : StandsFor v m)
    (loses : v.loses t ≡ true) where
  abbrev w : View
  w = after_lost v t

  is_losing : (m.txns t).status ≡ Losing
  is_losing = losing_is v t (m.txns t).status (stands.each t).status loses

  loser : HasStatusOf v t Losing
  loser = subst (HasStatusOf v t) is_losing (stands.each t).status

  not_lost : w.loses t ≡ false
  not_lost = ap (λ (b : Bool). if b then false else v.loses t) (eq-eqb t t refl)

  other_lost : (u : ℕ) → (u ≡ t → ⊥) → w.loses u ≡ v.loses u
  other_lost u apart = ap (λ (b : Bool). if b then false else v.loses u) (ne_eqb u t apart)

  agrees_lost : (n u : ℕ) (o : Op) → IsOpBy v.log n u o → Agrees v.log (is.End t ∷ v.log) (counts v) (counts w) n u o
  agrees_lost n u o by =
      elim (cases_eq u t) [
        | inr apart ↦ Both refl refl
            (λ a. ap (λ (l : Bool). not (is_crossed v.log n) && (not l && not (is_to_undo (v.doing u) n)))
            (sym (other_lost u apart)))
        | inl e ↦ Neither
            (λ a. loses_out false (is_crossed v.log n) (v.loses u) (not (is_to_undo (v.doing u) n))
            (ap v.loses e ∙ loses))
            (λ a. crossed_out false (is_crossed v.log n) (not (w.loses u) && not (is_to_undo (v.doing u) n))
            (elim (cases_Bool (is_crossed v.log n)) [
              | inl c ↦ c
              | inr c ↦ absurd (legal.0.undone n
                  (record { op = o; is = subst (λ (k : ℕ). IsOpBy v.log n k o) e by; uncrossed = c }))
            ]))
      ]

  passes_lost : (u : ℕ) → (u ≡ t → ⊥) → Passes v w (is.End t) u
  passes_lost u apart = grind arith

  pub tells_lost : (n : Machine) × Step m (TellsLost t) n × StandsFor (after_lost v t) n
  tells_lost = (
    with_txn m t (ended (m.txns t) Gone),
    (is_losing, refl),
    record {
      entries = stands.entries ∙ alike v.log (is.End t ∷ v.log) (counts v) (counts w) v.log agrees_lost;
      falling = stands.falling;
      recorded = recorded_push (is.End t) v.log m.h stands.recorded;
      each = one_changed m w m.h t (ended (m.txns t) Gone)
          (record {
            begun = begun_so (is.End t) v.log t (m.txns t).begun (λ e. cc) (stands.each t).begun;
            status = (
              record { does_none = loser.quiet.does_none; loses_so = not_lost },
              inl (length v.log + 1, record_new (is.End t) v.log),
            );
            saves = tt;
            spans = refl;
            unentered = tt;
            logged = λ n o last. op_after (is.End t) v.log t n o ((stands.each t).logged n o last);
            entered = λ n o by. elim ((stands.each t).entered n o (op_before (is.End t) v.log t n o (λ q e. cc) by))
                [ inl a ↦ inl a | inr a ↦ inr (a.0, tt) ];
          })
          (λ u apart. txn_kept v w u (passes v w (is.End t) u (passes_lost u apart)) m.h m.h (same_entries v.log m.h u)
          (m.txns u) (stands.each u));
    },
  )

pub losers_are_told : LosersAreTold
losers_are_told v m t legal stands loses = tells_lost v m t legal stands loses

-- whoever's Commit is the next to be stable is Committing
committing_is : (v : View) (t : ℕ) (s : Status) → IsLegal v.log → IsCommitAt v.log t (v.stable + 1) → HasStatusOf v t s
    → s ≡ Committing
committing_is v t s legal at so = by s so
  where
    ended_now : has_ended v.log t ≡ true
    ended_now = end_ends v.log t (v.stable + 1) (inl at)

    by : (s : Status) → HasStatusOf v t s → s ≡ Committing
    by Open so = absurd (true≢false (sym (end_ends v.log t (v.stable + 1) (inl at)) ∙ so.open_txn.goes_on))
    by (Waiting n o) so = absurd (true≢false (sym (end_ends v.log t (v.stable + 1) (inl at)) ∙ so.0.open_txn.goes_on))
    by (Reading r) so = absurd (true≢false (sym (end_ends v.log t (v.stable + 1) (inl at)) ∙ so.open_txn.goes_on))
    by (Rolling p) so = absurd (true≢false (sym (end_ends v.log t (v.stable + 1) (inl at)) ∙ so.1.open_txn.goes_on))
    by Committing so = refl
    by Committed so = absurd (omega (arith, so.3, one_end v.log t so.1 (v.stable + 1) legal (inl so.2) (inl at)))
    by Losing so = absurd (true≢false (sym (end_ends v.log t (v.stable + 1) (inl at)) ∙ so.open_txn.goes_on))
    by Gone so = elim so.1 [
      | inl e ↦
          let same : e.0 ≡ v.stable + 1 = one_end v.log t e.0 (v.stable + 1) legal (inr e.1) (inl at) in
          let both : Some (is.End t) ≡ Some (is.Commit t) = sym e.1 ∙ ap (record_at v.log) same ∙ at in
          absurd (cc)
      | inr none ↦ absurd (none (ended_begun v.log t legal (end_ends v.log t (v.stable + 1) (inl at))))
    ]

module _ (v : View) (m : Machine) (legal : IsLegal v.log) (stands : StandsFor v m) where
  abbrev one_more : View
  one_more = record v { stable = v.stable + 1 }

  carries_stable : (u : ℕ) → (IsCommitAt v.log u (v.stable + 1) → ⊥) → Carries v one_more u
  carries_stable u none = grind arith

  txn_stable : (u : ℕ) → (IsCommitAt v.log u (v.stable + 1) → ⊥) → IsTxnOf one_more m.h u (m.txns u)
  txn_stable u none = txn_kept v one_more u (carries_stable u none) m.h m.h (same_entries v.log m.h u) (m.txns u)
      (stands.each u)

  no_commit : ((t : ℕ) → IsCommitAt v.log t (v.stable + 1) → ⊥) → StandsFor one_more m
  no_commit none = grind (arith, txn_stable)

  commit_told : (t : ℕ) → IsCommitAt v.log t (v.stable + 1) → (n : Machine) × Steps m (TellsCommitted t ∷ []) n
      × StandsFor one_more n
  commit_told t at =
      let is_committing : (m.txns t).status ≡ Committing =
      committing_is v t (m.txns t).status legal at (stands.each t).status in
      let so : HasStatusOf v t Committing = subst (HasStatusOf v t) is_committing (stands.each t).status in
      let new : Txn = ended (m.txns t) Committed in (
        with_txn m t new,
        (with_txn m t new, (is_committing, refl), refl),
        record {
          entries = stands.entries;
          falling = stands.falling;
          recorded = stands.recorded;
          each = one_changed m one_more m.h t new
              (record {
                begun = (stands.each t).begun;
                status = (
                  record { does_none = so.0.does_none; loses_so = so.0.loses_so },
                  v.stable + 1,
                  at,
                  omega arith,
                );
                saves = tt;
                spans = refl;
                unentered = tt;
                logged = (stands.each t).logged;
                entered = λ n o by. elim ((stands.each t).entered n o by)
                    [ inl a ↦ inl a | inr a ↦ absurd (subst IsUntold is_committing a.1) ];
              })
              (λ u apart. txn_stable u (λ f. apart (commit_same u f)));
        },
      )
    where
      commit_same : (u : ℕ) → IsCommitAt v.log u (v.stable + 1) → u ≡ t
      commit_same u f = let both : Some (is.Commit u) ≡ Some (is.Commit t) = sym f ∙ at in cc

  by_record : (r : Option Record) → record_at v.log (v.stable + 1) ≡ r → (n : Machine) × Steps m (told_at r) n
      × StandsFor one_more n
  by_record (Some (is.Commit t)) e = commit_told t e
  by_record r e = (m, refl, no_commit (λ t f. let both : r ≡ Some (is.Commit t) = sym e ∙ f in cc))

  pub one_stable : (n : Machine) × Steps m (told_at (record_at v.log (v.stable + 1))) n
      × StandsFor (record v { stable = v.stable + 1 }) n
  one_stable = by_record (record_at v.log (v.stable + 1)) refl

-- steps after steps
pub steps_after : (m : Machine) (xs ys : List Line) (mid n : Machine) → Steps m xs mid → Steps mid ys n
    → Steps m (xs ++ ys) n
steps_after m [] ys mid n first second = subst (λ x. Steps x ys n) first second
steps_after m (x ∷ xs) ys mid n first second = (first.0, first.1, steps_after first.0 xs ys mid n first.2 second)

pub commits_are_told : CommitsAreTold
commits_are_told zero v m legal stands within = grind arith
commits_are_told (suc k) v m legal stands within =
    let one = one_stable v m legal stands in
    let rest = commits_are_told k (record v { stable = v.stable + 1 }) one.0 legal one.2 (omega (arith, within)) in
    let more : v.stable + 1 + k ≡ v.stable + suc k = omega arith in (
      rest.0,
      steps_after m (told_at (record_at v.log (v.stable + 1))) (told_after v.log (v.stable + 1) k) one.0 rest.0 one.1
          rest.1,
      subst (λ s. StandsFor (record v { stable = s }) rest.0) more rest.2,
    )
