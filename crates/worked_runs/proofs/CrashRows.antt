-- Runs with a crash, and why their wrong versions are none.
use Rattle.std.proofs.Common.{◌≡◌, ℕ, ◌<◌, Bool, true, false, List, [], ◌∷◌, refl, ap, arith, inl, inr, ne_eqb}
use Rattle.std.specs.Prelude.{if◌then◌else◌}
use Rattle.record_key.specs.declared.op.Answer.TheVariants.{Exists, Inserted}
use Rattle.record_key.specs.declared.refusal.Refusal.TheVariants.{Busy}
use Rattle.history.specs.Spans.{changed_span}
use Rattle.history.specs.ListMachine.{Machine, Line, Committing, Committed, Acts, TellsAnswer, Begins, RollsBack, TellsRolledBack, Commits, TellsCommitted, Crashes, TellsLost, IsRefused, ToAct, Steps, Survives, IsRun, IsFree, IsAbove, with_status, blank, losing, ended, nobody, fresh}
use Rattle.worked_runs.specs.Rows.{insert_a, after_insert_a, numbers_again, committed_again, commit_stays, commit_falls, told_commit_falls, end_is_lost, nobody_is_lost, key_stays_held, held_key_is_taken}
use Rattle.worked_runs.proofs.Walking.{first_answer, alone_free, second_answer, begun, acted, told, rolling, gone, crashed, inserted, IsAlone, alone_with, alone_acted, alone_inserted, alone_above, alone_below, alone_crashed, second_holder, starts_acting, starts, crashes}

-- a commit is asked for
abbrev committing : Machine
committing = with_status (inserted insert_a) 2 Committing

alone_committing : IsAlone committing 2
alone_committing = alone_with (inserted insert_a) 2 _ (alone_inserted insert_a)

-- it stays
abbrev kept : Machine
kept = crashed committing 5 (ended (committing.txns 2) Committed) false

survives_kept : Survives committing 5 2 Committing (ended (committing.txns 2) Committed) false
survives_kept = inl (refl, (λ _. omega arith, tt), refl)

-- then another inserts the same
abbrev asks_again : Machine
asks_again = acted (begun kept 6) 6 insert_a 7

alone_kept : IsAlone kept 2
alone_kept = alone_crashed committing 5 (ended (committing.txns 2) Committed) false

free_again : IsFree (begun kept 6) 6 (changed_span insert_a)
free_again u apart h = grind arith

not_sixth : (u : ℕ) → (u ≡ 6 → ⊥) → (begun kept 6).txns u ≡ kept.txns u
not_sixth u apart = ap (λ (b : Bool). if b then blank else kept.txns u) (ne_eqb u 6 apart)

below_again : (u : ℕ) → ((begun kept 6).txns u).begun ≡ true → u < 7
below_again u has_begun = grind arith

above_again : (u : ℕ) → IsAbove 7 ((begun kept 6).txns u).status
above_again u = grind arith

pub commit_stays_is_run : IsRun commit_stays
commit_stays_is_run =
    let last : Machine = told asks_again 6 insert_a 7 Exists in (
      last,
      starts (97 ∷ []) (49 ∷ []) (Commits 2 ∷ Crashes ∷ Begins 6 ∷ Acts 6 insert_a 7 ∷ TellsAnswer 6 Exists ∷ []) last (
        committing,
        (refl, refl),
        (
          kept,
          crashes committing 5 (ended (committing.txns 2) Committed) false alone_committing (refl, tt) survives_kept,
          (
            begun kept 6,
            (
              ((omega arith, tt), alone_below kept 2 6 alone_kept (omega arith), alone_above kept 2 6 alone_kept tt),
              refl,
            ),
            (
              asks_again,
              (refl, free_again, omega arith, ((omega arith, tt), below_again, above_again), refl),
              (last, (7, insert_a, refl, second_answer (97 ∷ []) (49 ∷ []) (49 ∷ []), refl), refl),
            ),
          ),
        ),
      ),
    )

-- it falls
pub commit_falls_is_run : IsRun commit_falls
commit_falls_is_run =
    let fallen : Machine = crashed committing 4 (losing committing 4 2) true in
    let last : Machine = gone fallen in (
      last,
      starts (97 ∷ []) (49 ∷ []) (Commits 2 ∷ Crashes ∷ TellsLost 2 ∷ []) last (
        committing,
        (refl, refl),
        (
          fallen,
          crashes committing 4 (losing committing 4 2) true alone_committing (refl, tt)
              (inr (inl (omega arith, refl), refl)),
          (last, (refl, refl), refl),
        ),
      ),
    )

-- what follows a told commit and a crash
after_told_commit : (lines : List Line) (last : Machine)
    → Steps fresh (after_insert_a (Commits 2 ∷ TellsCommitted 2 ∷ Crashes ∷ lines)) last
    → (mid : Machine) × (mid.txns 2 ≡ ended (committing.txns 2) Committed) × Steps mid lines last
after_told_commit lines last h = grind arith

-- it isn't lost
pub told_commit_falls_is_none : IsRun told_commit_falls → ⊥
told_commit_falls_is_none h = grind arith

-- the end of a rollback
pub end_is_lost_is_run : IsRun end_is_lost
end_is_lost_is_run =
    let m : Machine = inserted insert_a in
    let ends : Machine = gone (rolling m) in
    let back : Machine = crashed ends 6 (losing ends 6 2) false in
    let last : Machine = gone back in
    let alone : IsAlone ends 2 = alone_with (rolling m) 2 _ (alone_with m 2 _ (alone_inserted insert_a)) in (
      last,
      starts (97 ∷ []) (49 ∷ []) (RollsBack 2 ∷ TellsRolledBack 2 ∷ Crashes ∷ TellsLost 2 ∷ []) last (
        rolling m,
        (refl, refl),
        (
          ends,
          (refl, refl),
          (
            back,
            crashes ends 6 (losing ends 6 2) false alone (refl, tt) (inr (refl, inl (omega arith, refl)), refl),
            (last, (refl, refl), refl),
          ),
        ),
      ),
    )

-- all its records are lost
abbrev never_was : Machine
never_was = crashed (inserted insert_a) 1 nobody true

alone_never : IsAlone never_was 2
alone_never = alone_crashed (inserted insert_a) 1 nobody true

none_begun : (k u : ℕ) → (never_was.txns u).begun ≡ true → u < k
none_begun k u has_begun = grind arith

pub numbers_again_is_run : IsRun numbers_again
numbers_again_is_run =
    let b : Machine = begun never_was 2 in
    let alone : IsAlone b 2 = alone_with never_was 2 blank alone_never in
    let a : Machine = acted b 2 insert_a 3 in
    let last : Machine = told a 2 insert_a 3 Inserted in (
      last,
      starts (97 ∷ []) (49 ∷ []) (Crashes ∷ Begins 2 ∷ Acts 2 insert_a 3 ∷ TellsAnswer 2 Inserted ∷ []) last (
        never_was,
        crashes (inserted insert_a) 1 nobody true (alone_inserted insert_a) (refl, tt) (inr (omega arith, refl), refl),
        (
          b,
          (((omega arith, tt), none_begun 2, alone_above never_was 2 2 alone_never tt), refl),
          (
            a,
            (
              refl,
              alone_free b 2 (changed_span insert_a) alone,
              omega arith,
              ((omega arith, tt), alone_below b 2 3 alone (omega arith), alone_above b 2 3 alone tt),
              refl,
            ),
            (last, (3, insert_a, refl, first_answer (97 ∷ []) (49 ∷ []), refl), refl),
          ),
        ),
      ),
    )

pub committed_again_is_none : IsRun committed_again → ⊥
committed_again_is_none h = grind arith

pub nobody_is_lost_is_none : IsRun nobody_is_lost → ⊥
nobody_is_lost_is_none h = grind arith

-- a crash amid an operation
abbrev cut_short : Machine
cut_short = crashed (acted (begun fresh 2) 2 insert_a 3) 3 (losing (acted (begun fresh 2) 2 insert_a 3) 3 2) true

alone_cut_short : IsAlone cut_short 2
alone_cut_short = grind arith

pub key_stays_held_is_run : IsRun key_stays_held
key_stays_held_is_run =
    let m : Machine = acted (begun fresh 2) 2 insert_a 3 in
    let last : Machine = begun cut_short 4 in (
      last,
      starts_acting insert_a (Crashes ∷ Begins 4 ∷ IsRefused (ToAct 4 insert_a) (Busy 2) ∷ []) last (
        cut_short,
        crashes m 3 (losing m 3 2) true (alone_acted insert_a 3) tt (inl (omega arith, refl), refl),
        (
          last,
          (
            (tt, alone_below cut_short 2 4 alone_cut_short (omega arith), alone_above cut_short 2 4 alone_cut_short tt),
            refl,
          ),
          (
            last,
            (
              (
                refl,
                second_holder cut_short alone_cut_short (changed_span insert_a)
                    (inl (97 ∷ [], refl, refl, refl)),
              ),
              refl,
            ),
            refl,
          ),
        ),
      ),
    )

pub held_key_is_taken_is_none : IsRun held_key_is_taken → ⊥
held_key_is_taken_is_none h = grind arith
