-- Two runs without crashes, and why their wrong versions are none.
use Rattle.std.proofs.Common.{List, [], ◌∷◌, refl, subst, arith}
use Rattle.record_key.specs.declared.op.Answer.TheVariants.{Exists}
use Rattle.history.specs.Spans.{changed_span}
use Rattle.history.specs.ListMachine.{fresh, Begins, Machine, Line, Open, Acts, TellsAnswer, RollsBack, TellsRolledBack, Steps, IsRun, HasStatus}
use Rattle.worked_runs.specs.Rows.{insert_a, insert_first, insert_second, insert_rolled_back, never_rolling_back, number_twice, insert_twice, inserted_twice}
use Rattle.worked_runs.proofs.Walking.{begun, after_begins, second_answer, acted, told, rolling, gone, inserted, alone_inserted, alone_free, alone_above, alone_below, starts, after_acts, after_told, after_insert}

-- the last two lines
rolls_back : (m : Machine) → HasStatus m 2 Open → Steps m (RollsBack 2 ∷ TellsRolledBack 2 ∷ []) (gone (rolling m))
rolls_back m status = (rolling m, (status, refl), (gone (rolling m), (refl, refl), refl))

-- one insert, rolled back, is a run
pub rolled_back_is_run : IsRun insert_rolled_back
rolled_back_is_run =
    let m : Machine = inserted insert_a in (
      gone (rolling m),
      starts (97 ∷ []) (49 ∷ []) (RollsBack 2 ∷ TellsRolledBack 2 ∷ []) (gone (rolling m))
          (rolls_back m refl),
    )

-- a second insert, answered Exists, is one
pub second_insert_is_run : IsRun insert_twice
second_insert_is_run =
    let m : Machine = inserted insert_first in
    let n : Machine = acted m 2 insert_second 5 in
    let p : Machine = told n 2 insert_second 5 Exists in
    let alone = alone_inserted insert_first in
    let ends : List Line = Acts 2 insert_second 5 ∷ TellsAnswer 2 Exists ∷ RollsBack 2 ∷ TellsRolledBack 2 ∷ [] in
    let rest : Steps m ends (gone (rolling p)) = (
      n,
      (
        refl,
        alone_free m 2 (changed_span insert_second) alone,
        omega arith,
        ((omega arith, tt), alone_below m 2 5 alone (omega arith), alone_above m 2 5 alone tt),
        refl,
      ),
      (p, (5, insert_second, refl, second_answer (107 ∷ []) (49 ∷ []) (50 ∷ []), refl), rolls_back p refl),
    ) in
    (gone (rolling p), starts (107 ∷ []) (49 ∷ []) ends (gone (rolling p)) rest)

-- nobody is told that it rolled back who didn't ask for it
pub never_rolling_back_is_none : IsRun never_rolling_back → ⊥
never_rolling_back_is_none h = grind arith

-- nobody begins by the number of another that began
pub number_twice_is_none : IsRun number_twice → ⊥
number_twice_is_none h =
    let m : Machine = begun fresh 2 in
    let ends : List Line = TellsRolledBack 2 ∷ Begins 2 ∷ [] in
    let rolls = after_begins fresh 2 (RollsBack 2 ∷ ends) h.0 h.1 in
    let tells : Steps (rolling m) ends h.0 = subst (λ x. Steps x ends h.0) rolls.1.1 rolls.2 in
    let again : Steps (gone (rolling m)) (Begins 2 ∷ []) h.0 =
    subst (λ x. Steps x (Begins 2 ∷ []) h.0) tells.1.1 tells.2 in
    omega (arith, again.1.0.1 2 refl)

-- a second insert isn't answered Inserted
pub inserted_twice_is_none : IsRun inserted_twice → ⊥
inserted_twice_is_none h = grind (arith, inserted, after_insert, after_acts, after_told, acted, second_answer)
