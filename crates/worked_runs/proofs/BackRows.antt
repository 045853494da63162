-- A run with a savepoint, and why its wrong version is none.
use Rattle.std.proofs.Common.{List, [], ◌∷◌, refl, subst, arith, true, Some}
use Rattle.record_key.specs.declared.op.Answer.TheVariants.{Inserted}
use Rattle.history.specs.History.{cross}
use Rattle.history.specs.Spans.{changed_span}
use Rattle.history.specs.ListMachine.{Machine, Line, Open, Rolling, Saves, GoesBack, Steps, IsRun, with_txn, with_status, fresh}
use Rattle.worked_runs.specs.Rows.{insert_a, insert_again, crossed_is_seen}
use Rattle.worked_runs.proofs.Walking.{begun, acted, told, IsAlone, alone_with, alone_free, alone_above, alone_below, fresh_below, first_answer}

-- the machines of the run
abbrev saved : Machine
saved = with_txn (begun fresh 2) 2 (record ((begun fresh 2).txns 2) { saves = [] ∷ [] })

abbrev once : Machine
once = told (acted saved 2 insert_a 3) 2 insert_a 3 Inserted

abbrev going_back : Machine
going_back =
    record (with_txn once 2 (record (once.txns 2) { status = Rolling (Some 1) })) { h = cross (λ _. true) 2 once.h }

abbrev back : Machine
back = with_status going_back 2 Open

abbrev twice : Machine
twice = acted back 2 insert_a 5

alone_begun : IsAlone (begun fresh 2) 2
alone_begun = alone_with fresh 2 _ (λ u apart. refl)

alone_saved : IsAlone saved 2
alone_saved = alone_with (begun fresh 2) 2 _ alone_begun

alone_once : IsAlone once 2
alone_once = alone_with (acted saved 2 insert_a 3) 2 _ (alone_with saved 2 _ alone_saved)

alone_back : IsAlone back 2
alone_back = alone_with going_back 2 _ (alone_with once 2 _ alone_once)

pub insert_again_is_run : IsRun insert_again
insert_again_is_run =
    let last : Machine = told twice 2 insert_a 5 Inserted in (
      last,
      (
        begun fresh 2,
        (fresh_below 2, refl),
        (
          saved,
          (refl, refl, omega arith, refl),
          (
            acted saved 2 insert_a 3,
            (
              refl,
              alone_free saved 2 (changed_span insert_a) alone_saved,
              omega arith,
              (tt, alone_below saved 2 3 alone_saved (omega arith), alone_above saved 2 3 alone_saved tt),
              refl,
            ),
            (
              once,
              (3, insert_a, refl, first_answer (97 ∷ []) (49 ∷ []), refl),
              (
                going_back,
                ([], refl, omega arith, refl, refl),
                (
                  back,
                  (refl, refl),
                  (
                    twice,
                    (
                      refl,
                      alone_free back 2 (changed_span insert_a) alone_back,
                      omega arith,
                      (
                        (omega arith, tt),
                        alone_below back 2 5 alone_back (omega arith),
                        alone_above back 2 5 alone_back tt,
                      ),
                      refl,
                    ),
                    (last, (5, insert_a, refl, first_answer (97 ∷ []) (49 ∷ []), refl), refl),
                  ),
                ),
              ),
            ),
          ),
        ),
      ),
    )

-- what must follow the savepoint, and the call that goes back to it
after_saves : (lines : List Line) (last : Machine) → Steps (begun fresh 2) (Saves 2 1 ∷ lines) last
    → Steps saved lines last
after_saves lines last h = subst (λ m. Steps m lines last) h.1.3 h.2

after_goes_back : (lines : List Line) (last : Machine) → Steps once (GoesBack 2 1 ∷ lines) last
    → Steps going_back lines last
after_goes_back lines last h = grind arith

pub crossed_is_seen_is_none : IsRun crossed_is_seen → ⊥
crossed_is_seen_is_none h = grind arith
