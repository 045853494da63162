-- Runs with increments, and why their wrong versions are none.
use Rattle.std.proofs.Common.{◌≡◌, ℕ, ◌<◌, List, [], ◌∷◌, Option, Some, None, refl, sym, ap, ◌∙◌, arith}
use Rattle.std.specs.Prelude.{get_or}
use Rattle.std.specs.FinMap.{get, get-empty}
use Rattle.record_key.specs.declared.op.Answer.TheVariants.{Updated, NotNumber, Added}
use Rattle.record_key.specs.Laws.{key_cmp}
use Rattle.record_key.specs.Amounts.{amount_bytes, amount_in, summed}
use Rattle.record_key.specs.Table.{Bytes, add_answer, answer_at, answer_in, value_after}
use Rattle.record_key.proofs.Tables.{get-with_record_same}
use Rattle.log_laws.proofs.Statuses.{same_op}
use Rattle.history.specs.History.{plain}
use Rattle.history.specs.Spans.{Span, changed_span}
use Rattle.history.specs.ListMachine.{Machine, Line, OfKey, asked_span, Open, Reading, Committing, Committed, Acts, Begins, Commits, TellsCommitted, TellsAnswer, Reads, TellsRow, RollsBack, TellsRolledBack, Steps, IsRun, IsFree, IsAboveAll, with_txn, with_status, ended}
use Rattle.worked_runs.specs.Rows.{number, insert_five, add_three, add_ten, update_text, increment_undone, old_value_restored, add_refused, stale_value_added}
use Rattle.worked_runs.proofs.Walking.{begun, acted, told, inserted, IsAlone, alone_inserted, alone_free, alone_above, alone_below, starts}
use Rattle.worked_runs.proofs.Following.{next, after_all}

abbrev counter : Bytes
counter = 107 ∷ []

-- what a number and an amount come to
five_and_ten : summed (number 5) 10 ≡ Some (number 15)
unfolding summed amount_in amount_bytes
five_and_ten = refl

fifteen_and_three : summed (number 15) 3 ≡ Some (number 18)
unfolding summed amount_in amount_bytes
fifteen_and_three = refl

no_number : summed (118 ∷ []) 3 ≡ None
unfolding summed
no_number = refl

-- what stands at the counter
stands_five : get (plain (inserted insert_five).h) counter ≡ Some (number 5)
stands_five = get-with_record_same (plain []) counter _ ∙ ap (value_after insert_five) (get-empty key_cmp counter)

-- ---- an Add answered by what stands

abbrev texted : Machine
texted = told (acted (inserted insert_five) 2 update_text 5) 2 update_text 5 (Updated (number 5))

alone_texted : IsAlone texted 2
alone_texted = grind arith

stands_text : get (plain texted.h) counter ≡ Some (118 ∷ [])
stands_text = grind (arith, get-with_record_same, stands_five)

not_number : answer_in (plain texted.h) add_three ≡ NotNumber
not_number = ap (answer_at add_three) stands_text ∙ ap (add_answer 3) no_number

pub add_refused_is_run : IsRun add_refused
add_refused_is_run =
    let m : Machine = inserted insert_five in
    let n : Machine = acted m 2 update_text 5 in
    let p : Machine = acted texted 2 add_three 7 in
    let last : Machine = told p 2 add_three 7 NotNumber in
    let alone = alone_inserted insert_five in
    let ends : List Line =
    Acts 2 update_text 5 ∷ TellsAnswer 2 (Updated (number 5)) ∷ Acts 2 add_three 7 ∷ TellsAnswer 2 NotNumber ∷ [] in
    let rest : Steps m ends last = (
      n,
      (
        refl,
        alone_free m 2 (changed_span update_text) alone,
        omega arith,
        ((omega arith, tt), alone_below m 2 5 alone (omega arith), alone_above m 2 5 alone tt),
        refl,
      ),
      (
        texted,
        (5, update_text, refl, sym (ap (answer_at update_text) stands_five), refl),
        (
          p,
          (
            refl,
            alone_free texted 2 (changed_span add_three) alone_texted,
            omega arith,
            (
              (omega arith, (omega arith, tt)),
              alone_below texted 2 7 alone_texted (omega arith),
              alone_above texted 2 7 alone_texted tt,
            ),
            refl,
          ),
          (last, (7, add_three, refl, sym not_number, refl), refl),
        ),
      ),
    ) in
    (last, starts counter (number 5) ends last rest)

pub stale_value_added_is_none : IsRun stale_value_added → ⊥
stale_value_added_is_none h = grind (arith, after_all, same_op, not_number)

-- ---- two transactions add to one counter

abbrev committing : Machine
committing = with_status (inserted insert_five) 2 Committing

abbrev committed : Machine
committed = with_txn committing 2 (ended (committing.txns 2) Committed)

alone_committed : IsAlone committed 2
alone_committed = grind arith

abbrev begun_both : Machine
begun_both = begun (begun committed 6) 7

abbrev asked_three : Machine
asked_three = acted begun_both 6 add_three 8

abbrev asked_ten : Machine
asked_ten = acted asked_three 7 add_ten 9

abbrev told_ten : Machine
told_ten = told asked_ten 7 add_ten 9 (Added 10)

abbrev told_three : Machine
told_three = told told_ten 6 add_three 8 (Added 3)

abbrev going_back : Machine
going_back = next told_three (RollsBack 6)

abbrev taken_back : Machine
taken_back = next going_back (TellsRolledBack 6)

abbrev asks : Machine
asks = next taken_back (Reads 7 (OfKey counter))

-- whoever has committed holds nothing
free_committed : (t : ℕ) (s : Span) → IsFree committed t s
free_committed t s u apart h = grind arith

free_three : IsFree begun_both 6 (changed_span add_three)
free_three = grind arith

free_ten : IsFree asked_three 7 (changed_span add_ten)
free_ten = grind arith

free_read : IsFree taken_back 7 (asked_span (OfKey counter))
free_read u apart h = grind arith

above_committed : (k : ℕ) → 3 < k → IsAboveAll k committed
above_committed k less = grind arith

above_first : (k : ℕ) → 6 < k → IsAboveAll k (begun committed 6)
above_first k less = grind arith

above_both : (k : ℕ) → 7 < k → IsAboveAll k begun_both
above_both k less = grind arith

above_three : IsAboveAll 9 asked_three
above_three = grind arith

-- the answers, and what the other's ten leave
added_ten : Added 10 ≡ answer_in (plain asked_ten.h) add_ten
added_ten = sym (ap (answer_at add_ten) stands_five ∙ ap (add_answer 10) five_and_ten)

stands_fifteen : get (plain told_ten.h) counter ≡ Some (number 15)
stands_fifteen = grind (arith, get-with_record_same, stands_five, five_and_ten)

added_three : Added 3 ≡ answer_in (plain told_ten.h) add_three
added_three = sym (ap (answer_at add_three) stands_fifteen ∙ ap (add_answer 3) fifteen_and_three)

pub increment_undone_is_run : IsRun increment_undone
increment_undone_is_run =
    let m : Machine = inserted insert_five in
    let last : Machine = with_status asks 7 Open in
    let reads : List Line = Reads 7 (OfKey counter) ∷ TellsRow 7 (Some (number 15)) ∷ [] in
    let tells : List Line =
    TellsAnswer 7 (Added 10) ∷ TellsAnswer 6 (Added 3) ∷ RollsBack 6 ∷ TellsRolledBack 6 ∷ reads in
    let acts : List Line = Begins 6 ∷ Begins 7 ∷ Acts 6 add_three 8 ∷ Acts 7 add_ten 9 ∷ tells in
    let read : Steps taken_back reads last = (
      asks,
      (refl, refl, free_read, refl),
      (last, (counter, refl, sym stands_fifteen, refl), refl),
    ) in
    let tell : Steps asked_ten tells last = (
      told_ten,
      (9, add_ten, refl, added_ten, refl),
      (
        told_three,
        (8, add_three, refl, added_three, refl),
        (going_back, (refl, refl), (taken_back, (refl, refl), read)),
      ),
    ) in
    let act : Steps committed acts last = (
      begun committed 6,
      (above_committed 6 (omega arith), refl),
      (
        begun_both,
        (above_first 7 (omega arith), refl),
        (
          asked_three,
          (refl, free_three, omega arith, above_both 8 (omega arith), refl),
          (asked_ten, (refl, free_ten, omega arith, above_three, refl), tell),
        ),
      ),
    ) in (
      last,
      starts counter (number 5) (Commits 2 ∷ TellsCommitted 2 ∷ acts) last
          (committing, (refl, refl), (committed, (refl, refl), act)),
    )

-- the last byte of a counter's value
abbrev last_byte : Option Bytes → ℕ
last_byte None = 0
last_byte (Some v) = get_or v 7 0

same_key : (k q : Bytes) → Reading (OfKey k) ≡ Reading (OfKey q) → k ≡ q
same_key k q e = cc

pub old_value_restored_is_none : IsRun old_value_restored → ⊥
old_value_restored_is_none h = grind (arith, after_all, same_key, stands_fifteen)
