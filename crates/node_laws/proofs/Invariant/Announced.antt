-- Numbers up to which every request has a stable answer.
use Rattle.std.proofs.Common.{◌≡◌, ℕ, ◌+◌, ◌-◌, ◌≤◌, List, length, sym, ap, ◌∙◌, subst, arith}
use Rattle.std.specs.Prelude.{drop}
use Rattle.std.proofs.lemmas.List.{length-drop, drop-drop}
use Rattle.history.specs.declared.record.Record.{Record}
use Rattle.history.specs.Legal.{FitsCheckpoint, AreAnswered}
use Rattle.framed_log.specs.Beginning.{beginning}
use Rattle.tc_log.proofs.Answered.{answered_whole}
use Rattle.node_laws.specs.Kept.{IsAnsweredBy}

-- they are answered
pub all_answered : (log : List Record) (end l : ℕ) → IsAnsweredBy log end l → AreAnswered log l
all_answered log end l h = (answered_whole (length log - end) log l h).answered

-- the number is among the first records
pub most_sure : (log : List Record) (end l : ℕ) → end ≤ length log → IsAnsweredBy log end l → l ≤ end
most_sure log end l within h =
    let short : length (beginning log end) ≡ length log - (length log - end) = length-drop (length log - end) log in
    omega (arith, h.within, short, within)

pub answered_less : (log : List Record) (end n l : ℕ) → n ≤ l → IsAnsweredBy log end l → IsAnsweredBy log end n
answered_less log end n l less h = record {
  within = omega (arith, less, h.within);
  answered = λ m o below asks. h.answered m o (omega (arith, below, less)) asks;
}

-- so it stays where more records are first
pub part_grows : (log : List Record) (s t l : ℕ) → s ≤ t → t ≤ length log → FitsCheckpoint (beginning log s) l
    → FitsCheckpoint (beginning log t) l
part_grows log s t l le within h =
    let e : length log - s ≡ (length log - t) + (t - s) = omega (arith, le, within) in
    let P : List Record → Type 0 = λ x. FitsCheckpoint x l in
    answered_whole (t - s) (beginning log t) l
    (subst P (ap (λ k. drop k log) e ∙ sym (drop-drop (t - s) (length log - t) log)) h)
