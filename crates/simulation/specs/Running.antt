-- What the component does in normal running, and the step of the list machine that it is.
use Rattle.std.specs.Prelude.{◌≡◌, ◌⊎◌, ℕ, ◌+◌, ◌-◌, ◌≤◌, ◌==◌, true, List, [], ◌∷◌, ◌++◌, slice_get, take, Option, Some, None, length, if◌then◌else◌}
use Rattle.std.specs.FinMap.{get}
use Rattle.record_key.specs.declared.op.Op.{Op}
use Rattle.record_key.specs.declared.op.Answer.{Answer}
use Rattle.record_key.specs.Table.{Bytes}
use Rattle.history.specs.declared.record.Record.TheVariants as is
use Rattle.record_key.specs.Order.{HasKeys, rows_in}
use Rattle.history.specs.Spans.{changed_span}
use Rattle.history.specs.History.{plain}
use Rattle.history.specs.Log.{IsOpBy}
use Rattle.history.specs.Legal.{IsLegal, Stands}
use Rattle.history.specs.Values.{HasRightAnswers}
use Rattle.history.specs.ListMachine.{Query, OfKey, OfRange, asked_range, asked_span, Machine, Line, Begins, Acts, TellsAnswer, RollsBack, TellsRolledBack, TellsBack, Commits, Saves, GoesBack, Reads, TellsRow, TellsRows, Step, IsFree}
use Rattle.simulation.specs.View.{View, Doing, Ready, Awaits, Looks, Rolls, is_to_undo, StandsFor}

-- the function with this value at a number
abbrev pub put : {A : Type 0} → (ℕ → A) → ℕ → A → ℕ → A
put f t x u = if u == t then x else f u

abbrev pub does : View → ℕ → Option Doing → View
does v t d = record v { doing = put v.doing t d }

-- the machine may give the line, and then the component stands so for a machine that it leaves
abbrev pub LeadsOn : View → Machine → Line → View → Type 0
LeadsOn v m line w = (n : Machine) × Step m line n × StandsFor w n

abbrev pub after_begin : View → View
after_begin v = record v {
  log = is.Begin ∷ v.log;
  doing = put v.doing (length v.log + 1) (Some Ready);
  saves = put v.saves (length v.log + 1) [];
  spans = put v.spans (length v.log + 1) [];
}

abbrev pub BeginIsAStep : Type 0
BeginIsAStep = (v : View) (m : Machine) → IsLegal v.log → StandsFor v m
    → LeadsOn v m (Begins (length v.log + 1)) (after_begin v)

abbrev pub after_act : View → ℕ → ℕ → Op → View
after_act v t p o = record v {
  log = is.Op t p o ∷ v.log;
  doing = put v.doing t (Some (Awaits (length v.log + 1)));
  spans = put v.spans t (changed_span o ∷ v.spans t);
}

abbrev pub ActIsAStep : Type 0
ActIsAStep =
    (v : View) (m : Machine) (t p : ℕ) (o : Op) → IsLegal (is.Op t p o ∷ v.log) → StandsFor v m → v.doing t ≡ Some Ready
    → IsFree m t (changed_span o)
    → LeadsOn v m (Acts t o (length v.log + 1)) (after_act v t p o)

abbrev pub after_commit : View → ℕ → View
after_commit v t = record v { log = is.Commit t ∷ v.log; doing = put v.doing t None }

abbrev pub CommitIsAStep : Type 0
CommitIsAStep =
    (v : View) (m : Machine) (t : ℕ) → IsLegal (is.Commit t ∷ v.log) → StandsFor v m → v.doing t ≡ Some Ready
    → v.stable ≤ length v.log
    → LeadsOn v m (Commits t) (after_commit v t)

abbrev pub RollbackIsAStep : Type 0
RollbackIsAStep =
    (v : View) (m : Machine) (t : ℕ) → StandsFor v m → v.doing t ≡ Some Ready
    → LeadsOn v m (RollsBack t) (does v t (Some (Rolls None 0)))

-- a compensation of what a rollback is to undo, or of a loser's operation, is no step
abbrev pub CompIsNoStep : Type 0
CompIsNoStep =
    (v : View) (m : Machine) (t u x : ℕ) (i : Option Op) → IsLegal (is.Comp t u x i ∷ v.log) → StandsFor v m
    → ((v.loses t ≡ true) ⊎ (is_to_undo (v.doing t) u ≡ true))
    → StandsFor (record v { log = is.Comp t u x i ∷ v.log }) m

-- nor is the answer of a compensation, or of a loser's operation
abbrev pub UndoneIsNoStep : Type 0
UndoneIsNoStep =
    (v : View) (m : Machine) (n : ℕ) (a : Answer) → IsLegal (is.Answer n a ∷ v.log) → StandsFor v m
    → ((t : ℕ) (o : Op) → IsOpBy v.log n t o → v.loses t ≡ true)
    → StandsFor (record v { log = is.Answer n a ∷ v.log }) m

abbrev pub after_rollback : View → ℕ → View
after_rollback v t = record v { log = is.End t ∷ v.log; doing = put v.doing t None }

abbrev pub RolledBackIsTold : Type 0
RolledBackIsTold =
    (v : View) (m : Machine) (t b : ℕ) → IsLegal (is.End t ∷ v.log) → StandsFor v m → v.doing t ≡ Some (Rolls None b)
    → LeadsOn v m (TellsRolledBack t) (after_rollback v t)

abbrev pub BackIsTold : Type 0
BackIsTold =
    (v : View) (m : Machine) (t s b : ℕ) → StandsFor v m → v.doing t ≡ Some (Rolls (Some s) b)
    → ((n : ℕ) → Stands v.log t n → n ≤ b)
    → LeadsOn v m (TellsBack t s) (does v t (Some Ready))

-- an answer comes: where all answers of the log are right, the client is told that of the machine
abbrev pub after_answer : View → ℕ → ℕ → Answer → View
after_answer v t n a = record v { log = is.Answer n a ∷ v.log; doing = put v.doing t (Some Ready) }

abbrev pub AnswerIsTold : Type 0
AnswerIsTold =
    (v : View) (m : Machine) (t n : ℕ) (a : Answer) → IsLegal (is.Answer n a ∷ v.log)
    → HasRightAnswers (is.Answer n a ∷ v.log) → StandsFor v m
    → v.doing t ≡ Some (Awaits n) → LeadsOn v m (TellsAnswer t a) (after_answer v t n a)

abbrev pub after_save : View → ℕ → View
after_save v t = record v { saves = put v.saves t (v.saves t ++ length v.log ∷ []) }

abbrev pub SaveIsAStep : Type 0
SaveIsAStep =
    (v : View) (m : Machine) (t s : ℕ) → StandsFor v m → v.doing t ≡ Some Ready → length (v.saves t) + 1 ≡ s → s ≤ 16
    → LeadsOn v m (Saves t s) (after_save v t)

abbrev pub after_go_back : View → ℕ → ℕ → ℕ → View
after_go_back v t s end = record v {
  doing = put v.doing t (Some (Rolls (Some s) end));
  saves = put v.saves t (take s (v.saves t));
}

abbrev pub GoBackIsAStep : Type 0
GoBackIsAStep =
    (v : View) (m : Machine) (t s end : ℕ) → StandsFor v m → v.doing t ≡ Some Ready → 1 ≤ s
    → slice_get (v.saves t) (s - 1) ≡ Some end
    → LeadsOn v m (GoesBack t s) (after_go_back v t s end)

-- a read, and what it tells
abbrev pub after_read : View → ℕ → Query → View
after_read v t q = record v { doing = put v.doing t (Some (Looks q)); spans = put v.spans t (asked_span q ∷ v.spans t) }

abbrev pub ReadIsAStep : Type 0
ReadIsAStep =
    (v : View) (m : Machine) (t : ℕ) (q : Query) → StandsFor v m → v.doing t ≡ Some Ready → HasKeys (asked_range q)
    → IsFree m t (asked_span q)
    → LeadsOn v m (Reads t q) (after_read v t q)

abbrev pub RowIsTold : Type 0
RowIsTold =
    (v : View) (m : Machine) (t : ℕ) (k : Bytes) (value : Option Bytes) → StandsFor v m
    → v.doing t ≡ Some (Looks (OfKey k)) → value ≡ get (plain m.h) k
    → LeadsOn v m (TellsRow t value) (does v t (Some Ready))

abbrev pub RowsAreTold : Type 0
RowsAreTold =
    (v : View) (m : Machine) (t : ℕ) (lo : Bytes) (hi : Option Bytes) (rows : List (Bytes × Bytes)) → StandsFor v m
    → v.doing t ≡ Some (Looks (OfRange lo hi))
    → rows ≡ rows_in (asked_range (OfRange lo hi)) (plain m.h)
    → LeadsOn v m (TellsRows t rows) (does v t (Some Ready))
