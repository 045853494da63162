-- What is true of every log, and whatever the component stands for.
use Rattle.std.specs.Prelude.{◌≡◌, ℕ, zero, suc, ◌+◌, ◌≤◌, ◌==◌, true, false, List, [], ◌∷◌, ◌++◌, Option, Some, length, if◌then◌else◌}
use Rattle.history.specs.declared.record.Record.{Record}
use Rattle.history.specs.declared.record.Record.TheVariants as is
use Rattle.history.specs.Log.{record_at}
use Rattle.history.specs.Legal.{IsLegal}
use Rattle.history.specs.ListMachine.{Machine, Line, TellsCommitted, TellsLost, Crashes, Step, Steps, fresh}
use Rattle.simulation.specs.View.{View, StandsFor, opened}

-- with nothing logged, the machine to which nothing was done
abbrev pub StartsFresh : Type 0
StartsFresh = StandsFor (opened []) fresh

-- a beginning of the log is left, with all that is stable: the component that is opened on it stands for a
-- machine that a crash may leave
abbrev pub CrashIsAStep : Type 0
CrashIsAStep =
    (v : View) (m : Machine) (newer older : List Record) → IsLegal v.log → StandsFor v m → v.log ≡ newer ++ older
    → v.stable ≤ length older
    → (n : Machine) × Step m Crashes n × StandsFor (opened older) n

-- whose Commit becomes stable is told so, in the order of the log
abbrev pub told_at : Option Record → List Line
told_at (Some (is.Commit t)) = TellsCommitted t ∷ []
told_at _ = []

abbrev pub told_after : List Record → ℕ → ℕ → List Line
told_after log stable zero = []
told_after log stable (suc k) = told_at (record_at log (stable + 1)) ++ told_after log (stable + 1) k

-- this many records more are stable
abbrev pub CommitsAreTold : Type 0
CommitsAreTold =
    (k : ℕ) (v : View) (m : Machine) → IsLegal v.log → StandsFor v m → v.stable + k ≤ length v.log
    → (n : Machine) × Steps m (told_after v.log v.stable k) n × StandsFor (record v { stable = v.stable + k }) n

-- a loser has its End
abbrev pub after_lost : View → ℕ → View
after_lost v t = record v { log = is.End t ∷ v.log; loses = λ u. if u == t then false else v.loses u }

abbrev pub LosersAreTold : Type 0
LosersAreTold =
    (v : View) (m : Machine) (t : ℕ) → IsLegal (is.End t ∷ v.log) → StandsFor v m → v.loses t ≡ true
    → (n : Machine) × Step m (TellsLost t) n × StandsFor (after_lost v t) n
