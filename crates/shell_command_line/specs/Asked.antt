-- What the words of a command line ask for, by the subcommand that they name and what its options are.
use Rattle.std.specs.Prelude.{◌≡◌, ◌⊎◌, ◌<◌, ◌≤◌, ℕ, Bool, true, false, List, Option, Some, None, ⊤, codes, option_map}
use Rattle.std.specs.Borrow.{Bor}
use Rattle.std.specs.Str.Parse.{digits_value, without_leading_plus}
use Rattle.clap.specs.Values.{IsUnsignedIn}
use Rattle.clap.specs.Walk.{Row, Text, first_of, one_of}
use Rattle.shell_command_line.specs.declared.task.Task.{Task}
use Rattle.shell_command_line.specs.declared.task.Task.TheVariants as task

-- an option is a number in its range, given or by default
pub record NamesCount (rows : List Row) (option : Text) (most : ℕ) : Type 0 where
  pub text : Text
  pub given : one_of option rows ≡ Some text
  pub within : IsUnsignedIn 1 most text

-- the greatest number of a line or of events: those below 2 to the power of 48 may be asked for
abbrev pub most_number : ℕ
most_number = 281474976710655

-- an option is left out, or a number in its range
abbrev pub MayCount : List Row → Text → Type 0
MayCount rows option = (one_of option rows ≡ None) ⊎ NamesCount rows option most_number

-- the words may ask for a script, run, explained or drawn, for clients, or for a store
abbrev pub MayAskFor : Option (Text × List Row) → Type 0
MayAskFor None = ⊥
MayAskFor (Some s) = (s.0 ≡ codes "run")
    ⊎ (((s.0 ≡ codes "pool") × NamesCount s.1 (codes "sessions") 8 × NamesCount s.1 (codes "rounds") 99
    × NamesCount s.1 (codes "locks") 3)
    ⊎ (((s.0 ≡ codes "explain") × MayCount s.1 (codes "at"))
    ⊎ (((s.0 ≡ codes "draw") × MayCount s.1 (codes "last"))
    ⊎ ((s.0 ≡ codes "compact") ⊎ ((s.0 ≡ codes "check")
    ⊎ ((s.0 ≡ codes "dump") ⊎ ((s.0 ≡ codes "load") ⊎ ((s.0 ≡ codes "stat")
    ⊎ ((s.0 ≡ codes "dc") ⊎ (s.0 ≡ codes "tc"))))))))))

-- it is this number
pub record IsGivenNumber (rows : List Row) (option : Text) (n : ℕ) : Type 0 where
  pub text : Text
  pub given : one_of option rows ≡ Some text
  pub number : n ≡ digits_value 10 (without_leading_plus text)

-- and that lies in its range
abbrev pub IsCount : List Row → Text → ℕ → ℕ → Type 0
IsCount rows option most n = IsGivenNumber rows option n × (1 ≤ n) × (n ≤ most)

-- it is none where it is left out, else the number in its range that is given
abbrev pub IsGivenCount : List Row → Text → Option ℕ → Type 0
IsGivenCount rows option None = one_of option rows ≡ None
IsGivenCount rows option (Some n) = IsCount rows option most_number n

-- whether the flag is set: given, or not, as by default
pub record IsSet (rows : List Row) (flag : Text) (set : Bool) : Type 0 where
  pub given : one_of flag rows ≡ Some (codes "true") → set ≡ true
  pub otherwise : one_of flag rows ≡ Some (codes "false") → set ≡ false
  pub absent : one_of flag rows ≡ None → set ≡ false

-- it is none where it is left out, else the text that is given
abbrev pub IsGivenText : List Row → Text → Option (Bor Text) → Type 0
IsGivenText rows option name = option_map (λ text. text.now) name ≡ first_of option rows

-- the subcommand of this name, told this store
abbrev pub NamesStore : Text × List Row → Text → Option (Bor Text) → Type 0
NamesStore s name store = (s.0 ≡ name) × IsGivenText s.1 (codes "store") store

-- the task is what they ask for
abbrev pub AsksFor : Option (Text × List Row) → Task → Type 0
AsksFor None t = ⊥
AsksFor (Some s) (task.Run continues store reads_only creates strict interactive keeps_log) = NamesStore s (codes "run") store
    × IsSet s.1 (codes "continue") continues
    × IsSet s.1 (codes "read-only") reads_only × IsSet s.1 (codes "create") creates
    × IsSet s.1 (codes "strict") strict × IsSet s.1 (codes "interactive") interactive
    × IsSet s.1 (codes "keep-log") keeps_log
AsksFor (Some s) (task.Compact store) = NamesStore s (codes "compact") store
AsksFor (Some s) (task.Check store) = NamesStore s (codes "check") store
AsksFor (Some s) (task.Dump store) = NamesStore s (codes "dump") store
AsksFor (Some s) (task.Load store creates) = NamesStore s (codes "load") store × IsSet s.1 (codes "create") creates
AsksFor (Some s) (task.Stat store) = NamesStore s (codes "stat") store
AsksFor (Some s) (task.Dc store) = NamesStore s (codes "dc") store
AsksFor (Some s) (task.Tc store script) = NamesStore s (codes "tc") store × IsGivenText s.1 (codes "script") script
AsksFor (Some s) (task.Pool sessions rounds locks) = (s.0 ≡ codes "pool")
    × IsCount s.1 (codes "sessions") 8 sessions × IsCount s.1 (codes "rounds") 99 rounds
    × IsCount s.1 (codes "locks") 3 locks
AsksFor (Some s) (task.Explain at) = (s.0 ≡ codes "explain") × IsGivenCount s.1 (codes "at") at
AsksFor (Some s) (task.Draw last) = (s.0 ≡ codes "draw") × IsGivenCount s.1 (codes "last") last

-- it is a script or a store, or there is a client
abbrev pub HasClient : Task → Type 0
HasClient (task.Run continues store reads_only creates strict interactive keeps_log) = ⊤
HasClient (task.Compact store) = ⊤
HasClient (task.Check store) = ⊤
HasClient (task.Dump store) = ⊤
HasClient (task.Load store creates) = ⊤
HasClient (task.Stat store) = ⊤
HasClient (task.Dc store) = ⊤
HasClient (task.Tc store script) = ⊤
HasClient (task.Pool sessions rounds locks) = 0 < sessions
HasClient (task.Explain at) = ⊤
HasClient (task.Draw last) = ⊤
