-- The command line, as the library of command lines reads it.
use Rattle.std.specs.Prelude.{◌≡◌, ℕ, true, false, List, [], ◌∷◌, Some, codes}
use Rattle.clap.specs.Walk.{Rule, Text}
use Rattle.clap.specs.Simple.{App, Shape, new_app, new_rule, on_top, with_rule, with_subcommand}
use Rattle.clap.specs.declared.builder.command.Command.{Command}
use Rattle.clap.specs.declared.builder.command.Command.TheViews.{out-Command}
use Rattle.clap.specs.declared.builder.action.ArgAction.TheVariants.{SetTrue}
use Rattle.clap.specs.declared.builder.value_parser.ValueParser.TheVariants.{NonEmptyString, Unsigned}
use Rattle.shell_command_line.specs.Asked.{most_number}

-- the program, which has a version and must be told what to do
abbrev pub program : App
program =
    on_top (λ s. record s { subcommand_required = true; has_version = true }) (new_app (codes "undo_shell"))

-- an option that is a number from 1 to the most, this one where the words give none
abbrev pub counting : Text → ℕ → Text → Rule
counting name most default = record (new_rule name) {
  long = Some name;
  value_names = 1;
  defaults = default ∷ [];
  parser = Some (Unsigned 1 most);
}

-- how many clients there are, how many rounds each of them plays, and how many locks their engine has
abbrev pub sessions : Rule
sessions = counting (codes "sessions") 8 (codes "4")

abbrev pub rounds : Rule
rounds = counting (codes "rounds") 99 (codes "3")

abbrev pub locks : Rule
locks = counting (codes "locks") 3 (codes "3")

-- an option that is there or not
abbrev pub flag_option : Text → Rule
flag_option name = record (new_rule name) { long = Some name; action = Some SetTrue }

-- an option that is a text with something in it, and may be left out
abbrev pub naming : Text → Rule
naming name = record (new_rule name) {
  long = Some name;
  value_names = 1;
  parser = Some NonEmptyString;
}

-- a script is run on behind a failure
abbrev pub continuing : Rule
continuing = flag_option (codes "continue")

-- the folder of the store that a script is run on
abbrev pub storing : Rule
storing = naming (codes "store")

-- nothing is written to that
abbrev pub reading : Rule
reading = flag_option (codes "read-only")

-- it is made where it isn't there
abbrev pub creating : Rule
creating = flag_option (codes "create")

-- the lines that were refused are counted
abbrev pub counting_refusals : Rule
counting_refusals = flag_option (codes "strict")

-- it is run line by line, as its lines are read
abbrev pub interacting : Rule
interacting = flag_option (codes "interactive")

-- the log of the store isn't written anew where it has grown long
abbrev pub keeping_log : Rule
keeping_log = flag_option (codes "keep-log")

-- to run a script, without these four
abbrev pub plain_run : App
plain_run = with_rule (with_rule (with_rule (new_app (codes "run")) continuing) storing) reading

-- to run a script
abbrev pub run : App
run = with_rule (with_rule (with_rule (with_rule plain_run creating) counting_refusals) interacting) keeping_log

-- to do something with a store
abbrev pub on_store : Text → App
on_store name = with_rule (new_app name) storing

-- to write the log of a store anew
abbrev pub compact : App
compact = on_store (codes "compact")

-- to look at a store
abbrev pub check : App
check = on_store (codes "check")

-- to print the rows of a store
abbrev pub dump : App
dump = on_store (codes "dump")

-- to put rows into a store
abbrev pub load : App
load = with_rule (on_store (codes "load")) creating

-- to measure the rows of a store
abbrev pub stat : App
stat = on_store (codes "stat")

-- to serve requests as they come in
abbrev pub dc : App
dc = on_store (codes "dc")

-- the script that is played
abbrev pub scripting : Rule
scripting = naming (codes "script")

-- to play a script over a stream of messages
abbrev pub tc : App
tc = with_rule (on_store (codes "tc")) scripting

-- to let clients play on threads
abbrev pub pool : App
pool = with_rule (with_rule (with_rule (new_app (codes "pool")) sessions) rounds) locks

-- an option that is a number from 1 on, below 2 to the power of 48, and may be left out
abbrev pub numbering : Text → Rule
numbering name = record (new_rule name) {
  long = Some name;
  value_names = 1;
  parser = Some (Unsigned 1 most_number);
}

-- which line is explained alone
abbrev pub at : Rule
at = numbering (codes "at")

-- to explain a script
abbrev pub explain : App
explain = with_rule (new_app (codes "explain")) at

-- how many events are drawn
abbrev pub last : Rule
last = numbering (codes "last")

-- to draw a script
abbrev pub draw : App
draw = with_rule (new_app (codes "draw")) last

-- the program with what it may be told of scripts and clients
abbrev pub of_scripts : App
of_scripts =
    with_subcommand (with_subcommand (with_subcommand (with_subcommand program run.top) pool.top) explain.top) draw.top

-- the program with what it may be told of stores too
abbrev pub of_stores : App
of_stores = with_subcommand (with_subcommand
    (with_subcommand (with_subcommand (with_subcommand of_scripts compact.top) check.top) dump.top) load.top) stat.top

-- the program and all that it may be told: also to be one half of a node
abbrev pub command_line : App
command_line = with_subcommand (with_subcommand of_stores dc.top) tc.top

-- what it may be told to do
abbrev pub subcommands : List Shape
subcommands =
    run.top ∷ pool.top ∷ explain.top ∷ draw.top ∷ compact.top ∷ check.top ∷ dump.top ∷ load.top ∷ stat.top ∷ []

-- and to be
abbrev pub halves : List Shape
halves = dc.top ∷ tc.top ∷ []

-- it hands no argument down to subcommands
abbrev pub IsLocal : Command → Type 0
IsLocal command = (out-Command command).has_globals ≡ false
