-- Subcommands that are added in turn, and an argument that is added.
use Rattle.std.proofs.Common.{◌≡◌, ◌∙◌, ◌||◌, Bool, false, List, [], ◌∷◌, ap, ap₂, map, sym}
use Rattle.std.specs.List.{AllByRecursion}
use Rattle.clap.specs.Built.{AddsArg, AddsInTurn, AddsSubcommand}
use Rattle.clap.specs.Simple.{App, Shape, app_of, shape_of, with_subcommand}
use Rattle.clap.specs.declared.builder.arg.Arg.{Arg}
use Rattle.clap.specs.declared.builder.command.Command.{Command}
use Rattle.shell_command_line.specs.CommandLine.{IsLocal}

-- with each of these
abbrev pub with_all : App → List Shape → App
with_all a [] = a
with_all a (s ∷ ss) = with_all (with_subcommand a s) ss

pub added_all : (old : Command) (xs : List Command) (new : Command) → AllByRecursion IsLocal xs
    → AddsInTurn AddsSubcommand old xs new → app_of new ≡ with_all (app_of old) (map shape_of xs)
added_all old [] new local same = ap app_of (sym same)
added_all old (x ∷ xs) new local (m, adds, rest) =
    added_all m xs new local.1 rest
    ∙ ap (λ (a : App). with_all a (map shape_of xs)) (adds.shape local.0)

-- a command stays local where what is added isn't handed down
pub local_with : (old : Command) (a : Arg) (new : Command) → AddsArg old a new → IsLocal old → a.global ≡ false → IsLocal new
local_with old a new added local none = added.globals ∙ ap₂ (λ (x y : Bool). x || y) local none
