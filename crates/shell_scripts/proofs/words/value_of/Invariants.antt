use Rattle.std.proofs.Common.{◌≡◌, ◌<◌, ◌^◌, drop}
use Rattle.shell_scripts.specs.Words.{value_behind}
use Rattle.shell_scripts.proofs.words.value_of.Given as goal

-- behind the digits so far, the rest write what all of them write
abbrev pub invariant-loop-digit : goal.invariant-loop-digit
invariant-loop-digit l = record {
  value : value_behind l.number (drop l.digit-index l.digits) ≡ value_behind 0 l.digits;
  in_range : l.number < 2 ^ 64;
}
