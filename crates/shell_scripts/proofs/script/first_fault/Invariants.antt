use Rattle.std.proofs.Common.{◌≡◌, ◌+◌, ◌≤◌, length, option_map}
use Rattle.shell_scripts.specs.Script.{first_fault, fault_from, parts_left, size_left}
use Rattle.shell_scripts.proofs.script.first_fault.Given as goal

-- the first fault is the first one of what is left, and each line so far took a byte
abbrev pub invariant-loop-left : goal.invariant-loop-left
invariant-loop-left l = record {
  same_fault : first_fault l.fn.script ≡ fault_from (l.number + 1) (parts_left 10 (option_map (λ s. s.now) l.left));
  in_range : l.number + size_left (option_map (λ s. s.now) l.left) ≤ length l.fn.script + 1;
}

abbrev pub decreases-loop-left : goal.decreases-loop-left
decreases-loop-left l = size_left (option_map (λ s. s.now) l.left)
