use Rattle.std.proofs.Common.{◌≡◌, ◌≤◌, length, take, vec_len, vec_capacity}
use Rattle.engine_monitor.specs.Batches.{ActsEach}
use Rattle.engine_monitor.proofs.client.Client.act_each.Given as goal

-- the operations so far were answered, and there is room for the other answers
abbrev pub invariant-loop-index : goal.invariant-loop-index
invariant-loop-index g l = record {
  number : l.self.number ≡ l.initial.self.number;
  acts : ActsEach (take l.index l.ops) l.answers.items l.initial.self.calls l.self.calls;
  count : vec_len l.answers ≡ l.index;
  room : length l.ops ≤ vec_capacity l.answers;
}
