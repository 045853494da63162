use Rattle.std.proofs.Common.{◌≡◌, ◌≤◌, length, vec_len, vec_capacity}
use Rattle.shell_pool.proofs.clients.start_all.Given as goal

-- so many clients have their threads
abbrev pub invariant-loop-session : goal.invariant-loop-session
invariant-loop-session g l = record {
  client : l.client ≡ length l.yielded;
  count : vec_len l.threads ≡ length l.yielded;
  room : vec_len l.fn.sessions ≤ vec_capacity l.threads;
}
