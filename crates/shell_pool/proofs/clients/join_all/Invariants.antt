use Rattle.std.proofs.Common.{◌≡◌, ◌≤◌, None, length, vec_len, vec_capacity}
use Rattle.shell_pool.proofs.clients.join_all.Given as goal

-- so many sessions are back, and so many values unless a client stopped
abbrev pub invariant-loop-thread : goal.invariant-loop-thread
invariant-loop-thread g l = record {
  sessions : vec_len l.sessions ≡ length l.yielded;
  sessions_room : vec_len l.fn.started.threads ≤ vec_capacity l.sessions;
  within : vec_len l.values ≤ length l.yielded;
  values_room : vec_len l.fn.started.threads ≤ vec_capacity l.values;
  all : l.refused ≡ None → vec_len l.values ≡ length l.yielded;
}
