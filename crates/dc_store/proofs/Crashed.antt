-- A crash leaves whole frames, and perhaps a part of one.
use Rattle.framed_log.proofs.Crashed.{crash_leaves}
use Rattle.dc_store.specs.Recovering.{HoldsFrames}
use Rattle.dc_store.specs.Restarts.{CrashesLeaveFrames}
use Rattle.dc_store.proofs.ReadOnce.{log_framing}

pub crashes_leave_frames : CrashesLeaveFrames
crashes_leave_frames whole log stable forced pending left records kept leaves =
    crash_leaves log_framing HoldsFrames log stable forced pending left records kept.within kept.stored kept.covered
    leaves (λ n frames. frames)
