use Rattle.std.proofs.Common.{sym, ◌∙◌, refl, inl}
use Rattle.dc_store.proofs.KeepsLeaves.{keeps_lowered}
use Rattle.dc_store.proofs.Spelling.{room_raised}
use Rattle.dc_store.proofs.Within.{checkpoint_refused, checkpoint_stops, checkpoint_ends}
use Rattle.dc_store.proofs.Written.{ordered_images}
use Rattle.dc_store.proofs.system.SystemTxns.checkpoint.Goals as goal

pub make_room-requires : goal.make_room-requires
make_room-requires g c = ordered_images _ c.self.invariant.leaves.each c.self.invariant.numbers

pub write_all-requires-clause-kept : goal.write_all-requires-clause-kept
write_all-requires-clause-kept g c =
    rw (c.raise.ensures.raised, c.in_default.ensures.same, c.in_default.ensures.unused)
    (keeps_lowered _ c.args.low c.requires c.self.invariant)

pub write_all-requires-clause-room : goal.write_all-requires-clause-room
write_all-requires-clause-room g c =
    rw c.raise.ensures.raised (room_raised _ _ c.args.low _ c.in_default.ensures.room)

pub invariant_of-self : goal.invariant_of-self
invariant_of-self g c = rw (c.in-Err.ensures.same, c.in-Err.ensures.unused) c.self.invariant

pub returns-then-not-all_within : goal.returns-then-not-all_within
returns-then-not-all_within g c =
    record {
      gives =
          rw (← c.self.view_is)
          (checkpoint_refused c.args.known _ c.args.low (sym c.all_within.ensures ∙ c.if-not-all_within.true));
    }

pub returns-in-Err : goal.returns-in-Err
returns-in-Err g c =
    record {
      gives =
          rw (← c.self.view_is)
          (checkpoint_stops c.args.known _ c.args.low c.in-Err.refusal _
          (sym c.all_within.ensures ∙ c.if-not-all_within.false)
          (inl (c.in-Err.ensures.memory, rw (c.in-Err.ensures.same, c.in-Err.ensures.unused) refl)));
    }

pub returns : goal.returns
returns g c =
    record {
      gives =
          rw (← c.self.view_is)
          (checkpoint_ends c.args.known _ c.args.low c.write_all.result _ _
          (sym c.all_within.ensures ∙ c.if-not-all_within.false)
          (rw (c.raise.ensures.raised, c.in_default.ensures.same, c.in_default.ensures.unused) refl)
          c.write_all.ensures.images c.write_all.ensures.written c.write_all.ensures.refused c.write_all.ensures.failed);
    }
