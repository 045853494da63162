use Rattle.std.proofs.Common.{inl}
use Rattle.dc_store.specs.Finding.{log_of}
use Rattle.dc_store.proofs.Found.{log_unread, leaves_refused, unread_stops, whole_frames}
use Rattle.dc_store.proofs.recovering.find.Goals as goal

pub returns-in-Err-clause-refused : goal.returns-in-Err-clause-refused
returns-in-Err-clause-refused g c = log_unread _ _ _ _ _ c.in-Err.ensures.stopped

pub returns-in-Err-clause-stopped : goal.returns-in-Err-clause-stopped
returns-in-Err-clause-stopped g c = unread_stops _ _ _ _ _ _ c.in-Err.ensures.stopped

pub returns-in-Err-leaves_of-clause-refused : goal.returns-in-Err-leaves_of-clause-refused
returns-in-Err-leaves_of-clause-refused g c =
    leaves_refused (g.D.LogDevice.forced c.args.log.now)
    (g.P.PageDevice.pages c.args.pages.now) c.in-Ok.read.0 c.in-Err-leaves_of.refusal
    c.in-Ok.ensures.read c.in-Err-leaves_of.ensures.refused

pub returns-in-Err-leaves_of-clause-stopped : goal.returns-in-Err-leaves_of-clause-stopped
returns-in-Err-leaves_of-clause-stopped g c = inl (c.in-Ok.ensures.used, c.in-Err-leaves_of.ensures.stopped)

pub returns-clause-found : goal.returns-clause-found
returns-clause-found g c =
    let read = c.in-Ok.ensures.read in record {
      log = log_of c.in-Ok.read.0;
      held = read.held;
      left_is = whole_frames _ c.in-Ok.read.0 read;
      readable = read.readable (g.P.PageDevice.pages c.args.pages.now);
      numbered = read.numbered;
      recovered = c.in-Ok-leaves_of.ensures.recovered;
      places = read.places_are;
      end = read.end_is;
      next = read.next_is;
      stored = read.stored_is;
      named = read.below;
    }
