-- What the data component does with a request, which it refuses, and what a refused one leaves.
use Rattle.std.specs.Prelude.{◌≡◌, ◌⊎◌, ◌<◌, ◌≤◌, ℕ, ◌==◌, ◌&&◌, Bool, true, false, not, List, [], ◌∷◌, Option, Some, None, Result, Ok, Err, nat_lt, filter, max, length}
use Rattle.std.specs.Bool.{MatchBool}
use Rattle.std.specs.List.{AllByRecursion}
use Rattle.record_key.specs.declared.op.Op.{Op}
use Rattle.record_key.specs.declared.entry.Entry.{Entry}
use Rattle.record_key.specs.declared.refusal.Refusal.{Refusal}
use Rattle.record_key.specs.declared.refusal.Refusal.TheVariants.{NoMemory, NotConnected, Stale, Redoing, NumbersSpent}
use Rattle.record_key.specs.FirstCause.{first_of, or_else}
use Rattle.record_key.specs.Table.{Bytes, key_of, answer_in, AreAdds}
use Rattle.record_key.specs.Order.{Range, rows_in}
use Rattle.codec.specs.declared.request.Request.{Request}
use Rattle.codec.specs.declared.request.Request.TheVariants as asks
use Rattle.codec.specs.declared.reply.Reply.{Reply}
use Rattle.codec.specs.declared.reply.Reply.TheVariants as says
use Rattle.dc_ab_lsn.specs.AbLsn.{saved_in}
use Rattle.dc_leaf.specs.Leaf.{LeafView}
use Rattle.dc_tree.specs.Leaves.{leaf_at, rows_of}
use Rattle.dc_tree.specs.Performs.{performed_at}
use Rattle.dc_store.specs.SystemView.{SystemView}
use Rattle.dc_store.specs.Changes.{lowered, accepted, forced, taken_back}
use Rattle.dc_store.specs.Gives.{is_spent, CheckpointGives, AcceptGives}
use Rattle.dc_core.specs.declared.performance.Performance.{Performance}
use Rattle.dc_core.specs.DcView.{DcView, leaves, captures_at, value_at, top_low}

-- this session runs
abbrev pub runs : DcView → ℕ → Bool
runs w s = not (s == 0) && (w.session == s)

-- why a message of this session is refused
abbrev pub session_refusal : DcView → ℕ → Option Refusal
session_refusal w s = first_of ((w.session == 0, NotConnected) ∷ (not (w.session == s), Stale) ∷ [])

-- reads and low water wait for the end of redo
abbrev pub after_redo_refusal : DcView → ℕ → Option Refusal
after_redo_refusal w s = or_else (session_refusal w s) (first_of ((w.redo, Redoing) ∷ []))

-- a session begins once, with a greater number than any before, and its record needs a number
abbrev pub connect_refusal : DcView → ℕ → Option Refusal
connect_refusal w s =
    first_of ((not (runs w s) && not (nat_lt w.stored s), Stale)
    ∷ (not (runs w s) && is_spent (length w.system.log), NumbersSpent) ∷ [])

abbrev pub serve_refusal : DcView → Request → Option Refusal
serve_refusal w (asks.Connect s end) = connect_refusal w s
serve_refusal w (asks.Perform s n stable o) = session_refusal w s
serve_refusal w (asks.Get s r k) = after_redo_refusal w s
serve_refusal w (asks.Scan s r lo hi) = after_redo_refusal w s
serve_refusal w (asks.LowWater s l) = after_redo_refusal w s
serve_refusal w (asks.Checkpoint s l) = after_redo_refusal w s
serve_refusal w (asks.RedoEnd s) = session_refusal w s
serve_refusal w (asks.StableEnd s stable) = session_refusal w s

-- a request's number is on the key that it has where it is known: among the performances, and in each leaf's entries
pub record KeepsKey (w : DcView) (n : ℕ) (k : Bytes) : Type 0 where
  pub listed : AllByRecursion (λ (p : Performance). p.number ≡ n → key_of p.op ≡ k) w.performed
  pub saved : AllByRecursion
      (λ (leaf : LeafView). AllByRecursion (λ (e : Entry). e.number ≡ n → e.key ≡ k) leaf.ab.entries) (leaves w)

-- a new operation comes after those performed on its key: each has a lower number, or both are Adds
abbrev pub ComesNext : DcView → ℕ → Op → Type 0
ComesNext w n o =
    AllByRecursion (λ (p : Performance). key_of p.op ≡ key_of o → (p.number < n) ⊎ AreAdds o p.op) w.performed

-- a request that the leaf of its key hasn't captured keeps to its number's key, and comes after the others there
abbrev pub MayPerform : DcView → ℕ → Op → Type 0
MayPerform w n o = captures_at w (key_of o) n ≡ false → KeepsKey w n (key_of o) × ComesNext w n o

-- what is above the end can be taken back: it was performed since the leaves were opened, and no low number has hidden
-- it
pub record MayTakeBack (w : DcView) (end : ℕ) : Type 0 where
  pub opened : w.opened_to ≤ end
  pub shown : AllByRecursion
      (λ (p : Performance). end < p.number → (leaf_at (leaves w) (key_of p.op)).ab.low < p.number) w.performed

-- what the caller owes of a request that isn't refused: of an operation, and of a session that begins
abbrev pub MayAsk : DcView → Request → Type 0
MayAsk w (asks.Connect s end) = connect_refusal w s ≡ None → runs w s ≡ false → MayTakeBack w end
MayAsk w (asks.Perform s n stable o) = session_refusal w s ≡ None → MayPerform w n o
MayAsk w _ = Unit {0}

abbrev pub with_system : DcView → SystemView → DcView
with_system w system = record w { system = system }

-- the performances up to an end
abbrev pub kept_to : ℕ → List Performance → List Performance
kept_to end ps = filter (λ (p : Performance). not (nat_lt end p.number)) ps

-- the session runs, its record is stable, and redo goes on until it says that it has ended; what was performed above
-- the end is taken back
abbrev pub connected : DcView → ℕ → ℕ → DcView
connected w s end = record w {
  stored = s;
  session = s;
  redo = true;
  known = s;
  system = taken_back (forced (accepted w.system s)) end;
  performed = kept_to end w.performed;
}

-- redo has ended: the low numbers of leaves that may be joined from now on are known
abbrev pub redone : DcView → DcView
redone w = record w { redo = false; redone_low = top_low (leaves w) }

-- no request up to this number is lost any more
abbrev pub knows : DcView → ℕ → DcView
knows w stable = record w { known = max w.known stable }

-- a new number was performed
abbrev pub performs : DcView → ℕ → Op → DcView
performs w n o = record w {
  system = record w.system { leaves = performed_at (leaves w) n o };
  performed = record { number = n; op = o; answer = answer_in (leaf_at (leaves w) (key_of o)).rows o } ∷ w.performed;
}

abbrev pub lowers : DcView → ℕ → DcView
lowers w l = with_system w (lowered w.system l)

abbrev pub range : Bytes → Option Bytes → Range
range lo hi = record { lo = lo; hi = hi }

-- the reply, if there is one, and what is left
abbrev pub Serves : DcView → Request → Option Reply → DcView → Type 0
Serves old (asks.Connect s end) reply new =
    (reply ≡ Some (says.Connected s)) × MatchBool (runs old s) (new ≡ old) (new ≡ connected old s end)
Serves old (asks.Perform s n stable o) reply new =
    MatchBool (captures_at old (key_of o) n)
    ((reply ≡ Some (says.Answered s n (saved_in (leaf_at (leaves old) (key_of o)).ab.entries n)))
    × (new ≡ knows old stable))
    ((reply ≡ Some (says.Answered s n (Some (answer_in (leaf_at (leaves old) (key_of o)).rows o))))
    × (new ≡ knows (performs old n o) stable))
Serves old (asks.Get s r k) reply new = (reply ≡ Some (says.Row s r (value_at old k))) × (new ≡ old)
Serves old (asks.Scan s r lo hi) reply new =
    (reply ≡ Some (says.Rows s r (rows_in (range lo hi) (rows_of (leaves old))))) × (new ≡ old)
Serves old (asks.LowWater s l) reply new = (reply ≡ None) × (new ≡ lowers old l)
Serves old (asks.Checkpoint s l) reply new =
    (reply ≡ Some (says.Checkpointed s l)) × CheckpointGives old.system l old.known (Ok tt) new.system
    × (new ≡ with_system old new.system)
Serves old (asks.RedoEnd s) reply new = (reply ≡ Some (says.RedoEnded s)) × (new ≡ redone old)
Serves old (asks.StableEnd s stable) reply new = (reply ≡ None) × (new ≡ knows old stable)

-- memory was refused, and nothing has changed
abbrev pub LacksMemory : DcView → Refusal → DcView → Type 0
LacksMemory old r new = (r ≡ NoMemory) × (new ≡ old)

-- an allowed request that is refused: for want of memory, where it makes something new; where a device fails, as the
-- system transaction says. All others are served
abbrev pub Stops : DcView → Request → Refusal → DcView → Type 0
Stops old (asks.Connect s end) r new =
    (runs old s ≡ false) × AcceptGives old.system s end (Err r) new.system × (new ≡ with_system old new.system)
Stops old (asks.Perform s n stable o) r new = (captures_at old (key_of o) n ≡ false) × LacksMemory old r new
Stops old (asks.Scan s n lo hi) r new = LacksMemory old r new
Stops old (asks.Checkpoint s l) r new =
    CheckpointGives old.system l old.known (Err r) new.system × (new ≡ with_system old new.system)
Stops old _ r new = ⊥

abbrev pub StopsUnless : Option Refusal → DcView → Request → Refusal → DcView → Type 0
StopsUnless (Some cause) old request r new = (r ≡ cause) × (new ≡ old)
StopsUnless None old request r new = Stops old request r new

-- what a request is given, and what it leaves
abbrev pub ServeGives : DcView → Request → Result (Option Reply) Refusal → DcView → Type 0
ServeGives old request (Ok reply) new = (serve_refusal old request ≡ None) × Serves old request reply new
ServeGives old request (Err r) new = StopsUnless (serve_refusal old request) old request r new
