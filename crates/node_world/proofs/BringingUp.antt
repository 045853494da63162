-- Rounds that are eased, one after another.
use Rattle.std.proofs.Common.{◌≡◌, Result, Ok, Err, ◌∙◌, refl, sym, ap, subst, ℕ, ◌+◌, ◌≤◌, ◌<◌, Bool, true, false, List, [], ◌∷◌, ◌++◌, length, take, drop, filter, nat_lt, arith, append_assoc, append-nil}
use Rattle.std.specs.Bool.{MatchBool}
use Rattle.std.specs.Prelude.{if◌then◌else◌}
use Rattle.std.proofs.lemmas.Bool.{ltb-false}
use Rattle.std.proofs.lemmas.Grind.{common_steps}
use Rattle.std.proofs.lemmas.List.{length-append, take_at, drop_at}
use Rattle.record_key.specs.declared.refusal.Refusal.{Refusal}
use Rattle.record_key.specs.declared.refusal.Refusal.TheVariants.{NotConnected}
use Rattle.history.specs.ListMachine.{Machine, Line, Steps}
use Rattle.node_sides.specs.dc_core.specs.DcView.{DcView}
use Rattle.node_sides.specs.dc_core.specs.Serves.{with_system}
use Rattle.node_sides.specs.node_laws.specs.declared.event.Event.TheVariants as event
use Rattle.node_sides.specs.node_laws.specs.declared.event.Out.{Out}
use Rattle.node_sides.specs.node_laws.specs.declared.event.Out.TheVariants as out
use Rattle.node_sides.specs.node_laws.specs.declared.round.Round.{Round}
use Rattle.node_sides.specs.node_laws.specs.Bound.{rounds_left, most_rounds}
use Rattle.node_sides.specs.node_laws.specs.Kept.{IsKept}
use Rattle.node_sides.specs.node_laws.specs.Node.{NodeView, KeepsUpTo, with_dc}
use Rattle.std.specs.Result.{IsErrAnd}
use Rattle.node_sides.specs.node_laws.specs.declared.event.Event.{Event}
use Rattle.node_sides.specs.node_laws.specs.Rounds.{IsNextRound, IsAtRest, Plays, StopsAt, Performed, Stopped, Does, events_of}
use Rattle.node_sides.specs.node_laws.specs.Simulation.{NodeStandsFor, StepsIf, lines_of}
use Rattle.node_sides.specs.node_laws.specs.Stepping.{TellsOn, told_by, told_by_all}
use Rattle.node_sides.specs.node_laws.proofs.Settles.Falls.{falls}
use Rattle.node_sides.specs.node_laws.proofs.Settles.Telling.{tells_rounds, tells_stopped, tells_then}
use Rattle.node_sides.specs.node_laws.proofs.Settles.Wants.{wants}
use Rattle.node_world.specs.BringingUp.{tells, Eases, EasedRounds, Eased, BringsUp}

-- a Tend tells nobody anything, and leaves as many rounds
tend_same : (m n : Machine) (o : Out) → StepsIf m (lines_of event.Tend o) n → n ≡ m
tend_same m n (out.Split pair) h = h
tend_same m n (out.Merged pair) h = h
tend_same m n out.Nothing h = h
tend_same m n (out.Refused r) h = h
tend_same m n _ h = absurd h

changed_left : (w mid : NodeView) → mid ≡ with_dc w mid.dc → mid.dc ≡ with_system w.dc mid.dc.system
    → rounds_left mid ≡ rounds_left w
changed_left w mid is changes = ap rounds_left is ∙ ap (λ (dc : DcView). rounds_left (with_dc w dc)) changes

kept_left : (w mid : NodeView) (o : Out) → KeepsUpTo w o mid → rounds_left mid ≡ rounds_left w
kept_left w mid (out.Split pair) h = changed_left w mid h.1 h.0.1
kept_left w mid (out.Merged pair) h = changed_left w mid h.1 h.0.1
kept_left w mid out.Nothing h = changed_left w mid h.1 h.0.1
kept_left w mid (out.Refused r) h = changed_left w mid h.1 h.0.1
kept_left w mid _ h = absurd h

if_up_left : (up : Bool) (w mid : NodeView) (o : Out)
    → MatchBool up (KeepsUpTo w o mid) ((o ≡ out.Refused NotConnected) × (mid ≡ w)) → rounds_left mid ≡ rounds_left w
if_up_left true w mid o h = kept_left w mid o h
if_up_left false w mid o h = ap rounds_left h.1

-- so does what eases a node
ease_tells : (old new : NodeView) → Eases old new → TellsOn old [] new
ease_tells old new e m stands =
    let one = e.tended.leads m stands in
    let stays : NodeStandsFor e.mid m =
    subst (λ x. NodeStandsFor e.mid x) (tend_same m one.0 e.out one.1) one.2 in
    (m, refl, subst (λ x. NodeStandsFor x m) (sym e.left) stays)

-- what is silent says nothing
silent : (xs : List Line) → nat_lt 0 (length xs) ≡ false → xs ≡ []
silent [] h = refl
silent (x ∷ xs) h = let none = ltb-false 0 (length (x ∷ xs)) h in absurd (omega (arith, none))

telling_more : (o : Out) (kept os : List Out) (b : Bool) → tells o ≡ b → told_by_all kept ≡ told_by_all os
    → told_by_all (if b then o ∷ kept else kept) ≡ told_by o ++ told_by_all os
telling_more o kept os true e same = ap (λ (xs : List Line). told_by o ++ xs) same
telling_more o kept os false e same =
    same ∙ ap (λ (xs : List Line). xs ++ told_by_all os) (sym (silent (told_by o) e))

telling : (os : List Out) → told_by_all (filter tells os) ≡ told_by_all os
telling [] = refl
telling (o ∷ os) = telling_more o (filter tells os) os (tells o) refl (telling os)

both_told : (xs ys : List Out) → filter tells (xs ++ ys) ≡ filter tells xs ++ filter tells ys
both_told xs ys = grind (arith, common_steps)

tells_kept : (old new : NodeView) (os : List Out) → TellsOn old os new → TellsOn old (filter tells os) new
tells_kept old new os h m stands =
    let one = h m stands in
    (one.0, subst (λ (xs : List Line). Steps m xs one.0) (sym (telling os)) one.1, one.2)

-- one round
tells_round : (old mid : NodeView) (r : Round) (os : List Out) → IsNextRound old r → Plays old (events_of old r) os mid
    → TellsOn old os mid
tells_round old mid r os next steps =
    tells_rounds old mid (r ∷ []) os (mid, os, [], sym (append-nil os), next, steps, (refl, refl))

eased_push : (old now mid new : NodeView) (rs : List Round) (outs more : List Out) (r : Round)
    → EasedRounds old rs outs now → IsNextRound now r → Plays now (events_of now r) more mid → Eases mid new
    → EasedRounds old (rs ++ r ∷ []) (outs ++ more) new
eased_push old now mid new [] outs more r rounds next steps eases =
    let P : NodeView → Type 0 = λ x. IsNextRound x r × Plays x (events_of x r) more mid in
    let here = subst P rounds.1 (next, steps) in (
      mid,
      new,
      more,
      [],
      ap (λ (xs : List Out). xs ++ more) rounds.0 ∙ sym (append-nil more),
      here.0,
      here.1,
      eases,
      (refl, refl),
    )
eased_push old now mid new (q ∷ rs) outs more r rounds next steps eases = (
  rounds.0,
  rounds.1,
  rounds.2,
  rounds.3 ++ more,
  ap (λ (xs : List Out). xs ++ more) rounds.4 ∙ append_assoc rounds.2 rounds.3 more,
  rounds.5,
  rounds.6,
  rounds.7,
  eased_push rounds.1 now mid new rs rounds.3 more r rounds.8 next steps eases,
)

-- the rounds so far
pub record EasedSoFar (old : NodeView) (before after : List Out) (now : NodeView) : Type 0 where
  pub eased : Eased old before after now
  pub count : length eased.rounds + rounds_left now ≤ rounds_left old
  pub tells : TellsOn old eased.outs now

pub none_yet : (old : NodeView) (before : List Out) → EasedSoFar old before before old
none_yet old before = record {
  eased = record { rounds = []; outs = []; appended = sym (append-nil before); played = (refl, refl) };
  count = omega arith;
  tells = λ m stands. (m, refl, stands);
}

pub eased_left : (old mid new : NodeView) (r : Round) (os : List Out) → IsKept old → IsNextRound old r
    → Plays old (events_of old r) os mid → Eases mid new → rounds_left new < rounds_left old
eased_left old mid new r os kept next steps eases =
    let less = falls old mid r os kept next steps in
    let same : rounds_left new ≡ rounds_left mid =
    ap rounds_left eases.left ∙ if_up_left mid.dc_up mid eases.mid eases.out eases.tended.step in
    omega (arith, less, same)

pub one_eased : (old now mid new : NodeView) (before after grown : List Out) (r : Round) (os : List Out)
    → EasedSoFar old before after now → IsKept now → IsNextRound now r → Plays now (events_of now r) os mid
    → grown ≡ after ++ filter tells os → Eases mid new → EasedSoFar old before grown new
one_eased old now mid new before after grown r os far kept next steps grows eases =
    let e = far.eased in
    let count : length (e.rounds ++ r ∷ []) ≡ length e.rounds + 1 = length-append e.rounds (r ∷ []) in
    let less = eased_left now mid new r os kept next steps eases in
    record {
      eased = record {
        rounds = e.rounds ++ r ∷ [];
        outs = e.outs ++ os;
        appended = grows ∙ ap (λ (xs : List Out). xs ++ filter tells os) e.appended
            ∙ append_assoc before (filter tells e.outs) (filter tells os)
            ∙ ap (λ (xs : List Out). before ++ xs) (sym (both_told e.outs os));
        played = eased_push old now mid new e.rounds e.outs os r e.played next steps eases;
      };
      count = omega (arith, count, far.count, less);
      tells = tells_then old now new e.outs os far.tells
          (subst (λ (xs : List Out). TellsOn now xs new) (append-nil os)
          (tells_then now mid new os [] (tells_round now mid r os next steps) (ease_tells mid new eases)));
    }

-- however it ends
pub at_rest : (old new : NodeView) (before after : List Out) → EasedSoFar old before after new → IsAtRest new
    → rounds_left old < most_rounds old.tc.log → BringsUp old before after (Ok tt) new
at_rest old new before after far rests bound =
    (far.eased, omega (arith, far.count, bound), rests, tells_kept old new far.eased.outs far.tells)

pub stopped : (old now new : NodeView) (before after grown : List Out) (r : Round) (os : List Out) (refusal : Refusal)
    → EasedSoFar old before after now → IsKept now → IsNextRound now r → StopsAt now (events_of now r) os refusal new
    → grown ≡ after ++ filter tells os → rounds_left old < most_rounds old.tc.log
    → BringsUp old before grown (Err refusal) new
stopped old now new before after grown r os refusal far kept next stops grows bound = (
  record {
    last = now;
    between = after;
    eased = far.eased;
    round = r;
    next = next;
    outs = os;
    appended = grows;
    stops = stops;
    want = wants now new r os refusal kept next stops;
  },
  omega (arith, far.count, bound),
  tells_then old now new (filter tells far.eased.outs) (filter tells os) (tells_kept old now far.eased.outs far.tells)
      (tells_kept now new os (tells_stopped now new r os refusal stops)),
)

-- how a round ended
pub performed_by : (now new : NodeView) (es : List Event) (after played : List Out) (result : Result (Unit {0}) Refusal)
    → Does now es after played result new → result ≡ Ok tt → Performed now es after played new
performed_by now new es after played result h is = subst (λ (q : Result (Unit {0}) Refusal). Does now es after played q new) is h

pub stopped_by : (now new : NodeView) (es : List Event) (after played : List Out) (result : Result (Unit {0}) Refusal)
    (r : Refusal) → Does now es after played result new → result ≡ Err r → Stopped now es after played r new
stopped_by now new es after played result r h is = subst (λ (q : Result (Unit {0}) Refusal). Does now es after played q new) is h

pub refused : (old new : NodeView) (before after : List Out) (r : Refusal) (result : Result (Unit {0}) Refusal)
    → BringsUp old before after (Err r) new → IsErrAnd result (λ q. q ≡ r) → BringsUp old before after result new
refused old new before after r (Ok u) h same = absurd same
refused old new before after r (Err q) h same = subst (λ (x : Refusal). BringsUp old before after (Err x) new) (sym same) h

-- of the outputs behind those of before the telling ones are left
pub telling_left : (after played grown outs : List Out) (from : ℕ) → from ≡ length after → played ≡ after ++ outs
    → grown ≡ take from played ++ filter tells (drop from played) → grown ≡ after ++ filter tells outs
telling_left after played grown outs from is all kept =
    let first : take from played ≡ after = ap (take from) all ∙ take_at after outs from (sym is) in
    let rest : drop from played ≡ outs = ap (drop from) all ∙ drop_at after outs from (sym is) in
    kept ∙ ap (λ (xs : List Out). xs ++ filter tells (drop from played)) first
    ∙ ap (λ (xs : List Out). after ++ filter tells xs) rest
