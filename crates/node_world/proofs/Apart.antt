-- A message whose key, operation, answer or value is read apart is the message of its number.
use Rattle.std.proofs.Common.{◌≡◌, ◌∙◌, ℕ, zero, suc, List, map, Option, Some, None, option_map, IsSome, sym, ap, subst}
use Rattle.std.proofs.lemmas.Option.{same_Some, slice_get-map}
use Rattle.record_key.specs.declared.op.Op.{Op}
use Rattle.record_key.specs.declared.op.Answer.{Answer}
use Rattle.record_key.specs.declared.lent.Change.{Change}
use Rattle.record_key.specs.Lent.{op_on}
use Rattle.codec.specs.Given.{answer_given}
use Rattle.codec.specs.declared.spelled_answer.GivenAnswer.{GivenAnswer}
use Rattle.codec.specs.FrameIndex.{places_of}
use Rattle.record_key.specs.Table.{Bytes}
use Rattle.codec.specs.Parted.{asked_with, asking_of, reading_of, answered_of, found_of, both, request_to, get_of}
use Rattle.codec.specs.declared.parted_reads.Reading.{Reading}
use Rattle.codec.specs.declared.parted.Asking.{Asking}
use Rattle.codec.specs.declared.request.Request.{Request}
use Rattle.codec.specs.declared.request.Request.TheVariants as asks
use Rattle.codec.specs.declared.reply.Reply.{Reply}
use Rattle.codec.specs.declared.reply.Reply.TheVariants as says
use Rattle.node_world.specs.declared.sent.Asked.TheVariants as asked
use Rattle.node_world.specs.declared.sent.Said.TheVariants as said
use Rattle.node_sides.specs.node_laws.specs.Messages.{message_at}
use Rattle.node_world.specs.Sent.{AllStand, StandsAt, IsReadApart, IsHeardApart, IsOfSession, WasSent}
use Rattle.node_sides.specs.node_laws.proofs.Invariant.ByNumber.{all_at}

read_at_number : {X : Type 0} (read : ℕ → X) (places : List ℕ) (i place : ℕ) → message_at places i ≡ Some place
    → message_at (map read places) i ≡ Some (read place)
read_at_number read places zero place at = absurd (cc)
read_at_number read places (suc n) place at = slice_get-map read places n ∙ ap (option_map read) at

-- the message of a number, and its frame, which stands at the place of the number
pub record IsFound {X : Type 0} (spell : X → List ℕ) (Fits : X → Type 0) (bytes : List ℕ) (messages : List X) (i place : ℕ)
    : Type 0 where
  pub there : StandsAt X spell Fits bytes place
  pub at : message_at messages i ≡ Some there.message

pub found : {X : Type 0} (spell : X → List ℕ) (Fits : X → Type 0) (read : List ℕ → ℕ → X) (bytes marks : List ℕ)
    (messages : List X) (count i place : ℕ) → AllStand X spell Fits bytes marks count
    → message_at (places_of bytes count) i ≡ Some place
    → ((there : StandsAt X spell Fits bytes place) → read bytes place ≡ there.message)
    → map (read bytes) (places_of bytes count) ≡ messages → IsFound spell Fits bytes messages i place
found {X = X} spell Fits read bytes marks messages count i place all at reads same =
    let there : StandsAt X spell Fits bytes place =
    all_at (StandsAt X spell Fits bytes) (places_of bytes count) i place all.stand at in
    record {
      there = there;
      at = subst (λ (xs : List X). message_at xs i ≡ Some there.message) same
          (read_at_number (read bytes) (places_of bytes count) i place at ∙ ap Some (reads there));
    }

pair_is : {A B : Type 0} {a c : A} {b d : B}
    → ◌≡◌ {A = Option (A × B)} (Some (a, b)) (Some (c, d)) → (a ≡ c) × (b ≡ d)
pair_is {A = A} {B = B} {a = a} {c = c} {b = b} {d = d} e =
    let same = same_Some (a, b) (c, d) e in (ap (λ (p : A × B). p.0) same, ap (λ (p : A × B). p.1) same)

-- a request to perform, by its numbers, its key and what it does there
pub asked_apart : (messages : List Request) (i : ℕ) (r : Request) (q : Asking) (change : Change) (key : Option Bytes)
    (other : Option Request) → WasSent messages i r → asked_with (Some (q, change)) key ≡ asking_of r → IsSome key
    → IsReadApart messages i (asked.Perform q change) key other
asked_apart messages i (asks.Perform s n stable op) q change (Some k) other sent is there =
    let same = pair_is is in
    subst (WasSent messages i)
    (sym (ap (λ (p : Asking). request_to p (op_on k change)) same.0
    ∙ ap (λ (p : Op). request_to (record { session = s; number = n; stable = stable }) p) same.1)) sent
asked_apart messages i (asks.Connect s end) q change (Some key) other sent is there = absurd (cc)
asked_apart messages i (asks.Get s n k) q change (Some key) other sent is there = absurd (cc)
asked_apart messages i (asks.Scan s n lo hi) q change (Some key) other sent is there = absurd (cc)
asked_apart messages i (asks.LowWater s l) q change (Some key) other sent is there = absurd (cc)
asked_apart messages i (asks.Checkpoint s l) q change (Some key) other sent is there = absurd (cc)
asked_apart messages i (asks.RedoEnd s) q change (Some key) other sent is there = absurd (cc)
asked_apart messages i (asks.StableEnd s stable) q change (Some key) other sent is there = absurd (cc)
asked_apart messages i r q change None other sent is there = absurd (cc)

-- a request to read a key, by its numbers and the key
pub read_apart : (messages : List Request) (i : ℕ) (r : Request) (q : Reading) (key : Option Bytes)
    (other : Option Request) → WasSent messages i r → both (Some q) key ≡ reading_of r → IsSome key
    → IsReadApart messages i (asked.Get q) key other
read_apart messages i (asks.Get s n k) q (Some key) other sent is there =
    let same = pair_is is in
    subst (WasSent messages i)
    (sym (ap (λ (p : Reading). get_of p key) same.0
    ∙ ap (λ (p : Bytes). get_of (record { session = s; read = n }) p) same.1)) sent
read_apart messages i (asks.Connect s end) q (Some key) other sent is there = absurd (cc)
read_apart messages i (asks.Perform s n stable op) q (Some key) other sent is there = absurd (cc)
read_apart messages i (asks.Scan s n lo hi) q (Some key) other sent is there = absurd (cc)
read_apart messages i (asks.LowWater s l) q (Some key) other sent is there = absurd (cc)
read_apart messages i (asks.Checkpoint s l) q (Some key) other sent is there = absurd (cc)
read_apart messages i (asks.RedoEnd s) q (Some key) other sent is there = absurd (cc)
read_apart messages i (asks.StableEnd s stable) q (Some key) other sent is there = absurd (cc)
read_apart messages i r q None other sent is there = absurd (cc)

-- a reply that answers, by the number and the answer
pub answered_apart : (running i : ℕ) (messages : List Reply) (r : Reply) (n : ℕ) (a : Option GivenAnswer)
    (v : Option Bytes) (other : Option Reply) → IsOfSession running messages i r
    → Some (n, option_map answer_given a) ≡ answered_of r
    → IsHeardApart running messages i (said.Answered n a) v other
answered_apart running i messages (says.Answered s m b) n a v other at is =
    let same = pair_is is in (
      s,
      subst (IsOfSession running messages i)
          (sym (ap (λ (x : ℕ). says.Answered s x (option_map answer_given a)) same.0
          ∙ ap (λ (x : Option Answer). says.Answered s m x) same.1)) at,
    )
answered_apart running i messages (says.Connected s) n a v other at is = absurd (cc)
answered_apart running i messages (says.Row s m value) n a v other at is = absurd (cc)
answered_apart running i messages (says.Rows s m rows) n a v other at is = absurd (cc)
answered_apart running i messages (says.Checkpointed s l) n a v other at is = absurd (cc)
answered_apart running i messages (says.RedoEnded s) n a v other at is = absurd (cc)

-- a reply to a read of a key, by the number and the value
pub found_apart : (running i : ℕ) (messages : List Reply) (r : Reply) (n : ℕ) (v : Option Bytes)
    (other : Option Reply) → IsOfSession running messages i r → Some (n, v) ≡ found_of r
    → IsHeardApart running messages i (said.Found n) v other
found_apart running i messages (says.Row s m w) n v other at is =
    let same = pair_is is in (
      s,
      subst (IsOfSession running messages i)
          (sym (ap (λ (x : ℕ). says.Row s x v) same.0 ∙ ap (λ (x : Option Bytes). says.Row s m x) same.1)) at,
    )
found_apart running i messages (says.Connected s) n v other at is = absurd (cc)
found_apart running i messages (says.Answered s m b) n v other at is = absurd (cc)
found_apart running i messages (says.Rows s m rows) n v other at is = absurd (cc)
found_apart running i messages (says.Checkpointed s l) n v other at is = absurd (cc)
found_apart running i messages (says.RedoEnded s) n v other at is = absurd (cc)
