use Rattle.std.proofs.Common.{◌≡◌, ◌∙◌, ℕ, List, drop, Some, true, false, map, ap, sym, subst, inr, rules}
use Rattle.codec.specs.FrameIndex.{places_of}
use Rattle.codec.specs.declared.reply.Reply.{Reply}
use Rattle.codec.specs.Replies.{reply_bytes, session_of, has_rows}
use Rattle.node_sides.specs.tc_core.specs.Replies.{is_of_another}
use Rattle.node_sides.specs.node_laws.specs.Messages.{message_at}
use Rattle.node_world.specs.Sent.{SentView, AllStand, StandsAt, reply_there, IsFramedReply, IsOfSession}
use Rattle.node_world.specs.SentReads.{reply_reads}
use Rattle.node_world.proofs.Apart.{IsFound, found, answered_apart, found_apart}
use Rattle.node_world.proofs.sent.Sent+Reply.read.Goals as goal

-- the reply of the number
reply_found : (bytes marks : List ℕ) (v : SentView Reply) (count i place : ℕ)
    → AllStand Reply reply_bytes IsFramedReply bytes marks count → message_at (places_of bytes count) i ≡ Some place
    → map (reply_there bytes) (places_of bytes count) ≡ v.messages
    → IsFound reply_bytes IsFramedReply bytes v.messages i place
reply_found bytes marks v count i place all at same =
    found reply_bytes IsFramedReply reply_there bytes marks v.messages count i place all at (reply_reads bytes place)
    same

-- it is of the session that runs
of_session : (bytes : List ℕ) (messages : List Reply) (running i place : ℕ)
    (is : IsFound reply_bytes IsFramedReply bytes messages i place)
    → is_of_another running (session_of (reply_there bytes place)) ≡ false
    → IsOfSession running messages i is.there.message
of_session bytes messages running i place is current = (
  is.at,
  subst (λ (r : Reply). is_of_another running (session_of r) ≡ false) (reply_reads bytes place is.there) current,
)

pub returns-in-Some-clause-read : goal.returns-in-Some-clause-read
returns-in-Some-clause-read c =
    let m = c.self.inside in
    let v = c.args.self.now in
    let place = c.in_ok-place.place in
    let is = reply_found m.bytes.items m.index.marks v m.index.count c.args.number place c.self.invariant
    (rw c.deref.ensures.value at c.in_ok-place.ensures.found)
    (ap (λ (w : SentView Reply). w.messages) c.self.view_is) in
    answered_apart c.args.running c.args.number v.messages is.there.message c.in-Some.of c.in-Some.answer
    c.args.value.now c.args.other.now
    (of_session m.bytes.items v.messages c.args.running c.args.number place is (search rules))
    (c.in-Some.ensures is.there.message is.there.rest is.there.fits.0
    (ap (drop place) c.deref-2.ensures.value ∙ is.there.parts))

pub returns-in-Some-found_at-clause-read : goal.returns-in-Some-found_at-clause-read
returns-in-Some-found_at-clause-read c =
    let m = c.self.inside in
    let v = c.args.self.now in
    let place = c.in_ok-place.place in
    let is = reply_found m.bytes.items m.index.marks v m.index.count c.args.number place c.self.invariant
    (rw c.deref.ensures.value at c.in_ok-place.ensures.found)
    (ap (λ (w : SentView Reply). w.messages) c.self.view_is) in
    found_apart c.args.running c.args.number v.messages is.there.message c.in-Some-found_at.read
    c.found_at.new.value c.args.other.now
    (of_session m.bytes.items v.messages c.args.running c.args.number place is (search rules))
    (c.in-Some-found_at.ensures is.there.message is.there.rest is.there.fits.0
    (ap (drop place) c.deref-3.ensures.value ∙ is.there.parts))

pub reply_at-requires : goal.reply_at-requires
reply_at-requires c =
    let m = c.self.inside in
    let v = c.args.self.now in
    let is = reply_found m.bytes.items m.index.marks v m.index.count c.args.number c.in_ok-place.place c.self.invariant
    (rw c.deref.ensures.value at c.in_ok-place.ensures.found)
    (ap (λ (w : SentView Reply). w.messages) c.self.view_is) in
    subst (λ (b : List ℕ). StandsAt Reply reply_bytes IsFramedReply b c.in_ok-place.place)
    (sym c.deref-4.ensures.value) is.there

pub returns-in-Err-clause-refused : goal.returns-in-Err-clause-refused
returns-in-Err-clause-refused c =
    let m = c.self.inside in
    let v = c.args.self.now in
    let place = c.in_ok-place.place in
    let is = reply_found m.bytes.items m.index.marks v m.index.count c.args.number place c.self.invariant
    (rw c.deref.ensures.value at c.in_ok-place.ensures.found)
    (ap (λ (w : SentView Reply). w.messages) c.self.view_is) in
    let of = of_session m.bytes.items v.messages c.args.running c.args.number place is (search rules) in
    let long : has_rows (reply_there m.bytes.items place) ≡ true =
    ap (λ (b : List ℕ). has_rows (reply_there b place)) (sym c.deref-4.ensures.value) ∙ c.in-Err.ensures.refused.1 in
    inr (inr (record {
      reply = is.there.message;
      found = of.0;
      current = of.1;
      long = ap has_rows (sym (reply_reads m.bytes.items place is.there)) ∙ long;
      memory = c.in-Err.ensures.refused.0;
    }))

pub returns-in-Ok-clause-read : goal.returns-in-Ok-clause-read
returns-in-Ok-clause-read c =
    let m = c.self.inside in
    let v = c.args.self.now in
    let place = c.in_ok-place.place in
    let is = reply_found m.bytes.items m.index.marks v m.index.count c.args.number place c.self.invariant
    (rw c.deref.ensures.value at c.in_ok-place.ensures.found)
    (ap (λ (w : SentView Reply). w.messages) c.self.view_is) in
    let of = of_session m.bytes.items v.messages c.args.running c.args.number place is (search rules) in
    let same : c.in-Ok.reply ≡ is.there.message =
    c.in-Ok.ensures.found ∙ ap (λ (b : List ℕ). reply_there b place) c.deref-4.ensures.value
    ∙ reply_reads m.bytes.items place is.there in
    subst (IsOfSession c.args.running v.messages c.args.number) (sym same) of
