use Rattle.std.proofs.Common.{◌≡◌, ◌∙◌, ℕ, List, drop, Some, map, ap, sym, subst}
use Rattle.codec.specs.FrameIndex.{places_of}
use Rattle.codec.specs.declared.request.Request.{Request}
use Rattle.codec.specs.Requests.{request_bytes, IsRequest}
use Rattle.node_sides.specs.node_laws.specs.Messages.{message_at}
use Rattle.node_world.specs.Sent.{SentView, AllStand, StandsAt, request_there}
use Rattle.node_world.specs.SentReads.{request_reads}
use Rattle.node_world.proofs.Apart.{IsFound, found, asked_apart, read_apart}
use Rattle.node_world.proofs.sent.Sent+Request.read.Goals as goal

-- the request of the number
request_found : (bytes marks : List ℕ) (v : SentView Request) (count i place : ℕ)
    → AllStand Request request_bytes IsRequest bytes marks count → message_at (places_of bytes count) i ≡ Some place
    → map (request_there bytes) (places_of bytes count) ≡ v.messages
    → IsFound request_bytes IsRequest bytes v.messages i place
request_found bytes marks v count i place all at same =
    found request_bytes IsRequest request_there bytes marks v.messages count i place all at (request_reads bytes place)
    same

pub returns-in-Some-clause-read : goal.returns-in-Some-clause-read
returns-in-Some-clause-read c =
    let m = c.self.inside in
    let v = c.args.self.now in
    let place = c.in_ok-place.place in
    let is = request_found m.bytes.items m.index.marks v m.index.count c.args.number place c.self.invariant
    (rw c.deref.ensures.value at c.in_ok-place.ensures.found)
    (ap (λ (w : SentView Request). w.messages) c.self.view_is) in
    asked_apart v.messages c.args.number is.there.message c.in-Some.asking c.in-Some.change
    c.asking_at.new.key c.args.other.now (is.at, is.there.fits)
    (c.in-Some.ensures.asked is.there.message is.there.rest is.there.fits
    (ap (drop place) c.deref-2.ensures.value ∙ is.there.parts))
    c.in-Some.ensures.key

pub returns-in-Some-reading_at-clause-read : goal.returns-in-Some-reading_at-clause-read
returns-in-Some-reading_at-clause-read c =
    let m = c.self.inside in
    let v = c.args.self.now in
    let place = c.in_ok-place.place in
    let is = request_found m.bytes.items m.index.marks v m.index.count c.args.number place c.self.invariant
    (rw c.deref.ensures.value at c.in_ok-place.ensures.found)
    (ap (λ (w : SentView Request). w.messages) c.self.view_is) in
    read_apart v.messages c.args.number is.there.message c.in-Some-reading_at.reading
    c.reading_at.new.key c.args.other.now (is.at, is.there.fits)
    (c.in-Some-reading_at.ensures.asked is.there.message is.there.rest is.there.fits
    (ap (drop place) c.deref-3.ensures.value ∙ is.there.parts))
    c.in-Some-reading_at.ensures.key

pub request_at-requires : goal.request_at-requires
request_at-requires c =
    let m = c.self.inside in
    let v = c.args.self.now in
    let is = request_found m.bytes.items m.index.marks v m.index.count c.args.number c.in_ok-place.place
    c.self.invariant (rw c.deref.ensures.value at c.in_ok-place.ensures.found)
    (ap (λ (w : SentView Request). w.messages) c.self.view_is) in
    subst (λ (b : List ℕ). StandsAt Request request_bytes IsRequest b c.in_ok-place.place)
    (sym c.deref-4.ensures.value) is.there

pub returns-clause-read : goal.returns-clause-read
returns-clause-read c =
    let m = c.self.inside in
    let v = c.args.self.now in
    let place = c.in_ok-place.place in
    let is = request_found m.bytes.items m.index.marks v m.index.count c.args.number place c.self.invariant
    (rw c.deref.ensures.value at c.in_ok-place.ensures.found)
    (ap (λ (w : SentView Request). w.messages) c.self.view_is) in
    let same : c.request_at.result ≡ is.there.message =
    c.request_at.ensures.found ∙ ap (λ (b : List ℕ). request_there b place) c.deref-4.ensures.value
    ∙ request_reads m.bytes.items place is.there in
    (is.at ∙ ap Some (sym same), c.request_at.ensures.spelled)
