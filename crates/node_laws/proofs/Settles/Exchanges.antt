-- An exchange: a request is sent, served and answered, with no other message between.
use Rattle.std.proofs.Common.{◌≡◌, ◌⊎◌, ℕ, ◌+◌, Bool, true, false, List, [], ◌∷◌, ◌++◌, length, Option, Some, None, refl, sym, ap, ◌∙◌, subst, inl, inr}
use Rattle.std.proofs.lemmas.List.{length-append}
use Rattle.std.proofs.lemmas.Bool.{MatchBool-at_true, MatchBool-at_false}
use Rattle.record_key.specs.declared.refusal.Refusal.{Refusal}
use Rattle.record_key.specs.declared.refusal.Refusal.TheVariants.{NoMemory}
use Rattle.std.specs.Prelude.{Result, Ok, Err}
use Rattle.codec.specs.declared.request.Request.{Request}
use Rattle.codec.specs.declared.reply.Reply.{Reply}
use Rattle.dc_core.specs.DcView.{DcView}
use Rattle.dc_core.specs.Serves.{Serves, ServeGives, serve_refusal}
use Rattle.tc_core.specs.TcView.{TcView}
use Rattle.tc_core.specs.Replies.{on_reply, ReplyGives}
use Rattle.node_laws.specs.declared.event.Event.TheVariants as event
use Rattle.node_laws.specs.declared.event.Out.{Out}
use Rattle.node_laws.specs.declared.event.Out.TheVariants as out
use Rattle.node_laws.specs.Messages.{message_at}
use Rattle.node_laws.specs.Node.{NodeView, Sends, LacksRoom, is_replied_to, Served, ServesTo, AreUp, IfDcUp, StepsTo, Taken, TakesTo}
use Rattle.node_laws.specs.Stepping.{IsStep}
use Rattle.node_laws.specs.Rounds.{IsDone, Plays, StopsAt}
use Rattle.node_laws.proofs.Invariant.ByNumber.{last_at}

some_one : {A : Type 0} (x : Option A) (a b : A) → x ≡ Some a → x ≡ Some b → a ≡ b
some_one x a b h k = let e : Some a ≡ Some b = sym h ∙ k in cc

no_message : {A : Type 0} (xs : List A) (x : A) → message_at (xs ++ x ∷ []) (length xs + 1) ≡ None → ⊥
no_message xs x none = let e : None ≡ Some x = sym none ∙ last_at xs x in cc

-- the node just after the request was sent
abbrev pub asked : NodeView → TcView → Request → NodeView
asked w tc q = record w { tc = tc; requests = w.requests ++ q ∷ [] }

-- and just after it was served
abbrev pub told : NodeView → TcView → Request → DcView → Reply → NodeView
told w tc q dc reply = record w { tc = tc; dc = dc; requests = w.requests ++ q ∷ []; replies = w.replies ++ reply ∷ [] }

-- the request was served, and its reply taken
pub record Exchanged (w : NodeView) (tc : TcView) (q : Request) (new : NodeView) : Type 0 where
  pub dc : DcView
  pub reply : Reply
  pub allowed : serve_refusal w.dc q ≡ None
  pub served : Serves w.dc q (Some reply) dc
  pub left : new.tc ≡ (on_reply tc reply).1
  pub dc_is : new.dc ≡ dc
  pub up : AreUp w → AreUp new

-- what is served when the last request arrives
pub served_last : (w : NodeView) (tc : TcView) (q : Request) (given : Result (Option Reply) Refusal) (dc : DcView)
    → Served (asked w tc q) (length w.requests + 1) given dc
    → ServeGives w.dc q given dc
served_last w tc q given dc h =
    let same : h.request ≡ q =
    some_one (message_at (w.requests ++ q ∷ []) (length w.requests + 1)) h.request q h.found
    (last_at w.requests q) in
    let P : Request → Type 0 = λ x. ServeGives w.dc x given dc in
    subst P same h.gives

-- what the last reply leaves
record IsTook (w : NodeView) (tc : TcView) (dc : DcView) (reply : Reply) (new : NodeView) : Type 0 where
  tc_is : new.tc ≡ (on_reply tc reply).1
  dc_is : new.dc ≡ dc
  up : AreUp w → AreUp new

taken_last : (w : NodeView) (tc : TcView) (q : Request) (dc : DcView) (reply : Reply) (output : Out) (new : NodeView)
    → Taken (told w tc q dc reply) (length w.replies + 1) output new → IsTook w tc dc reply new
taken_last w tc q dc reply output new h =
    let same : h.reply ≡ reply =
    some_one (message_at (w.replies ++ reply ∷ []) (length w.replies + 1)) h.reply reply h.found
    (last_at w.replies reply) in
    record {
      tc_is = h.taken.1.left ∙ ap (λ x. (on_reply tc x).1) same;
      dc_is = ap (λ (x : NodeView). x.dc) h.left;
      up = λ (up : AreUp w). record {
        tc = ap (λ (x : NodeView). x.tc_up) h.left ∙ up.tc;
        dc = ap (λ (x : NodeView). x.dc_up) h.left ∙ up.dc;
      };
    }

-- the last reply arrives
took : (w : NodeView) (tc : TcView) (q : Request) (dc : DcView) (reply : Reply) (output : Out) (new : NodeView)
    → TakesTo (told w tc q dc reply) (length w.replies + 1) output new → IsDone output → IsTook w tc dc reply new
took w tc q dc reply (out.Refused r) new h d = absurd d
took w tc q dc reply (out.Begun t) new h d = taken_last w tc q dc reply (out.Begun t) new h
took w tc q dc reply (out.Logged n) new h d = taken_last w tc q dc reply (out.Logged n) new h
took w tc q dc reply (out.Asked n) new h d = taken_last w tc q dc reply (out.Asked n) new h
took w tc q dc reply out.RollingBack new h d = taken_last w tc q dc reply out.RollingBack new h
took w tc q dc reply out.Nothing new h d = taken_last w tc q dc reply out.Nothing new h
took w tc q dc reply (out.Compensated n) new h d = taken_last w tc q dc reply (out.Compensated n) new h
took w tc q dc reply (out.RolledBack t) new h d = taken_last w tc q dc reply (out.RolledBack t) new h
took w tc q dc reply (out.Saved s) new h d = taken_last w tc q dc reply (out.Saved s) new h
took w tc q dc reply (out.CommitLogged n) new h d = taken_last w tc q dc reply (out.CommitLogged n) new h
took w tc q dc reply (out.Back t s) new h d = taken_last w tc q dc reply (out.Back t s) new h
took w tc q dc reply (out.Stable n cs) new h d = taken_last w tc q dc reply (out.Stable n cs) new h
took w tc q dc reply (out.Connects j cs) new h d = taken_last w tc q dc reply (out.Connects j cs) new h
took w tc q dc reply (out.Sent j) new h d = taken_last w tc q dc reply (out.Sent j) new h
took w tc q dc reply (out.Replied j) new h d = taken_last w tc q dc reply (out.Replied j) new h
took w tc q dc reply out.Noted new h d = taken_last w tc q dc reply out.Noted new h
took w tc q dc reply (out.Connected s) new h d = taken_last w tc q dc reply (out.Connected s) new h
took w tc q dc reply (out.RedoEnded s) new h d = taken_last w tc q dc reply (out.RedoEnded s) new h
took w tc q dc reply (out.Answered t a) new h d = taken_last w tc q dc reply (out.Answered t a) new h
took w tc q dc reply (out.Row t v) new h d = taken_last w tc q dc reply (out.Row t v) new h
took w tc q dc reply (out.Rows t rows) new h d = taken_last w tc q dc reply (out.Rows t rows) new h
took w tc q dc reply (out.Split pair) new h d = taken_last w tc q dc reply (out.Split pair) new h
took w tc q dc reply (out.Merged pair) new h d = taken_last w tc q dc reply (out.Merged pair) new h
took w tc q dc reply (out.Flushed id) new h d = taken_last w tc q dc reply (out.Flushed id) new h
took w tc q dc reply (out.Undone n) new h d = taken_last w tc q dc reply (out.Undone n) new h
took w tc q dc reply (out.CheckpointLogged n) new h d = taken_last w tc q dc reply (out.CheckpointLogged n) new h
took w tc q dc reply (out.Lost n) new h d = taken_last w tc q dc reply (out.Lost n) new h
took w tc q dc reply out.Down new h d = taken_last w tc q dc reply out.Down new h
took w tc q dc reply out.Set new h d = taken_last w tc q dc reply out.Set new h
took w tc q dc reply (out.Up count) new h d = taken_last w tc q dc reply (out.Up count) new h

-- these requests have replies
abbrev pub HasReply : Request → Type 0
HasReply q = (old new : DcView) → Serves old q None new → ⊥

served_once : (w : NodeView) (tc : TcView) (q : Request) (output : Out) (new : NodeView) → HasReply q
    → ServesTo (asked w tc q) (length w.requests + 1) output new → IsDone output
    → length new.replies ≡ length w.replies + 1
served_once w tc q (out.Replied j) new has s d =
    ap (λ (x : NodeView). length x.replies) s.3 ∙ length-append w.replies (s.0 ∷ [])
served_once w tc q out.Noted new has s d = absurd (has w.dc new.dc (served_last w tc q (Ok None) new.dc s.0).1)
served_once w tc q (out.Refused r) new has s d = absurd d
served_once w tc q _ new has s d = absurd s

-- a request that was sent is replied to once where it isn't refused
pub replied_once : (w mid : NodeView) (tc : TcView) (q : Request) (i : ℕ) (output : Out) (new : NodeView) → HasReply q
    → Sends w tc q i mid
    → StepsTo mid (event.Request (length w.requests + 1)) output new → IsDone output
    → length new.replies ≡ length w.replies + 1
replied_once w mid tc q i output new has sends h d =
    let P : NodeView → Type 0 = λ m. StepsTo m (event.Request (length w.requests + 1)) output new in
    by w.dc_up refl (subst P sends.left h)
  where
    by : (up : Bool) → w.dc_up ≡ up
        → IfDcUp (asked w tc q) output new (ServesTo (asked w tc q) (length w.requests + 1) output new)
        → length new.replies ≡ length w.replies + 1
    by true up h = served_once w tc q output new has (MatchBool-at_true _ _ up h) d
    by false down h = let refused = MatchBool-at_false _ _ down h in absurd (subst IsDone refused.0 d)

rest_of : (w : NodeView) (tc : TcView) (q : Request) (os : List Out) (new : NodeView) → AreUp w → HasReply q
    → Plays (asked w tc q) (event.Request (length w.requests + 1) ∷ event.Reply (length w.replies + 1) ∷ []) os new
    → Exchanged w tc q new
rest_of w tc q [] new up has h = absurd h
rest_of w tc q (o ∷ []) new up has h = absurd h.3
rest_of w tc q (o ∷ p ∷ r ∷ os) new up has h = absurd h.3.3
rest_of w tc q (o ∷ p ∷ []) new up has h = by o (MatchBool-at_true _ _ up.dc h.1.step) h.2
  where
    rest : (mid : NodeView) → Type 0
    rest mid =
        (last : NodeView) × IsStep mid (event.Reply (length w.replies + 1)) p last × IsDone p × (new ≡ last)

    by : (o : Out) → ServesTo (asked w tc q) (length w.requests + 1) o h.0 → IsDone o → Exchanged w tc q new
    by (out.Replied j) s d =
        let served = served_last w tc q (Ok (Some s.0)) h.0.dc s.1 in
        let last = subst rest s.3 h.3 in
        let t = took w tc q h.0.dc s.0 p last.0 (MatchBool-at_true _ _ up.tc last.1.step) last.2 in
        record {
          dc = h.0.dc;
          reply = s.0;
          allowed = served.0;
          served = served.1;
          left = ap (λ (x : NodeView). x.tc) last.3 ∙ t.tc_is;
          dc_is = ap (λ (x : NodeView). x.dc) last.3 ∙ t.dc_is;
          up = λ (both : AreUp w). record {
            tc = ap (λ (x : NodeView). x.tc_up) last.3 ∙ (t.up both).tc;
            dc = ap (λ (x : NodeView). x.dc_up) last.3 ∙ (t.up both).dc;
          };
        }
    by out.Noted s d = absurd (has w.dc h.0.dc (served_last w tc q (Ok None) h.0.dc s.0).1)
    by (out.Refused r) s d = absurd d
    by _ s d = absurd s

-- the whole exchange, from a step that sends
pub exchanged : (w mid : NodeView) (tc : TcView) (q : Request) (i : ℕ) (os : List Out) (new : NodeView) → AreUp w
    → HasReply q → Sends w tc q i mid
    → Plays mid (event.Request (length w.requests + 1) ∷ event.Reply (length w.replies + 1) ∷ []) os new
    → Exchanged w tc q new
exchanged w mid tc q i os new up has sends h =
    let P : NodeView → Type 0 =
    λ m. Plays m (event.Request (length w.requests + 1) ∷ event.Reply (length w.replies + 1) ∷ []) os new in
    rest_of w tc q os new up has (subst P sends.left h)

-- why an exchange stops after its request was sent: as the data component refuses it, or the reply is refused
abbrev pub Stops : NodeView → TcView → Request → Refusal → Type 0
Stops w tc q r =
    (r ≡ NoMemory) ⊎ LacksRoom (serve_refusal w.dc q) (is_replied_to q) r
    ⊎ ((dc : DcView) × ServeGives w.dc q (Err r) dc)
    ⊎ ((dc : DcView) × (reply : Reply) × (left : TcView) × Serves w.dc q (Some reply) dc
    × ReplyGives tc reply (Err r) left)

-- the request was refused
unserved : (w : NodeView) (tc : TcView) (q : Request) (r : Refusal) (new : NodeView)
    → ServesTo (asked w tc q) (length w.requests + 1) (out.Refused r) new → Stops w tc q r
unserved w tc q r new (inl h) = elim h.0 [
  | inl none ↦ absurd (no_message w.requests q none.1)
  | inr refused ↦
      let same : refused.request ≡ q =
      some_one (message_at (w.requests ++ q ∷ []) (length w.requests + 1)) refused.request q refused.found
      (last_at w.requests q) in
      let P : Request → Type 0 = λ x. LacksRoom (serve_refusal w.dc x) (is_replied_to x) r in
      inr (inl (subst P same refused.refused))
]
unserved w tc q r new (inr h) = inr (inr (inl (new.dc, served_last w tc q (Err r) new.dc h.0)))

stops_of : (w : NodeView) (tc : TcView) (q : Request) (os : List Out) (r : Refusal) (new : NodeView) → AreUp w
    → HasReply q
    → StopsAt (asked w tc q) (event.Request (length w.requests + 1) ∷ event.Reply (length w.replies + 1) ∷ []) os r new
    → Stops w tc q r
stops_of w tc q [] r new up has (inl h) = inl h.0
stops_of w tc q [] r new up has (inr refused) = unserved w tc q r new (MatchBool-at_true _ _ up.dc refused.step)
stops_of w tc q (o ∷ p ∷ os) r new up has h = absurd h.3.3
stops_of w tc q (o ∷ []) r new up has h = by o (MatchBool-at_true _ _ up.dc h.1.step) h.2
  where
    rest : (mid : NodeView) → Type 0
    rest mid =
        ((r ≡ NoMemory) × (new ≡ mid))
        ⊎ IsStep mid (event.Reply (length w.replies + 1)) (out.Refused r) new

    by : (o : Out) → ServesTo (asked w tc q) (length w.requests + 1) o h.0 → IsDone o → Stops w tc q r
    by (out.Replied j) s d =
        let served = served_last w tc q (Ok (Some s.0)) h.0.dc s.1 in
        elim (subst rest s.3 h.3) [
          | inl memory ↦ inl memory.0
          | inr refused ↦ elim (MatchBool-at_true _ _ up.tc refused.step) [
            | inl left ↦ elim left.0
                [ inl none ↦ absurd (no_message w.replies s.0 none.1) | inr unread ↦ inl unread.memory ]
            | inr found ↦
                let same : found.reply ≡ s.0 =
                some_one (message_at (w.replies ++ s.0 ∷ []) (length w.replies + 1)) found.reply s.0 found.found
                (last_at w.replies s.0) in
                let P : Reply → Type 0 = λ x. ReplyGives tc x (Err r) new.tc in
                inr (inr (inr (h.0.dc, s.0, new.tc, served.1, subst P same found.refused)))
          ]
        ]
    by out.Noted s d = absurd (has w.dc h.0.dc (served_last w tc q (Ok None) h.0.dc s.0).1)
    by (out.Refused r) s d = absurd d
    by _ s d = absurd s

pub stops : (w mid : NodeView) (tc : TcView) (q : Request) (i : ℕ) (os : List Out) (r : Refusal) (new : NodeView)
    → AreUp w → HasReply q → Sends w tc q i mid
    → StopsAt mid (event.Request (length w.requests + 1) ∷ event.Reply (length w.replies + 1) ∷ []) os r new
    → Stops w tc q r
stops w mid tc q i os r new up has sends h =
    let P : NodeView → Type 0 =
    λ m. StopsAt m (event.Request (length w.requests + 1) ∷ event.Reply (length w.replies + 1) ∷ []) os r new in
    stops_of w tc q os r new up has (subst P sends.left h)
