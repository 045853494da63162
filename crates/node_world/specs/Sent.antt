-- Messages kept as their frames, one after another in a buffer, with an index of the places of these.
use Rattle.std.specs.Prelude.{◌≡◌, ℕ, ◌<◌, ◌^◌, Bool, true, false, List, [], ◌∷◌, Option, Some, None, ◌++◌, length, drop}
use Rattle.std.specs.Option.{option_map}
use Rattle.record_key.specs.declared.op.Answer.{Answer}
use Rattle.record_key.specs.Lent.{op_on}
use Rattle.codec.specs.Given.{answer_given}
use Rattle.record_key.specs.Table.{Bytes}
use Rattle.codec.specs.Parted.{request_to, get_of}
use Rattle.codec.specs.Requests.{IsRequest}
use Rattle.record_key.specs.declared.refusal.Refusal.{Refusal}
use Rattle.record_key.specs.declared.refusal.Refusal.TheVariants.{NoMemory, Stale}
use Rattle.std.specs.List.{AllByRecursion}
use Rattle.codec.specs.FrameIndex.{place_at, places_of, Indexes}
use Rattle.codec.specs.Frames.{frame, any_length}
use Rattle.codec.specs.Reading.{Reader, frame_at, within, request_at, reply_at}
use Rattle.framed_log.specs.Spelled.{taken_or}
use Rattle.codec.specs.Replies.{reply_bytes, session_of, has_rows, IsReply}
use Rattle.node_sides.specs.tc_core.specs.Replies.{is_of_another}
use Rattle.codec.specs.declared.request.Request.{Request}
use Rattle.codec.specs.declared.request.Request.TheVariants as asks
use Rattle.codec.specs.declared.reply.Reply.{Reply}
use Rattle.codec.specs.declared.reply.Reply.TheVariants as says
use Rattle.node_world.specs.declared.sent.Asked.{Asked}
use Rattle.node_world.specs.declared.sent.Asked.TheVariants as asked
use Rattle.node_world.specs.declared.sent.Said.{Said}
use Rattle.node_world.specs.declared.sent.Said.TheVariants as said
use Rattle.node_sides.specs.node_laws.specs.Messages.{message_at}

-- what is seen of them: the messages, the oldest first, and whether there is room for one more without rows
pub record SentView (X : Type 0) : Type 0 where
  pub messages : List X
  pub has_room : Bool

-- the message whose frame begins at a place of the bytes; another where none does
unfoldable pub read_there : {X : Type 0} → Reader X → X → List ℕ → ℕ → X
read_there read other bytes place = taken_or other (within place read (frame_at any_length place (drop place bytes)))

-- the frame of a message that has a spelling begins at a place of the bytes
pub record StandsAt (X : Type 0) (spell : X → List ℕ) (Fits : X → Type 0) (bytes : List ℕ) (place : ℕ) : Type 0 where
  pub message : X
  pub fits : Fits message
  pub rest : List ℕ
  pub parts : drop place bytes ≡ frame (spell message) ++ rest

-- such a frame stands at each place that an index tells of the bytes, and these are all of the bytes
pub record AllStand (X : Type 0) (spell : X → List ℕ) (Fits : X → Type 0) (bytes marks : List ℕ) (count : ℕ)
    : Type 0 where
  pub stand : AllByRecursion (StandsAt X spell Fits bytes) (places_of bytes count)
  pub indexes : Indexes bytes marks count
  pub ends : length bytes ≡ place_at bytes count

abbrev pub request_there : List ℕ → ℕ → Request
request_there bytes place = read_there request_at (asks.RedoEnd 0) bytes place

abbrev pub reply_there : List ℕ → ℕ → Reply
reply_there bytes place = read_there reply_at (says.RedoEnded 0) bytes place

-- a reply that has a spelling, and a length that can be told
abbrev pub IsFramedReply : Reply → Type 0
IsFramedReply r = IsReply r × (length (reply_bytes r) < 2 ^ 64)

-- the reply of this number isn't of the session that runs, or none runs
pub record IsStale (running : ℕ) (messages : List Reply) (i : ℕ) (r : Refusal) : Type 0 where
  pub reply : Reply
  pub found : message_at messages i ≡ Some reply
  pub other : is_of_another running (session_of reply) ≡ true
  pub is : r ≡ Stale

-- it is, but has rows, and memory for these was refused
pub record IsUnreadOf (running : ℕ) (messages : List Reply) (i : ℕ) (r : Refusal) : Type 0 where
  pub reply : Reply
  pub found : message_at messages i ≡ Some reply
  pub current : is_of_another running (session_of reply) ≡ false
  pub long : has_rows reply ≡ true
  pub memory : r ≡ NoMemory

-- the request of this number, which has a spelling
abbrev pub WasSent : List Request → ℕ → Request → Type 0
WasSent messages i q = (message_at messages i ≡ Some q) × IsRequest q

-- the request of this number: its key apart, where it is to perform or to read one; else the whole
abbrev pub IsReadApart : List Request → ℕ → Asked → Option Bytes → Option Request → Type 0
IsReadApart messages i (asked.Perform q change) (Some key) other = WasSent messages i (request_to q (op_on key change))
IsReadApart messages i (asked.Get q) (Some key) other = WasSent messages i (get_of q key)
IsReadApart messages i asked.Other key (Some q) = WasSent messages i q
IsReadApart messages i _ key other = ⊥

-- the reply of this number is of the session that runs
abbrev pub IsOfSession : ℕ → List Reply → ℕ → Reply → Type 0
IsOfSession running messages i r = (message_at messages i ≡ Some r) × (is_of_another running (session_of r) ≡ false)

-- it is: its answer lent, where it answers, its value apart, where it is of a read; else the whole
abbrev pub IsHeardApart : ℕ → List Reply → ℕ → Said → Option Bytes → Option Reply → Type 0
IsHeardApart running messages i (said.Answered n a) v other =
    (s : ℕ) × IsOfSession running messages i (says.Answered s n (option_map answer_given a))
IsHeardApart running messages i (said.Found n) v other = (s : ℕ) × IsOfSession running messages i (says.Row s n v)
IsHeardApart running messages i said.Other v (Some r) = IsOfSession running messages i r
IsHeardApart running messages i said.Other v None = ⊥

-- the answer that the last reply tells, if it tells one
abbrev pub told_in : Reply → Option Answer
told_in (says.Answered s n a) = a
told_in _ = None

abbrev pub told_after : Option Answer → List Reply → Option Answer
told_after a [] = a
told_after a (r ∷ rs) = told_after (told_in r) rs

abbrev pub told_last : List Reply → Option Answer
told_last replies = told_after None replies
