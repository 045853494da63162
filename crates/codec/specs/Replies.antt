-- The one spelling of each reply of the data component, and which replies have one.
use Rattle.std.specs.Prelude.{ℕ, Bool, true, false, List, ◌∷◌, ◌++◌, IfSome}
use Rattle.codec.specs.declared.reply.Reply.{Reply}
use Rattle.codec.specs.declared.reply.Reply.TheVariants as is
use Rattle.codec.specs.Fields.{number, IsNumber, text, IsValue, optional, answer_bytes, IsAnswer}
use Rattle.record_key.specs.Rows.{AreInOrder}
use Rattle.codec.specs.Rows.{rows_bytes, AreRows}

-- the kind, and the fields in order
unfoldable pub reply_bytes : Reply → List ℕ
reply_bytes (is.Connected session) = 17 ∷ number session
reply_bytes (is.Answered session n a) = 18 ∷ number session ++ (number n ++ optional answer_bytes a)
reply_bytes (is.Row session read value) = 19 ∷ number session ++ (number read ++ optional text value)
reply_bytes (is.Rows session read rows) = 20 ∷ number session ++ (number read ++ rows_bytes rows)
reply_bytes (is.Checkpointed session low) = 21 ∷ number session ++ number low
reply_bytes (is.RedoEnded session) = 22 ∷ number session

-- the session that it is of
abbrev pub session_of : Reply → ℕ
session_of (is.Connected session) = session
session_of (is.Answered session n a) = session
session_of (is.Row session read value) = session
session_of (is.Rows session read rows) = session
session_of (is.Checkpointed session low) = session
session_of (is.RedoEnded session) = session

-- only rows may be of any length
abbrev pub has_rows : Reply → Bool
has_rows (is.Rows session read rows) = true
has_rows _ = false

-- every number in the reply is below its bound, and the keys of its rows rise
abbrev pub IsOrdered : Reply → Type 0
IsOrdered (is.Connected session) = IsNumber session
IsOrdered (is.Answered session n a) = IsNumber session × IsNumber n
IsOrdered (is.Row session read value) = IsNumber session × IsNumber read
IsOrdered (is.Rows session read rows) = IsNumber session × IsNumber read × (AreInOrder rows)
IsOrdered (is.Checkpointed session low) = IsNumber session × IsNumber low
IsOrdered (is.RedoEnded session) = IsNumber session

-- what has a spelling
abbrev pub IsReply : Reply → Type 0
IsReply (is.Connected session) = IsNumber session
IsReply (is.Answered session n a) = IsNumber session × (IsNumber n × IfSome a IsAnswer)
IsReply (is.Row session read value) = IsNumber session × (IsNumber read × IfSome value IsValue)
IsReply (is.Rows session read rows) = IsNumber session × (IsNumber read × AreRows rows)
IsReply (is.Checkpointed session low) = IsNumber session × IsNumber low
IsReply (is.RedoEnded session) = IsNumber session
