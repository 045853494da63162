-- What came of a request to perform whose operation was handed apart, as the reply to it.
use Rattle.std.specs.Prelude.{◌≡◌, ℕ, Bool, true, false, List, ◌∷◌, Option, Some, None, Result, Ok, Err}
use Rattle.std.specs.Bool.{MatchBool}
use Rattle.record_key.specs.declared.op.Op.{Op}
use Rattle.record_key.specs.declared.op.Answer.{Answer}
use Rattle.record_key.specs.declared.refusal.Refusal.{Refusal}
use Rattle.record_key.specs.Table.{key_of, answer_in}
use Rattle.codec.specs.declared.parted.Asking.{Asking}
use Rattle.codec.specs.declared.reply.Reply.{Reply}
use Rattle.codec.specs.declared.reply.Reply.TheVariants as says
use Rattle.dc_ab_lsn.specs.AbLsn.{saved_in}
use Rattle.dc_tree.specs.Leaves.{leaf_at}
use Rattle.dc_core.specs.declared.performance.Performance.{Performance}
use Rattle.dc_core.specs.DcView.{DcView, leaves, captures_at}
use Rattle.dc_core.specs.Serves.{performs}

-- the reply with this answer, which is none where it is no longer kept
abbrev pub reply_with : Asking → Option Answer → Reply
reply_with q a = says.Answered q.session q.number a

abbrev pub replied : {A : Type 0} → Asking → Result A Refusal → Option Answer → Result (Option Reply) Refusal
replied q (Ok done) a = Ok (Some (reply_with q a))
replied q (Err r) a = Err r

-- the reply, where there is one
abbrev pub reply_if : Asking → Bool → Option Answer → Option Reply
reply_if q true a = Some (reply_with q a)
reply_if q false a = None

-- these performances, and a newer one where it was told an answer
abbrev pub also_told : ℕ → Op → Option Answer → List Performance → List Performance
also_told n o (Some a) ps = record { number = n; op = o; answer = a } ∷ ps
also_told n o None ps = ps

-- the answer that a number is given, and what is left
abbrev pub Answers : DcView → ℕ → Op → Option Answer → DcView → Type 0
Answers old n o answer new =
    MatchBool (captures_at old (key_of o) n)
    ((answer ≡ saved_in (leaf_at (leaves old) (key_of o)).ab.entries n) × (new ≡ old))
    ((answer ≡ Some (answer_in (leaf_at (leaves old) (key_of o)).rows o)) × (new ≡ performs old n o))
