-- What becomes of one kind of reply, for the steps of the call that takes it.
use Rattle.std.specs.Prelude.{◌≡◌, ℕ, Option, None, Result, Ok, Err}
use Rattle.record_key.specs.declared.op.Answer.{Answer}
use Rattle.record_key.specs.declared.refusal.Refusal.{Refusal}
use Rattle.tc_core.specs.declared.told.Told.{Told}
use Rattle.tc_core.specs.TcView.{TcView}
use Rattle.tc_core.specs.Refusing.{Refuses}
use Rattle.tc_core.specs.Replies.{Outcome, on_answered, on_checkpointed, awaiting, is_number, is_logged, answered_refusal_of, checkpointed_refusal_of}

-- it has this outcome
pub record Becomes (outcome : Outcome) (what : Told) (new : TcView) : Type 0 where
  pub told : what ≡ outcome.0
  pub left : new ≡ outcome.1

abbrev pub AnsweredGives : TcView → ℕ → Option Answer → Result Told Refusal → TcView → Type 0
AnsweredGives old n a (Ok what) new = (answered_refusal_of old n a ≡ None) × Becomes (on_answered old n a) what new
AnsweredGives old n a (Err r) new =
    Refuses (answered_refusal_of old n a) (is_logged old n a (awaiting old n)) (is_logged old n a (awaiting old n)) old
    r new

abbrev pub CheckpointedGives : TcView → ℕ → Result Told Refusal → TcView → Type 0
CheckpointedGives old l (Ok what) new =
    (checkpointed_refusal_of old l ≡ None) × Becomes (on_checkpointed old l) what new
CheckpointedGives old l (Err r) new =
    Refuses (checkpointed_refusal_of old l) (is_number old.checkpointing l) (is_number old.checkpointing l) old r new
