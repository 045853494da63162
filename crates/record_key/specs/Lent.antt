-- The operation and the answer whose values are lent.
use Rattle.record_key.specs.Table.{Bytes}
use Rattle.record_key.specs.declared.op.Op.{Op}
use Rattle.record_key.specs.declared.op.Op.TheVariants.{Insert, Update, Upsert, Delete, Add}
use Rattle.record_key.specs.declared.op.Answer.{Answer}
use Rattle.record_key.specs.declared.op.Answer.TheVariants as was
use Rattle.record_key.specs.declared.lent.Change.{Change}
use Rattle.record_key.specs.declared.lent.Change.TheVariants as does
use Rattle.record_key.specs.declared.lent.OpRef.{OpRef}
use Rattle.record_key.specs.declared.lent.AnswerRef.{AnswerRef}
use Rattle.record_key.specs.declared.lent.AnswerRef.TheVariants as lent

-- the operation that does this to the record of a key
abbrev pub op_on : Bytes → Change → Op
op_on key (does.Insert value) = Insert key value
op_on key (does.Update value) = Update key value
op_on key (does.Upsert value) = Upsert key value
op_on key does.Delete = Delete key
op_on key (does.Add amount) = Add key amount

abbrev pub op_lent : OpRef → Op
op_lent op = op_on op.key.now op.change

abbrev pub answer_lent : AnswerRef → Answer
answer_lent lent.Inserted = was.Inserted
answer_lent (lent.Updated old) = was.Updated old
answer_lent (lent.Was old) = was.Was old
answer_lent (lent.Deleted old) = was.Deleted old
answer_lent lent.Exists = was.Exists
answer_lent lent.NoRecord = was.NoRecord
answer_lent lent.NotNumber = was.NotNumber
answer_lent (lent.Added amount) = was.Added amount
