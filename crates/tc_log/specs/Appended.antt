-- The record that is appended, also where its parts are lent.
use Rattle.codec.specs.Given.{answer_given}
use Rattle.history.specs.declared.record.Record.{Record}
use Rattle.history.specs.declared.record.Record.TheVariants as is
use Rattle.tc_log.specs.declared.appended.Appended.{Appended}
use Rattle.tc_log.specs.declared.appended.Appended.TheVariants as parts

abbrev pub record_of : Appended → Record
record_of (parts.Whole whole) = whole.now
record_of (parts.Op txn prev op) = is.Op txn prev op.now
record_of (parts.Answer of answer) = is.Answer of (answer_given answer.now)
