-- What is told of the bytes that spell what a record asks for.
use Rattle.std.proofs.Common.{◌≡◌, ◌∙◌, ℕ, ◌≤◌, Bor, List, length, Option, Some, None, option_map, refl, sym, ap, subst}
use Rattle.std.specs.Prelude.{IfSome, IfNone}
use Rattle.std.specs.Option.{option_copied}
use Rattle.std.proofs.lemmas.Option.{same_Some, none-some}
use Rattle.history.specs.declared.record.Record.{Record}
use Rattle.history.specs.declared.record.Record.TheVariants as is
use Rattle.history.specs.Log.{record_at, request_of, request_in}
use Rattle.record_key.specs.declared.op.Op.{Op}
use Rattle.codec.specs.Fields.{op_bytes, IsOp}
use Rattle.codec.specs.Records.{IsRecord}
use Rattle.tc_log.specs.Spelled.{AreRecords, IsAskedBy}
use Rattle.tc_log.proofs.Spelled.{is_record, Tells}

inverse_fits : (inverse : Option Op) (o : Op) → IfSome inverse IsOp → inverse ≡ Some o → IsOp o
inverse_fits None o fits is = absurd (none-some o is)
inverse_fits (Some p) o fits is = subst IsOp (same_Some p o is) fits

-- it has a spelling
asked_fits : (r : Record) (o : Op) → IsRecord r → request_of r ≡ Some o → IsOp o
asked_fits (is.Op txn prev p) o fits is = subst IsOp (same_Some p o is) fits.1.1
asked_fits (is.Comp txn undoes next inverse) o fits is = inverse_fits inverse o fits.1.1.1 is
asked_fits is.Session o fits is = absurd (none-some o is)
asked_fits is.Begin o fits is = absurd (none-some o is)
asked_fits (is.Answer of a) o fits is = absurd (none-some o is)
asked_fits (is.Commit txn) o fits is = absurd (none-some o is)
asked_fits (is.End txn) o fits is = absurd (none-some o is)
asked_fits (is.Checkpoint low) o fits is = absurd (none-some o is)

-- the bytes that a record asks with
abbrev pub asked_of : Record → Option (List ℕ)
asked_of r = option_map op_bytes (request_of r)

pub asks_so : (log : List Record) (n : ℕ) (bytes : List ℕ) → AreRecords log → Tells log n asked_of (Some bytes)
    → length bytes ≤ 164 → IsAskedBy log n bytes
asks_so log n bytes all t short = by (request_of t.found) refl
  where
    by : (asked : Option Op) → request_of t.found ≡ asked → IsAskedBy log n bytes
    by None is = absurd (none-some bytes (sym (t.told_is ∙ ap (option_map op_bytes) is)))
    by (Some o) is = record {
      op = o;
      asked = ap request_in t.is ∙ is;
      fits = asked_fits t.found o (is_record log n t.found all t.is) is;
      spelled = same_Some bytes (op_bytes o) (t.told_is ∙ ap (option_map op_bytes) is);
      short = short;
    }

pub asks_nothing : (log : List Record) (n : ℕ) → Tells log n asked_of None → request_in (record_at log n) ≡ None
asks_nothing log n t = by (request_of t.found) refl
  where
    by : (asked : Option Op) → request_of t.found ≡ asked → request_in (record_at log n) ≡ None
    by None is = ap request_in t.is ∙ is
    by (Some o) is = absurd (none-some (op_bytes o) (t.told_is ∙ ap (option_map op_bytes) is))

-- both, of what a reading gives
pub told_asked : (log : List Record) (n : ℕ) (asked : Option (Bor (List ℕ))) → AreRecords log
    → Tells log n asked_of (option_copied asked) → IfSome asked (λ a. length a.now ≤ 164)
    → IfSome asked (λ a. IsAskedBy log n a.now)
told_asked log n None all t short = tt
told_asked log n (Some a) all t short = asks_so log n a.now all t short

pub told_none : (log : List Record) (n : ℕ) (asked : Option (Bor (List ℕ)))
    → Tells log n asked_of (option_copied asked) → IfNone asked (request_in (record_at log n) ≡ None)
told_none log n None t = asks_nothing log n t
told_none log n (Some a) t = tt
