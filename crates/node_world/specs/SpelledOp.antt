-- An operation that is handed on as the bytes that spell it.
use Rattle.std.specs.Prelude.{◌≡◌, ℕ, List, []}
use Rattle.std.specs.Option.{unwrap_or}
use Rattle.record_key.specs.declared.op.Op.{Op}
use Rattle.record_key.specs.declared.op.Op.TheVariants.{Delete}
use Rattle.codec.specs.declared.parted.Asking.{Asking}
use Rattle.codec.specs.Fields.{op_bytes}
use Rattle.codec.specs.Parted.{request_to}
use Rattle.codec.specs.Reading.{op_at}
use Rattle.codec.specs.Requests.{IsRequest}

-- the operation that bytes spell; another where they spell none
unfoldable pub op_spelled : List ℕ → Op
op_spelled bytes = (unwrap_or (op_at bytes) (Delete [], [])).0

-- bytes spell the operation of a request with these numbers, which has a spelling
abbrev pub SpellsOp : Asking → List ℕ → Type 0
SpellsOp asking bytes = (o : Op) × ((bytes ≡ op_bytes o) × IsRequest (request_to asking o))
