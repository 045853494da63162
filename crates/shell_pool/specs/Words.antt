-- The keys and values of a client's records, which request is held, and which calls are made again.
use Rattle.std.specs.Prelude.{ℕ, Bool, true, false, List, ◌++◌, codes, decimal}
use Rattle.std.specs.Str.{bytes_eq}
use Rattle.codec.specs.declared.request.Request.{Request}
use Rattle.codec.specs.declared.request.Request.TheVariants as request
use Rattle.record_key.specs.declared.op.Op.{Op}
use Rattle.record_key.specs.declared.op.Op.TheVariants as op
use Rattle.record_key.specs.declared.refusal.Refusal.{Refusal}
use Rattle.record_key.specs.declared.refusal.Refusal.TheVariants as refusal

-- the key that a client writes in each round
abbrev pub client_key : ℕ → List ℕ
client_key client = codes "s" ++ decimal client

-- the key that it inserts in one round
abbrev pub round_key : ℕ → ℕ → List ℕ
round_key client round = (codes "s" ++ decimal client) ++ (codes "r" ++ decimal round)

abbrev pub round_value : ℕ → List ℕ
round_value round = decimal round

abbrev pub deletes_at : List ℕ → Op → Bool
deletes_at key (op.Delete k) = bytes_eq k key
deletes_at key _ = false

-- the request deletes the record at this key
abbrev pub deletes : List ℕ → Request → Bool
deletes key (request.Perform session number stable o) = deletes_at key o
deletes key _ = false

-- the components are being brought up: a call that is refused so is made again
abbrev pub passes : Refusal → Bool
passes refusal.Redoing = true
passes refusal.NotConnected = true
passes _ = false
