-- Where in a record's body the bytes stand that spell what the record asks for.
use Rattle.std.proofs.Common.{◌≡◌, ◌≢◌, ◌∙◌, ℕ, List, ◌∷◌, ◌++◌, length, drop, Option, Some, None, option_map, refl, sym, ap, append_assoc, arith}
use Rattle.std.proofs.lemmas.List.{drop_at}
use Rattle.history.specs.declared.record.Record.{Record}
use Rattle.history.specs.declared.record.Record.TheVariants as is
use Rattle.history.specs.Log.{request_of}
use Rattle.record_key.specs.declared.op.Op.{Op}
use Rattle.codec.specs.Fields.{number, optional, op_bytes}
use Rattle.codec.specs.Reading.{bytes_if}
use Rattle.codec.specs.Records.{record_bytes}
use Rattle.codec.proofs.Fields.{length-number, numbers_length}
use Rattle.codec.proofs.Told.{kind, fields, spelled, IsSplit, split, asks_nothing}

-- behind an Op record's two numbers
op_behind : (r : Record) → kind r ≡ 3 → Some (drop 16 (fields r)) ≡ option_map op_bytes (request_of r)
op_behind (is.Op txn prev o) op =
    let numbers : List ℕ = number txn ++ number prev in
    let two : length numbers ≡ 16 = omega (arith, numbers_length txn (number prev), length-number prev) in
    ap Some (ap (drop 16) (sym (append_assoc (number txn) (number prev) (op_bytes o))) ∙ drop_at numbers (op_bytes o) 16 two)
op_behind is.Session op = absurd (cc)
op_behind is.Begin op = absurd (cc)
op_behind (is.Answer of a) op = absurd (cc)
op_behind (is.Comp txn undoes next inverse) op = absurd (cc)
op_behind (is.Commit txn) op = absurd (cc)
op_behind (is.End txn) op = absurd (cc)
op_behind (is.Checkpoint low) op = absurd (cc)

after_flag : (inverse : Option Op) → bytes_if (optional op_bytes inverse) ≡ option_map op_bytes inverse
after_flag None = refl
after_flag (Some o) = refl

-- behind a Comp record's three numbers and a flag
inverse_behind : (r : Record) → kind r ≡ 5 → bytes_if (drop 24 (fields r)) ≡ option_map op_bytes (request_of r)
inverse_behind (is.Comp txn undoes next inverse) comp =
    let two : List ℕ = number undoes ++ number next in
    let numbers : List ℕ = number txn ++ two in
    let tail : List ℕ = optional op_bytes inverse in
    let all : fields (is.Comp txn undoes next inverse) ≡ numbers ++ tail =
    ap (λ (b : List ℕ). number txn ++ b) (sym (append_assoc (number undoes) (number next) tail))
    ∙ sym (append_assoc (number txn) two tail) in
    let three : length numbers ≡ 24 =
    omega (arith, numbers_length txn two, numbers_length undoes (number next), length-number next) in
    ap bytes_if (ap (drop 24) all ∙ drop_at numbers tail 24 three) ∙ after_flag inverse
inverse_behind is.Session comp = absurd (cc)
inverse_behind is.Begin comp = absurd (cc)
inverse_behind (is.Op txn prev o) comp = absurd (cc)
inverse_behind (is.Answer of a) comp = absurd (cc)
inverse_behind (is.Commit txn) comp = absurd (cc)
inverse_behind (is.End txn) comp = absurd (cc)
inverse_behind (is.Checkpoint low) comp = absurd (cc)

-- of a body that begins with this kind
module _ (r : Record) (body : List ℕ) (k : ℕ) (tail : List ℕ) (parts : body ≡ k ∷ tail) (stands : body ≡ record_bytes r) where
  whole : IsSplit r k tail
  whole = split r body k tail parts stands

  pub op_asked : k ≡ 3 → Some (drop 16 tail) ≡ option_map op_bytes (request_of r)
  op_asked op = ap (λ (b : List ℕ). Some (drop 16 b)) whole.tail_is ∙ op_behind r (sym whole.kind_is ∙ op)

  pub inverse_asked : k ≡ 5 → bytes_if (drop 24 tail) ≡ option_map op_bytes (request_of r)
  inverse_asked comp = ap (λ (b : List ℕ). bytes_if (drop 24 b)) whole.tail_is ∙ inverse_behind r (sym whole.kind_is ∙ comp)

  pub nothing_asked : k ≢ 3 → k ≢ 5 → None ≡ option_map op_bytes (request_of r)
  nothing_asked op comp =
      sym (ap (option_map op_bytes) (asks_nothing r (λ is. op (whole.kind_is ∙ is)) (λ is. comp (whole.kind_is ∙ is))))

-- a body is never empty
pub some_body : (r : Record) (body : List ℕ) → body ≡ record_bytes r → length body ≡ 0 → ⊥
some_body r body stands none = omega (arith, ap length (stands ∙ spelled r), none)
