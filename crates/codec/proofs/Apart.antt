-- What a request to perform and a reply that answers tell, read from the bytes behind their kind.
use Rattle.std.proofs.Common.{◌≡◌, ◌≢◌, ◌∙◌, ℕ, false, eqb, List, [], ◌∷◌, ◌++◌, drop, Option, Some, None, option_map, refl, sym, ap, append-nil}
use Rattle.std.specs.Prelude.{IfSome}
use Rattle.std.proofs.lemmas.Bool.{eqb-false}
use Rattle.std.proofs.lemmas.List.{drop_at}
use Rattle.record_key.specs.Table.{Bytes}
use Rattle.record_key.specs.declared.op.Op.{Op}
use Rattle.record_key.specs.declared.lent.Change.{Change}
use Rattle.record_key.specs.Lent.{op_on}
use Rattle.codec.specs.declared.parted.Asking.{Asking}
use Rattle.codec.specs.declared.request.Request.{Request}
use Rattle.codec.specs.declared.request.Request.TheVariants as asks
use Rattle.codec.specs.declared.reply.Reply.{Reply}
use Rattle.codec.specs.declared.reply.Reply.TheVariants as says
use Rattle.codec.specs.Fields.{number, IsNumber, optional, op_bytes}
use Rattle.codec.specs.Parted.{both, asked_with, asking_of, answered_of, asked_parts}
use Rattle.codec.specs.Reading.{Reader, pair, mapped, number_at, op_at, optional_at, answer_at}
use Rattle.codec.specs.Replies.{reply_bytes, IsReply}
use Rattle.codec.specs.Requests.{request_bytes, IsRequest}
use Rattle.codec.proofs.Fields.{length-number, number_reads, optional_reads, answer_reads}
use Rattle.codec.proofs.Readers.{IsReader, made_again}
use Rattle.codec.proofs.Readers as readers
use Rattle.codec.proofs.Requests.{perform_reads}
use Rattle.codec.proofs.Told.{first}

-- a body of another kind
pub other_kind : {k kind wanted : ℕ} {tail fields : List ℕ} → eqb kind wanted ≡ false → k ∷ tail ≡ kind ∷ fields
    → k ≡ wanted → ⊥
other_kind {kind = kind} {wanted = wanted} other stands same = eqb-false kind wanted other (cc (stands, same))

-- ---- requests

-- three numbers and an operation, which is kept apart
abbrev pub asked_at : Reader (Asking × Option Op)
asked_at = mapped asked_parts (pair number_at (pair number_at (pair number_at op_at)))

-- the numbers and the operation that were read, if any
abbrev pub both_first : Option ((Asking × Option Op) × List ℕ) → Option (Asking × Op)
both_first None = None
both_first (Some x) = both (Some x.0.0) x.0.1

-- the operation is kept as its key and what is done to the key's record
pub with_key : (asked : Asking × Change) (key : Option Bytes)
    → asked_with (Some asked) key ≡ both (Some asked.0) (option_map (λ k. op_on k asked.1) key)
with_key asked None = refl
with_key asked (Some key) = refl

-- behind its kind, a request to perform is read so
pub asking_told : (r : Request) (k : ℕ) (tail : List ℕ) → IsRequest r → k ∷ tail ≡ request_bytes r → k ≡ 2
    → both_first (asked_at tail) ≡ asking_of r
unfolding request_bytes
asking_told (asks.Perform session n stable o) k tail fits stands two =
    let fields : List ℕ = number session ++ (number n ++ (number stable ++ op_bytes o)) in
    let same : tail ≡ fields = cc stands in
    ap (λ (b : List ℕ). both_first (asked_at b)) (same ∙ sym (append-nil fields))
    ∙ ap both_first (made_again perform_reads asked_parts (session, (n, (stable, o))) [] fits)
asking_told (asks.Connect session end) k tail fits stands two = absurd (other_kind refl stands two)
asking_told (asks.Get session read key) k tail fits stands two = absurd (other_kind refl stands two)
asking_told (asks.Scan session read low high) k tail fits stands two = absurd (other_kind refl stands two)
asking_told (asks.LowWater session low) k tail fits stands two = absurd (other_kind refl stands two)
asking_told (asks.Checkpoint session low) k tail fits stands two = absurd (other_kind refl stands two)
asking_told (asks.RedoEnd session) k tail fits stands two = absurd (other_kind refl stands two)
asking_told (asks.StableEnd session stable) k tail fits stands two = absurd (other_kind refl stands two)

-- and no other kind is
pub nothing_asked : (r : Request) (k : ℕ) (tail : List ℕ) → k ∷ tail ≡ request_bytes r → k ≢ 2 → None ≡ asking_of r
unfolding request_bytes
nothing_asked (asks.Perform session n stable o) k tail stands other = absurd (other cc)
nothing_asked (asks.Connect session end) k tail stands other = refl
nothing_asked (asks.Get session read key) k tail stands other = refl
nothing_asked (asks.Scan session read low high) k tail stands other = refl
nothing_asked (asks.LowWater session low) k tail stands other = refl
nothing_asked (asks.Checkpoint session low) k tail stands other = refl
nothing_asked (asks.RedoEnd session) k tail stands other = refl
nothing_asked (asks.StableEnd session stable) k tail stands other = refl

-- ---- replies

-- a number and what is told of it, if anything is
abbrev pub numbered_at : {X : Type 0} → Reader X → Reader (ℕ × Option X)
numbered_at part = pair number_at (optional_at part)

-- they stand behind the session's number
pub told_behind : {X : Type 0} {spell : X → List ℕ} {Fits : X → Type 0} {part : Reader X} → IsReader X spell Fits part →
    (session n : ℕ) (o : Option X) (tail : List ℕ) → IsNumber n → IfSome o Fits
    → tail ≡ number session ++ (number n ++ optional spell o) → first (numbered_at part (drop 8 tail)) ≡ Some (n, o)
told_behind {X = X} {spell = spell} {Fits = Fits} {part = part} law session n o tail small fits same =
    let fields : List ℕ = number n ++ optional spell o in
    let behind : drop 8 tail ≡ fields =
    ap (drop 8) same ∙ drop_at (number session) fields 8 (length-number session) in
    ap (λ (b : List ℕ). first (numbered_at part b)) (behind ∙ sym (append-nil fields))
    ∙ ap first ((readers.both number_reads (optional_reads X spell Fits part law)).again (n, o) [] (small, fits))

-- what they give by what each of their readers gave
module _ {X : Type 0} (part : Reader X) (bytes : List ℕ) where
  pub no_number : number_at bytes ≡ None → numbered_at part bytes ≡ None
  no_number none = rw none refl

  pub nothing_told : (rest : List ℕ) (n : ℕ) → number_at bytes ≡ Some (n, rest) → optional_at part rest ≡ None
      → numbered_at part bytes ≡ None
  nothing_told rest n some none = rw some (rw none refl)

  pub both_told : (rest left : List ℕ) (n : ℕ) (o : Option X) → number_at bytes ≡ Some (n, rest)
      → optional_at part rest ≡ Some (o, left) → numbered_at part bytes ≡ Some ((n, o), left)
  both_told rest left n o some told = rw some (rw told refl)

-- behind its kind, a reply that answers is read so
pub answer_told : (r : Reply) (k : ℕ) (tail : List ℕ) → IsReply r → k ∷ tail ≡ reply_bytes r → k ≡ 18
    → first (numbered_at answer_at (drop 8 tail)) ≡ answered_of r
unfolding reply_bytes
answer_told (says.Answered session n a) k tail fits stands answer =
    told_behind answer_reads session n a tail fits.1.0 fits.1.1 (cc stands)
answer_told (says.Connected session) k tail fits stands answer = absurd (other_kind refl stands answer)
answer_told (says.Row session read value) k tail fits stands answer = absurd (other_kind refl stands answer)
answer_told (says.Rows session read rows) k tail fits stands answer = absurd (other_kind refl stands answer)
answer_told (says.Checkpointed session low) k tail fits stands answer = absurd (other_kind refl stands answer)
answer_told (says.RedoEnded session) k tail fits stands answer = absurd (other_kind refl stands answer)

-- and no other kind is
pub nothing_answered : (r : Reply) (k : ℕ) (tail : List ℕ) → k ∷ tail ≡ reply_bytes r → k ≢ 18 → None ≡ answered_of r
unfolding reply_bytes
nothing_answered (says.Answered session n a) k tail stands other = absurd (other cc)
nothing_answered (says.Connected session) k tail stands other = refl
nothing_answered (says.Row session read value) k tail stands other = refl
nothing_answered (says.Rows session read rows) k tail stands other = refl
nothing_answered (says.Checkpointed session low) k tail stands other = refl
nothing_answered (says.RedoEnded session) k tail stands other = refl
