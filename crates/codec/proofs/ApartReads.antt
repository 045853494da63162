-- What a request to read a key and a reply to it tell, read from the bytes behind their kind.
use Rattle.std.proofs.Common.{◌≡◌, ◌≢◌, ◌∙◌, ℕ, List, [], ◌∷◌, ◌++◌, drop, None, refl, sym, ap, append-nil}
use Rattle.record_key.specs.Table.{Bytes}
use Rattle.codec.specs.declared.parted_reads.Reading.{Reading}
use Rattle.codec.specs.declared.request.Request.{Request}
use Rattle.codec.specs.declared.request.Request.TheVariants as asks
use Rattle.codec.specs.declared.reply.Reply.{Reply}
use Rattle.codec.specs.declared.reply.Reply.TheVariants as says
use Rattle.codec.specs.Fields.{number, text}
use Rattle.codec.specs.Parted.{reading_of, found_of}
use Rattle.codec.specs.Reading.{Reader, pair, mapped, number_at, key_at, value_at}
use Rattle.codec.specs.Replies.{reply_bytes, IsReply}
use Rattle.codec.specs.Requests.{request_bytes, IsRequest}
use Rattle.codec.proofs.Apart.{other_kind, numbered_at, told_behind}
use Rattle.codec.proofs.Fields.{value_reads}
use Rattle.codec.proofs.Readers.{made_again}
use Rattle.codec.proofs.Requests.{get_reads}
use Rattle.codec.proofs.Told.{first}

-- ---- requests

abbrev made : ℕ × (ℕ × Bytes) → Reading × Bytes
made p = (record { session = p.0; read = p.1.0 }, p.1.1)

-- two numbers and a key
abbrev pub reading_at : Reader (Reading × Bytes)
reading_at = mapped made (pair number_at (pair number_at key_at))

-- behind its kind, a request to read a key is read so
pub reading_told : (r : Request) (k : ℕ) (tail : List ℕ) → IsRequest r → k ∷ tail ≡ request_bytes r → k ≡ 3
    → first (reading_at tail) ≡ reading_of r
unfolding request_bytes
reading_told (asks.Get session read key) k tail fits stands three =
    let fields : List ℕ = number session ++ (number read ++ text key) in
    let same : tail ≡ fields = cc stands in
    ap (λ (b : List ℕ). first (reading_at b)) (same ∙ sym (append-nil fields))
    ∙ ap first (made_again get_reads made (session, (read, key)) [] fits)
reading_told (asks.Connect session end) k tail fits stands three = absurd (other_kind refl stands three)
reading_told (asks.Perform session n stable o) k tail fits stands three = absurd (other_kind refl stands three)
reading_told (asks.Scan session read low high) k tail fits stands three = absurd (other_kind refl stands three)
reading_told (asks.LowWater session low) k tail fits stands three = absurd (other_kind refl stands three)
reading_told (asks.Checkpoint session low) k tail fits stands three = absurd (other_kind refl stands three)
reading_told (asks.RedoEnd session) k tail fits stands three = absurd (other_kind refl stands three)
reading_told (asks.StableEnd session stable) k tail fits stands three = absurd (other_kind refl stands three)

-- and no other kind is
pub nothing_read : (r : Request) (k : ℕ) (tail : List ℕ) → k ∷ tail ≡ request_bytes r → k ≢ 3 → None ≡ reading_of r
unfolding request_bytes
nothing_read (asks.Get session read key) k tail stands other = absurd (other cc)
nothing_read (asks.Connect session end) k tail stands other = refl
nothing_read (asks.Perform session n stable o) k tail stands other = refl
nothing_read (asks.Scan session read low high) k tail stands other = refl
nothing_read (asks.LowWater session low) k tail stands other = refl
nothing_read (asks.Checkpoint session low) k tail stands other = refl
nothing_read (asks.RedoEnd session) k tail stands other = refl
nothing_read (asks.StableEnd session stable) k tail stands other = refl

-- ---- replies

-- behind its kind, a reply to it is read so
pub found_told : (r : Reply) (k : ℕ) (tail : List ℕ) → IsReply r → k ∷ tail ≡ reply_bytes r → k ≡ 19
    → first (numbered_at value_at (drop 8 tail)) ≡ found_of r
unfolding reply_bytes
found_told (says.Row session read value) k tail fits stands row =
    told_behind value_reads session read value tail fits.1.0 fits.1.1 (cc stands)
found_told (says.Connected session) k tail fits stands row = absurd (other_kind refl stands row)
found_told (says.Answered session n a) k tail fits stands row = absurd (other_kind refl stands row)
found_told (says.Rows session read rows) k tail fits stands row = absurd (other_kind refl stands row)
found_told (says.Checkpointed session low) k tail fits stands row = absurd (other_kind refl stands row)
found_told (says.RedoEnded session) k tail fits stands row = absurd (other_kind refl stands row)

-- and no other kind is
pub nothing_found : (r : Reply) (k : ℕ) (tail : List ℕ) → k ∷ tail ≡ reply_bytes r → k ≢ 19 → None ≡ found_of r
unfolding reply_bytes
nothing_found (says.Row session read value) k tail stands other = absurd (other cc)
nothing_found (says.Connected session) k tail stands other = refl
nothing_found (says.Answered session n a) k tail stands other = refl
nothing_found (says.Rows session read rows) k tail stands other = refl
nothing_found (says.Checkpointed session low) k tail stands other = refl
nothing_found (says.RedoEnded session) k tail stands other = refl
