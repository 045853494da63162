-- The session of a reply stands behind its length and its kind.
use Rattle.std.proofs.Common.{◌≡◌, ℕ, List, ◌∷◌, ◌++◌, [], length, drop, Some, sym, ap, ◌∙◌, append_assoc, append-nil, arith}
use Rattle.std.proofs.lemmas.List.{drop_at}
use Rattle.codec.specs.declared.reply.Reply.{Reply}
use Rattle.codec.specs.declared.reply.Reply.TheVariants as is
use Rattle.codec.specs.Fields.{number, IsNumber, text, optional, answer_bytes}
use Rattle.codec.specs.Frames.{frame}
use Rattle.codec.specs.Reading.{number_at}
use Rattle.codec.specs.Replies.{reply_bytes, session_of, IsReply}
use Rattle.codec.specs.Rows.{rows_bytes}
use Rattle.codec.proofs.Fields.{numbers_length, number_reads}
use Rattle.codec.proofs.Told.{first}

-- a number behind a length and a kind is read there
behind : (kind s : ℕ) (more left rest : List ℕ) → IsNumber s → left ≡ frame (kind ∷ (number s ++ more)) ++ rest
    → first (number_at (drop 9 left)) ≡ Some s
behind kind s more left rest fits e =
    let body : List ℕ = kind ∷ (number s ++ more) in
    let head : List ℕ = number (length body) ++ kind ∷ [] in
    let parts : left ≡ head ++ (number s ++ (more ++ rest)) =
    e ∙ append_assoc (number (length body)) body rest
    ∙ ap (λ (b : List ℕ). number (length body) ++ kind ∷ b) (append_assoc (number s) more rest)
    ∙ sym (append_assoc (number (length body)) (kind ∷ []) (number s ++ (more ++ rest))) in
    let nine : length head ≡ 9 = omega (arith, numbers_length (length body) (kind ∷ [])) in
    ap (λ (b : List ℕ). first (number_at b))
    (ap (drop 9) parts ∙ drop_at head (number s ++ (more ++ rest)) 9 nine)
    ∙ ap first (number_reads.again s (more ++ rest) fits)

-- the same where nothing follows the number
behind_alone : (kind s : ℕ) (left rest : List ℕ) → IsNumber s → left ≡ frame (kind ∷ number s) ++ rest
    → first (number_at (drop 9 left)) ≡ Some s
behind_alone kind s left rest fits e =
    behind kind s [] left rest fits
    (e ∙ ap (λ (b : List ℕ). frame (kind ∷ b) ++ rest) (sym (append-nil (number s))))

pub session_told : (r : Reply) (left rest : List ℕ) → IsReply r → left ≡ frame (reply_bytes r) ++ rest
    → first (number_at (drop 9 left)) ≡ Some (session_of r)
unfolding reply_bytes
session_told (is.Connected s) left rest fits e = behind_alone 17 s left rest fits e
session_told (is.Answered s n a) left rest fits e =
    behind 18 s (number n ++ optional answer_bytes a) left rest fits.0 e
session_told (is.Row s read value) left rest fits e =
    behind 19 s (number read ++ optional text value) left rest fits.0 e
session_told (is.Rows s read rows) left rest fits e = behind 20 s (number read ++ rows_bytes rows) left rest fits.0 e
session_told (is.Checkpointed s low) left rest fits e = behind 21 s (number low) left rest fits.0 e
session_told (is.RedoEnded s) left rest fits e = behind_alone 22 s left rest fits e
