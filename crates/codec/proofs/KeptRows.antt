-- What stands behind the kind of a reply with rows, and that no other kind has any.
use Rattle.std.proofs.Common.{◌≡◌, ◌≢◌, ◌∙◌, ℕ, ◌<◌, ◌^◌, List, ◌∷◌, ◌++◌, length, Some, None, refl, sym, ap, append_assoc}
use Rattle.std.specs.List.{flat_map, AllByRecursion}
use Rattle.std.proofs.lemmas.Option.{same_Some}
use Rattle.record_key.specs.Rows.{Row}
use Rattle.codec.specs.declared.reply.Reply.{Reply}
use Rattle.codec.specs.declared.reply.Reply.TheVariants as says
use Rattle.codec.specs.Fields.{number, IsNumber}
use Rattle.codec.specs.Parted.{rows_of}
use Rattle.codec.specs.PackedRows.{rows_spelled, ArePacked}
use Rattle.codec.specs.Reading.{pair, number_at, count_at}
use Rattle.codec.specs.Replies.{reply_bytes, IsReply}
use Rattle.codec.specs.Rows.{rows_bytes, row_bytes, IsRow}
use Rattle.codec.proofs.Apart.{other_kind}
use Rattle.codec.proofs.Fields.{number_reads, count_reads}
use Rattle.codec.proofs.PackedRows.{packs, spells}
use Rattle.codec.proofs.Readers.{pair_reads}

pub record RowsThere (r : Reply) (tail : List ℕ) : Type 0 where
  pub session : ℕ
  pub read : ℕ
  pub rows : List Row
  pub is : r ≡ says.Rows session read rows
  pub few : length rows < 2 ^ 64
  pub each : AllByRecursion IsRow rows
  pub numbers : pair number_at number_at tail
      ≡ Some ((session, read), number (length rows) ++ flat_map row_bytes rows)

pub rows_there : (r : Reply) (k : ℕ) (tail : List ℕ) → IsReply r → k ∷ tail ≡ reply_bytes r → k ≡ 20
    → RowsThere r tail
unfolding reply_bytes rows_bytes
rows_there (says.Rows session read rows) k tail fits stands twenty =
    let behind : List ℕ = number (length rows) ++ flat_map row_bytes rows in
    let same : tail ≡ number session ++ (number read ++ behind) = cc stands in
    let law = pair_reads ℕ ℕ number IsNumber number_at number IsNumber number_at number_reads number_reads in
    record {
      session = session;
      read = read;
      rows = rows;
      is = refl;
      few = fits.1.1.0.0;
      each = fits.1.1.0.1;
      numbers = ap (pair number_at number_at) (same ∙ sym (append_assoc (number session) (number read) behind))
          ∙ law.again (session, read) behind (fits.0, fits.1.0);
    }
rows_there (says.Connected session) k tail fits stands twenty = absurd (other_kind refl stands twenty)
rows_there (says.Answered session n a) k tail fits stands twenty = absurd (other_kind refl stands twenty)
rows_there (says.Row session read value) k tail fits stands twenty = absurd (other_kind refl stands twenty)
rows_there (says.Checkpointed session low) k tail fits stands twenty = absurd (other_kind refl stands twenty)
rows_there (says.RedoEnded session) k tail fits stands twenty = absurd (other_kind refl stands twenty)

pub no_rows : (r : Reply) (k : ℕ) (tail : List ℕ) → k ∷ tail ≡ reply_bytes r → k ≢ 20 → None ≡ rows_of r
unfolding reply_bytes
no_rows (says.Rows session read rows) k tail stands other = absurd (other cc)
no_rows (says.Connected session) k tail stands other = refl
no_rows (says.Answered session n a) k tail stands other = refl
no_rows (says.Row session read value) k tail stands other = refl
no_rows (says.Checkpointed session low) k tail stands other = refl
no_rows (says.RedoEnded session) k tail stands other = refl

-- ---- what its reader finds there

module _ (r : Reply) (tail rest : List ℕ) (session read : ℕ) (t : RowsThere r tail)
    (numbers : pair number_at number_at tail ≡ Some ((session, read), rest)) where
  abbrev spelled : (ℕ × ℕ) × List ℕ
  spelled = ((t.session, t.read), number (length t.rows) ++ flat_map row_bytes t.rows)

  abbrev taken : (ℕ × ℕ) × List ℕ
  taken = ((session, read), rest)

  behind : spelled ≡ taken
  behind = same_Some spelled taken (sym t.numbers ∙ numbers)

  pub counted_there : count_at rest ≡ Some (length t.rows, flat_map row_bytes t.rows)
  counted_there =
      ap count_at (sym (ap (λ (p : (ℕ × ℕ) × List ℕ). p.1) behind))
      ∙ count_reads.again (length t.rows) (flat_map row_bytes t.rows) t.few

  module _ (count : ℕ) (after : List ℕ) (counted : count_at rest ≡ Some (count, after)) where
    abbrev first : ℕ × List ℕ
    first = (count, after)

    abbrev theirs : ℕ × List ℕ
    theirs = (length t.rows, flat_map row_bytes t.rows)

    found : first ≡ theirs
    found = same_Some first theirs (sym counted ∙ counted_there)

    count_is : count ≡ length t.rows
    count_is = ap (λ (p : ℕ × List ℕ). p.0) found

    after_is : after ≡ flat_map row_bytes t.rows
    after_is = ap (λ (p : ℕ × List ℕ). p.1) found

    pub packed_there : ArePacked (rows_spelled count after) after
    packed_there = packs t.rows count after after_is count_is t.each

    pub reply_there : (rows : List Row) → rows ≡ rows_spelled count after → Some (says.Rows session read rows) ≡ rows_of r
    reply_there rows are =
        let same : rows ≡ t.rows = are ∙ spells t.rows count after after_is count_is in
        let sessions : t.session ≡ session = ap (λ (p : (ℕ × ℕ) × List ℕ). p.0.0) behind in
        let reads : t.read ≡ read = ap (λ (p : (ℕ × ℕ) × List ℕ). p.0.1) behind in
        let own : says.Rows session read rows ≡ says.Rows t.session t.read t.rows = cc in
        ap (λ (x : Reply). rows_of x) own ∙ sym (ap rows_of t.is)
