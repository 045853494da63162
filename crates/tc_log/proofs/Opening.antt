-- Reading one record after another, from the beginning of the bytes.
use Rattle.std.proofs.Common.{◌≡◌, ◌⊎◌, ℕ, ◌+◌, ◌<◌, List, [], ◌∷◌, ◌++◌, length, Option, None, refl, sym, ap, ◌∙◌, subst, arith, inl, inr, true≢false}
use Rattle.std.proofs.lemmas.List.{length-append}
use Rattle.codec.specs.Fields.{number}
use Rattle.codec.specs.Frames.{frame}
use Rattle.codec.specs.Records.{record_bytes, IsRecord}
use Rattle.codec.proofs.Fields.{length-number}
use Rattle.record_key.specs.declared.refusal.Refusal.{Refusal}
use Rattle.record_key.specs.declared.refusal.Refusal.TheVariants.{NoMemory, BadBytes}
use Rattle.record_key.specs.Table.{Bytes}
use Rattle.framed_log.specs.Spelled as framed
use Rattle.framed_log.proofs.Spelled.{newest_last}
use Rattle.history.specs.declared.record.Record.{Record}
use Rattle.history.specs.Legal.{Fits, IsLegal}
use Rattle.tc_log.specs.Opening.{BeginsAs, RefusesBytes}
use Rattle.tc_log.specs.Replay.{IsIndex, IsAnalysis, KeptOn, AddedBy, holder_in, adders_of}
use Rattle.tc_log.specs.declared.replay.Index.{Index}
use Rattle.tc_log.specs.Spelled.{framing, spelled}

pub begins_nothing : (bytes : List ℕ) → BeginsAs bytes [] bytes
unfolding framed.spelled
begins_nothing bytes = record { good = tt; records = tt; numbered = omega arith; parts = refl }

pub begins_more : (bytes : List ℕ) (log : List Record) (left : List ℕ) (r : Record) (left' : List ℕ)
    → BeginsAs bytes log left → IsLegal (r ∷ log) → IsRecord r → length log < 281474976710655
    → left ≡ frame (record_bytes r) ++ left' → BeginsAs bytes (r ∷ log) left'
begins_more bytes log left r left' h legal spells room is = record {
  records = (spells, h.records);
  good = legal;
  numbered = omega (arith, room);
  parts = h.parts ∙ ap (λ (l : List ℕ). spelled log ++ l) is
      ∙ sym (newest_last framing r log left');
}

-- a frame has bytes
pub shorter : (left : List ℕ) (r : Record) (left' : List ℕ) → left ≡ frame (record_bytes r) ++ left'
    → length left' < length left
shorter left r left' is =
    let body : List ℕ = record_bytes r in
    omega (
      arith,
      ap length is
          ∙ length-append (frame body) left',
      length-append (number (length body)) body,
      length-number (length body),
    )

pub index_nothing : (index : Index) → IsAnalysis [] index.analysis → ((k : Bytes) → holder_in index k ≡ None)
    → ((k : Bytes) → adders_of index k ≡ []) → index.answered ≡ 0 → index.last_not_session ≡ 0 → IsIndex [] index
index_nothing index analysis keys adders answered last = record {
  legal = tt;
  analysis = analysis;
  held_keys = λ k. let On : Option ℕ → Type 0 = λ v. KeptOn [] k v in
      subst On (sym (keys k)) (λ n u o op key. absurd (cc));
  added_keys = λ k. let On : List ℕ → Type 0 = λ us. AddedBy [] k (holder_in index k) us in
      subst On (sym (adders k)) (record {
        each = λ u among. absurd (true≢false (sym among));
        all = λ u has. absurd (let none = has.is in cc);
      });
  answered = record { within = omega (arith, answered); answered = λ n o below asks. absurd (cc) };
  last = last;
}

-- a record that stands next and was refused is where the bytes are bad
pub refused_next : (bytes : List ℕ) (log : List Record) (left : List ℕ) (r : Record) (rest : List ℕ) (given : Refusal)
    → BeginsAs bytes log left → IsRecord r → left ≡ frame (record_bytes r) ++ rest
    → (given ≡ NoMemory) ⊎ ((given ≡ BadBytes (length (spelled log)))
    × ((Fits log r → ⊥) ⊎ (length log + 1 ≡ 281474976710656))) → RefusesBytes bytes given
refused_next bytes log left r rest given h spells parts (inl none) = inl none
refused_next bytes log left r rest given h spells parts (inr bad) =
    inr (
      length (spelled log),
      bad.0,
      record {
        log = log;
        left = left;
        begins = h;
        place_is = refl;
        bad = inr (record { next = r; stands = record { fits = spells; rest = rest; parts = parts }; unfit = bad.1 });
      },
    )
