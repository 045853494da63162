-- What a crash leaves, over lists.
use Rattle.std.proofs.Common.{◌≡◌, ℕ, ◌+◌, List, [], ◌++◌, length, take, drop, min, refl, sym, ap, ◌∙◌, append_assoc}
use Rattle.std.proofs.Math.Seq.{take-add, take-append_seam, take-length, drop-length}
use Rattle.std.proofs.lemmas.List.{take_min, take-append-drop, append_cancel_left}
use Rattle.stable.specs.Crash.{MayLeave}
use Rattle.stable.specs.LogState.{LogState, with_bytes}
use Rattle.stable.specs.Usage.{Usage}

-- bytes that are cut off `kept` past the forced ones, or past the end
pub kept_bytes : (forced kept end : ℕ) (bytes : List ℕ) → min end (length bytes) ≡ min (forced + kept) (length bytes)
    → take end bytes ≡ take forced bytes ++ take kept (drop forced bytes)
kept_bytes forced kept end bytes e =
    sym (take_min end bytes) ∙ ap (λ n. take n bytes) e ∙ take_min (forced + kept) bytes ∙ take-add forced kept bytes

pub crash_leaves : (forced pending : List ℕ) (kept : ℕ) → MayLeave forced pending (forced ++ take kept pending)
crash_leaves forced pending kept = record {
  beginning = (
    drop kept pending,
    ap (λ p. forced ++ p) (sym (take-append-drop kept pending))
        ∙ sym (append_assoc forced (take kept pending) (drop kept pending)),
  );
  has_forced = (take kept pending, refl);
}

-- whatever a crash may leave is left where it keeps the right number of pending bytes
pub crash_reaches : (forced pending left : List ℕ) → MayLeave forced pending left
    → (kept : ℕ) × (left ≡ forced ++ take kept pending)
crash_reaches forced pending left may =
    let more = may.has_forced.0 in let rest = may.beginning.0 in
    let whole : forced ++ pending ≡ forced ++ (more ++ rest) =
    may.beginning.1 ∙ ap (λ l. l ++ rest) may.has_forced.1 ∙ append_assoc forced more rest in
    let same : pending ≡ more ++ rest = append_cancel_left forced _ _ whole in (
      length more,
      may.has_forced.1
          ∙ ap (λ m. forced ++ m) (sym (ap (take (length more)) same ∙ take-append_seam more rest)),
    )

-- the state of a log whose bytes were cut so, all of them forced
pub crash_state : (bytes left : List ℕ) (forced kept end : ℕ) (usage : Usage)
    → left ≡ take end bytes → end ≡ length left
    → min end (length bytes) ≡ min (forced + kept) (length bytes)
    → let old : LogState = record {
      forced = take forced bytes;
      pending = drop forced bytes;
      usage = usage;
    } in
    let new : LogState = record {
      forced = take end left;
      pending = drop end left;
      usage = usage;
    } in
    new ≡ with_bytes old (old.forced ++ take kept old.pending) []
crash_state bytes left forced kept end usage cut all e =
    let f : take end left ≡ take forced bytes ++ take kept (drop forced bytes) =
    ap (λ n. take n left) all ∙ take-length left ∙ cut ∙ kept_bytes forced kept end bytes e in
    let p : drop end left ≡ [] = ap (λ n. drop n left) all ∙ drop-length left in
    λ i. record { forced = f i; pending = p i; usage = usage }
