-- The keys that are noted of open transactions, with one record more.
use Rattle.std.proofs.Common.{◌≡◌, ℕ, ◌+◌, ◌<◌, ◌≤◌, length, arith, ◌==◌, Bool, true, false, List, [], ◌∷◌, ◌++◌, map, reverse, Option, Some, None, is_some, refl, sym, ap, ◌∙◌, inl, inr, eq-eqb, eqb-true, ne_eqb}
use Rattle.std.specs.Prelude.{filter, if◌then◌else◌}
use Rattle.std.proofs.lemmas.Bool.{cases_eq}
use Rattle.std.proofs.lemmas.List.{reverse-append, map-append, append-nil}
use Rattle.std.proofs.lemmas.List.Elements.{filter-append}
use Rattle.record_key.specs.Table.{Bytes, key_of, is_add}
use Rattle.history.specs.declared.record.Record.{Record}
use Rattle.history.specs.declared.record.Record.TheVariants as is
use Rattle.history.specs.Log.{record_at}
use Rattle.history.specs.Legal.{IsLegal}
use Rattle.record_key.specs.declared.op.Op.{Op}
use Rattle.tc_locks.specs.declared.span.Mode.{Mode}
use Rattle.tc_locks.specs.declared.span.Mode.TheVariants as held
use Rattle.tc_locks.specs.Meant.{mode_meant}
use Rattle.history.specs.Spans as law
use Rattle.history.specs.Spans.{at_key, changed_span}
use Rattle.framed_log.specs.Beginning.{beginning}
use Rattle.framed_log.proofs.Beginning.{length_beginning}
use Rattle.tc_log.proofs.Spelled.{has_record}
use Rattle.log_laws.proofs.LegalLogs.{begun_number}
use Rattle.tc_locks.specs.Rebuilt.{Listed, listed_spans}
use Rattle.tc_locks.proofs.Rebuilding.{span_at}
use Rattle.tc_restart.proofs.Passing.{part_more, legal_part}
use Rattle.tc_core.specs.Locking.{op_spans, held_mode}
use Rattle.tc_core.specs.Opening.{key_noted, spans_if}

-- the table holds a key for what its operation changes it for
pub held_so : (o : Op) → mode_meant (held_mode o) ≡ law.mode_of o
held_so o = pick (is_add o)
  where
    pick : (b : Bool)
        → mode_meant (if b then held.Increment else held.Exclusive) ≡ (if b then law.Increment else law.Exclusive)
    pick true = refl
    pick false = refl

-- so the span that is taken for it is the one that it changes
pub taken_span : (m : Mode) (k : Bytes) (o : Op) → m ≡ held_mode o → k ≡ key_of o
    → at_key (mode_meant m) k ≡ changed_span o
taken_span m k o mode key =
    ap (λ x. at_key (mode_meant x) k) mode ∙ ap (λ (x : Bytes). at_key (mode_meant (held_mode o)) x) key
    ∙ ap (λ x. at_key x (key_of o)) (held_so o)

-- one that is listed last is the newest of its transaction
listed_more : (keys : List (Listed)) (e : Listed) (t : ℕ)
    → listed_spans (keys ++ e ∷ []) t ≡ (if t == e.0 then span_at e ∷ listed_spans keys t else listed_spans keys t)
listed_more keys e t =
    ap (λ es. reverse (map span_at es)) (filter-append (λ (x : Listed). t == x.0) keys (e ∷ []))
    ∙ last (t == e.0)
  where
    so_far : List (Listed)
    so_far = filter (λ (x : Listed). t == x.0) keys

    last : (b : Bool) → reverse (map span_at (so_far ++ (if b then e ∷ [] else [])))
        ≡ (if b then span_at e ∷ reverse (map span_at so_far) else reverse (map span_at so_far))
    last true = ap reverse (map-append span_at so_far (e ∷ [])) ∙ reverse-append (map span_at so_far) (span_at e ∷ [])
    last false = ap (λ es. reverse (map span_at es)) (append-nil so_far)

-- the keys that are noted of the first records
abbrev pub AreNoted : List Record → ℕ → List (Listed) → (ℕ → Option ℕ) → Type 0
AreNoted log end keys noted = (t : ℕ) → listed_spans keys t ≡ spans_if (noted t) (op_spans (beginning log end) t)

noted_next : (r : Record) (part : List Record) (keys : List (Listed)) (noted : ℕ → Option ℕ)
    → ((t : ℕ) → listed_spans keys t ≡ spans_if (noted t) (op_spans part t))
    → (t : ℕ) → listed_spans (keys ++ key_noted r noted) t ≡ spans_if (noted t) (op_spans (r ∷ part) t)
noted_next (is.Op u p o) part keys noted h t = pick (noted u) refl
  where
    same_if : (b : Bool) → (u ≡ t → ⊥) → (t == u) ≡ b
        → spans_if (noted t) (if b then changed_span o ∷ op_spans part t else op_spans part t)
        ≡ spans_if (noted t) (op_spans part t)
    same_if true apart test = absurd (apart (sym (eqb-true t u test)))
    same_if false apart test = refl

    pick : (x : Option ℕ) → noted u ≡ x
        → listed_spans (keys ++ (if is_some (noted u) then (u, key_of o, held_mode o) ∷ [] else [])) t
        ≡ spans_if (noted t) (op_spans (is.Op u p o ∷ part) t)
    pick (Some n) at =
        rw at (listed_more keys (u, key_of o, held_mode o) t ∙ elim (cases_eq t u) [
          | inl same ↦
              let there : noted t ≡ Some n = ap noted same ∙ at in
              rw (eq-eqb t u same, there)
              (ap (λ m. at_key m (key_of o) ∷ listed_spans keys t) (held_so o)
              ∙ ap (λ spans. changed_span o ∷ spans) (h t ∙ ap (λ x. spans_if x (op_spans part t)) there))
          | inr apart ↦ rw (ne_eqb t u apart) (h t)
        ])
    pick None at =
        rw at (ap (λ ks. listed_spans ks t) (append-nil keys) ∙ h t ∙ elim (cases_eq t u) [
          | inl same ↦ let none : noted t ≡ None = ap noted same ∙ at in rw none refl
          | inr apart ↦ rw (ne_eqb t u apart) refl
        ])
noted_next r part keys noted h t = ap (λ ks. listed_spans ks t) (append-nil keys) ∙ h t

pub noted_more : (log : List Record) (end : ℕ) (r : Record) (keys new : List (Listed)) (noted : ℕ → Option ℕ)
    → record_at log (end + 1) ≡ Some r → new ≡ keys ++ key_noted r noted → AreNoted log end keys noted
    → AreNoted log (end + 1) new noted
noted_more log end r keys new noted stands is h t =
    ap (λ ks. listed_spans ks t) is ∙ noted_next r (beginning log end) keys noted h t
    ∙ ap (λ p. spans_if (noted t) (op_spans p t)) (sym (part_more log end r stands))

-- who began later has no operation among them
none_early : (part : List Record) (t : ℕ) → IsLegal part → length part ≤ t → op_spans part t ≡ []
none_early [] t legal le = refl
none_early (is.Op u p o ∷ part) t legal le =
    let begun = begun_number part u legal.0.open_txn.begun in
    rw (ne_eqb t u (λ e. omega (arith, e, begun.bounded, le))) (none_early part t legal.1 (omega (arith, le)))
none_early (r ∷ part) t legal le = none_early part t legal.1 (omega (arith, le))

pub noted_none : (log : List Record) (end : ℕ) (noted : ℕ → Option ℕ) → IsLegal log → end ≤ length log
    → ((t n : ℕ) → noted t ≡ Some n → end ≤ t) → AreNoted log end [] noted
noted_none log end noted legal within late t = by (noted t) refl
  where
    by : (x : Option ℕ) → noted t ≡ x → [] ≡ spans_if x (op_spans (beginning log end) t)
    by None none = refl
    by (Some n) some =
        sym (none_early (beginning log end) t (legal_part log end legal)
        (omega (arith, length_beginning log end within, late t n some)))

-- all records were read
pub none_past : (log : List Record) (end : ℕ) → end < length log → record_at log (end + 1) ≡ None → ⊥
none_past log end there none = let has = has_record log (end + 1) (omega arith) (omega (arith, there)) in let some =
    has.1 in cc
