-- A table that holds listed keys, with one key more.
use Rattle.std.proofs.Common.{◌≡◌, ◌≢◌, ℕ, ◌+◌, ◌<◌, ◌==◌, cond, List, [], ◌∷◌, ◌++◌, map, reverse, length, take, get_or, sym, ap, ◌∙◌, subst, inl, inr, eq-eqb, ne_eqb}
use Rattle.std.specs.Prelude.{filter}
use Rattle.std.proofs.lemmas.Bool.{cases_eq}
use Rattle.std.proofs.lemmas.List.{reverse-append, map-append, append-nil}
use Rattle.std.proofs.lemmas.List.Elements.{filter_more}
use Rattle.history.specs.Spans.{Span, at_key}
use Rattle.tc_locks.specs.Locks.{LocksView, spans_of, set_spans, IsTable}
use Rattle.tc_locks.specs.Meant.{mode_meant}
use Rattle.tc_locks.specs.Rebuilt.{Listed, IsRebuilt, listed_spans}
use Rattle.tc_locks.proofs.Tables.{set_table, set_own, set_other}

abbrev pub span_at : Listed → Span
span_at e = at_key (mode_meant e.2) e.1

module _ (locks : List (Listed)) (i : ℕ) (e : Listed) (within : i < length locks) (is : e ≡ get_or locks i e)
  where
    more : (t : ℕ) → filter (λ (x : Listed). t == x.0) (take (i + 1) locks)
        ≡ filter (λ (x : Listed). t == x.0) (take i locks) ++ cond (t == e.0) (e ∷ []) []
    more t =
        filter_more (λ (x : Listed). t == x.0) locks i e within
        ∙ ap (λ (x : Listed). filter (λ (y : Listed). t == y.0) (take i locks) ++ cond (t == x.0) (x ∷ []) [])
        (sym is)

    own : (t : ℕ) → t ≡ e.0 → listed_spans (take (i + 1) locks) t ≡ span_at e ∷ listed_spans (take i locks) t
    own t same =
        let so_far : List (Listed) = filter (λ (x : Listed). t == x.0) (take i locks) in
        ap (λ es. reverse (map span_at es)) (more t ∙ ap (λ b. so_far ++ cond b (e ∷ []) []) (eq-eqb t e.0 same))
        ∙ ap reverse (map-append span_at so_far (e ∷ [])) ∙ reverse-append (map span_at so_far) (span_at e ∷ [])

    other : (t : ℕ) → t ≢ e.0 → listed_spans (take (i + 1) locks) t ≡ listed_spans (take i locks) t
    other t apart =
        let so_far : List (Listed) = filter (λ (x : Listed). t == x.0) (take i locks) in
        ap (λ es. reverse (map span_at es))
        (more t ∙ ap (λ b. so_far ++ cond b (e ∷ []) []) (ne_eqb t e.0 apart) ∙ append-nil so_far)

    pub one_rebuilt : (v w : LocksView) → w ≡ set_spans e.0 (span_at e ∷ spans_of v e.0) v → IsRebuilt (take i locks) v
        → IsRebuilt (take (i + 1) locks) w
    one_rebuilt v w set h = record {
      table = subst IsTable (sym set) (set_table e.0 (span_at e ∷ spans_of v e.0) v h.table);
      spans = λ t. ap (λ (u : LocksView). spans_of u t) set ∙ elim (cases_eq t e.0) [
        | inl same ↦
            ap (spans_of (set_spans e.0 (span_at e ∷ spans_of v e.0) v)) same
            ∙ set_own e.0 (span_at e ∷ spans_of v e.0) v h.table
            ∙ ap (λ (u : ℕ). span_at e ∷ spans_of v u) (sym same) ∙ ap (λ spans. span_at e ∷ spans) (h.spans t)
            ∙ sym (own t same)
        | inr apart ↦ set_other e.0 (span_at e ∷ spans_of v e.0) v t h.table apart ∙ h.spans t ∙ sym (other t apart)
      ];
    }
