-- A run in which a read meets a held key, and why its wrong version is none.
use Rattle.std.proofs.Common.{[], ◌∷◌, refl, inl, arith}
use Rattle.record_key.specs.declared.refusal.Refusal.TheVariants.{Busy}
use Rattle.history.specs.Spans.{Span}
use Rattle.history.specs.ListMachine.{OfKey, asked_span, Machine, Begins, Reads, IsRefused, ToRead, IsRun, IsFree, fresh}
use Rattle.worked_runs.specs.Rows.{insert_a, read_is_busy, held_key_is_read}
use Rattle.worked_runs.proofs.Walking.{begun, acted, alone_acted, alone_above, alone_below, second_holder, starts_acting, after_begins, after_acting}

abbrev waits : Machine
waits = acted (begun fresh 2) 2 insert_a 3

pub read_is_busy_is_run : IsRun read_is_busy
read_is_busy_is_run =
    let last : Machine = begun waits 4 in
    let s : Span = asked_span (OfKey (97 ∷ [])) in (
      last,
      starts_acting insert_a (Begins 4 ∷ IsRefused (ToRead 4 (OfKey (97 ∷ []))) (Busy 2) ∷ []) last (
        last,
        (
          (
            tt,
            alone_below waits 2 4 (alone_acted insert_a 3) (omega arith),
            alone_above waits 2 4 (alone_acted insert_a 3) (omega arith),
          ),
          refl,
        ),
        (last, ((refl, second_holder waits (alone_acted insert_a 3) s (inl (97 ∷ [], refl, refl, refl))), refl), refl),
      ),
    )

pub held_key_is_read_is_none : IsRun held_key_is_read → ⊥
held_key_is_read_is_none h =
    let reads = after_begins waits 4 (Reads 4 (OfKey (97 ∷ [])) ∷ []) h.0
    (after_acting insert_a (Begins 4 ∷ Reads 4 (OfKey (97 ∷ [])) ∷ []) h.0 h.1) in
    let is_free : IsFree (begun waits 4) 4 (asked_span (OfKey (97 ∷ []))) = reads.1.2 in
    is_free 2 (λ e. omega (arith, e)) (inl (97 ∷ [], refl, refl, refl))
