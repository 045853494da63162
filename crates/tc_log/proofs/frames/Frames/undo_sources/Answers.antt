use Rattle.std.proofs.Common.{◌≡◌, ◌∙◌, ◌<◌, ℕ, List, ◌++◌, Some, refl, sym, ap}
use Rattle.history.specs.declared.record.Record.{Record}
use Rattle.history.specs.Chains.{undo_from, prev_in}
use Rattle.history.specs.Log.{record_at}
use Rattle.history.specs.Legal.{Inverts}
use Rattle.codec.specs.FrameIndex.{places_of}
use Rattle.tc_log.specs.Spelled.{records_of, IsPlaceOf}
use Rattle.tc_log.specs.Undoing.{inverse_at}
use Rattle.tc_log.proofs.Framed.{tells_kept}
use Rattle.tc_log.proofs.Index.{index_at}
use Rattle.tc_log.proofs.Undoing.{places_told, op_placed, answer_placed, some_number}
use Rattle.tc_log.proofs.frames.Frames.undo_sources.Goals as goal
use Rattle.tc_log.proofs.frames.Frames.undo_sources.Goals.{in_default-via-in-Some+in_default, in_default-via-in_default}

pub answer_place-answer-requires : goal.answer_place-answer-requires
answer_place-answer-requires g c =
    let m = c.self.inside in
    let log : List Record =
    records_of (g.D.LogDevice.forced m.device ++ g.D.LogDevice.pending m.device) m.index.count in
    let inverts : Inverts log c.args.number (inverse_at log c.args.number) = rw (← c.self.view_is) at c.requires in
    some_number log _ _ _ _ _ c.self.invariant.frames c.args.number _ inverts

pub unreachable-requires : goal.unreachable-requires
unreachable-requires g c =
    let m = c.self.inside in
    let log : List Record =
    records_of (g.D.LogDevice.forced m.device ++ g.D.LogDevice.pending m.device) m.index.count in
    let inverts : Inverts log c.args.number (inverse_at log c.args.number) = rw (← c.self.view_is) at c.requires in
    let some : 0 < c.args.number = some_number log _ _ _ _ _ c.self.invariant.frames c.args.number _ inverts in
    let place : c.answer_place-answer.result ≡ index_at log c.args.number =
    rw (c.answer_place-answer.ensures, c.as_slice.ensures.value, c.self.invariant.frames.indexed) refl in
    elim c.in_default.branch [
      | in_default-via-in-Some+in_default w ↦
          answer_placed log _ _ _ _ _ c.self.invariant.frames c.args.number some _ inverts
          (rw (c.held-held.ensures, place) at w.in_default.ensures'.none)
      | in_default-via-in_default w ↦
          op_placed log _ _ _ _ _ c.self.invariant.frames c.args.number _ inverts
          (rw (w.in_default.is-0, c.held-held.ensures) at c.place_of.ensures.none)
    ]

pub returns-clause-places : goal.returns-clause-places
returns-clause-places g c =
    let m = c.self.inside in
    let bytes : List ℕ = g.D.LogDevice.forced m.device ++ g.D.LogDevice.pending m.device in
    let log : List Record = records_of bytes m.index.count in
    let inverts : Inverts log c.args.number (inverse_at log c.args.number) = rw (← c.self.view_is) at c.requires in
    let some : 0 < c.args.number = some_number log _ _ _ _ _ c.self.invariant.frames c.args.number _ inverts in
    let place : c.answer_place-answer.result ≡ index_at log c.args.number =
    rw (c.answer_place-answer.ensures, c.as_slice.ensures.value, c.self.invariant.frames.indexed) refl in
    let first : IsPlaceOf (places_of bytes m.index.count) c.args.number c.in-Some-Some.op_at =
    rw c.held-held.ensures at c.in-Some-Some.ensures.some in
    let second : IsPlaceOf (places_of bytes m.index.count) (index_at log c.args.number) c.in-Some-Some.answer_at =
    rw (c.held-held.ensures, place) at c.in-Some-Some.ensures'.some in
    rw (← c.self.view_is) (λ t o a by is. places_told log bytes _ _ _ _ c.self.invariant.frames c.args.number some
    c.in-Some-Some.op_at c.in-Some-Some.answer_at t o a first second by is)

pub returns-clause-next : goal.returns-clause-next
returns-clause-next g c =
    let t = tells_kept (λ (r : Record). prev_in (Some r)) _ _ _ _ _ _ c.self.invariant.frames c.args.number
    c.in-Some-Some.op_at c.held-held.result.now c.step_prev.result c.held-held.ensures
    (rw c.held-held.ensures at c.in-Some-Some.ensures.some) c.step_prev.ensures in
    let prev : c.step_prev.result ≡ prev_in (record_at c.args.self.now.records c.args.number) =
    rw (← c.self.view_is) (t.told_is ∙ ap prev_in (sym t.is)) in
    c.left_to_undo-next.ensures ∙ ap (λ (p : ℕ). undo_from (record_at c.args.self.now.records p) p) prev
