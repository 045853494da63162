use Rattle.std.proofs.Common.{◌≡◌, ◌+◌, ◌≤◌, List, [], length, reverse, vec_len, sym, subst, arith}
use Rattle.std.specs.FinMap as table
use Rattle.std.proofs.lemmas.List.{nil_from_length}
use Rattle.std.specs.Vec.Iter.{into_iter_items}
use Rattle.codec.specs.declared.dc_record.DcRecord.{DcRecord}
use Rattle.dc_store.specs.Devices.{pages_of}
use Rattle.dc_store.proofs.Knowing.{first_named}
use Rattle.dc_store.proofs.Replayed.{FitsPlaces, IsReplayed, first_replayed, with_next, next_number, next_replayed, next_has_places, all_replayed}
use Rattle.dc_store.proofs.replaying.replay.Goals as goal

pub begin-requires : goal.begin-requires
begin-requires c =
    omega (
      arith,
      c.requires.places,
      first_named (pages_of table.empty) (reverse c.args.records.items) (c.requires.readable table.empty),
    )

pub loop-change-init : goal.loop-change-init
loop-change-init c =
    let same : length c.begin.new.shelf.slots.items ≡ length c.args.shelf.now.slots.items =
    omega (arith, c.in_ok-begin.ensures.count, c.begin.new.shelf.slots.ok.0, c.args.shelf.now.slots.ok.0) in
    subst (λ (rest : List DcRecord). IsReplayed c.args.records.items c.args.shelf.now.slots.items [] rest
    c.begin.new.shelf.slots.items 0)
    (sym c.into_iter-change-iterator.ensures.into_iter_gives.0)
    (first_replayed c.args.records.items c.args.shelf.now.slots.items c.begin.new.shelf.slots.items same
    c.in_ok-begin.ensures.begun)

pub overflow_add-number : goal.overflow_add-number
overflow_add-number c =
    let far = with_next _ _ _ _ _ _ _ _ c.in-Some.ensures.steps.0 c.loop-change.invariant in
    let within : c.loop-change.number + 1 ≤ length c.args.records.items = next_number _ _ _ _ _ _ _ far in
    omega (arith, within, c.args.records.ok.0)

pub redo-requires : goal.redo-requires
redo-requires c =
    let far = with_next _ _ _ _ _ _ _ _ c.in-Some.ensures.steps.0 c.loop-change.invariant in
    let fits : FitsPlaces (reverse c.args.records.items) (vec_len c.loop-change.shelf.slots) = record {
      records = c.requires.records;
      readable = c.requires.readable;
      places = omega (
        arith,
        c.requires.places,
        c.loop-change.invariant.count,
        c.loop-change.shelf.slots.ok.0,
        c.args.shelf.now.slots.ok.0,
      );
    } in
    next_has_places c.args.records.items c.loop-change.yielded (into_iter_items c.next.new.self) c.in-Some.change
    (vec_len c.loop-change.shelf.slots) far.parts fits

pub loop-change-preserved : goal.loop-change-preserved
loop-change-preserved c =
    let far = with_next _ _ _ _ _ _ _ _ c.in-Some.ensures.steps.0 c.loop-change.invariant in
    let fits : FitsPlaces (reverse c.args.records.items) (vec_len c.loop-change.shelf.slots) = record {
      records = c.requires.records;
      readable = c.requires.readable;
      places = omega (
        arith,
        c.requires.places,
        c.loop-change.invariant.count,
        c.loop-change.shelf.slots.ok.0,
        c.args.shelf.now.slots.ok.0,
      );
    } in
    let same : length c.redo.new.shelf.slots.items ≡ length c.loop-change.shelf.slots.items =
    omega (arith, c.in_ok-redo.ensures.count, c.redo.new.shelf.slots.ok.0, c.loop-change.shelf.slots.ok.0) in
    next_replayed _ _ _ _ _ _ _ c.loop-change.number (vec_len c.loop-change.shelf.slots) far fits same
    c.in_ok-redo.ensures.redone

pub returns-in_err-redo-clause-count : goal.returns-in_err-redo-clause-count
returns-in_err-redo-clause-count c =
    omega (
      arith,
      c.redo.ensures.count,
      c.loop-change.invariant.count,
      c.loop-change.shelf.slots.ok.0,
      c.args.shelf.now.slots.ok.0,
    )

pub returns-clause-recovered : goal.returns-clause-recovered
returns-clause-recovered c =
    let none : into_iter_items c.loop-change.change-iterator ≡ [] =
    nil_from_length _ (omega (arith, c.in-None.ensures.steps.0, c.loop-change.change-iterator.rest.ok.0)) in
    all_replayed c.args.records.items c.args.shelf.now.slots.items c.loop-change.yielded c.loop-change.shelf.slots.items
    c.loop-change.number
    (subst (λ (rest : List DcRecord). IsReplayed c.args.records.items c.args.shelf.now.slots.items c.loop-change.yielded
    rest c.loop-change.shelf.slots.items c.loop-change.number) none c.loop-change.invariant)

pub returns-clause-count : goal.returns-clause-count
returns-clause-count c =
    omega (arith, c.loop-change.invariant.count, c.loop-change.shelf.slots.ok.0, c.args.shelf.now.slots.ok.0)
