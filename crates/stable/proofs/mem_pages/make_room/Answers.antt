use Rattle.std.proofs.Common.{◌≡◌, ◌≤◌, false, cond, Some, None, Result, Ok, Err, OnErr, refl, sym, ap, ◌∙◌, subst}
use Rattle.std.specs.Vec.{vec_capacity}
use Rattle.std.specs.BTreeMap.{BTreeMap, Updates}
use Rattle.std.specs.Ordering.{nat_cmp}
use Rattle.std.proofs.Math.Nat.{le_trans}
use Rattle.stable.specs.declared.mem_pages.Page.{Page}
use Rattle.stable.proofs.Pages.{image, image_at, pages_kept, rooms_kept, room_put, no_room, no_place, same_page, some_none}
use Rattle.stable.proofs.mem_pages.make_room.Goals as goal

on_err : {T E P : Type 0} (r : Result T E) → P → OnErr r P
on_err (Ok x) h = tt
on_err (Err e) h = h

pub returns-in_err-widen-in-Some-clause-kept : goal.returns-in_err-widen-in-Some-clause-kept
returns-in_err-widen-in-Some-clause-kept c =
    let p : Page = record { image = c.widen.new.image; is_written = c.in-Some.page.now.is_written } in
    let holds = c.get_mut.follows.holds p in
    let updates = holds.3 (rw (sym c.in-Some.ensures.value) refl) in
    rooms_kept c.args.places.now.entries (c.get_mut.follows.lender p).entries c.args.id p updates.0 (λ was found.
    let same : was ≡ c.in-Some.page.now = same_page was c.in-Some.page.now (sym found ∙ sym c.in-Some.ensures.value) in
    subst (λ (w : Page). vec_capacity w.image ≤ vec_capacity p.image) (sym same) c.widen.ensures.kept)

pub returns-in_err-widen-in-Some-clause-full : goal.returns-in_err-widen-in-Some-clause-full
returns-in_err-widen-in-Some-clause-full c =
    on_err c.from_residual.result
    (no_room c.args.places.now.entries c.args.id c.in-Some.page.now c.args.len (sym c.in-Some.ensures.value)
    c.in_err-widen-in-Some.ensures.full)

pub returns-in_err-widen-in-Some-clause-same : goal.returns-in_err-widen-in-Some-clause-same
returns-in_err-widen-in-Some-clause-same c =
    let p : Page = record { image = c.widen.new.image; is_written = c.in-Some.page.now.is_written } in
    let holds = c.get_mut.follows.holds p in
    let updates = holds.3 (rw (sym c.in-Some.ensures.value) refl) in
    let same : image_at p ≡ image_at c.in-Some.page.now =
    ap (λ items. cond p.is_written (Some items) None) c.widen.ensures.same in
    pages_kept c.args.places.now.entries (c.get_mut.follows.lender p).entries c.args.id p updates.0 (same ∙ ap image c.in-Some.ensures.value)

pub returns-in_err-with_capacity-in-None-clause-full : goal.returns-in_err-with_capacity-in-None-clause-full
returns-in_err-with_capacity-in-None-clause-full c =
    on_err c.from_residual-in_err-with_capacity-in-None.result
    (no_place c.args.places.now.entries c.args.id c.args.len (sym c.in-None.ensures.value))

pub returns-in_err-insert-in-None-clause-full : goal.returns-in_err-insert-in-None-clause-full
returns-in_err-insert-in-None-clause-full c =
    on_err c.from_residual-in_err-insert-in-None.result
    (no_place c.args.places.now.entries c.args.id c.args.len (sym c.in-None.ensures.value))

pub returns-in_ok-widen-in-Some-clause-place : goal.returns-in_ok-widen-in-Some-clause-place
returns-in_ok-widen-in-Some-clause-place c =
    let p : Page = record { image = c.widen.new.image; is_written = c.in-Some.page.now.is_written } in
    let holds = c.get_mut.follows.holds p in
    let updates = holds.3 (rw (sym c.in-Some.ensures.value) refl) in
    (p, updates.1, c.in_ok-widen-in-Some.ensures.room)

pub returns-in_ok-widen-in-Some-clause-room : goal.returns-in_ok-widen-in-Some-clause-room
returns-in_ok-widen-in-Some-clause-room c =
    let p : Page = record { image = c.widen.new.image; is_written = c.in-Some.page.now.is_written } in
    let holds = c.get_mut.follows.holds p in
    let updates = holds.3 (rw (sym c.in-Some.ensures.value) refl) in
    λ n le. room_put (c.get_mut.follows.lender p).entries c.args.id p n updates.1
    (le_trans le c.in_ok-widen-in-Some.ensures.room)

pub returns-in_ok-widen-in-Some-clause-kept : goal.returns-in_ok-widen-in-Some-clause-kept
returns-in_ok-widen-in-Some-clause-kept c =
    let p : Page = record { image = c.widen.new.image; is_written = c.in-Some.page.now.is_written } in
    let holds = c.get_mut.follows.holds p in
    let updates = holds.3 (rw (sym c.in-Some.ensures.value) refl) in
    rooms_kept c.args.places.now.entries (c.get_mut.follows.lender p).entries c.args.id p updates.0 (λ was found.
    let same : was ≡ c.in-Some.page.now = same_page was c.in-Some.page.now (sym found ∙ sym c.in-Some.ensures.value) in
    subst (λ (w : Page). vec_capacity w.image ≤ vec_capacity p.image) (sym same) c.widen.ensures.kept)

pub returns-in_ok-widen-in-Some-clause-same : goal.returns-in_ok-widen-in-Some-clause-same
returns-in_ok-widen-in-Some-clause-same c =
    let p : Page = record { image = c.widen.new.image; is_written = c.in-Some.page.now.is_written } in
    let holds = c.get_mut.follows.holds p in
    let updates = holds.3 (rw (sym c.in-Some.ensures.value) refl) in
    let same : image_at p ≡ image_at c.in-Some.page.now =
    ap (λ items. cond p.is_written (Some items) None) c.widen.ensures.same in
    pages_kept c.args.places.now.entries (c.get_mut.follows.lender p).entries c.args.id p updates.0 (same ∙ ap image c.in-Some.ensures.value)

pub returns-in_ok-insert-in-None-clause-room : goal.returns-in_ok-insert-in-None-clause-room
returns-in_ok-insert-in-None-clause-room c =
    let p : Page = record { image = c.in_ok-with_capacity-in-None.field-0; is_written = false } in
    let updates : Updates nat_cmp c.args.places.now c.insert.new.self c.args.id (Some p) =
    subst (λ (m : BTreeMap _ Page). Updates nat_cmp m c.insert.new.self c.args.id (Some p))
    c.get_mut.follows.holds-at-none c.in_ok-insert-in-None.ensures.updates in
    λ n le. room_put c.insert.new.self.entries c.args.id p n updates.1
    (le_trans le c.in_ok-with_capacity-in-None.ensures.capacity)

pub returns-in_ok-insert-in-None-clause-kept : goal.returns-in_ok-insert-in-None-clause-kept
returns-in_ok-insert-in-None-clause-kept c =
    let p : Page = record { image = c.in_ok-with_capacity-in-None.field-0; is_written = false } in
    let updates : Updates nat_cmp c.args.places.now c.insert.new.self c.args.id (Some p) =
    subst (λ (m : BTreeMap _ Page). Updates nat_cmp m c.insert.new.self c.args.id (Some p))
    c.get_mut.follows.holds-at-none c.in_ok-insert-in-None.ensures.updates in
    rooms_kept c.args.places.now.entries c.insert.new.self.entries c.args.id p updates.0 (λ was found.
    absurd (some_none was (sym found ∙ sym c.in-None.ensures.value)))

pub returns-in_ok-insert-in-None-clause-same : goal.returns-in_ok-insert-in-None-clause-same
returns-in_ok-insert-in-None-clause-same c =
    let p : Page = record { image = c.in_ok-with_capacity-in-None.field-0; is_written = false } in
    let updates : Updates nat_cmp c.args.places.now c.insert.new.self c.args.id (Some p) =
    subst (λ (m : BTreeMap _ Page). Updates nat_cmp m c.insert.new.self c.args.id (Some p))
    c.get_mut.follows.holds-at-none c.in_ok-insert-in-None.ensures.updates in
    pages_kept c.args.places.now.entries c.insert.new.self.entries c.args.id p updates.0 (ap image c.in-None.ensures.value)
