use Rattle.std.proofs.Common.{◌≡◌, ◌++◌, cond, List, [], ◌∷◌, ap, sym, ◌∙◌, subst}
use Rattle.std.specs.Option.{is_some}
use Rattle.boxcar.specs.Table.{Shelves}
use Rattle.engine_history.specs.declared.entry.Entry.{Entry}
use Rattle.engine_history.specs.declared.step.Step.{Step}
use Rattle.engine_history.specs.Kept.{EntersTc}
use Rattle.engine_history.specs.Slots.{Slot, Shown, through, steps, last_of}
use Rattle.engine_history.specs.Steps.{is_tc, GivesTc}
use Rattle.engine_history.specs.Views.{View, Sees}
use Rattle.engine_history.proofs.Along.{tc_entered}
use Rattle.engine_history.proofs.Entering.{tc_enters, last_seen, through_is}
use Rattle.engine_history.proofs.lines.Lines.enter_tc.Goals as goal

pub invariant_of-self : goal.invariant_of-self
invariant_of-self g c =
    let J = g.J.Naming in
    let s = c.self.inside in
    let k = c.self.invariant in
    let p = c.pushed-token.result in
    let e = c.args.step.value in
    let before : p.value.before.steps ≡ steps s.tokens.items =
    ap (λ (x : Entry). x.before.steps) c.pushed-token.ensures.value ∙ c.traced-before.ensures
    ∙ last_seen J.start J.entries J.names s.tokens.items s.asked.items s.given.items s.tc s.dc k c.last_of-last.result
    (c.last_of-last.ensures ∙ ap (λ (xs : List Slot). last_of xs) (c.deref.ensures.value
    ∙ c.make_room.ensures.items)) in
    let enters : EntersTc g.J.Naming.start s.tc.steps e c.requires.enters.0 =
    subst (λ (v : View). EntersTc g.J.Naming.start v.steps e c.requires.enters.0) (sym c.meet.ensures.same) c.requires.enters.1 in
    tc_enters J.start J.entries J.names s.tokens.items s.asked.items s.given.items c.push_if-2.new.list.items
    c.push_if.new.list.items s.tc s.dc c.meet.new.self p e k
    (subst (λ (r : Shelves). Shown r p) c.requires.entries c.pushed-token.ensures.shown)
    (ap (λ (x : Entry). x.step.value) c.pushed-token.ensures.value) before c.requires.tc c.requires.enters.0 enters
    (c.push_if-2.ensures.items ∙ ap (λ (xs : List Slot). xs ++ p ∷ []) c.make_room.ensures.items)
    (c.push_if.ensures.items ∙ (λ i. c.make_room-2.ensures.items i ++ cond ((c.is_some-asks.ensures ∙ ap (λ (x : Step). is_some x.sent) c.deref-2.ensures) i) (p ∷ []) []))
    (c.meet.ensures.cursor_end ∙ ap (λ (x : Slot). record { name = s.tc.name; steps = through x.value }) c.again.ensures)
    enters.step.none

pub returns-clause-gives : goal.returns-clause-gives
returns-clause-gives g c n enters =
    let J = g.J.Naming in
    let s = c.self.inside in
    let k = c.self.invariant in
    let p = c.pushed-token.result in
    let e = c.args.step.value in
    let before : p.value.before.steps ≡ steps s.tokens.items =
    ap (λ (x : Entry). x.before.steps) c.pushed-token.ensures.value ∙ c.traced-before.ensures
    ∙ last_seen J.start J.entries J.names s.tokens.items s.asked.items s.given.items s.tc s.dc k c.last_of-last.result
    (c.last_of-last.ensures ∙ ap (λ (xs : List Slot). last_of xs) (c.deref.ensures.value
    ∙ c.make_room.ensures.items)) in
    let all : through p.value ≡ steps s.tokens.items ++ e ∷ [] =
    through_is J.start J.entries J.names s.tokens.items p e (ap (λ (x : Entry). x.step.value) c.pushed-token.ensures.value) before in
    let enters' : EntersTc g.J.Naming.start s.tc.steps e n =
    subst (λ (v : View). EntersTc g.J.Naming.start v.steps e n) (sym c.meet.ensures.same) enters in
    let now : c.meet.new.cursor.steps ≡ steps s.tokens.items ++ e ∷ [] =
    ap (λ (v : View). v.steps) (c.meet.ensures.cursor ∙ c.meet.ensures.cursor_end)
    ∙ ap (λ (x : Slot). through x.value) c.again.ensures ∙ all in
    subst (λ (es : List Step). GivesTc g.J.Naming.start es n) (sym now)
    (tc_entered g.J.Naming.start s.tc.steps (steps s.tokens.items) e n c.requires.tc k.tc_sees enters')

pub returns-clause-sees : goal.returns-clause-sees
returns-clause-sees g c =
    let s = c.self.inside in
    subst (λ (es : List Step). Sees is_tc c.args.cursor.now.steps es) c.self.view_is
    (subst (λ (v : View). Sees is_tc v.steps (steps s.tokens.items)) c.meet.ensures.same c.self.invariant.tc_sees)
