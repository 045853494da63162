use Rattle.std.proofs.Common.{◌≡◌, ℕ, ◌+◌, refl, sym, ap, ◌∙◌, subst, arith}
use Rattle.std.specs.Prelude.{is_some, length, List}
use Rattle.history.specs.declared.record.Record.{Record}
use Rattle.history.specs.Legal.{Fits, Stands}
use Rattle.log_laws.proofs.LegalLogs.{stands_number}
use Rattle.tc_undo.specs.declared.undo_chain.Chain.{Chain}
use Rattle.tc_undo.specs.NextUndo.{Compensates, MayUndo, Undoes, UndoesNext, undo_next_in, has_inverse}
use Rattle.tc_restart.specs.declared.loser.Loser.{Loser}
use Rattle.tc_restart.specs.Losers.{TakesComp}
use Rattle.tc_core.specs.declared.phase.Phase.TheVariants.{Undoing}
use Rattle.tc_log.specs.Undoing.{inverse_at, next_at}
use Rattle.tc_core.specs.Changes.{waits_for, lost_comp, lost_compensated}
use Rattle.tc_core.specs.Kept.{IsTc}
use Rattle.tc_core.specs.Seen.{seen}
use Rattle.tc_core.proofs.KeepsUndo.{fits_comp, waits}
use Rattle.tc_core.proofs.KeepsLosing.{lost_idle, lost_is, keeps_lost_comp}
use Rattle.tc_core.proofs.parts.Parts.compensate_loser.Goals as goal

pub append_undo-requires : goal.append_undo-requires
append_undo-requires g c =
    let w = seen c.args.self.now in
    let next = c.requires.next in
    let P : Chain → Type 0 = MayUndo w.log in
    subst P (sym c.chain.ensures) (record {
      legal = c.requires.kept.legal;
      open_txn = next.loser.open_txn;
      idle = lost_idle w c.requires.kept c.requires.undoing c.args.loser.txn next.loser;
      last = next.at.last;
    })

-- its latest operation is left
pub unreachable-requires : goal.unreachable-requires
unreachable-requires g c =
    let w = seen c.args.self.now in
    let x = c.args.loser in
    let stands = c.requires.next.at.left.is in
    let P : ℕ → Type 0 = λ t. Stands w.log t x.left in
    let done = subst (λ told. UndoesNext c.args.self.now.log c.chain.result.txn 0 told c.append_undo.new.log)
    c.in-Ok-None.field-0-is c.in-Ok-None.ensures.undoes in
    let none = done.0 x.left (subst P (sym (ap (λ (k : Chain). k.txn) c.chain.ensures)) stands) in
    omega (arith, none, (stands_number w.log x.txn x.left stands).positive)

-- the compensation is of the loser that was found
of_loser : (log : List Record) (x : Loser) (k : Chain) (r : Record) → k ≡ record { txn = x.txn; last = x.last }
    → Compensates log k.txn 0 r → Compensates log x.txn 0 r
of_loser log x k r same h = let P : ℕ → Type 0 = λ t. Compensates log t 0 r in
    subst P (ap (λ (c : Chain). c.txn) same) h

-- the one that was appended
appended : (g : _) (c : goal.After-self-1 g) → Undoes c.args.self.now.log c.chain.result.txn 0 c.in-Ok-Some.told
    c.append_undo.new.log
appended g c = subst (λ told. UndoesNext c.args.self.now.log c.chain.result.txn 0 told c.append_undo.new.log)
    c.in-Ok-Some.field-0-is c.in-Ok-Some.ensures.undoes

it_is : (g : _) (c : goal.After-self-1 g)
    → (appended g c).compensation ≡ lost_comp c.args.self.now.log.records c.args.loser
it_is g c =
    let w = seen c.args.self.now in
    let x = c.args.loser in
    let d = appended g c in
    lost_is w c.requires.kept c.requires.undoing x d.compensation c.requires.next
    (of_loser w.log x c.chain.result d.compensation c.chain.ensures d.next)

now : (g : _) (c : goal.After-self-1 g)
    → seen (record c.args.self.now {
      log = c.append_undo.new.log;
      phase = Undoing c.awaited.result;
      losers = c.compensated.new.self;
    })
    ≡ lost_compensated (seen c.args.self.now) c.args.loser c.compensated.new.self
now g c =
    let w = seen c.args.self.now in
    let i = inverse_at w.log c.args.loser.left in
    let told = c.in-Ok-Some.told in
    let d = appended g c in
    let is = it_is g c in
    let asked : told.asks ≡ is_some i = d.asks ∙ ap has_inverse is in
    let waiting : c.awaited.result ≡ waits_for told.number i = c.awaited.ensures ∙ rw asked (waits i told.number) in
    rw (waiting, d.appended.log, is, d.appended.number_is) refl

pub returns-clause-kept : goal.returns-clause-kept
returns-clause-kept g c =
    let w = seen c.args.self.now in
    let x = c.args.loser in
    let l = c.compensated.new.self in
    let told = c.in-Ok-Some.told in
    let d = appended g c in
    let is = it_is g c in
    let P : Record → Type 0 = Fits w.log in
    let fits : Fits w.log (lost_comp w.log x) =
    subst P is (fits_comp w.log x.txn 0 d.compensation
    (of_loser w.log x c.chain.result d.compensation c.chain.ensures d.next)) in
    let next : told.next ≡ next_at w.log x.left = d.undo_next ∙ ap undo_next_in is in
    let Q : ℕ → Type 0 = λ m. TakesComp w.losers told.number m l in
    let R : ℕ → Type 0 = λ n. TakesComp w.losers n (next_at w.log x.left) l in
    let taken : TakesComp w.losers (length w.log + 1) (next_at w.log x.left) l =
    subst R d.appended.number_is (subst Q next c.compensated.ensures.taken) in
    subst IsTc (sym (now g c))
    (keeps_lost_comp w c.requires.kept c.requires.undoing x l c.requires.next fits taken c.compensated.ensures.same
    d.appended.unspent)

pub returns-clause-gives : goal.returns-clause-gives
returns-clause-gives g c =
    let d = appended g c in (
      rw (c.requires.undoing, d.appended.unspent) refl,
      record {
        undoing = c.requires.undoing;
        none_ends = c.requires.none_ends;
        loser = c.args.loser;
        next = c.requires.next;
        number_is = d.appended.number_is;
        same = c.compensated.ensures.same;
        left = now g c;
      },
    )
