use Rattle.std.proofs.Common.{◌≡◌, ◌∙◌, ℕ, Bool, true, false, IsTrue, ◌↔◌, sym, ap, subst}
use Rattle.std.specs.Prelude.{◌&&◌, ◌||◌}
use Rattle.std.specs.List.{list_all}
use Rattle.record_key.specs.Table.{Bytes, key_of, is_add}
use Rattle.history.specs.Legal.{IsKeyFree}
use Rattle.tc_log.specs.Replay.{holder_in, adders_of, agrees, agrees_if, is_free}
use Rattle.tc_log.proofs.Checks.{free_test}
use Rattle.tc_log.proofs.replay.Index.is_free.Goals as goal

pub returns-else-is_add : goal.returns-else-is_add
returns-else-is_add g c =
    let index = c.args.self.now in
    let t : ℕ = c.args.txn in
    let o = c.args.op.now in
    let all : Bool = list_all (agrees index t) (adders_of index (key_of o)) in
    let holder : agrees_if index t (holder_in index (key_of o)) ≡ true =
    ap (λ (k : Bytes). agrees_if index t (holder_in index k)) (sym c.key.ensures)
    ∙ sym c.holder_agrees.ensures ∙ c.if-holder_agrees.true in
    let plain : is_add o ≡ false = sym c.is_add.ensures ∙ c.if-is_add.false in
    let adders : c.adders_agree.result ≡ all =
    c.adders_agree.ensures
    ∙ ap (λ (k : Bytes). list_all (agrees index t) (adders_of index k)) c.key-else-is_add.ensures in
    let e : is_free index t o ≡ c.adders_agree.result =
    ap (λ b. b && (is_add o || all)) holder ∙ ap (λ b. b || all) plain ∙ sym adders in
    let P : Bool → Type 0 = λ b. IsTrue b ↔ IsKeyFree c.args.frames.now.records t o in
    subst P e (free_test c.args.frames.now.records index t o c.requires)
