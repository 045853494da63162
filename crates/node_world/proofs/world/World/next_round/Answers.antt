use Rattle.std.proofs.Common.{◌≡◌, ◌∙◌, ℕ, Bool, true, false, sym, ap, subst, ◌<◌, ◌≤◌, length, arith, inl, inr, true≢false, Some, None}
use Rattle.std.specs.Prelude.{◌↔◌, IsTrue}
use Rattle.std.specs.Option.{option_copied}
use Rattle.node_sides.specs.tc_core.specs.declared.open_txns.Wanted.TheVariants.{Unanswered, Rolling}
use Rattle.node_sides.specs.tc_core.specs.declared.phase.Phase.{Phase}
use Rattle.node_sides.specs.tc_core.specs.declared.phase.Phase.TheVariants as phase
use Rattle.node_sides.specs.tc_core.specs.OpenTxns.{oldest, wants}
use Rattle.node_sides.specs.tc_core.specs.TcView.{TcView}
use Rattle.node_sides.specs.dc_core.specs.DcView.{DcView}
use Rattle.node_sides.specs.node_laws.specs.Node.{NodeView, AreUp}
use Rattle.node_sides.specs.node_laws.specs.Rounds.{AreApart, IsApart, AreRunning, IsNextRound, round_for}
use Rattle.node_sides.specs.node_laws.proofs.Machine.Settled.{at_rest, serving}
use Rattle.node_sides.specs.node_laws.proofs.Settles.Rounds.{next_for, idle_all, rolling_first, unrolled_all}
use Rattle.node_world.proofs.world.World.next_round.Goals as goal

-- the components run, and are these
record AreThese (w : NodeView) (tc : TcView) (dc : DcView) : Type 0 where
  up : AreUp w
  tc_same : w.tc ≡ tc
  dc_same : w.dc ≡ dc

these : (w : NodeView) (tc : TcView) (dc : DcView) → w.tc_up ≡ true → w.dc_up ≡ true → tc ≡ w.tc → dc ≡ w.dc
    → AreThese w tc dc
these w tc dc tc_up dc_up tc_is dc_is = record {
  up = record { tc = tc_up; dc = dc_up };
  tc_same = sym tc_is;
  dc_same = sym dc_is;
}

serves : (w : NodeView) (tc : TcView) (dc : DcView) (apart : Bool) (p : Phase) → AreThese w tc dc
    → (IsTrue apart ↔ AreApart tc dc) → apart ≡ false → p ≡ tc.phase → p ≡ phase.Running → AreRunning w
serves w tc dc apart p t test isnt at running =
    serving w t.up together (ap (λ (x : TcView). x.phase) t.tc_same ∙ sym at ∙ running)
  where
    together : IsApart w → ⊥
    together is =
        let P : TcView → Type 0 = λ x. AreApart x w.dc in
        true≢false (sym (test.1 (subst (AreApart tc) t.dc_same (subst P t.tc_same is))) ∙ isnt)

pub returns-in-Some : goal.returns-in-Some
returns-in-Some g c =
    let w : NodeView = c.args.self.now in
    let tc : TcView = c.in-Ok-running_tc.tc.now in
    let dc : DcView = c.in-Ok.dc.now in
    let t = these w tc dc c.in-Ok-running_tc.ensures.up c.in-Ok.ensures.up c.in-Ok-running_tc.ensures.tc
    c.in-Ok.ensures.dc in
    let serving_now = serves w tc dc c.is_apart.result c.phase.result t c.is_apart.ensures
    c.if-is_apart.false c.phase.ensures c.in-Running.is in
    let o = c.in-Some.open.now in
    let at : oldest (wants Unanswered) w.tc.open_txns ≡ Some o =
    ap (λ (x : TcView). oldest (wants Unanswered) x.open_txns) t.tc_same ∙ sym c.first_unanswered.ensures
    ∙ ap option_copied c.in-Some.is in
    let stable : w.tc.stable ≡ c.stable_end-stable.result =
    ap (λ (x : TcView). x.stable) t.tc_same ∙ sym c.stable_end-stable.ensures in
    let P : ℕ → Type 0 = λ n. IsNextRound w (round_for o.txn n o.waiting) in
    rw c.answer_round.ensures (subst P stable (next_for w o serving_now c.kept.ensures.kept.tc at))

pub returns-in-Some-first_rolling : goal.returns-in-Some-first_rolling
returns-in-Some-first_rolling g c =
    let w : NodeView = c.args.self.now in
    let tc : TcView = c.in-Ok-running_tc.tc.now in
    let dc : DcView = c.in-Ok.dc.now in
    let t = these w tc dc c.in-Ok-running_tc.ensures.up c.in-Ok.ensures.up c.in-Ok-running_tc.ensures.tc
    c.in-Ok.ensures.dc in
    let serving_now = serves w tc dc c.is_apart.result c.phase.result t c.is_apart.ensures
    c.if-is_apart.false c.phase.ensures c.in-Running.is in
    let none : oldest (wants Unanswered) w.tc.open_txns ≡ None =
    ap (λ (x : TcView). oldest (wants Unanswered) x.open_txns) t.tc_same ∙ sym c.first_unanswered.ensures
    ∙ ap option_copied c.in_default-first_unanswered.is in
    let at : oldest (wants Rolling) w.tc.open_txns ≡ Some c.in-Some-first_rolling.open.now =
    ap (λ (x : TcView). oldest (wants Rolling) x.open_txns) t.tc_same ∙ sym c.first_rolling.ensures
    ∙ ap option_copied c.in-Some-first_rolling.is in
    (serving_now, rolling_first w.tc c.in-Some-first_rolling.open.now c.kept.ensures.kept.tc none at)

pub returns-then-stable-records : goal.returns-then-stable-records
returns-then-stable-records g c =
    let w : NodeView = c.args.self.now in
    let tc : TcView = c.in-Ok-running_tc.tc.now in
    let dc : DcView = c.in-Ok.dc.now in
    let t = these w tc dc c.in-Ok-running_tc.ensures.up c.in-Ok.ensures.up c.in-Ok-running_tc.ensures.tc
    c.in-Ok.ensures.dc in
    let serving_now = serves w tc dc c.is_apart.result c.phase.result t c.is_apart.ensures
    c.if-is_apart.false c.phase.ensures c.in-Running.is in
    let none : oldest (wants Unanswered) w.tc.open_txns ≡ None =
    ap (λ (x : TcView). oldest (wants Unanswered) x.open_txns) t.tc_same ∙ sym c.first_unanswered.ensures
    ∙ ap option_copied c.in_default-first_unanswered.is in
    let flat : oldest (wants Rolling) w.tc.open_txns ≡ None =
    ap (λ (x : TcView). oldest (wants Rolling) x.open_txns) t.tc_same ∙ sym c.first_rolling.ensures
    ∙ ap option_copied c.in_default-first_rolling.is in
    let less : w.tc.stable < length w.tc.log =
    omega (
      arith,
      ap (λ (x : TcView). length x.log) t.tc_same,
      ap (λ (x : TcView). x.stable) t.tc_same,
      c.records.ensures,
      c.stable_end-stable.ensures,
      c.if-stable-records.true,
    ) in
    inl (serving_now, inr (unrolled_all w.tc flat, idle_all w.tc none, less))

pub returns : goal.returns
returns g c =
    let w : NodeView = c.args.self.now in
    let tc : TcView = c.in-Ok-running_tc.tc.now in
    let dc : DcView = c.in-Ok.dc.now in
    let t = these w tc dc c.in-Ok-running_tc.ensures.up c.in-Ok.ensures.up c.in-Ok-running_tc.ensures.tc
    c.in-Ok.ensures.dc in
    let serving_now = serves w tc dc c.is_apart.result c.phase.result t c.is_apart.ensures
    c.if-is_apart.false c.phase.ensures c.in-Running.is in
    let none : oldest (wants Unanswered) w.tc.open_txns ≡ None =
    ap (λ (x : TcView). oldest (wants Unanswered) x.open_txns) t.tc_same ∙ sym c.first_unanswered.ensures
    ∙ ap option_copied c.in_default-first_unanswered.is in
    let flat : oldest (wants Rolling) w.tc.open_txns ≡ None =
    ap (λ (x : TcView). oldest (wants Rolling) x.open_txns) t.tc_same ∙ sym c.first_rolling.ensures
    ∙ ap option_copied c.in_default-first_rolling.is in
    let most : length w.tc.log ≤ w.tc.stable =
    omega (
      arith,
      ap (λ (x : TcView). length x.log) t.tc_same,
      ap (λ (x : TcView). x.stable) t.tc_same,
      c.records.ensures,
      c.stable_end-stable.ensures,
      c.if-stable-records.false,
    ) in
    at_rest w c.kept.ensures.kept serving_now.running serving_now.up serving_now.session
    (unrolled_all w.tc flat) (idle_all w.tc none) most
