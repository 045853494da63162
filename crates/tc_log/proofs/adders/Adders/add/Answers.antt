use Rattle.std.proofs.Common.{◌≡◌, ℕ, List, [], ◌∷◌, ◌++◌, Some, sym, ap, ◌∙◌, subst, filter}
use Rattle.std.specs.BTreeMap.{get}
use Rattle.std.specs.Ordering.{is_eq, nat_cmp}
use Rattle.record_key.specs.Laws.{key_cmp}
use Rattle.record_key.specs.Table.{Bytes}
use Rattle.tc_log.specs.declared.adders.Adders.{Adders}
use Rattle.tc_log.specs.Adders.{items_of, adders_in, stays, PutsAdders}
use Rattle.tc_log.proofs.Puts.{puts_adders}
use Rattle.tc_log.proofs.adders.Adders.add.Goals as goal
use Rattle.tc_log.proofs.adders.Adders.add.Goals.{in-Some, in-None}

pub returns-clause-puts : goal.returns-clause-puts
returns-clause-puts c =
    let had : c.match-remove.adders.items ≡ adders_in c.args.self.now c.args.key.now =
    elim c.match-remove.branch [
      | in-Some w ↦ ap (λ v. v.items) w.adders-is ∙ ap items_of (sym w.in-Some.is ∙ c.remove.ensures.value)
      | in-None w ↦ ap (λ v. v.items) w.adders-is ∙ w.new-adders.ensures.items
          ∙ ap items_of (sym w.in-None.is ∙ c.remove.ensures.value)
    ] in
    let new : Adders = record { by_key = c.insert.new.self; alloc = c.args.self.now.alloc } in
    let others : List ℕ → List ℕ = filter (stays (λ (t : ℕ). get nat_cmp c.args.latest.now t) c.args.txn) in
    let P : Bytes → Type 0 = λ k. PutsAdders (adders_in c.args.self.now) (adders_in new) k
    (others (adders_in c.args.self.now c.args.key.now) ++ c.args.txn ∷ []) in
    subst P c.copied.ensures (puts_adders (get key_cmp c.args.self.now.by_key) (get key_cmp c.insert.new.self)
    c.copied.result (Some c.push.new.self) _ c.in_ok-insert.ensures.updates.1
    (λ q apart. c.in_ok-insert.ensures.updates.2 q apart
    ∙ c.remove.ensures.updates.2 q (ap (λ (k : Bytes). is_eq (key_cmp k q)) (sym c.copied.ensures) ∙ apart))
    (c.in_ok-push.ensures.items
    ∙ ap (λ (us : List ℕ). us ++ c.args.txn ∷ []) (c.drop_ended.ensures ∙ ap others had)))
