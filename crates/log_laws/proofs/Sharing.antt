-- When two transactions may hold one key: only for Adds.
use Rattle.std.proofs.Common.{arith, ◌≡◌, ◌≢◌, ◌⊎◌, ℕ, true, false, List, refl, sym, ◌∙◌, subst, inl, inr, true≢false}
use Rattle.std.proofs.lemmas.Bool.{cases_order}
use Rattle.record_key.specs.declared.op.Op.{Op}
use Rattle.record_key.specs.Table.{key_of, is_add, AreAdds}
use Rattle.history.specs.declared.record.Record.{Record}
use Rattle.history.specs.Spans.{do_conflict, mode_of}
use Rattle.history.specs.Log.{record_at, IsOpen, IsOpBy}
use Rattle.history.specs.Legal.{IsLegal}
use Rattle.history.specs.Chains.{adds_at}
use Rattle.log_laws.proofs.Records.{op_step, op_request, op_same}
use Rattle.log_laws.proofs.Adding.{op_adds}
use Rattle.log_laws.proofs.Strict.{strict, end_ends}

-- what two operations are held for conflicts unless both are Adds
pub modes_conflict : (o q : Op) → (do_conflict (mode_of o) (mode_of q) ≡ true) ⊎ AreAdds o q
modes_conflict o q = grind arith

-- and agrees where they are
pub modes_agree : (o q : Op) → AreAdds o q → do_conflict (mode_of o) (mode_of q) ≡ false
modes_agree o q both = rw (both.0, both.1) refl

-- operations of two open transactions on one key are Adds
pub share_adds : (log : List Record) (n t m u : ℕ) (o q : Op) → IsLegal log → IsOpBy log n t o → IsOpen log t
    → IsOpBy log m u q → IsOpen log u → u ≢ t → key_of o ≡ key_of q → AreAdds o q
share_adds log n t m u o q legal by open_t is_op open_u other same =
    elim (cases_order m n) [
      | inl e ↦ absurd (other (op_same u t q o (record_at log n)
          (let P : ℕ → Type 0 = λ z. IsOpBy log z u q in subst P e is_op) by).0)
      | inr (inl below) ↦
          elim (strict log legal m n u t q o is_op below (op_step t o (record_at log n) by)
          (op_request t o (record_at log n) by) same (λ e. other (sym e))) [
            | inl both ↦ (sym adds_o ∙ both.1, sym adds_q ∙ both.0)
            | inr found ↦ absurd (true≢false (sym (end_ends log u found.end found.is) ∙ open_u.goes_on))
          ]
      | inr (inr above) ↦
          elim (strict log legal n m t u o q by above (op_step u q (record_at log m) is_op)
          (op_request u q (record_at log m) is_op) (sym same) other) [
            | inl both ↦ (sym adds_o ∙ both.0, sym adds_q ∙ both.1)
            | inr found ↦ absurd (true≢false (sym (end_ends log t found.end found.is) ∙ open_t.goes_on))
          ]
    ]
  where
    adds_o : adds_at log n ≡ is_add o
    adds_o = op_adds log n t o by

    adds_q : adds_at log m ≡ is_add q
    adds_q = op_adds log m u q is_op
