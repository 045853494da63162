-- A leaf that is honest for a log is so for a beginning that has all numbers that it captured.
use Rattle.std.proofs.Common.{◌≡◌, ℕ, ◌+◌, ◌≤◌, ◌==◌, Bool, true, false, List, [], ◌∷◌, length, Option, Some, None, refl, ap, ◌∙◌, arith, inl, inr, eq-eqb}
use Rattle.std.specs.Prelude.{◌||◌, nat_le, if◌then◌else◌}
use Rattle.std.specs.List.{AllByRecursion}
use Rattle.std.proofs.lemmas.Bool.{cases_Bool}
use Rattle.record_key.specs.declared.op.Op.{Op}
use Rattle.record_key.specs.declared.entry.Entry.{Entry}
use Rattle.record_key.specs.Table.{Bytes, value_after}
use Rattle.history.specs.declared.record.Record.{Record}
use Rattle.history.specs.Log.{request_of}
use Rattle.history.specs.Values.{is_on}
use Rattle.history.specs.Honest.{Numbered, numbered_with, numbered_on, LeavesOutAdds, value_of}
use Rattle.std.proofs.lemmas.Bool.{or_right}
use Rattle.dc_ab_lsn.specs.AbLsn.{captures, stands_in}
use Rattle.dc_leaf.specs.Leaf.{LeafView}
use Rattle.dc_leaf.specs.Honest.{IsSavedRight}
use Rattle.dc_recovery.specs.Ready.{IsHonestTo}
use Rattle.node_laws.proofs.Restarts.Beginnings.{StaysTo, request_less, right_less}

-- one number less on the key that isn't captured
less_at : (cap : ℕ → Bool) (k : Bytes) (n : ℕ) (q : Option Op) (rest : List Numbered) → cap n ≡ false
    → (LeavesOutAdds cap (numbered_with k n q rest) → LeavesOutAdds cap rest)
    × (value_of cap (numbered_with k n q rest) ≡ value_of cap rest)
less_at cap k n None rest out = (λ h. h, refl)
less_at cap k n (Some o) rest out = pick (is_on k o)
  where
    pick : (b : Bool)
        → (LeavesOutAdds cap (if b then record { number = n; op = o } ∷ rest else rest) → LeavesOutAdds cap rest)
        × (value_of cap (if b then record { number = n; op = o } ∷ rest else rest) ≡ value_of cap rest)
    pick true = (λ h. h.1, ap (λ (b : Bool). if b then value_after o (value_of cap rest) else value_of cap rest) out)
    pick false = (λ h. h, refl)

-- the saved answers, whose numbers are left
saved_less : (r : Record) (log : List Record) (es : List Entry)
    → ((n : ℕ) → stands_in es n ≡ true → n ≤ length log)
    → AllByRecursion (IsSavedRight (r ∷ log)) es → AllByRecursion (IsSavedRight log) es
saved_less r log [] left all = tt
saved_less r log (e ∷ es) left all =
    let here = ap (λ (b : Bool). b || stands_in es e.number) (eq-eqb e.number e.number refl) in
    let within : e.number ≤ length log = left e.number here in (
      record {
        op = all.0.op;
        requests = request_less e.number all.0.op r log within all.0.requests;
        on_key = all.0.on_key;
        right = right_less e.number e.number e.answer r log within all.0.right;
      },
      saved_less r log es (λ n there. left n (or_right (n == e.number) (stands_in es n) there)) all.1,
    )

pub honest_less : (end : ℕ) (leaf : LeafView) → StaysTo end (λ log. IsHonestTo log end leaf)
honest_less end leaf r log within h = record {
  honest = record {
    at = λ k inside.
        let less = less_at (captures leaf.ab) k (length log + 1) (request_of r) (numbered_on k log) newest in
        record {
          left_out = less.0 (h.honest.at k inside).left_out;
          right = (h.honest.at k inside).right ∙ less.1;
        };
    saved = saved_less r log leaf.ab.entries
        (λ n there.
        let captured = h.within n (or_right (nat_le n leaf.ab.low) (stands_in leaf.ab.entries n) there) in
        omega (arith, captured, within)) h.honest.saved;
  };
  within = h.within;
}
  where
    newest : captures leaf.ab (length log + 1) ≡ false
    newest = elim (cases_Bool (captures leaf.ab (length log + 1))) [
      | inl captured ↦ absurd (omega (arith, h.within (length log + 1) captured, within))
      | inr uncaptured ↦ uncaptured
    ]
