-- An honest leaf where the log has one record more, or one less.
use Rattle.std.proofs.Common.{◌≡◌, ℕ, ◌+◌, ◌≤◌, Bool, true, false, List, [], ◌∷◌, length, Option, Some, None, refl, sym, ap, ◌∙◌, arith, true≢false}
use Rattle.std.specs.Prelude.{if◌then◌else◌}
use Rattle.std.specs.List.{AllByRecursion}
use Rattle.record_key.specs.declared.op.Op.{Op}
use Rattle.record_key.specs.declared.op.Answer.{Answer}
use Rattle.record_key.specs.Table.{Bytes, key_of, answer_at, value_after}
use Rattle.history.specs.declared.record.Record.{Record}
use Rattle.history.specs.Log.{request_of, Requests}
use Rattle.history.specs.Values.{is_on, value_on, IsRight}
use Rattle.history.specs.Honest.{Numbered, numbered_with, numbered_on, LeavesOutAdds, value_of}
use Rattle.log_laws.proofs.Records.{ARequest, kept_at, had_at, older_at, before_old, not_newest}
use Rattle.log_laws.proofs.LegalLogs.{request_number}
use Rattle.record_key.specs.declared.entry.Entry.{Entry}
use Rattle.dc_ab_lsn.specs.AbLsn.{captures}
use Rattle.dc_leaf.specs.Leaf.{LeafView}
use Rattle.dc_leaf.specs.Honest.{IsSavedRight, IsHonestLeaf}
use Rattle.dc_leaf.proofs.UpTo.{AreUpTo}

-- a right answer stays right
pub right_longer : (r : Record) (log : List Record) (n : ℕ) (o : Op) (a : Answer) → Requests log n o → IsRight log n a
    → IsRight (r ∷ log) n a
right_longer r log n o a requests right q asks =
    let number = request_number log n o requests in
    right q (had_at (ARequest q) r log n number asks)
    ∙ ap (λ x. answer_at q (value_on (key_of q) x)) (sym (before_old r log n (not_newest log n number)))

saved_longer : (r : Record) (log : List Record) (es : List Entry) → AllByRecursion (IsSavedRight log) es
    → AllByRecursion (IsSavedRight (r ∷ log)) es
saved_longer r log [] all = tt
saved_longer r log (e ∷ es) all = (
  record {
    op = all.0.op;
    requests = kept_at (ARequest all.0.op) r log e.number (request_number log e.number all.0.op all.0.requests)
        all.0.requests;
    on_key = all.0.on_key;
    right = right_longer r log e.number all.0.op e.answer all.0.requests all.0.right;
  },
  saved_longer r log es all.1,
)

-- a number on the key that isn't captured makes no difference
record MakesNone (cap : ℕ → Bool) (done rest : List Numbered) : Type 0 where
  more : LeavesOutAdds cap rest → LeavesOutAdds cap done
  less : LeavesOutAdds cap done → LeavesOutAdds cap rest
  value : value_of cap done ≡ value_of cap rest

uncaptured_at : (cap : ℕ → Bool) (k : Bytes) (n : ℕ) (q : Option Op) (rest : List Numbered)
    → ((o : Op) → q ≡ Some o → cap n ≡ false)
    → MakesNone cap (numbered_with k n q rest) rest
uncaptured_at cap k n None rest out = record { more = λ h. h; less = λ h. h; value = refl }
uncaptured_at cap k n (Some o) rest out =
    pick (is_on k o)
  where
    pick : (b : Bool) → MakesNone cap (if b then record { number = n; op = o } ∷ rest else rest) rest
    pick true = record {
      more = λ h. (λ got. absurd (true≢false (sym got ∙ out o refl)), h);
      less = λ h. h.1;
      value = ap (λ b. if b then value_after o (value_of cap rest) else value_of cap rest) (out o refl);
    }
    pick false = record { more = λ h. h; less = λ h. h; value = refl }

pub honest_longer : (r : Record) (log : List Record) (leaf : LeafView)
    → ((o : Op) → request_of r ≡ Some o → captures leaf.ab (length log + 1) ≡ false)
    → IsHonestLeaf log leaf → IsHonestLeaf (r ∷ log) leaf
honest_longer r log leaf out h = record {
  at = λ k within.
      let none =
      uncaptured_at (λ (m : ℕ). captures leaf.ab m) k (length log + 1) (request_of r) (numbered_on k log) out in
      record { left_out = none.more (h.at k within).left_out; right = (h.at k within).right ∙ sym none.value };
  saved = saved_longer r log leaf.ab.entries h.saved;
}

-- a record whose number isn't captured
pub honest_uncaptured : (r : Record) (log : List Record) (leaf : LeafView) → captures leaf.ab (length log + 1) ≡ false
    → IsHonestLeaf log leaf → IsHonestLeaf (r ∷ log) leaf
honest_uncaptured r log leaf out h = honest_longer r log leaf (λ o asks. out) h

-- and the other way: a saved answer whose number is left
saved_less : (r : Record) (log : List Record) (e : Entry) → e.number ≤ length log → IsSavedRight (r ∷ log) e
    → IsSavedRight log e
saved_less r log e le h = record {
  op = h.op;
  requests = older_at (ARequest h.op) r log e.number (λ same. omega (arith, same, le)) h.requests;
  on_key = h.on_key;
  right = λ o asks.
      let number = request_number log e.number o asks in
      h.right o (kept_at (ARequest o) r log e.number number asks)
      ∙ ap (λ x. answer_at o (value_on (key_of o) x)) (before_old r log e.number (not_newest log e.number number));
}

pub saved_shorter : (r : Record) (log : List Record) (es : List Entry) → AreUpTo (length log) es
    → AllByRecursion (IsSavedRight (r ∷ log)) es → AllByRecursion (IsSavedRight log) es
saved_shorter r log [] within all = tt
saved_shorter r log (e ∷ es) within all =
    (saved_less r log e within.0 all.0, saved_shorter r log es within.1 all.1)

pub honest_shorter : (r : Record) (log : List Record) (leaf : LeafView) → AreUpTo (length log) leaf.ab.entries
    → ((o : Op) → request_of r ≡ Some o → captures leaf.ab (length log + 1) ≡ false)
    → IsHonestLeaf (r ∷ log) leaf → IsHonestLeaf log leaf
honest_shorter r log leaf within out h = record {
  at = λ k inside.
      let none =
      uncaptured_at (λ (m : ℕ). captures leaf.ab m) k (length log + 1) (request_of r) (numbered_on k log) out in
      record { left_out = none.less (h.at k inside).left_out; right = (h.at k inside).right ∙ none.value };
  saved = saved_shorter r log leaf.ab.entries within h.saved;
}
