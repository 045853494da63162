-- A crash leaves whole frames, and perhaps a part of one.
use Rattle.std.proofs.Common.{◌≡◌, ℕ, ◌<◌, ◌≤◌, List, [], ◌∷◌, ◌++◌, length, drop, sym, ap, ◌∙◌, subst, arith, inl, inr, append-nil}
use Rattle.std.proofs.lemmas.Bool.{cases_lt}
use Rattle.std.proofs.lemmas.List.{length-append, nil_from_length}
use Rattle.codec.specs.Frames.{frame, IsCut}
use Rattle.codec.proofs.Cuts.{longer, after}
use Rattle.stable.specs.Crash.{BeginsWith, MayLeave}
use Rattle.framed_log.specs.Beginning.{beginning}
use Rattle.framed_log.specs.Crashed.{LeavesBeginning}
use Rattle.framed_log.specs.Opening.{HoldsFrames}
use Rattle.framed_log.specs.Spelled.{Framing, AreRecords, spelled}
use Rattle.framed_log.proofs.Beginning.{whole, shorter}
use Rattle.framed_log.proofs.Framing.{IsFraming, record_part_cut}

-- the whole frames that are left are those of a beginning
abbrev Leaves : {X : Type 0} → Framing X → List X → ℕ → List ℕ → Type 0
Leaves f log stable left = LeavesBeginning f (HoldsFrames f) log stable left

-- what a log without its newest record is left with, it is left with
older_left : {X : Type 0} (f : Framing X) (r : X) (log : List X) (left : List ℕ)
    → length left < length (spelled f (r ∷ log)) → Leaves f log 0 left → Leaves f (r ∷ log) 0 left
older_left {X = X} f r log left less was =
    let Fits : List X → Type 0 = λ l. length (spelled f l) ≤ length left in
    record {
      count = was.count;
      stable_left = omega arith;
      within = omega (arith, was.within);
      is = subst (HoldsFrames f left) (sym (shorter r log was.count was.within)) was.is;
      most = λ n le fits.
          elim (cases_lt (length log) n) [
            | inl all ↦
                let long : length (spelled f (r ∷ log)) ≤ length left =
                subst Fits (whole (r ∷ log) n (omega (arith, all))) fits in
                absurd (omega (arith, long, less))
            | inr some ↦ was.most n some (subst Fits (shorter r log n some) fits)
          ];
    }

-- all frames are whole, and a part of one more may follow
all_left : {X : Type 0} (f : Framing X) (log : List X) (part left : List ℕ) → AreRecords f log
    → left ≡ spelled f log ++ part → IsCut f.limit part → Leaves f log 0 left
all_left f log part left records is cut = record {
  count = length log;
  stable_left = omega arith;
  within = omega arith;
  is =
      subst (HoldsFrames f left) (sym (whole log (length log) (omega arith)))
      (record { records = records; left = part; parts = is; cut = cut });
  most = λ n le fits. le;
}

just_left : {X : Type 0} (f : Framing X) (log : List X) (left more : List ℕ) → AreRecords f log
    → spelled f log ≡ left ++ more → length (spelled f log) ≤ length left → Leaves f log 0 left
just_left f log left more records e long =
    let none : more ≡ [] = nil_from_length more (omega (arith, ap length e, length-append left more, long)) in
    let is : spelled f log ≡ left = e ∙ ap (λ (b : List ℕ). left ++ b) none ∙ append-nil left in
    all_left f log [] left records (sym is ∙ sym (append-nil (spelled f log))) (inl (omega arith))

frames_left : {X : Type 0} {f : Framing X} → IsFraming f → (log : List X) (left more : List ℕ) → AreRecords f log
    → spelled f log ≡ left ++ more → Leaves f log 0 left
unfolding spelled
frames_left {f = f} law [] left more records e = just_left f [] left more records e (omega arith)
frames_left {f = f} law (r ∷ log) left more records e =
    let first : List ℕ = spelled f log in
    let last : List ℕ = frame (f.spell r) in
    elim (cases_lt (length left) (length (first ++ last))) [
      | inr long ↦ just_left f (r ∷ log) left more records e long
      | inl less ↦ elim (cases_lt (length left) (length first)) [
        | inl short ↦
            let is : first ≡ left ++ drop (length left) first =
            longer left first more last (sym e) (omega (arith, short)) in
            older_left f r log left less (frames_left law log left (drop (length left) first) records.1 is)
        | inr long ↦
            let part : List ℕ = drop (length first) left in
            let is : left ≡ first ++ part = longer first left last more e long in
            let cut : IsCut f.limit part =
            record_part_cut law r part more records.0 (after first left last more part e is)
            (omega (arith, ap length is, length-append first part, length-append first last, less)) in
            older_left f r log left less (all_left f log part left records.1 is cut)
      ]
    ]

-- with all stable records, of which the frames are among what every crash leaves; and what follows from frames
pub crash_leaves : {X : Type 0} {f : Framing X} → IsFraming f → (Is : List ℕ → List X → Type 0) (log : List X)
    (stable : ℕ) (forced pending left : List ℕ) → AreRecords f log → stable ≤ length log
    → forced ++ pending ≡ spelled f log → BeginsWith forced (spelled f (beginning log stable))
    → MayLeave forced pending left → ((n : ℕ) → HoldsFrames f left (beginning log n) → Is left (beginning log n))
    → LeavesBeginning f Is log stable left
crash_leaves {f = f} law Is log stable forced pending left records within stored covered leaves so =
    let was : Leaves f log 0 left =
    frames_left law log left leaves.beginning.0 records (sym stored ∙ leaves.beginning.1) in
    let stable_bytes : List ℕ = spelled f (beginning log stable) in
    let fits : length stable_bytes ≤ length left =
    omega (
      arith,
      ap length covered.1,
      length-append stable_bytes covered.0,
      ap length leaves.has_forced.1,
      length-append forced leaves.has_forced.0,
    ) in
    record {
      count = was.count;
      stable_left = was.most stable within fits;
      within = was.within;
      is = so was.count was.is;
      most = was.most;
    }
