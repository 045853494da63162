-- Bytes hold the frames of one log, and begin with those of its beginnings.
use Rattle.std.proofs.Common.{◌≡◌, ℕ, List, [], ◌∷◌, ◌++◌, refl, sym, ap, ◌∙◌, subst, arith, append_assoc, append-nil, inl}
use Rattle.std.specs.List.{AllByRecursion}
use Rattle.codec.specs.Frames.{frame, IsCut}
use Rattle.framed_log.specs.Opening.{HoldsFrames}
use Rattle.framed_log.specs.Spelled.{Framing, AreRecords, spelled}
use Rattle.framed_log.proofs.Framing.{IsFraming, uncut}

-- ---- older records

-- no record, or an oldest one and those after it
data Oldest (X : Type 0) (log : List X) : Type 0 where
  none : log ≡ [] → Oldest X log
  one : (newer : List X) (x : X) → log ≡ newer ++ x ∷ [] → Oldest X log

oldest : {X : Type 0} (log : List X) → Oldest X log
oldest [] = none refl
oldest {X = X} (x ∷ log) =
    elim (oldest log) [
      | none is ↦ one [] x (ap (λ (l : List X). x ∷ l) is)
      | one newer y is ↦ one (x ∷ newer) y (ap (λ (l : List X). x ∷ l) is)
    ]

pub all_older : {X : Type 0} (Fits : X → Type 0) (newer older : List X) → AllByRecursion Fits (newer ++ older)
    → AllByRecursion Fits older
all_older Fits [] older all = all
all_older Fits (x ∷ newer) older all = all_older Fits newer older all.1

-- the oldest frame is the first
oldest_first : {X : Type 0} (f : Framing X) (newer : List X) (x : X)
    → spelled f (newer ++ x ∷ []) ≡ frame (f.spell x) ++ spelled f newer
unfolding spelled
oldest_first f [] x = sym (append-nil (frame (f.spell x)))
oldest_first f (y ∷ newer) x =
    ap (λ (b : List ℕ). b ++ frame (f.spell y)) (oldest_first f newer x)
    ∙ append_assoc (frame (f.spell x)) (spelled f newer) (frame (f.spell y))

-- ---- two logs whose frames the same bytes begin with

-- the other log is the older part of the log, whose later frames stand after its own
record IsOlder {X : Type 0} (f : Framing X) (log other : List X) (rest left : List ℕ) : Type 0 where
  pub newer : List X
  pub all : log ≡ newer ++ other
  pub left_is : left ≡ spelled f newer ++ rest

-- the log goes on after the other, and the frame of its next record stands after the other's frames
pub record GoesOn {X : Type 0} (f : Framing X) (log other : List X) (rest left : List ℕ) : Type 0 where
  pub newer : List X
  pub next : X
  pub fits : f.Fits next
  pub all : log ≡ newer ++ next ∷ other
  pub first : left ≡ frame (f.spell next) ++ (spelled f newer ++ rest)

-- the log ends where the other does, or goes on
pub data WhatFollows {X : Type 0} (f : Framing X) (log other : List X) (rest left : List ℕ) : Type 0 where
  ends : log ≡ other → left ≡ rest → WhatFollows f log other rest left
  goes_on : GoesOn f log other rest left → WhatFollows f log other rest left

follows : {X : Type 0} (f : Framing X) (log other : List X) (rest left : List ℕ) → AreRecords f log
    → IsOlder f log other rest left → WhatFollows f log other rest left
unfolding spelled
follows {X = X} f log other rest left fits was =
    let After : List X → List ℕ = λ l. spelled f l ++ rest in
    elim (oldest was.newer) [
      | none is ↦ ends (was.all ∙ ap (λ (l : List X). l ++ other) is) (was.left_is ∙ ap After is)
      | one newer x is ↦
          let all : log ≡ newer ++ x ∷ other =
          was.all ∙ ap (λ (l : List X). l ++ other) is ∙ append_assoc newer (x ∷ []) other in
          goes_on (record {
            newer = newer;
            next = x;
            fits = (all_older f.Fits newer (x ∷ other) (subst (AreRecords f) all fits)).0;
            all = all;
            first = was.left_is ∙ ap After is
                ∙ ap (λ (b : List ℕ). b ++ rest) (oldest_first f newer x)
                ∙ append_assoc (frame (f.spell x)) (spelled f newer) rest;
          })
    ]

-- of two logs whose frames the bytes begin with, the one that all whole frames are of has the other as its older part
older : {X : Type 0} {f : Framing X} → IsFraming f → (log other : List X) (rest left : List ℕ) → AreRecords f log
    → AreRecords f other → IsCut f.limit rest → spelled f log ++ rest ≡ spelled f other ++ left
    → IsOlder f log other rest left
unfolding spelled
older law log [] rest left fits also cut e = record { newer = log; all = sym (append-nil log); left_is = sym e }
older {X = X} {f = f} law log (x ∷ other) rest left fits also cut e =
    let first : List ℕ = frame (f.spell x) in
    let was : IsOlder f log other rest (first ++ left) =
    older law log other rest (first ++ left) fits also.1 cut (e ∙ append_assoc (spelled f other) first left) in
    elim (follows f log other rest (first ++ left) fits was) [
      | ends is end ↦ absurd (uncut law x rest left also.0 (sym end) cut)
      | goes_on on ↦
          let same = law.one_frame x on.next left (spelled f on.newer ++ rest) also.0 on.fits on.first in
          record {
            newer = on.newer;
            all = on.all ∙ ap (λ (y : X). on.newer ++ y ∷ other) (sym same.0);
            left_is = same.1;
          }
    ]

-- bytes that hold one log's frames begin with another's
pub what_follows : {X : Type 0} {f : Framing X} → IsFraming f → (bytes : List ℕ) (log other : List X) (left : List ℕ)
    (h : HoldsFrames f bytes log) → AreRecords f other → bytes ≡ spelled f other ++ left
    → WhatFollows f log other h.left left
what_follows {f = f} law bytes log other left h also parts =
    follows f log other h.left left h.records
    (older law log other h.left left h.records also h.cut (sym h.parts ∙ parts))

-- so bytes hold the frames of one log
pub once : {X : Type 0} {f : Framing X} → IsFraming f → (bytes : List ℕ) (log other : List X)
    → HoldsFrames f bytes log → HoldsFrames f bytes other → log ≡ other
once {f = f} law bytes log other h o =
    elim (what_follows law bytes log other o.left h o.records o.parts) [
      | ends is end ↦ is
      | goes_on on ↦ absurd (uncut law on.next o.left (spelled f on.newer ++ h.left) on.fits on.first o.cut)
    ]

-- the frames, and nothing after them
pub just_frames : {X : Type 0} (f : Framing X) (log : List X) → AreRecords f log → HoldsFrames f (spelled f log) log
just_frames f log records =
    record { records = records; left = []; parts = sym (append-nil (spelled f log)); cut = inl (omega arith) }

-- so a log is spelled as no other
pub spelled_once : {X : Type 0} {f : Framing X} → IsFraming f → (a b : List X) → AreRecords f a → AreRecords f b
    → spelled f a ≡ spelled f b → a ≡ b
spelled_once {f = f} law a b each_a each_b same =
    once law (spelled f b) a b (subst (λ (bytes : List ℕ). HoldsFrames f bytes a) same (just_frames f a each_a))
    (just_frames f b each_b)
