-- One line after another.
use Rattle.std.proofs.Common.{◌≡◌, ◌⊎◌, ℕ, Bool, true, false, not, List, [], ◌++◌, ◌||◌, Option, Some, None, Ok, Err, inl, inr, sym, subst, refl, append_assoc, append-nil}
use Rattle.std.specs.Prelude.{◌&&◌}
use Rattle.std.specs.Io.KnownBytes.{Appends}
use Rattle.record_key.specs.declared.refusal.Refusal.{Refusal}
use Rattle.record_key.specs.declared.refusal.Refusal.TheVariants as refusal
use Rattle.node_world.specs.node_laws.specs.Node.{NodeView, fresh_node}
use Rattle.node_world.specs.node_laws.specs.Standing.{IsNode}
use Rattle.shell_scripts.specs.declared.line_result.LineResult.{LineResult}
use Rattle.shell_scripts.specs.Labels.{AreSameBindings, Bindings, unbound}
use Rattle.shell_scripts.specs.Script.{Command, onto, first_fault, commands_of, lines_from}
use Rattle.shell_scripts.specs.Printed.{IsCut, refusal_line}
use Rattle.shell_scripts.specs.Text.{ComesTo, Runs, goes_on, fails, is_cut, done, has_failed, status_after, result_text, WritesLine, WritesRun, WritesAlone, WritesText, WritesTextFrom, IsAlone, IsAllOf, IsCheckedFrom, IsTextAfterCheck, IsTextFrom, IsTextOf, IsUnread}
use Rattle.shell_scripts.proofs.Printing.{appends_then}
use Rattle.shell_scripts.proofs.Telling.{led_run, told_run}

-- a line whose text was written
pub written_line : {E : Type 0} (o : Option Command) (c : Command) (view : NodeView) (labels : Bindings) (r : LineResult)
    (after : NodeView) (next : Bindings) (old new : Option (List ℕ))
    → o ≡ Some c → ComesTo c view labels r after next → Appends old new (result_text r after next.scans)
    → WritesLine {E = E} (Ok (has_failed r)) o view labels after next old new
written_line o c view labels r after next old new e came h = record {
  said = result_text r after next.scans;
  appended = h;
  runs = λ continues. record {
    goes_on = λ may cs text status k. let P : Option Command → Type 0 =
        λ q. Runs continues (onto q cs) view labels (result_text r after next.scans ++ text) (status_after (has_failed r) status)
        in
        subst P (sym e) (goes_on c cs view labels r after next text status came may k);
    ends = λ failed over cs. let P : Option Command → Type 0 =
        λ q. Runs continues (onto q cs) view labels (result_text r after next.scans) 3 in
        subst P (sym e) (fails c cs view labels r after next came failed over);
  };
}

-- a line whose text was cut
pub cut_line : {E : Type 0} (error : E) (o : Option Command) (c : Command) (view : NodeView) (labels : Bindings)
    (r : LineResult) (after : NodeView) (next : Bindings) (old new : Option (List ℕ))
    → o ≡ Some c → ComesTo c view labels r after next → IsCut old new (result_text r after next.scans)
    → WritesLine (Err error) o view labels after next old new
cut_line error o c view labels r after next old new e came h = record {
  said = h.written;
  appended = h.appended;
  runs = λ continues cs. let P : Option Command → Type 0 = λ q. Runs continues (onto q cs) view labels h.written 3 in
      subst P (sym e) (is_cut c cs view labels r after next h.written came (h.left, h.beginning));
}

-- what is written so far, before what these lines write, is what all lines write; whether one failed so far decides of
-- the exit status
abbrev pub GoesOn : Bool → List Command → NodeView → Bindings → List ℕ → Bool → List Command → NodeView → Bindings
    → Type 0
GoesOn continues all first start so_far failed left view labels =
    (text : List ℕ) (status : ℕ) → Runs continues left view labels text status
    → Runs continues all first start (so_far ++ text) (status_after failed status)

both_failed : (before now : Bool) (status : ℕ)
    → status_after before (status_after now status) ≡ status_after (before || now) status
both_failed true now status = refl
both_failed false now status = refl

failed_anyway : (before : Bool) → status_after before 3 ≡ 3
failed_anyway true = refl
failed_anyway false = refl

-- the run ends with this line
ends_here : (continues : Bool) (all : List Command) (first : NodeView) (start : Bindings) (so_far : List ℕ)
    (failed : Bool) (left : List Command) (view : NodeView) (labels : Bindings) (said : List ℕ)
    (a b c : Option (List ℕ))
    → GoesOn continues all first start so_far failed left view labels → Appends a b so_far → Appends b c said
    → Runs continues left view labels said 3 → WritesRun continues all first start a c 3
ends_here continues all first start so_far failed left view labels said a b c carry before appended runs =
    record {
      text = so_far ++ said;
      appended = appends_then a b c so_far said before appended;
      runs = subst (Runs continues all first start (so_far ++ said)) (failed_anyway failed) (carry said 3 runs);
    }

-- a write failed in it
pub line_cut : {E : Type 0} (continues : Bool) (all : List Command) (first : NodeView) (start : Bindings) (so_far : List ℕ)
    (failed : Bool) (left : List Command) (view : NodeView) (labels : Bindings) (error : E) (o : Option Command)
    (rest : List Command) (after : NodeView) (next : Bindings) (a b c : Option (List ℕ))
    → left ≡ onto o rest → GoesOn continues all first start so_far failed left view labels → Appends a b so_far
    → WritesLine (Err error) o view labels after next b c → WritesRun continues all first start a c 3
line_cut continues all first start so_far failed left view labels error o rest after next a b c e carry before line =
    let P : List Command → Type 0 = λ cs. Runs continues cs view labels line.said 3 in
    ends_here continues all first start so_far failed left view labels line.said a b c carry before line.appended
    (subst P (sym e) (line.runs continues rest))

-- memory or a device failed in it, and the run doesn't continue
pub line_fails : {E : Type 0} (continues : Bool) (all : List Command) (first : NodeView) (start : Bindings) (so_far : List ℕ)
    (failed : Bool) (left : List Command) (view : NodeView) (labels : Bindings) (now : Bool) (o : Option Command)
    (rest : List Command) (after : NodeView) (next : Bindings) (a b c : Option (List ℕ))
    → left ≡ onto o rest → GoesOn continues all first start so_far failed left view labels → Appends a b so_far
    → WritesLine {E = E} (Ok now) o view labels after next b c → (now && not continues) ≡ true
    → WritesRun continues all first start a c 3
line_fails continues all first start so_far failed left view labels now o rest after next a b c e carry before line is =
    let both = and_both now continues is in
    let P : List Command → Type 0 = λ cs. Runs continues cs view labels line.said 3 in
    ends_here continues all first start so_far failed left view labels line.said a b c carry before line.appended
    (subst P (sym e) ((line.runs continues).ends both.0 both.1 rest))
  where
    and_both : (n k : Bool) → (n && not k) ≡ true → (n ≡ true) × (k ≡ false)
    and_both true true h = absurd (cc h)
    and_both true false h = (refl, refl)
    and_both false k h = absurd (cc h)

-- the run goes on behind this line
pub line_carries : {E : Type 0} (continues : Bool) (all : List Command) (first : NodeView) (start : Bindings) (so_far : List ℕ)
    (failed : Bool) (left : List Command) (view : NodeView) (labels : Bindings) (now : Bool) (o : Option Command)
    (rest : List Command) (after : NodeView) (next : Bindings) (b c : Option (List ℕ))
    → left ≡ onto o rest → GoesOn continues all first start so_far failed left view labels
    → (line : WritesLine {E = E} (Ok now) o view labels after next b c) → (now && not continues) ≡ false
    → GoesOn continues all first start (so_far ++ line.said) (failed || now) rest after next
line_carries continues all first start so_far failed left view labels now o rest after next b c e carry line on text
    status k =
    let P : List Command → Type 0 = λ cs. Runs continues cs view labels (line.said ++ text) (status_after now status) in
    let Q : List ℕ → Type 0 = λ v. Runs continues all first start v (status_after (failed || now) status) in
    subst Q (sym (append_assoc so_far line.said text))
    (subst (Runs continues all first start (so_far ++ (line.said ++ text))) (both_failed failed now status)
    (carry (line.said ++ text) (status_after now status)
    (subst P (sym e) ((line.runs continues).goes_on (may now continues on) rest text status k))))
  where
    may : (n k : Bool) → (n && not k) ≡ false → n ≡ true → k ≡ true
    may n true h is = refl
    may true false h is = absurd (cc h)
    may false false h is = absurd (cc is)

-- no line is left
pub run_is_done : (continues : Bool) (all : List Command) (first : NodeView) (start : Bindings) (so_far : List ℕ)
    (failed : Bool) (left : List Command) (view : NodeView) (labels : Bindings) (a b : Option (List ℕ))
    → left ≡ [] → GoesOn continues all first start so_far failed left view labels → Appends a b so_far
    → WritesRun continues all first start a b (status_after failed 0)
run_is_done continues all first start so_far failed left view labels a b e carry before =
    let P : List Command → Type 0 = λ cs. Runs continues cs view labels [] 0 in
    let Q : List ℕ → Type 0 = λ v. Runs continues all first start v (status_after failed 0) in
    record {
      text = so_far;
      appended = before;
      runs = subst Q (append-nil so_far) (carry [] 0 (subst P (sym e) (done view labels)));
    }

pub alone_cut : (line : List ℕ) (own : ℕ) (old new : Option (List ℕ)) → IsCut old new line
    → WritesAlone line own old new 3
alone_cut line own old new h =
    record { text = h.written; appended = h.appended; alone = inr ((h.left, h.beginning), refl) }

-- a script that could not be read
pub unread : (continues : Bool) (view : NodeView) (labels : Bindings) (given old new : Option (List ℕ)) (r : Refusal)
    (status : ℕ) → (r ≡ refusal.NoMemory) ⊎ (r ≡ refusal.Device) → WritesAlone (refusal_line r) 3 old new status
    → WritesTextFrom continues view labels given old new status
unread continues view labels given old new r status (inl e) h =
    let P : Refusal → Type 0 = λ q. IsAlone (refusal_line q) 3 h.text status in
    record { text = h.text; appended = h.appended; is_text = inr (inl (subst P e h.alone)) }
unread continues view labels given old new r status (inr e) h =
    let P : Refusal → Type 0 = λ q. IsAlone (refusal_line q) 3 h.text status in
    record { text = h.text; appended = h.appended; is_text = inr (inr (subst P e h.alone)) }

-- a script without a fault that was run
pub ran : (continues : Bool) (view : NodeView) (labels : Bindings) (given old new : Option (List ℕ)) (script : List ℕ)
    (status : ℕ) → IsNode view → IsAllOf given script → first_fault script ≡ None
    → WritesRun continues (commands_of (lines_from script)) view labels old new status
    → WritesTextFrom continues view labels given old new status
ran continues view labels given old new script status k all ok h =
    let P : Option ℕ → Type 0 = λ fault. IsCheckedFrom continues view labels fault script h.text status in
    let led = led_run continues (commands_of (lines_from script)) view labels h.text status k h.runs in
    record { text = h.text; appended = h.appended; is_text = inl (script, all, subst P (sym ok) led) }

-- on a new node
pub on_new : (continues : Bool) (labels : Bindings) (given old new : Option (List ℕ)) (status : ℕ)
    → AreSameBindings unbound labels → WritesTextFrom continues fresh_node labels given old new status
    → WritesText continues given old new status
on_new continues labels given old new status same h =
    record { text = h.text; appended = h.appended; is_text = told h.is_text }
  where
    checked : (fault : Option ℕ) (script : List ℕ) → IsCheckedFrom continues fresh_node labels fault script h.text status
        → IsTextAfterCheck continues fault script h.text status
    checked (Some line) script alone = alone
    checked None script led = (labels, same, told_run continues (commands_of (lines_from script)) labels h.text status led)

    told : ((script : List ℕ) × IsAllOf given script × IsTextFrom continues fresh_node labels script h.text status)
        ⊎ IsUnread h.text status
        → ((script : List ℕ) × IsAllOf given script × IsTextOf continues script h.text status) ⊎ IsUnread h.text status
    told (inl s) = inl (s.0, s.1, checked (first_fault s.0) s.0 s.2)
    told (inr u) = inr u

-- memory for a node was refused
pub unmade : (continues : Bool) (given old new : Option (List ℕ)) (r : Refusal) (status : ℕ) → r ≡ refusal.NoMemory
    → WritesAlone (refusal_line r) 3 old new status → WritesText continues given old new status
unmade continues given old new r status e h =
    let P : Refusal → Type 0 = λ q. IsAlone (refusal_line q) 3 h.text status in
    record { text = h.text; appended = h.appended; is_text = inr (inl (subst P e h.alone)) }
