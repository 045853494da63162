-- What a crash makes of one transaction.
use Rattle.std.proofs.Common.{rules, ◌≡◌, ℕ, ◌<◌, ◌≤◌, Bool, true, false, List, [], ◌∷◌, ◌++◌, length, Some, None, refl, sym, ◌∙◌, subst, arith, inl, inr, ◌⊎◌, true≢false}
use Rattle.std.specs.Prelude.{◌↔◌, nat_lt, not}
use Rattle.std.specs.List.{AllByRecursion}
use Rattle.std.proofs.lemmas.Bool.{cases_Bool, cases_lt, and_parts, not-true, lt-ltb, le-ltb}
use Rattle.record_key.specs.declared.op.Op.{Op}
use Rattle.history.specs.declared.record.Record.{Record}
use Rattle.history.specs.declared.record.Record.TheVariants as is
use Rattle.history.specs.History.{Entry, is_left}
use Rattle.history.specs.Chains.{IsEndOf}
use Rattle.history.specs.Log.{record_at, is_crossed, has_ended, IsOpen, IsStepOf, IsOpBy}
use Rattle.history.specs.Legal.{IsLegal}
use Rattle.history.specs.ListMachine.{Machine, Txn, Status, Open, Waiting, Reading, Rolling, Committing, Committed, Losing, Gone, Falls, Stays, AreAllLeft, Survives, losing, last_left, nobody, ended}
use Rattle.log_laws.proofs.Records.{AStep, IsNumber, op_step, had_at, newest_at, which}
use Rattle.log_laws.proofs.LegalLogs.{legal_end, begun, begun_number, op_number, step_number, step_open, falls}
use Rattle.log_laws.proofs.Strict.{end_ends, end_number}
use Rattle.log_laws.proofs.Named.{ended_begun}
use Rattle.simulation.specs.View.{View, IsQuiet, IsLoser, IsCommitAt, IsOver, HasStatusOf, HoldsAs, HasEntry, IsUntold, IsRecorded, is_left_open, opened}
use Rattle.simulation.proofs.Beginnings.{end_before, record_same, ended_longer, not_ended, op_longer, op_shorter, undone_wholly, left_open, left_ended, left_unbegun, begins}
use Rattle.simulation.proofs.Holding.{IsIn, its_keys, last_was, last_is_left}
use Rattle.simulation.proofs.Entries.{is_lt, not_lt}

-- the view with this for its log
abbrev pub with_log : View → List Record → View
with_log v log = record v { log = log }

-- what becomes of a transaction of a status, and why its entries stand or fall
pub record Survival (v : View) (m : Machine) (newer older : List Record) (t : ℕ) (s : Status) : Type 0 where
  pub new : Txn
  pub fell : Bool
  pub after : Status
  pub is_after : new.status ≡ after
  pub allowed : Survives m (length older) t s new fell
  pub begun : (new.begun ≡ true) ↔ (record_at older t ≡ Some is.Begin)
  pub status : HasStatusOf (opened older) t after
  pub spans : HoldsAs (opened older) t after new.spans
  pub logged : (n : ℕ) (o : Op) → new.last ≡ Some (n, o) → IsOpBy older n t o
  pub entered : (n : ℕ) (o : Op) → IsOpBy older n t o → HasEntry m.h n t o ⊎ ((new.last ≡ Some (n, o)) × IsUntold after)
  pub over : has_ended older t ≡ true → (fell ≡ false) × (v.loses t ≡ false) × (v.doing t ≡ None)
  pub left : IsOpen older t → (fell ≡ true)
      ⊎ ((v.loses t ≡ true) ⊎ ((n : ℕ) (o : Op) → IsOpBy (newer ++ older) n t o → is_crossed (newer ++ older) n ≡ true))

-- entries of the beginning
left_parts : (bound n : ℕ) → is_left bound n ≡ true → (0 < n) × (n ≤ bound)
left_parts bound n is =
    let both = and_parts (nat_lt 0 n) (not (nat_lt bound n)) is in
    (is_lt 0 n both.0, not_lt bound n (not-true (nat_lt bound n) both.1))

left_of_log : (log : List Record) (t n : ℕ) (o : Op) → IsOpBy log n t o → is_left (length log) n ≡ true
left_of_log log t n o by =
    let number = op_number log n t o by in
    rw (lt-ltb 0 n number.positive, le-ltb (length log) n number.bounded) refl

recorded_in : (newer older : List Record) (h : List Entry) → AllByRecursion (IsRecorded (newer ++ older)) h
    → AllByRecursion (IsIn older (length older)) h
recorded_in newer older [] all = tt
recorded_in newer older (e ∷ h) all = (
  λ left.
      let parts = left_parts (length older) e.number left in
      op_shorter newer older e.number e.txn e.op parts.1 (all.0.is parts.0),
  recorded_in newer older h all.1,
)

-- nothing of a transaction stands above its end
none_after : (log : List Record) (t n k : ℕ) → IsLegal log → IsEndOf log t n → IsStepOf log t k → n < k → ⊥
none_after [] t n k legal end step less = absurd (cc)
none_after (r ∷ log) t n k legal end step less =
    let at : IsNumber (r ∷ log) n = end_number (r ∷ log) t n end in
    let number : IsNumber (r ∷ log) k = step_number (r ∷ log) k t step in
    let older : IsNumber log n = search (rules, arith) in
    let was : IsEndOf log t n = elim end [
      | inl e ↦ inl (had_at (λ x. x ≡ Some (is.Commit t)) r log n older e)
      | inr e ↦ inr (had_at (λ x. x ≡ Some (is.End t)) r log n older e)
    ] in
    elim (which r log k number) [
      | inl e ↦ true≢false
          (sym (end_ends log t n was) ∙ (step_open log r t legal.0 (newest_at (AStep t) r log k e step)).goes_on)
      | inr earlier ↦ none_after log t n k legal.1 was (had_at (AStep t) r log k earlier step) less
    ]

-- each operation of the transaction is of the beginning
abbrev AreLeft : List Record → List Record → ℕ → Type 0
AreLeft newer older t = (n : ℕ) (o : Op) → IsOpBy (newer ++ older) n t o → n ≤ length older

-- so it is where the transaction's end is
ended_left : (newer older : List Record) (t n : ℕ) → IsLegal (newer ++ older) → IsEndOf (newer ++ older) t n
    → n ≤ length older → AreLeft newer older t
ended_left newer older t n legal end kept k o by =
    elim (cases_lt (length older) k) [
      | inl above ↦ absurd (none_after (newer ++ older) t n k legal end (op_step t o (record_at (newer ++ older) k) by)
          (omega (arith, above, kept)))
      | inr le ↦ le
    ]

-- and then no entry of it loses its number
all_left : (newer older : List Record) (t : ℕ) (h : List Entry) → AreLeft newer older t
    → AllByRecursion (IsRecorded (newer ++ older)) h → AreAllLeft (length older) t h
all_left newer older t [] left all = tt
all_left newer older t (e ∷ h) left all = (
  λ same. elim (cases_lt 0 e.number) [
    | inl some ↦ left e.number e.op
        (subst (λ (u : ℕ). IsOpBy (newer ++ older) e.number u e.op) same (all.0.is some))
    | inr none ↦ omega (arith, none)
  ],
  all_left newer older t h left all.1,
)

module _ (v : View) (m : Machine) (newer older : List Record) (t : ℕ) (legal : IsLegal (newer ++ older))
    (within : v.stable ≤ length older)
    (recorded : AllByRecursion (IsRecorded (newer ++ older)) m.h)
    (was_begun : ((m.txns t).begun ≡ true) ↔ (record_at (newer ++ older) t ≡ Some is.Begin))
    (was_logged : (n : ℕ) (o : Op) → (m.txns t).last ≡ Some (n, o) → IsOpBy (newer ++ older) n t o)
  where
    abbrev IsEntered : Status → Type 0
    IsEntered s = (n : ℕ) (o : Op) → IsOpBy (newer ++ older) n t o → HasEntry m.h n t o
        ⊎ (((m.txns t).last ≡ Some (n, o)) × IsUntold s)

    -- without what it says of the status
    acts : (s : Status) → IsEntered s → (n : ℕ) (o : Op) → IsOpBy older n t o → HasEntry m.h n t o
        ⊎ ((m.txns t).last ≡ Some (n, o))
    acts s entered n o by = elim (entered n o (op_longer newer older n t o by)) [ inl e ↦ inl e | inr e ↦ inr e.0 ]

    acts_untold : (s after : Status) → IsUntold after → IsEntered s → (n : ℕ) (o : Op) → IsOpBy older n t o
        → HasEntry m.h n t o ⊎ (((m.txns t).last ≡ Some (n, o)) × IsUntold after)
    acts_untold s after untold entered n o by = elim (acts s entered n o by) [ inl e ↦ inl e | inr e ↦ inr (e, untold) ]

    is_loser : IsOpen older t → IsLoser (opened older) t
    is_loser open_txn = record {
      quiet = record { does_none = refl; loses_so = left_open older t open_txn };
      open_txn = open_txn;
      stable = (begun_number older t open_txn.begun).bounded;
      found = λ n o by. (op_number older n t o by).bounded;
    }

    -- whoever's Begin is there had begun
    had_begun : record_at older t ≡ Some is.Begin → (m.txns t).begun ≡ true
    had_begun here = was_begun.1 (record_same newer older t (begun_number older t here).bounded ∙ here)

    -- whoever stays as it was
    stays : AreLeft newer older t → Stays m (length older) t (m.txns t)
    stays left = (refl, all_left newer older t m.h left recorded)

    logged_left : AreLeft newer older t → (n : ℕ) (o : Op) → (m.txns t).last ≡ Some (n, o) → IsOpBy older n t o
    logged_left left n o last = let by = was_logged n o last in op_shorter newer older n t o (left n o by) by

    -- to fall
    record Fallen : Type 0 where
      new : Txn
      after : Status
      is_after : new.status ≡ after
      allowed : Falls m (length older) t new
      begun : (new.begun ≡ true) ↔ (record_at older t ≡ Some is.Begin)
      status : HasStatusOf (opened older) t after
      spans : HoldsAs (opened older) t after new.spans
      logged : (n : ℕ) (o : Op) → new.last ≡ Some (n, o) → IsOpBy older n t o
      entered : (n : ℕ) (o : Op) → IsOpBy older n t o → HasEntry m.h n t o ⊎ ((new.last ≡ Some (n, o)) × IsUntold after)

    -- whose Begin is left loses
    loses : (s : Status) → IsEntered s → t ≤ length older → IsOpen older t → Fallen
    loses s entered kept open_txn = record {
      new = losing m (length older) t;
      after = Losing;
      is_after = refl;
      allowed = inl (kept, refl);
      begun = (λ e. open_txn.begun, λ at. refl);
      status = is_loser open_txn;
      spans = its_keys older (length older) m.h t (losing m (length older) t).last
          (recorded_in newer older m.h recorded) (left_of_log older t) last_logged last_entered;
      logged = last_logged;
      entered = λ n o by. elim (last_entered n o by) [ inl e ↦ inl e | inr e ↦ inr (e, tt) ];
    }
      where
        last_logged : (n : ℕ) (o : Op) → last_left (length older) (m.txns t).last ≡ Some (n, o) → IsOpBy older n t o
        last_logged n o last =
            let was = last_was (length older) (m.txns t).last n o last in
            op_shorter newer older n t o (left_parts (length older) n was.1).1 (was_logged n o was.0)

        last_entered : (n : ℕ) (o : Op) → IsOpBy older n t o
            → HasEntry m.h n t o ⊎ (last_left (length older) (m.txns t).last ≡ Some (n, o))
        last_entered n o by = elim (acts s entered n o by) [
          | inl e ↦ inl e
          | inr e ↦ inr (last_is_left (length older) (m.txns t).last n o e (left_of_log older t n o by))
        ]

    -- and whose Begin is lost is nobody
    is_lost : length older < t → Fallen
    is_lost lost = record {
      new = nobody;
      after = Gone;
      is_after = refl;
      allowed = inr (lost, refl);
      begun = (λ e. absurd (true≢false (sym e)), λ at. absurd (none at));
      status = (record { does_none = refl; loses_so = left_unbegun older t none }, inr none);
      spans = refl;
      logged = λ n o last. absurd (cc);
      entered = λ n o by.
          absurd (none (begun older t n (legal_end newer older legal) (op_step t o (record_at older n) by)));
    }
      where
        none : record_at older t ≡ Some is.Begin → ⊥
        none at = omega (arith, (begun_number older t at).bounded, lost)

    falling : (s : Status) → IsEntered s → record_at (newer ++ older) t ≡ Some is.Begin → has_ended older t ≡ false
        → Fallen
    falling s entered begin goes_on =
        elim (cases_lt (length older) t) [
          | inl lost ↦ is_lost lost
          | inr kept ↦ loses s entered kept
              (record { begun = sym (record_same newer older t kept) ∙ begin; goes_on = goes_on })
        ]

    fell_open : (s : Status) (d : Fallen) → Survives m (length older) t s d.new true → IsOpen (newer ++ older) t
        → Survival v m newer older t s
    fell_open s d allowed open_txn = record {
      new = d.new;
      fell = true;
      after = d.after;
      is_after = d.is_after;
      allowed = allowed;
      begun = d.begun;
      status = d.status;
      spans = d.spans;
      logged = d.logged;
      entered = d.entered;
      over = λ ended. absurd (true≢false (sym (ended_longer newer older t ended) ∙ open_txn.goes_on));
      left = λ h. inl refl;
    }

    goes_on_in : IsOpen (newer ++ older) t → has_ended older t ≡ false
    goes_on_in h = falls (has_ended older t) (has_ended (newer ++ older) t) (ended_longer newer older t) h.goes_on

    open_falls : (s : Status) → IsEntered s → IsOpen (newer ++ older) t → Fallen
    open_falls s entered h = falling s entered h.begun (goes_on_in h)

    -- a commit that is kept
    committed : (s : Status) (n : ℕ) (new : Txn) → new.status ≡ Committed → new.spans ≡ []
        → Survives m (length older) t s new false → new.begun ≡ (m.txns t).begun → new.last ≡ (m.txns t).last
        → (IsUntold s → ⊥) → IsEntered s → IsQuiet (with_log v (newer ++ older)) t false
        → IsCommitAt (newer ++ older) t n → n ≤ length older → Survival v m newer older t s
    committed s n new is_after none allowed same_begun same_last told entered quiet commit kept =
        let here : IsCommitAt older t n = sym (record_same newer older n kept) ∙ commit in
        let ended : has_ended older t ≡ true = end_ends older t n (inl here) in
        let begin : record_at older t ≡ Some is.Begin = ended_begun older t (legal_end newer older legal) ended in
        record {
          new = new;
          fell = false;
          after = Committed;
          is_after = is_after;
          allowed = allowed;
          begun = (λ e. begin, λ at. same_begun ∙ had_begun begin);
          status = (record { does_none = refl; loses_so = left_ended older t ended }, n, here, kept);
          spans = none;
          logged = λ k o last.
              logged_left (ended_left newer older t n legal (inl commit) kept) k o (sym same_last ∙ last);
          entered = λ k o by. elim (entered k o (op_longer newer older k t o by))
              [ inl e ↦ inl e | inr e ↦ absurd (told e.1) ];
          over = λ h. (refl, quiet.loses_so, quiet.does_none);
          left = λ h. absurd (true≢false (sym ended ∙ h.goes_on));
        }

    -- an end that is kept, or a Begin that never was: nothing changes
    stays_gone : (m.txns t).status ≡ Gone → (m.txns t).spans ≡ [] → IsEntered Gone
        → IsQuiet (with_log v (newer ++ older)) t false → AreLeft newer older t
        → ((m.txns t).begun ≡ true → record_at older t ≡ Some is.Begin) → IsOver older t
        → is_left_open older t ≡ false → (IsOpen older t → ⊥) → Survival v m newer older t Gone
    stays_gone is_gone none entered quiet all_kept begins_so why loses_not shut = record {
      new = m.txns t;
      fell = false;
      after = Gone;
      is_after = is_gone;
      allowed = (inl (stays all_kept), refl);
      begun = (begins_so, had_begun);
      status = (record { does_none = refl; loses_so = loses_not }, why);
      spans = none;
      logged = logged_left all_kept;
      entered = acts_untold Gone Gone tt entered;
      over = λ h. (refl, quiet.loses_so, quiet.does_none);
      left = λ h. absurd (shut h);
    }

    -- an end is lost: it falls again
    falls_again : IsEntered Gone → IsQuiet (with_log v (newer ++ older)) t false → IsOver (newer ++ older) t
        → record_at (newer ++ older) t ≡ Some is.Begin → has_ended older t ≡ false → Survival v m newer older t Gone
    falls_again entered quiet why begin goes_on =
        let d = falling Gone entered begin goes_on in
        record {
          new = d.new;
          fell = false;
          after = d.after;
          is_after = d.is_after;
          allowed = (inr (was_begun.1 begin, d.allowed), refl);
          begun = d.begun;
          status = d.status;
          spans = d.spans;
          logged = d.logged;
          entered = d.entered;
          over = λ h. (refl, quiet.loses_so, quiet.does_none);
          left = λ h. inr (inr (undone why));
        }
      where
        undone : IsOver (newer ++ older) t
            → (n : ℕ) (o : Op) → IsOpBy (newer ++ older) n t o → is_crossed (newer ++ older) n ≡ true
        undone (inl end) n o by = undone_wholly (newer ++ older) t end.0 n o legal end.1 by
        undone (inr none) n o by = absurd (none begin)

    -- one case for each status
    pub survival : (s : Status) → (m.txns t).status ≡ s → HasStatusOf (with_log v (newer ++ older)) t s
        → HoldsAs (with_log v (newer ++ older)) t s (m.txns t).spans → IsEntered s → Survival v m newer older t s
    survival Open e so spans entered = let d = open_falls Open entered so.open_txn in
        fell_open Open d (d.allowed, refl) so.open_txn
    survival (Waiting n o) e so spans entered = let d = open_falls (Waiting n o) entered so.0.open_txn in
        fell_open (Waiting n o) d (d.allowed, refl) so.0.open_txn
    survival (Reading r) e so spans entered = let d = open_falls (Reading r) entered so.open_txn in
        fell_open (Reading r) d (d.allowed, refl) so.open_txn
    survival (Rolling p) e so spans entered = let d = open_falls (Rolling p) entered so.1.open_txn in
        fell_open (Rolling p) d (d.allowed, refl) so.1.open_txn
    survival Committing e so spans entered =
        elim (cases_lt (length older) so.1) [
          | inl above ↦
              let goes_on = not_ended newer older t so.1 legal (inl so.2) above in
              let begin = ended_begun (newer ++ older) t legal (end_ends (newer ++ older) t so.1 (inl so.2)) in
              let d = falling Committing entered begin goes_on in
              record {
                new = d.new;
                fell = true;
                after = d.after;
                is_after = d.is_after;
                allowed = inr (d.allowed, refl);
                begun = d.begun;
                status = d.status;
                spans = d.spans;
                logged = d.logged;
                entered = d.entered;
                over = λ h. absurd (true≢false (sym h ∙ goes_on));
                left = λ h. inl refl;
              }
          | inr kept ↦
              let left = ended_left newer older t so.1 legal (inl so.2) kept in
              committed Committing so.1 (ended (m.txns t) Committed) refl refl
              (inl (refl, all_left newer older t m.h left recorded, refl)) refl refl (λ u. u) entered so.0 so.2 kept
        ]
    survival Committed e so spans entered =
        let kept : so.1 ≤ length older = omega (arith, so.3, within) in
        committed Committed so.1 (m.txns t) e spans (stays (ended_left newer older t so.1 legal (inl so.2) kept), refl)
        refl refl (λ u. u) entered so.0 so.2 kept
    survival Losing e so spans entered =
        let here : record_at older t ≡ Some is.Begin =
        sym (record_same newer older t (omega (arith, so.stable, within))) ∙ so.open_txn.begun in
        let open_txn : IsOpen older t = record { begun = here; goes_on = goes_on_in so.open_txn } in
        let left : AreLeft newer older t = λ n o by. omega (arith, so.found n o by, within) in
        record {
          new = m.txns t;
          fell = false;
          after = Losing;
          is_after = e;
          allowed = (stays left, refl);
          begun = (λ e. here, λ at. had_begun here);
          status = is_loser open_txn;
          spans = record {
            each = λ s among.
                let own = spans.each s among in
                (own.0, own.1, op_shorter newer older own.0 t own.1 (left own.0 own.1 own.2) own.2, own.3);
            all = λ n o by. spans.all n o (op_longer newer older n t o by);
          };
          logged = logged_left left;
          entered = acts_untold Losing Losing tt entered;
          over = λ h. absurd (true≢false (sym (ended_longer newer older t h) ∙ so.open_txn.goes_on));
          left = λ h. inr (inl so.quiet.loses_so);
        }
    survival Gone e so spans entered =
        elim (begins (newer ++ older) t) [
          | inr none ↦
              let not_here : record_at older t ≡ Some is.Begin → ⊥ =
              λ at. none (record_same newer older t (begun_number older t at).bounded ∙ at) in
              stays_gone e spans entered so.0
              (λ n o by. absurd (none (begun (newer ++ older) t n legal
              (op_step t o (record_at (newer ++ older) n) by))))
              (λ b. absurd (none (was_begun.0 b))) (inr not_here) (left_unbegun older t not_here)
              (λ h. not_here h.begun)
          | inl begin ↦
              elim (cases_Bool (has_ended older t)) [
                | inr goes_on ↦ falls_again entered so.0 so.1 begin goes_on
                | inl shut ↦
                    let here = ended_begun older t (legal_end newer older legal) shut in
                    let end = end_before newer older t legal so.1 here shut in
                    let kept = (end_number older t end.0 (inr end.1)).bounded in
                    stays_gone e spans entered so.0
                    (ended_left newer older t end.0 legal (inr (record_same newer older end.0 kept ∙ end.1)) kept)
                    (λ b. here) (inl end) (left_ended older t shut)
                    (λ h. true≢false (sym shut ∙ h.goes_on))
              ]
        ]
